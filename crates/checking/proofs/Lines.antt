-- The lines of a matrix that may be checked: rows and columns.
--
-- In order: the product over a row; each is a line that an equation may be about; what a line that was made opens; what a column
-- opens; one more row of the product over all.
-- Assumes nothing.
use mathlib.Core.Path.{◌≡◌, refl, ap, ap₂, ◌∙◌}
use mathlib.Core.Bool.{Bool}
use mathlib.Core.List.{List, []}
use Prim.Native.Nat.{ℕ, ◌+◌, ◌*◌, ◌%◌, ◌^◌, ◌<◌}
use native.Mathlib.Nat.{one-mul}
use native.Mathlib.Omega.{arith}
use lib.ListN.{get_or}
use Rattle.folds.specs.Below.{prod_below, prod_below_same}
use Rattle.algebra.proofs.Commitments.{prod_same}
use Rattle.algebra.proofs.Residues.{mul_cong}
use Rattle.algebra.proofs.Sums.{prod_mod_more_mod}
use Rattle.rules.specs.declared.Element.{Element}
use Rattle.rules.specs.declared.Group.{Group}
use Rattle.rules.specs.Numbers.{element}
use Rattle.rules.specs.Matrices.{row, entry}
use Rattle.rules.specs.Dealing.{opens, along_column}
use Rattle.rules.proofs.Laws.Matrices.{row_at_lem}
use Rattle.rules.proofs.Laws.Checks.{entry_member}
use Rattle.checking.specs.Equations.{Checkable, Line, element_at, along_part, along_line}

-- the product over row j
abbrev pub row_part : ℕ → List (List Element) → ℕ → ℕ → ℕ → ℕ
row_part k C x y j = along_part k (get_or C j []) (x ^ j) y

-- a line made of f
abbrev pub line_of : ℕ → (ℕ → ℕ) → List Element
line_of k f = row k (element 0) (λ n. element (f n))

module _ {G : Group} {k : ℕ} {C : List (List Element)} (h : Checkable G k C) where
  line : (c : List Element) → ((l : ℕ) → l < k → element_at c l ^ G.q % G.p ≡ 1) → Line G k c
  line c m = record { modulus = h.modulus; order = h.order; high = h.high; members = m }

  at : (f : ℕ → ℕ) (n : ℕ) → n < k → element_at (line_of k f) n ≡ f n
  at f n l = ap (λ (x : Element). x.0) (row_at_lem k (element 0) (λ n. element (f n)) h.high n l)

  line_of_lem : (f : ℕ → ℕ) → ((n : ℕ) → n < k → f n ^ G.q % G.p ≡ 1) → Line G k (line_of k f)
  line_of_lem f m = line (line_of k f) (λ n l. ap (λ t. t ^ G.q % G.p) (at f n l) ∙ m n l)

  pub row_line : (j : ℕ) → j < k → Line G k (get_or C j [])
  row_line j hj = line (get_or C j []) (λ l hl. entry_member G k C h.passes j l hj hl)

  -- column 0 is a line also where k is 0
  pub column_line : (l : ℕ) → (0 < k → l < k) → Line G k (line_of k (λ j. entry C j l))
  column_line l hl = line_of_lem (λ j. entry C j l) (λ j hj. entry_member G k C h.passes j l hj (hl (omega arith)))

  made_opens : (f : ℕ → ℕ) (x : ℕ) → along_line k (line_of k f) x ≡ prod_below k (λ j. f j ^ (x ^ j))
  made_opens f x = prod_below_same _ _ k (λ j hj. ap (λ t. t ^ (x ^ j)) (at f j hj))

  -- an equation over a column
  module _ {c : List Element} {r : Bool} (x u v : ℕ) (said : r ≡ opens G u v (along_line k c x % G.p)) where
    pub column_opens : (l : ℕ) → c ≡ line_of k (λ j. entry C j l) → r ≡ opens G u v (along_column k C x l % G.p)
    column_opens l e = said ∙ rw (e, made_opens (λ j. entry C j l) x)

  -- one more row, with a weight that is the right one modulo q
  pub row_more : (x y j : ℕ) {made : ℕ} (power : ℕ) → j < k
      → made ≡ prod_below j (row_part k C x y) % G.p → power % G.q ≡ (1 * x ^ j) % G.q
      → (made * (along_part k (get_or C j []) power y % G.p)) % G.p ≡ prod_below (j + 1) (row_part k C x y) % G.p
  row_more x y j power hj m e =
      ap₂ (λ s t. (s * t) % G.p) m
      (prod_same G.q G.p k (element_at (get_or C j [])) (row_line j hj).members (λ l. power * y ^ l) (λ l. x ^ j * y ^ l)
      (λ l hl. mul_cong G.q power (x ^ j) _ _ (e ∙ ap (λ t. t % G.q) (one-mul (x ^ j))) refl))
      ∙ prod_mod_more_mod G.p (row_part k C x y) j

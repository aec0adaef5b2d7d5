-- The items of a line, which is given without its newline: what stands between two spaces, the word among them as item 0.
--
-- In order: where an item ends and starts, how many stand behind the word; their laws.
-- Assumes nothing.
use Rattle.std.specs.Prelude.{Bool, true, false, List, ◌≡◌, eqb, ltb, length, get_or, Option, Some, None}
use Rattle.std.proofs.Math.Path.{refl}
use Rattle.std.proofs.Common.{sym, ap, ◌∙◌, add-one}
use Prim.Native.Nat.{ℕ, zero, suc, ◌+◌, ◌-◌, ◌<◌, ◌≤◌}
use native.Mathlib.Omega.{arith}
use borrow.Author.Tests.{lt-ltb, le-ltb}
use Rattle.folds.specs.Tests.{pick, pick_true, pick-false}
use Rattle.folds.specs.Below.{first_from, first_from_le, count_below, count_below_le}
use Rattle.folds.specs.Loops.{NotYet}
use Rattle.rules.specs.Text.{space}

abbrev pub is_space : List ℕ → ℕ → Bool
is_space b i = eqb (get_or b i 0) space

-- where the item that starts at i ends: at the next space, or with the line
unfoldable pub item_end : List ℕ → ℕ → ℕ
item_end b i = first_from (length b - i) i (is_space b)

-- where item j starts
unfoldable pub item_place : List ℕ → ℕ → ℕ
item_place b zero = 0
item_place b (suc j) = item_end b (item_place b j) + 1

-- how many items stand behind the word
unfoldable pub items : List ℕ → ℕ
items b = count_below (length b) (is_space b)

-- a place, where it is one of the first n
abbrev pub place_in : ℕ → ℕ → Option ℕ
place_in n i = pick (ltb i n) (Some i) None

-- ---- the laws

-- the first index from i on is i, or behind it
pub first_least : (p : ℕ → Bool) (n i : ℕ) → i ≤ first_from n i p
unfolding first_from
first_least p zero i = omega arith
first_least p (suc n) i = go (p i) (first_least p n (i + 1))
  where
    go : (t : Bool) → i + 1 ≤ first_from n (i + 1) p → i ≤ pick t i (first_from n (i + 1) p)
    go true h = omega arith
    go false h = omega arith

module _ (b : List ℕ) where
  pub item_place-zero : item_place b 0 ≡ 0
  unfolding item_place
  item_place-zero = refl

  pub item_place_more : (j : ℕ) → item_place b (j + 1) ≡ item_end b (item_place b j) + 1
  unfolding item_place
  item_place_more j = rw (add-one j)

  pub item_end_least : (i : ℕ) → i ≤ item_end b i
  unfolding item_end
  item_end_least i = first_least (is_space b) (length b - i) i

  pub item_end_most : (i : ℕ) → item_end b i ≤ i + (length b - i)
  unfolding item_end
  item_end_most i = first_from_le (is_space b) (length b - i) i

  pub item_place_most : (j : ℕ) → item_place b j ≤ length b + j
  unfolding item_place
  item_place_most zero = omega arith
  item_place_most (suc j) = let h = item_place_most j in let e = item_end_most (item_place b j) in omega arith

  pub items_most : items b ≤ length b
  unfolding items
  items_most = count_below_le (is_space b) (length b)

-- the place is there; it is the end
pub place_here : {n i j : ℕ} → i < n → i ≡ j → Some i ≡ place_in n j
place_here {n} {i} {j} h e = ap Some e ∙ sym (pick_true (ltb j n) (Some j) None (lt-ltb j n (omega arith)))

pub place_none : {n j : ℕ} → n ≡ j → None ≡ place_in n j
place_none {n} {j} e = sym (pick-false (ltb j n) (Some j) None (le-ltb j n (omega arith)))

pub place_at : (n j : ℕ) {i : ℕ} → Some i ≡ place_in n j → (ltb j n ≡ true) × (j ≡ i)
place_at n j {i} = go (ltb j n)
  where
    go : (t : Bool) → Some i ≡ pick t (Some j) None → (t ≡ true) × (j ≡ i)
    go true e = (refl, cc)
    go false e = cc

pub place_out : (n j : ℕ) → None ≡ place_in n j → ltb j n ≡ false
place_out n j = go (ltb j n)
  where
    go : (t : Bool) → None ≡ pick t (Some j) None → t ≡ false
    go true e = cc
    go false e = refl

-- a loop that looks for the first index starts
pub not_yet_start : (p : ℕ → Bool) (n : ℕ) → NotYet p n 0
not_yet_start p n = let e : n - 0 ≡ n = omega arith in (omega arith, ap (λ (k : ℕ). first_from k 0 p) e)

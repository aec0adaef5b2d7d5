-- Loops over the indices below a bound: what holds at the head, by which law it starts, goes on with a turn, and what each way out
-- answers.
--
-- In order: an array is filled from the front (`Filling`); each index is tested, or one is looked for; how many pass (`Counted`); the
-- lowest that does (`NotYet`); and tests in a chain, outside loops.
-- Assumes nothing.
use Rattle.std.specs.Prelude.{◌≡◌, Bool, true, false, List, map, ◌⊎◌, ℕ, ◌+◌, ◌-◌, ◌<◌, ◌≤◌, length, get_or, set}
use Rattle.std.proofs.Common.{sym, ap, ◌∙◌, inl, inr, arith}
use Rattle.std.proofs.lemmas.List.{length-map}
use Rattle.std.proofs.Math.ListN.{get_or-map}
use Rattle.folds.specs.Tests.{◌and◌, true≢false, false_unless}
use Rattle.folds.specs.Below.{all_below, all_below_at, all_below_all, all_below_not, any_below, any_below_here, any_below_none, count_below, count_below-zero, count_below_more, first_from, first_from_here, first_from_none, first_from_skip}
use Rattle.folds.specs.Stores.{stores, stores-zero, stores_turn, stores_left, stores_is}

-- the first i of f are stored in l
pub record Filling {A : Type 0} (f : ℕ → A) (l : List A) (k i : ℕ) (made : List A) : Type 0 where
  pub within : i ≤ k
  pub stored : made ≡ stores i f l

module _ {A : Type 0} {f : ℕ → A} {l : List A} {k : ℕ} where
  pub filling_none : Filling f l k 0 l
  filling_none = record { within = omega arith; stored = sym (stores-zero f l) }

  pub filling_more : {i : ℕ} {made : List A} {x : A} → Filling f l k i made → i < k → x ≡ f i → Filling f l k (i + 1) (set made i x)
  filling_more {i} h b e = record { within = omega arith; stored = stores_turn f l i h.stored e }

  -- the loop is left
  pub filling_all : {i : ℕ} {made : List A} → Filling f l k i made → k ≤ i → made ≡ stores k f l
  filling_all {i} h b = stores_left f l i k h.within b h.stored

-- the loop is left, and f was g of each element of a list as long: it is that list, mapped
pub filling_map : {A B : Type 0} (g : A → B) (xs : List A) (d : A) {l made : List B} {k i : ℕ} → Filling (λ n. g (get_or xs n d)) l k i made
    → k ≤ i → length l ≡ k → length xs ≡ k → made ≡ map g xs
filling_map g xs d {l} {k = k} h b e same =
    filling_all h b
    ∙ stores_is (λ n. g (get_or xs n d)) l k (map g xs) (g d) e (length-map xs g ∙ same) (λ i lt. sym (get_or-map g xs i d))

-- how many of the indices before i pass, where none from n on are looked at
abbrev pub Counted : (ℕ → Bool) → ℕ → ℕ → ℕ → Type 0
Counted p n i m = (i ≤ n) × (m ≡ count_below i p)

-- no index before i is the lowest
abbrev pub NotYet : (ℕ → Bool) → ℕ → ℕ → Type 0
NotYet p n i = (i ≤ n) × (first_from (n - i) i p ≡ first_from n 0 p)

module _ (p : ℕ → Bool) (n : ℕ) where
  pub counted_start : Counted p n 0 0
  counted_start = (omega arith, sym (count_below-zero p))

module _ (p : ℕ → Bool) (n i : ℕ) where
  -- ---- every index

  -- one that fails is met; the loop is left
  pub all_fails : i < n → p i ≡ false → false ≡ all_below n p
  all_fails l e = sym (all_below_not p n i l e)

  pub all_passed : n ≤ i → all_below i p ≡ true → true ≡ all_below n p
  all_passed l h = sym (all_below_all p n (λ j g. all_below_at p i j h (omega arith)))

  -- ---- some index

  -- one that passes is met; the loop is left
  pub any_found : i < n → p i ≡ true → true ≡ any_below n p
  any_found l e = sym (any_below_here p n i l e)

  pub any_none : n ≤ i → any_below i p ≡ false → false ≡ any_below n p
  any_none l h = sym (any_below_none p n (λ j g. false_unless (p j) (λ e. true≢false (sym (any_below_here p i j (omega arith) e) ∙ h))))

  -- ---- how many

  -- a turn, by whether the index passes; the loop is left
  pub counted_more : {m m' : ℕ} → i < n → Counted p n i m
      → (p i ≡ true → m' ≡ m + 1 → Counted p n (i + 1) m') × (p i ≡ false → m' ≡ m → Counted p n (i + 1) m')
  counted_more l h = (
    λ e q. (omega arith, rw (count_below_more p i, e) (omega arith)),
    λ e q. (omega arith, rw (count_below_more p i, e) (omega arith)),
  )

  pub counted_all : {m : ℕ} → n ≤ i → Counted p n i m → m ≡ count_below n p
  counted_all l h = let q : i ≡ n = omega arith in rw q at h.1

  -- ---- the lowest

  -- it is met; the index is not it; the loop is left
  pub first_here : i < n → NotYet p n i → p i ≡ true → i ≡ first_from n 0 p
  first_here l h e = sym (first_from_here p n i l e) ∙ h.1

  pub first_more : i < n → NotYet p n i → p i ≡ false → NotYet p n (i + 1)
  first_more l h e = (omega arith, sym (first_from_skip p n i l e) ∙ h.1)

  pub first_none : n ≤ i → NotYet p n i → n ≡ first_from n 0 p
  first_none l h = let q : i ≡ n = omega arith in sym q ∙ sym (first_from_none p n i l) ∙ h.1

-- ---- a chain of tests, `a && b && ..`

-- x stands for the tests so far and s for the whole chain; the next test, b, is made where x passed, and y is what it leaves
pub chain : {s x y b : Bool} (rest : Bool) → s ≡ (x and b and rest) → ((x ≡ true) × (y ≡ b)) ⊎ ((x ≡ false) × (y ≡ x)) → s ≡ (y and rest)
chain {s} {x} {y} {b} rest h (inl w) = h ∙ ap (λ (t : Bool). t and b and rest) w.0 ∙ ap (λ (t : Bool). t and rest) (sym w.1)
chain {s} {x} {y} {b} rest h (inr w) = h ∙ ap (λ (t : Bool). t and b and rest) w.0 ∙ ap (λ (t : Bool). t and rest) (sym (w.1 ∙ w.0))

-- the last test is made, or not
pub chain_then : {s x y b : Bool} → s ≡ (x and b) → x ≡ true → y ≡ b → y ≡ s
chain_then {s} {x} {y} {b} h e q = q ∙ sym (h ∙ ap (λ (t : Bool). t and b) e)

pub chain_else : {s x : Bool} (b : Bool) → s ≡ (x and b) → x ≡ false → x ≡ s
chain_else b h e = e ∙ sym (h ∙ ap (λ (t : Bool). t and b) e)

-- Chains of iterators: what `all`, `any`, `position`, `find` and a count give, as the folds of `Below` over the places of what the
-- chain goes through.
--
-- In order: each fold from the front; the list functions that the library's laws end in, as folds over the places of a list; the same over
-- a range, whose places are its numbers; and the calls themselves (`.._of_range`, `.._of_slice`), which take the call's clause `ran`
-- and that the closure is the test.
-- Assumes nothing.
use Prim.Native.Nat.{ℕ, zero, suc, ◌+◌, ◌<◌}
use native.Mathlib.Omega.{arith}
use Rattle.std.proofs.Common.{add-one, ◌∙◌}
use Rattle.std.specs.Prelude.{Bool, List, [], ◌∷◌, ◌≡◌, length, get_or, ltb, not, cond, Option, Some, None}
use Rattle.std.proofs.Math.Bool.{true, false, ◌&&◌, ◌||◌}
use Rattle.std.proofs.Math.Path.{refl, sym, ap, ap₂}
use Rattle.std.specs.List.{range_with_len, list_all, list_any, position_or_len, count_by}
use Rattle.std.proofs.lemmas.List.Sums.{sum_by-cons}
use Rattle.std.proofs.lemmas.List.FromFn.{length-range_with_len, get_or-range_with_len}
use Rattle.std.specs.Fn.{Called, CalledAt}
use Rattle.std.specs.Iterator.{YieldsThen}
use Rattle.std.specs.List.{FoldsTo, find}
use Rattle.std.specs.Option.{MatchOption, option_map, unwrap_or}
use Rattle.std.specs.declared.ops.Range.{Range}
use Rattle.std.specs.declared.slice.Iter.{Iter}
use Rattle.std.specs.Slice.Iter.{iter_rest}
use borrow.Author.Tests.{lt-ltb, le-ltb, ltb-false}
use Rattle.std.proofs.iter.Yields.{nat_range_steps, fronts}
use Rattle.std.proofs.lemmas.Iterator.{YieldsList-from_range, YieldsList-from_slice}
use Rattle.std.proofs.lemmas.Iterator.Search.{all_from_yields_List, any_from_yields_List, position_from_yields_List, find_from_yields_List}
use denote.Param.Members.{Mut}
use denote.Ref.{Bor}
use Rattle.folds.specs.Tests.{◌and◌, ◌or◌, pick}
use Rattle.folds.specs.Below.{all_below, any_below, first_from, count_below, found, all_below_same, any_below_same, count_below_same, first_from_same, first_from_le}

-- ---- from the front

and_swap : (a b c : Bool) → (a and (b and c)) ≡ (b and (a and c))
and_swap true true c = refl
and_swap true false c = refl
and_swap false true c = refl
and_swap false false c = refl

or_swap : (a b c : Bool) → (a or (b or c)) ≡ (b or (a or c))
or_swap true true c = refl
or_swap true false c = refl
or_swap false true c = refl
or_swap false false c = refl

all_below_front : (p : ℕ → Bool) (n : ℕ) → all_below (suc n) p ≡ (p 0 and all_below n (λ i. p (i + 1)))
unfolding all_below
all_below_front p zero = refl
all_below_front p (suc n) =
    ap (λ (t : Bool). p (suc n) and t) (all_below_front p n)
    ∙ and_swap (p (suc n)) (p 0) (all_below n (λ i. p (i + 1)))
    ∙ ap (λ (t : ℕ). p 0 and p t and all_below n (λ i. p (i + 1))) (sym (add-one n))

any_below_front : (p : ℕ → Bool) (n : ℕ) → any_below (suc n) p ≡ (p 0 or any_below n (λ i. p (i + 1)))
unfolding any_below
any_below_front p zero = refl
any_below_front p (suc n) =
    ap (λ (t : Bool). p (suc n) or t) (any_below_front p n)
    ∙ or_swap (p (suc n)) (p 0) (any_below n (λ i. p (i + 1)))
    ∙ ap (λ (t : ℕ). p 0 or p t or any_below n (λ i. p (i + 1))) (sym (add-one n))

count_below_front : (p : ℕ → Bool) (n : ℕ) → count_below (suc n) p ≡ pick (p 0) 1 0 + count_below n (λ i. p (i + 1))
unfolding count_below
count_below_front p zero = omega arith
count_below_front p (suc n) =
    let ih = count_below_front p n in
    let e : pick {A = ℕ} (p (suc n)) 1 0 ≡ pick (p (n + 1)) 1 0 = ap (λ (t : ℕ). pick {A = ℕ} (p t) 1 0) (sym (add-one n)) in
    omega arith

first_from_shift : (p : ℕ → Bool) (n i : ℕ) → first_from n (i + 1) p ≡ 1 + first_from n i (λ j. p (j + 1))
unfolding first_from
first_from_shift p zero i = omega arith
first_from_shift p (suc n) i = go (p (i + 1)) (first_from_shift p n (i + 1))
  where
    go : (b : Bool) → first_from n (i + 1 + 1) p ≡ 1 + first_from n (i + 1) (λ j. p (j + 1))
        → pick b (i + 1) (first_from n (i + 1 + 1) p) ≡ 1 + pick b i (first_from n (i + 1) (λ j. p (j + 1)))
    go true h = omega arith
    go false h = h

-- ---- over the places of a list

and_is : (a b : Bool) → (a && b) ≡ (a and b)
and_is true b = refl
and_is false b = refl

or_is : (a b : Bool) → (a || b) ≡ (a or b)
or_is true b = refl
or_is false b = refl

module _ {X : Type 0} (p : X → Bool) (d : X) where
  -- the test at a place
  abbrev pub at : List X → ℕ → Bool
  at xs i = p (get_or xs i d)

  pub all_places : (xs : List X) → list_all p xs ≡ all_below (length xs) (at xs)
  unfolding all_below
  all_places [] = refl
  all_places (x ∷ xs) =
      and_is (p x) (list_all p xs)
      ∙ rw (all_places xs) (sym (all_below_front (at (x ∷ xs)) (length xs) ∙ ap (λ (t : Bool). p x and t) (all_below_same _ (at xs) (length xs) (λ i l. rw (add-one i)))))

  pub any_places : (xs : List X) → list_any p xs ≡ any_below (length xs) (at xs)
  unfolding any_below
  any_places [] = refl
  any_places (x ∷ xs) =
      or_is (p x) (list_any p xs)
      ∙ rw (any_places xs) (sym (any_below_front (at (x ∷ xs)) (length xs) ∙ ap (λ (t : Bool). p x or t) (any_below_same _ (at xs) (length xs) (λ i l. rw (add-one i)))))

  pub count_places : (xs : List X) → count_by p xs ≡ count_below (length xs) (at xs)
  unfolding count_below
  count_places [] = refl
  count_places (x ∷ xs) =
      let e : count_below (length xs) (λ i. at (x ∷ xs) (i + 1)) ≡ count_below (length xs) (at xs) = count_below_same _ _ (length xs) (λ i l. rw (add-one i)) in
      let f = count_below_front (at (x ∷ xs)) (length xs) in
      let g : cond {A = ℕ} (p x) 1 0 ≡ pick (p x) 1 0 = picked (p x) in
      sum_by-cons (λ y. cond (p y) 1 0) x xs ∙ ap₂ ◌+◌ g (count_places xs ∙ sym e) ∙ sym f
    where
      picked : (b : Bool) → cond {A = ℕ} b 1 0 ≡ pick b 1 0
      picked true = refl
      picked false = refl

  pub first_places : (xs : List X) → position_or_len p xs ≡ first_from (length xs) 0 (at xs)
  unfolding first_from
  first_places [] = refl
  first_places (x ∷ xs) = go (p x) (first_places xs) (first_from_shift (at (x ∷ xs)) (length xs) 0) (first_from_same (λ i. at (x ∷ xs) (i + 1)) (at xs) (λ i. rw (add-one i)) (length xs) 0)
    where
      go : (b : Bool) → position_or_len p xs ≡ first_from (length xs) 0 (at xs)
          → first_from (length xs) 1 (at (x ∷ xs)) ≡ 1 + first_from (length xs) 0 (λ j. at (x ∷ xs) (j + 1))
          → first_from (length xs) 0 (λ i. at (x ∷ xs) (i + 1)) ≡ first_from (length xs) 0 (at xs)
          → cond (not b) (1 + position_or_len p xs) 0 ≡ pick b 0 (first_from (length xs) 1 (at (x ∷ xs)))
      go true h f e = refl
      go false h f e = ap (λ t. 1 + t) (h ∙ sym e) ∙ sym f

-- ---- over a range

module _ (p : ℕ → Bool) (n : ℕ) where
  in_range : (i : ℕ) → i < n → p (get_or (range_with_len 0 n) i 0) ≡ p i
  in_range i l = let e : 0 + i ≡ i = omega arith in rw (get_or-range_with_len 0 n i 0 l) (ap p e)

  pub all_range : list_all p (range_with_len 0 n) ≡ all_below n p
  all_range = all_places p 0 (range_with_len 0 n) ∙ rw (length-range_with_len 0 n) (all_below_same _ p n in_range)

  pub any_range : list_any p (range_with_len 0 n) ≡ any_below n p
  any_range = any_places p 0 (range_with_len 0 n) ∙ rw (length-range_with_len 0 n) (any_below_same _ p n in_range)

  pub count_range : count_by p (range_with_len 0 n) ≡ count_below n p
  count_range = count_places p 0 (range_with_len 0 n) ∙ rw (length-range_with_len 0 n) (count_below_same p _ n in_range)

-- ---- the lowest, where there is one

find_from : (p : ℕ → Bool) (n a : ℕ) → find p (range_with_len a n) ≡ pick (ltb (first_from n a p) (n + a)) (Some (first_from n a p)) None
unfolding first_from
find_from p zero a = let e : ltb a (0 + a) ≡ false = le-ltb a (0 + a) (omega arith) in rw e
find_from p (suc n) a = go (p a) (find_from p n (a + 1))
  where
    go : (b : Bool) → find p (range_with_len (a + 1) n) ≡ pick (ltb (first_from n (a + 1) p) (n + (a + 1))) (Some (first_from n (a + 1) p)) None
        → cond b (Some a) (find p (range_with_len (a + 1) n)) ≡ pick (ltb (pick b a (first_from n (a + 1) p)) (suc n + a)) (Some (pick b a (first_from n (a + 1) p))) None
    go true h = let e : ltb a (suc n + a) ≡ true = lt-ltb a (suc n + a) (omega arith) in rw e
    go false h = let e : n + (a + 1) ≡ suc n + a = omega arith in h ∙ ap (λ (t : ℕ). pick (ltb (first_from n (a + 1) p) t) (Some (first_from n (a + 1) p)) None) e

picked_is_cond : {A : Type 0} (b : Bool) (x y : A) → cond b x y ≡ pick b x y
picked_is_cond true x y = refl
picked_is_cond false x y = refl

same_option : (o : Option ℕ) → option_map (λ (x : ℕ). x) o ≡ o
same_option None = refl
same_option (Some x) = refl

-- ---- the calls

module _ {F : Type 0} {g : Mut F (ℕ × Unit {0}) Bool} {s : Range ℕ} (test : ℕ → Bool) (n : ℕ) (u : Range ℕ) {f : F} {r : Bool} where
  pub all_of_range : (xs : List ℕ) × (o : Option ℕ) × (j : F) × YieldsThen nat_range_steps s xs o u × FoldsTo (λ p x q. Called g p (x, tt) true q) f xs j
      × MatchOption o (r ≡ true) (λ x. (r ≡ false) × ((h : F) × Called g j (x, tt) false h))
      → s ≡ record { start = 0; end = n } → ((x : ℕ) (b : Bool) (q : F) → Called g f (x, tt) b q → (q ≡ f) × (b ≡ test x)) → r ≡ all_below n test
  all_of_range ran source closure = all_from_yields_List test u f r ran (YieldsList-from_range 0 n n source (omega arith)) closure ∙ all_range test n

  pub any_of_range : (xs : List ℕ) × (o : Option ℕ) × (j : F) × YieldsThen nat_range_steps s xs o u × FoldsTo (λ p x q. Called g p (x, tt) false q) f xs j
      × MatchOption o (r ≡ false) (λ x. (r ≡ true) × ((h : F) × Called g j (x, tt) true h))
      → s ≡ record { start = 0; end = n } → ((x : ℕ) (b : Bool) (q : F) → Called g f (x, tt) b q → (q ≡ f) × (b ≡ test x)) → r ≡ any_below n test
  any_of_range ran source closure = any_from_yields_List test u f r ran (YieldsList-from_range 0 n n source (omega arith)) closure ∙ any_range test n

module _ {F : Type 0} {g : Mut F (Bor ℕ × Unit {0}) Bool} {s : Range ℕ} (test : ℕ → Bool) (n : ℕ) (u : Range ℕ) {f : F} {r : Option ℕ} where
  pub find_of_range : (xs : List ℕ) × (j : F) × YieldsThen nat_range_steps s xs r u × FoldsTo (λ p x q. CalledAt g p x false q) f xs j
      × MatchOption r (Unit {0}) (λ x. (h : F) × CalledAt g j x true h)
      → s ≡ record { start = 0; end = n } → ((x : ℕ) (b : Bool) (q : F) → CalledAt g f x b q → (q ≡ f) × (b ≡ test x)) → r ≡ found n test
  find_of_range ran source closure =
      let e : n + 0 ≡ n = omega arith in
      sym (same_option r)
      ∙ find_from_yields_List test u f r ran (YieldsList-from_range 0 n n source (omega arith)) closure
      ∙ find_from test n 0
      ∙ ap (λ (t : ℕ). pick (ltb (first_from n 0 test) t) (Some (first_from n 0 test)) None) e

module _ {A F : Type 0} {s : Iter A} (test : A → Bool) (d : A) (xs : List A) (u : Iter A) {f : F} where
  pub all_of_slice : {g : Mut F (Bor A × Unit {0}) Bool} {r : Bool}
      → (ys : List (Bor A)) × (o : Option (Bor A)) × (j : F) × YieldsThen fronts s ys o u × FoldsTo (λ p x q. Called g p (x, tt) true q) f ys j
      × MatchOption o (r ≡ true) (λ x. (r ≡ false) × ((h : F) × Called g j (x, tt) false h))
      → iter_rest s ≡ xs → ((x : Bor A) (b : Bool) (q : F) → Called g f (x, tt) b q → (q ≡ f) × (b ≡ test x.now)) → r ≡ all_below (length xs) (at test d xs)
  all_of_slice {r = r} ran source closure = all_from_yields_List test u f r ran (YieldsList-from_slice xs source) closure ∙ all_places test d xs

  pub any_of_slice : {g : Mut F (Bor A × Unit {0}) Bool} {r : Bool}
      → (ys : List (Bor A)) × (o : Option (Bor A)) × (j : F) × YieldsThen fronts s ys o u × FoldsTo (λ p x q. Called g p (x, tt) false q) f ys j
      × MatchOption o (r ≡ false) (λ x. (r ≡ true) × ((h : F) × Called g j (x, tt) true h))
      → iter_rest s ≡ xs → ((x : Bor A) (b : Bool) (q : F) → Called g f (x, tt) b q → (q ≡ f) × (b ≡ test x.now)) → r ≡ any_below (length xs) (at test d xs)
  any_of_slice {r = r} ran source closure = any_from_yields_List test u f r ran (YieldsList-from_slice xs source) closure ∙ any_places test d xs

  pub position_of_slice : {g : Mut F (Bor A × Unit {0}) Bool} {r : Option ℕ}
      → (ys : List (Bor A)) × (o : Option (Bor A)) × (j : F) × YieldsThen fronts s ys o u × FoldsTo (λ p x q. Called g p (x, tt) false q) f ys j
      × MatchOption o (r ≡ None) (λ x. (r ≡ Some (length ys)) × ((h : F) × Called g j (x, tt) true h))
      → iter_rest s ≡ xs → ((x : Bor A) (b : Bool) (q : F) → Called g f (x, tt) b q → (q ≡ f) × (b ≡ test x.now)) → r ≡ found (length xs) (at test d xs)
  position_of_slice {r = r} ran source closure =
      position_from_yields_List test u f r ran (YieldsList-from_slice xs source) closure
      ∙ rw (first_places test d xs) (picked_is_cond (ltb (first_from (length xs) 0 (at test d xs)) (length xs)) (Some (first_from (length xs) 0 (at test d xs))) None)

-- ---- what was found

module _ (n : ℕ) (p : ℕ → Bool) where
  pub found_some : {i : ℕ} → found n p ≡ Some i → (ltb (first_from n 0 p) n ≡ true) × (first_from n 0 p ≡ i)
  found_some {i} = go (ltb (first_from n 0 p) n) refl
    where
      go : (b : Bool) → ltb (first_from n 0 p) n ≡ b → pick b (Some (first_from n 0 p)) None ≡ Some i → (ltb (first_from n 0 p) n ≡ true) × (first_from n 0 p ≡ i)
      go true e h = (e, cc)
      go false e h = cc

  pub found_none : found n p ≡ None → ltb (first_from n 0 p) n ≡ false
  found_none = go (ltb (first_from n 0 p) n) refl
    where
      go : (b : Bool) → ltb (first_from n 0 p) n ≡ b → pick b (Some (first_from n 0 p)) None ≡ None → ltb (first_from n 0 p) n ≡ false
      go true e h = cc
      go false e h = e

  pub found_or : unwrap_or (found n p) n ≡ first_from n 0 p
  found_or = go (ltb (first_from n 0 p) n) refl
    where
      go : (b : Bool) → ltb (first_from n 0 p) n ≡ b → unwrap_or (pick b (Some (first_from n 0 p)) None) n ≡ first_from n 0 p
      go true e = refl
      go false e = let h = first_from_le p n 0 in let g = ltb-false (first_from n 0 p) n e in omega arith

-- "At most 20 such C's can occur and there is room for all": in a sound record a sender not yet heard for echo or for ready
-- finds a place for its matrix.
--
-- In order: what it is to find a place; marks counted by slots and by senders; what a sound record says of a kind of mark and
-- of a slot in use; a slot that is not in use; the place found.
-- Assumes nothing.
use Rattle.std.specs.Prelude.{◌≡◌, Bool, true, false, not, List, ◌⊎◌, leb, ltb}
use Rattle.std.proofs.Common.{sym, ap, ◌∙◌, ⊎_elim, inl, inr, arith, leb-true, ltb-true, ltb-false}
use Rattle.std.proofs.Math.Path.{ap₂}
use Prim.Native.Nat.{ℕ, ◌+◌, ◌<◌, ◌≤◌}
use Rattle.std.proofs.lemmas.Bool.{not-true, not-false}
use Rattle.folds.specs.Tests.{◌and◌, ◌or◌, same, implies, pick, pick_true, pick-false, and_left, and_right, or_cases, same_eq, implies_at, decide, not_true_and_false}
use Rattle.folds.specs.Below.{all_below, any_below, count_below, sum_below, all_below_at, any_below_here, any_below_some, count_below_none, count_below-sum, first_from_passes, first_from_before, sum_below_same}
use Rattle.algebra.proofs.Sums.{sum-add, sum_swap, sum_le, sum_lt, sum-at, sum-constant}
use Rattle.rules.specs.declared.Element.{Element}
use Rattle.rules.specs.declared.Record.{Record}
use Rattle.rules.specs.declared.Side.{Side}
use Rattle.rules.specs.declared.Side.TheVariants.{ByEcho, ByReady}
use Rattle.rules.specs.Numbers.{group_keeps}
use Rattle.rules.specs.Record.{slot_at, heard_for, held, matrix_of, same_matrix, echo_mark, ready_mark, setup_keeps, marks_keep, places_keep, use_keeps, sound}
use Rattle.rules.specs.Steps.{own_slot, free_slot, slot_for}
use Rattle.rules.proofs.Laws.Facts.{ear, hears}
use Rattle.rules.proofs.Laws.Clauses.{Clauses, clauses}
use Rattle.rules.proofs.Laws.Numbers.{bounds}

-- the place that a matrix finds: its own, or one that is not in use while no slot in use has the matrix
pub record Found (x : Record) (C : List (List Element)) (s : ℕ) : Type 0 where
  pub within : s < 20
  pub own : (((slot_at x s).used ≡ true) × (same_matrix x.setup.k (matrix_of (slot_at x s)) C ≡ true))
      ⊎ (((slot_at x s).used ≡ false) × ((s' : ℕ) → s' < 20 → (slot_at x s').used ≡ true → same_matrix x.setup.k (matrix_of (slot_at x s')) C ≡ false))

-- ---- marks counted by slots and by senders

-- two kinds of mark, each of a sender at a slot: n senders, c slots
module _ (a b : ℕ → ℕ → Bool) (c n : ℕ) where
  marks_at : ℕ → ℕ → ℕ
  marks_at s m = pick (a m s) 1 0 + pick (b m s) 1 0

  by_senders : sum_below c (λ s. sum_below n (marks_at s)) ≡ sum_below n (λ m. count_below c (a m) + count_below c (b m))
  unfolding marks_at
  by_senders =
      sum_swap c n marks_at
      ∙ sum_below_same (λ m. sum_below c (λ s. marks_at s m)) (λ m. count_below c (a m) + count_below c (b m)) n (λ m l.
      sum-add c (λ s. pick (a m s) 1 0) (λ s. pick (b m s) 1 0)
      ∙ ap₂ ◌+◌ (sym (count_below-sum (a m) c)) (sym (count_below-sum (b m) c)))

  some_at : (s m : ℕ) → (a m s ≡ true) ⊎ (b m s ≡ true) → 1 ≤ marks_at s m
  unfolding marks_at
  some_at s m (inl e) = rw e (omega arith)
  some_at s m (inr e) = rw e (omega arith)

  -- where each slot has a mark, each sender at most one of either kind, and sender m none of the first, the slots are fewer
  -- than two for each sender
  too_few : (m : ℕ) → m < n → ((j : ℕ) → j < n → count_below c (a j) ≤ 1) → ((j : ℕ) → j < n → count_below c (b j) ≤ 1) → count_below c (a m) ≡ 0
      → ((s : ℕ) → s < c → (j : ℕ) × (j < n) × ((a j s ≡ true) ⊎ (b j s ≡ true))) → c < n + n
  too_few m l one two none each =
      let few = sum_lt (λ j. count_below c (a j) + count_below c (b j)) (λ j. 2) n m l
      (λ j lt. let p = one j lt in let q = two j lt in let w : count_below c (a j) + count_below c (b j) ≤ 2 = omega arith in w)
      (let q = two m l in let w : count_below c (a m) + count_below c (b m) < 2 = omega arith in w) in
      let many = sum_le (λ s. 1) (λ s. sum_below n (marks_at s)) c (λ s lt.
      let w = each s lt in let p = some_at s w.0 w.2 in let q = sum-at (marks_at s) n w.0 w.1 in
      let z : 1 ≤ sum_below n (marks_at s) = omega arith in z) in
      let twos = sum-constant 2 n in
      let ones = sum-constant 1 c in
      let swapped = by_senders in
      omega arith

-- ---- what a sound record says of a kind of mark, and of a slot in use

record Kind (x : Record) (mark : ℕ → ℕ → Bool) (tag : ℕ) : Type 0 where
  one : (m : ℕ) → m < 10 → count_below 20 (mark m) ≤ 1
  unheard : (m : ℕ) → m < 10 → heard_for x tag m ≡ false → count_below 20 (mark m) ≡ 0

-- the clause of `marks_keep` for sender m
abbrev mark_keeps : Record → (ℕ → ℕ → Bool) → ℕ → ℕ → Bool
mark_keeps x mark tag m = leb (count_below 20 (mark m)) 1 and implies (any_below 20 (mark m)) (heard_for x tag m)

kind : (x : Record) (mark : ℕ → ℕ → Bool) (tag : ℕ) → all_below 10 (mark_keeps x mark tag) ≡ true → Kind x mark tag
kind x mark tag h = record { one = one; unheard = unheard }
  where
    at : (m : ℕ) → m < 10 → mark_keeps x mark tag m ≡ true
    at m l = all_below_at (mark_keeps x mark tag) 10 m h l

    one : (m : ℕ) → m < 10 → count_below 20 (mark m) ≤ 1
    one m l = leb-true (count_below 20 (mark m)) 1 (and_left _ _ (at m l))

    -- a sender marked anywhere is heard
    unheard : (m : ℕ) → m < 10 → heard_for x tag m ≡ false → count_below 20 (mark m) ≡ 0
    unheard m l e = count_below_none (mark m) 20 (λ s lt.
        ⊎_elim
        (λ p. absurd (not_true_and_false (heard_for x tag m)
        (implies_at _ _ (and_right (leb (count_below 20 (mark m)) 1) _ (at m l)) (any_below_here (mark m) 20 s lt p)) e))
        (λ q. q)
        (decide (mark m s)))

echoes : (x : Record) → Clauses x → Kind x (echo_mark x) 2
unfolding marks_keep
echoes x c = kind x (echo_mark x) 2 (and_left _ _ c.marks)

readies : (x : Record) → Clauses x → Kind x (ready_mark x) 3
unfolding marks_keep
readies x c = kind x (ready_mark x) 3 (and_right (all_below 10 (mark_keeps x (echo_mark x) 2)) _ c.marks)

-- a slot in use has a mark
in_use_lem : (x : Record) → Clauses x → (s : ℕ) → s < 20 → (slot_at x s).used ≡ true
    → (m : ℕ) × (m < 10) × ((echo_mark x m s ≡ true) ⊎ (ready_mark x m s ≡ true))
unfolding use_keeps places_keep
in_use_lem x c s l e =
    let used = same_eq (slot_at x s).used (any_below 10 (held (slot_at x s))) (all_below_at (λ s. use_keeps (slot_at x s)) 20 s c.use' l) in
    let w = any_below_some (held (slot_at x s)) 10 (sym used ∙ e) in
    let place = all_below_at (λ m. same (held (slot_at x s) m) (echo_mark x m s or ready_mark x m s)) 10 w.0
    (all_below_at (λ s. places_keep (slot_at x s)) 20 s c.places l) w.1 in
    (w.0, w.1, or_cases _ _ (sym (same_eq _ _ place) ∙ w.2))

-- ---- a slot that is not in use

-- one at least, where a sender has no mark of one of the two kinds
free : (x : Record) (a b : ℕ → ℕ → Bool) (tag tag' m : ℕ) → Kind x a tag → Kind x b tag'
    → ((s : ℕ) → s < 20 → (slot_at x s).used ≡ true → (j : ℕ) × (j < 10) × ((a j s ≡ true) ⊎ (b j s ≡ true)))
    → m < 10 → heard_for x tag m ≡ false → free_slot x < 20
unfolding free_slot
free x a b tag tag' m p q marks l e =
    ⊎_elim
    (ltb-true (free_slot x) 20)
    (λ full.
    let behind : 20 ≤ free_slot x = ltb-false (free_slot x) 20 full in
    let none : 20 < 10 + 10 = too_few a b 20 10 m l p.one q.one (p.unheard m l e) (λ s lt.
    marks s lt (not-false (slot_at x s).used (first_from_before (λ s. not (slot_at x s).used) 20 0 s (omega arith) (omega arith)))) in
    absurd (omega arith))
    (decide (ltb (free_slot x) 20))

-- ---- the place found

found : (x : Record) (C : List (List Element)) → free_slot x < 20 → Found x C (slot_for x C)
unfolding own_slot free_slot slot_for
found x C room = go (decide (ltb (own_slot x C) 20))
  where
    has : ℕ → Bool
    has s = (slot_at x s).used and same_matrix x.setup.k (matrix_of (slot_at x s)) C

    go : (ltb (own_slot x C) 20 ≡ true) ⊎ (ltb (own_slot x C) 20 ≡ false) → Found x C (slot_for x C)
    go (inl e) =
        let l = ltb-true (own_slot x C) 20 e in
        let h = first_from_passes has 20 0 l in
        rw (pick_true (ltb (own_slot x C) 20) (own_slot x C) (free_slot x) e)
        (record { within = l; own = inl (and_left _ _ h, and_right (slot_at x (own_slot x C)).used _ h) })
    go (inr e) =
        let behind = ltb-false (own_slot x C) 20 e in
        rw (pick-false (ltb (own_slot x C) 20) (own_slot x C) (free_slot x) e)
        (record {
          within = room;
          own = inr (
            not-true _ (first_from_passes (λ s. not (slot_at x s).used) 20 0 room),
            λ s lt used.
                sym (ap (λ b. b and same_matrix x.setup.k (matrix_of (slot_at x s)) C) used) ∙ first_from_before has 20 0 s (omega arith) (omega arith),
          );
        })

boxes : (x : Record) (m : ℕ) → Clauses x → m < x.setup.n → m < 10
unfolding setup_keeps
boxes x m c l = let b = (bounds x.setup (and_right (group_keeps x.setup) _ c.setup)).sizes.boxes in omega arith

-- A sender not heard for echo, or for ready, finds a place for the matrix of its message.
pub room : (x : Record) (m : ℕ) (C : List (List Element)) → sound x ≡ true → m < x.setup.n → (b : Side) → hears x (ear b) m ≡ false
    → Found x C (slot_for x C)
room x m C h l ByEcho e =
    let c = clauses x h in
    found x C (free x (echo_mark x) (ready_mark x) 2 3 m (echoes x c) (readies x c) (in_use_lem x c) (boxes x m c l) e)
room x m C h l ByReady e =
    let c = clauses x h in
    found x C
    (free x (ready_mark x) (echo_mark x) 3 2 m (readies x c) (echoes x c)
    (λ s lt u. let w = in_use_lem x c s lt u in (w.0, w.1, ⊎_elim inr inl w.2))
    (boxes x m c l) e)

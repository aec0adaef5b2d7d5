-- What a box holds for a matrix, as one slot: the slot in use with the matrix, or a zero slot.
--
-- In order: the slot, and what is read of it; a good record has at most one in use with the matrix; its facts; what it goes by.
-- Assumes nothing.
use Rattle.std.specs.Prelude.{◌≡◌, Bool, ◌⊎◌, List, ℕ, ◌<◌, ◌≤◌, ltb}
use Rattle.std.proofs.Math.Path.{refl}
use Rattle.std.proofs.Common.{sym, ap, ◌∙◌, inl, inr, ⊎_elim, arith}
use Rattle.std.proofs.Math.Bool.{true, false}
use Rattle.std.proofs.Math.Decide.{ℕ_discrete, dec_lt}
use borrow.Author.Tests.{ltb-true, lt-ltb}
use Rattle.folds.specs.Tests.{◌and◌, pick, pick-false, and_left, and_right, and_intro, decide, true≢false, false_unless, not_true_and_false}
use Rattle.folds.specs.Below.{count_below, first_from_passes, first_from_before, first_from_same}
use Rattle.rules.specs.declared.Element.{Element}
use Rattle.std.specs.Prelude.{Option, Some, None, is_some}
use Rattle.rules.specs.declared.Pair.{Pair}
use Rattle.rules.specs.declared.Record.{Record}
use Rattle.rules.specs.declared.SetUp.{SetUp}
use Rattle.rules.specs.declared.Slot.{Slot}
use Rattle.rules.specs.Numbers.{group_keeps, numbers_keep}
use Rattle.rules.specs.Record.{slot_at, marked, matrix_of, same_matrix, count_e, count_r, zero_slot, new_record}
use Rattle.rules.specs.Steps.{own_slot}
use Rattle.rules.specs.Laws.Shape.{ShapedSlot}
use Rattle.rules.specs.declared.Side.{Side}
use Rattle.rules.proofs.Laws.Facts.{marks_of, ear, hears, SlotFacts}
use Rattle.rules.proofs.Laws.Sound.{sound_facts, agree_comm}
use Rattle.rules.proofs.Laws.Agreement.{agree_self, agree_trans, agree_either}
use Rattle.rules.proofs.Laws.New.{new_sound, zero-slot}
use Rattle.rules.proofs.Laws.Kept.OpenSlot.{zero_unmarked}
use Rattle.rules.proofs.Laws.Kept.Changes.{Good}
use Rattle.demands.specs.Terms.Lives.{e_of, r_of, kept_for}

-- ---- the slot

unfoldable pub slot_of : Record → List (List Element) → Slot
slot_of x C = pick (ltb (own_slot x C) 20) (slot_at x (own_slot x C)) zero_slot

module _ (x : Record) (C : List (List Element)) where
  -- what is read of it, in the place of the matrix or of a zero slot
  reads : {A : Type 0} (f : Slot → A) → pick (ltb (own_slot x C) 20) (f (slot_at x (own_slot x C))) (f zero_slot) ≡ f (slot_of x C)
  unfolding slot_of
  reads {A} f = go (ltb (own_slot x C) 20)
    where
      go : (b : Bool) → pick {A = A} b (f (slot_at x (own_slot x C))) (f zero_slot) ≡ f (pick b (slot_at x (own_slot x C)) zero_slot)
      go true = refl
      go false = refl

  pub e_of_lem : e_of x C ≡ count_e (slot_of x C)
  unfolding e_of count_e count_below zero_slot
  e_of_lem = reads count_e

  pub r_of_lem : r_of x C ≡ count_r (slot_of x C)
  unfolding r_of count_r count_below zero_slot
  r_of_lem = reads count_r

  pub kept_of : kept_for x C ≡ (slot_of x C).pair
  unfolding kept_for zero_slot
  kept_of = reads (λ (w : Slot). w.pair)

-- it goes by the slots and k alone, and not by which of two matrices that agree
pub slot_same : (x y : Record) (C : List (List Element)) → y.slots ≡ x.slots → y.setup ≡ x.setup → slot_of y C ≡ slot_of x C
unfolding slot_of own_slot
slot_same x y C e h = rw (e, h)

pub own_agree : (x : Record) (C D : List (List Element)) → same_matrix x.setup.k C D ≡ true → own_slot x D ≡ own_slot x C
unfolding own_slot
own_agree x C D h =
    first_from_same _ _
    (λ (s : ℕ). ap (λ (b : Bool). (slot_at x s).used and b) (sym (agree_either x.setup.k C D h (matrix_of (slot_at x s))))) 20 0

pub slot_agree : (x : Record) (C D : List (List Element)) → same_matrix x.setup.k C D ≡ true → slot_of x D ≡ slot_of x C
unfolding slot_of
slot_agree x C D h = rw (own_agree x C D h)

-- ---- in a good record

-- slot s is in use with the matrix
pub record Has (x : Record) (C : List (List Element)) (s : ℕ) : Type 0 where
  pub within : s < 20
  pub used : (slot_at x s).used ≡ true
  pub agrees : same_matrix x.setup.k (matrix_of (slot_at x s)) C ≡ true

-- no slot is
abbrev pub Lacks : Record → List (List Element) → Type 0
Lacks x C = (s : ℕ) → Has x C s → ⊥

own_has : (x : Record) (C : List (List Element)) → own_slot x C < 20 → Has x C (own_slot x C)
unfolding own_slot
own_has x C l =
    let h = first_from_passes (λ s. (slot_at x s).used and same_matrix x.setup.k (matrix_of (slot_at x s)) C) 20 0 l in
    record { within = l; used = and_left _ _ h; agrees = and_right (slot_at x (own_slot x C)).used _ h }

own_first : (x : Record) (C : List (List Element)) (s : ℕ) → Has x C s → own_slot x C ≤ s
unfolding own_slot
own_first x C s h = go (dec_lt s (own_slot x C))
  where
    go : Dec (s < own_slot x C) → own_slot x C ≤ s
    go (yes l) =
        absurd (true≢false (sym (and_intro _ _ h.used h.agrees)
        ∙ first_from_before (λ s. (slot_at x s).used and same_matrix x.setup.k (matrix_of (slot_at x s)) C) 20 0 s (omega arith) l))
    go (no n) = omega arith

pub has_not : (x : Record) (C : List (List Element)) → Lacks x C → ltb (own_slot x C) 20 ≡ false
has_not x C none = false_unless _ (λ e. none (own_slot x C) (own_has x C (ltb-true (own_slot x C) 20 e)))

module _ (x : Record) (g : Good x) where
  one_has : (C : List (List Element)) (s r : ℕ) → Has x C s → Has x C r → s ≡ r
  one_has C s r h i = go (ℕ_discrete s r)
    where
      go : Dec (s ≡ r) → s ≡ r
      go (yes e) = e
      go (no n) =
          absurd (true≢false
          (sym (agree_trans x.setup.k (matrix_of (slot_at x s)) C (matrix_of (slot_at x r))
          h.agrees (agree_comm x.setup.k C (matrix_of (slot_at x r)) ∙ i.agrees))
          ∙ g.facts.slots.differ s r h.within i.within n h.used i.used))

  -- the place of the one that has it
  pub own_is : (C : List (List Element)) (s : ℕ) → Has x C s → own_slot x C ≡ s
  own_is C s h =
      let l = own_first x C s h in
      let w = h.within in
      one_has C (own_slot x C) s (own_has x C (omega arith)) h

  pub slot_has : (C : List (List Element)) (s : ℕ) → Has x C s → slot_of x C ≡ slot_at x s
  unfolding slot_of
  slot_has C s h = rw (own_is C s h, lt-ltb s 20 h.within)

  pub slot_lacks : (C : List (List Element)) → Lacks x C → slot_of x C ≡ zero_slot
  unfolding slot_of
  slot_lacks C none = pick-false (ltb (own_slot x C) 20) (slot_at x (own_slot x C)) zero_slot (has_not x C none)

  -- one has it, or none
  pub some_has : (C : List (List Element)) → ((s : ℕ) × Has x C s) ⊎ Lacks x C
  some_has C =
      ⊎_elim
      (λ e. inl (own_slot x C, own_has x C (ltb-true (own_slot x C) 20 e)))
      (λ e. inr (λ s h.
      let l = own_first x C s h in
      let w = h.within in
      not_true_and_false _ (lt-ltb (own_slot x C) 20 (omega arith)) e))
      (decide (ltb (own_slot x C) 20))

  -- a slot in use is that of its own matrix
  pub slot_used : (s : ℕ) → s < 20 → (slot_at x s).used ≡ true → slot_of x (matrix_of (slot_at x s)) ≡ slot_at x s
  slot_used s l e = slot_has (matrix_of (slot_at x s)) s (record { within = l; used = e; agrees = agree_self x.setup.k _ })

-- ---- its facts

zero_facts : (u : SetUp) → group_keeps u ≡ true → numbers_keep u ≡ true → SlotFacts u zero_slot
unfolding new_record
zero_facts u a b = (sound_facts (new_record u) (new_sound u a b)).slots.each 0 (omega arith)

module _ (x : Record) (g : Good x) (C : List (List Element)) where
  pub slot_facts : SlotFacts x.setup (slot_of x C)
  slot_facts =
      ⊎_elim
      (λ w. rw (slot_has x g C w.0 w.1) (g.facts.slots.each w.0 w.1.within))
      (λ none. rw (slot_lacks x g C none) (zero_facts x.setup g.facts.group g.facts.numbers))
      (some_has x g C)

  pub slot_shape : ShapedSlot (slot_of x C)
  slot_shape =
      ⊎_elim
      (λ w. rw (slot_has x g C w.0 w.1) (g.shape.slot w.0 w.1.within))
      (λ none. rw (slot_lacks x g C none) zero-slot)
      (some_has x g C)

-- who is not heard for a side is not marked for it
module _ (x : Record) (g : Good x) (C : List (List Element)) (b : Side) (m : ℕ) (l : m < 10) where
  pub slot_unmarked : hears x (ear b) m ≡ false → marked (marks_of b (slot_of x C)) m ≡ false
  slot_unmarked e =
      ⊎_elim
      (λ w. false_unless _ (λ q.
      true≢false (sym (g.facts.slots.heard b m w.0 l w.1.within (rw (slot_has x g C w.0 w.1) at q)) ∙ e)))
      (λ none. rw (slot_lacks x g C none) (zero_unmarked b m l))
      (some_has x g C)

-- a slot with a pair is one in use
pub slot_there : (x : Record) (C : List (List Element)) → is_some (slot_of x C).pair ≡ true → slot_of x C ≡ slot_at x (own_slot x C)
unfolding slot_of zero_slot
slot_there x C e = go (ltb (own_slot x C) 20) e
  where
    go : (b : Bool) → is_some (pick b (slot_at x (own_slot x C)) zero_slot).pair ≡ true
        → pick b (slot_at x (own_slot x C)) zero_slot ≡ slot_at x (own_slot x C)
    go true h = refl
    go false h = absurd (true≢false (sym h))

-- what is there
pub there_some : (v : Option Pair) → is_some v ≡ true → (p : Pair) × (v ≡ Some p)
there_some None e = absurd (true≢false (sym e))
there_some (Some p) e = (p, refl)

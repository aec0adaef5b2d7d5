-- A new record is sound, and of the right lengths; the all-zero record is not sound; and set-up gives the one or the other.
--
-- In order: the lengths; the clauses of a sound record; the all-zero record; set-up.
-- Assumes nothing.
use Rattle.std.specs.Prelude.{[]}
use Rattle.std.specs.Prelude.{◌≡◌, refl, Bool, true, false, not, ltb, replicate}
use Rattle.std.proofs.Common.{sym, ◌∙◌}
use native.Mathlib.Omega.{arith}
use Rattle.std.proofs.lemmas.List.{get_or-replicate}
use borrow.Author.Tests.{le-leb, lt-leb, eq-eqb, ne_eqb, not-true, not-false}
use Rattle.folds.specs.Tests.{◌or◌, and_left, and_right, and_intro, or_right}
use Rattle.folds.specs.Below.{all_below, any_below, count_below, all_below_at, all_below_all}
use Rattle.rules.specs.declared.Slot.{Slot}
use Rattle.rules.specs.declared.SetUp.{SetUp}
use Rattle.rules.specs.Numbers.{element, group_keeps, numbers_keep, echo_quorum}
use Rattle.rules.specs.Record.{no_slot, no_marks, slot_at, shares_kept, count_e, count_r, zero_slot, new_record, zero_record, setup_keeps, slot_below, exponents_below, matrices_differ, matrices_pass, marks_keep, places_keep, use_keeps, pair_keeps, recovery_keeps, dealt_keeps, entries_zero, sender_zero, unused_zero, matrix_of, sound}
use Rattle.rules.specs.Steps.{quiet}
use Rattle.rules.specs.Answers.{set_up, set_up_rows, first_of, outcome_of, accepted}
use Rattle.rules.specs.Laws.Shape.{Shaped, ShapedSlot}
use Rattle.rules.proofs.Laws.Clauses.{is_sound}
use Rattle.rules.proofs.Laws.Numbers.{bounds, quorum}
use Rattle.rules.proofs.Laws.Table.{none}
use Rattle.rules.proofs.Laws.DemandOne.{outcome_number, set_up_number}

-- ---- the lengths

-- So have those of a zero slot.
pub zero-slot : ShapedSlot zero_slot
unfolding zero_slot
zero-slot =
    record {
      rows = refl;
      row = λ j l. rw (get_or-replicate 8 j (replicate 8 (element 0)) [] l);
      places = refl;
      echoed = refl;
      readied = refl;
    }

-- The arrays of a new record have their lengths.
pub new_shaped : (u : SetUp) → Shaped (new_record u)
unfolding new_record
new_shaped u =
    record {
      slots = refl;
      slot = λ s l. rw (get_or-replicate 20 s zero_slot no_slot l) zero-slot;
      heard = refl;
      marks = λ t l. rw (get_or-replicate 4 t (record { at = replicate 10 false }) no_marks l);
      shares = refl;
    }

-- ---- the clauses of a sound record

-- what holds of an unused slot holds of every slot
every_slot_lem : (u : SetUp) (P : Slot → Bool) → P zero_slot ≡ true → all_below 20 (λ s. P (slot_at (new_record u) s)) ≡ true
unfolding new_record
every_slot_lem u P e = all_below_all (λ s. P (slot_at (new_record u) s)) 20 (λ s l. rw (get_or-replicate 20 s zero_slot no_slot l) e)

module _ (u : SetUp) (h : numbers_keep u ≡ true) where
  -- no count reaches E or k, which are above 0
  pairs : pair_keeps u zero_slot ≡ true
  unfolding zero_slot pair_keeps count_e count_r count_below
  pairs =
      let k = (bounds u h).sizes.low in
      let E = (quorum u).threshold in
      rw (lt-leb (echo_quorum u) 0 (omega arith), lt-leb u.k 0 (omega arith))

  recovery : recovery_keeps (new_record u) ≡ true
  unfolding new_record recovery_keeps shares_kept all_below count_below
  recovery =
      let k = (bounds u h).sizes.low in
      rw (le-leb 0 u.k (omega arith), ne_eqb 0 u.k (λ e. let w : ⊥ = omega arith in w))

senders : (u : SetUp) → all_below 10 (sender_zero (new_record u)) ≡ true
unfolding new_record zero_slot all_below sender_zero
senders u = refl

unused : (u : SetUp) → unused_zero (new_record u) ≡ true
unfolding new_record zero_slot unused_zero entries_zero all_below matrix_of
unused u =
    and_intro _ _
    (every_slot_lem u (entries_zero u.k) refl)
    (all_below_all (λ m. ltb m u.n or sender_zero (new_record u) m) 10 (λ m l.
    or_right (ltb m u.n) (sender_zero (new_record u) m) (all_below_at (sender_zero (new_record u)) 10 m (senders u) l)))

-- What an accepted set-up gives is sound.
pub new_sound : (u : SetUp) → group_keeps u ≡ true → numbers_keep u ≡ true → sound (new_record u) ≡ true
unfolding new_record zero_slot setup_keeps exponents_below slot_below matrices_differ matrices_pass marks_keep places_keep use_keeps dealt_keeps all_below any_below count_below
new_sound u g n =
    is_sound (new_record u)
    (record {
      setup = and_intro (group_keeps u) (numbers_keep u) g n;
      exponents = refl;
      differ = refl;
      pass = refl;
      marks = refl;
      places = refl;
      use' = refl;
      pairs = every_slot_lem u (pair_keeps u) (pairs u n);
      completion = refl;
      recovery = recovery u n;
      dealt = refl;
      zero = unused u;
    })

-- ---- the all-zero record

-- The all-zero record is not sound: 0 is the number of no group.
pub zero_unsound : sound zero_record ≡ false
unfolding zero_record new_record sound setup_keeps group_keeps
zero_unsound = refl

-- ---- set-up

twice : (b : Bool) → not (not b) ≡ true → b ≡ true
twice b h = not-false b (not-true (not b) h)

-- An accepted set-up gives a sound record of the right lengths.
pub set_up_sound : (u : SetUp) → (set_up u).answer.no ≡ 0 → (sound (set_up u).next ≡ true) × Shaped (set_up u).next
unfolding set_up outcome_of accepted set_up_rows none
set_up_sound u e =
    let h = (set_up_number u).zero.0 e in
    let g = twice (group_keeps u) (and_left _ _ h) in
    let n = twice (numbers_keep u) (and_left _ _ (and_right (not (not (group_keeps u))) _ h)) in
    let first : first_of (set_up_rows u) ≡ 0 = sym (outcome_number _ (quiet (new_record u)) zero_record) ∙ e in
    rw (eq-eqb (first_of (set_up_rows u)) 0 first) (new_sound u g n, new_shaped u)

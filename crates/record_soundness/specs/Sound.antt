-- A sound record, test by test as the code takes them: what speaks of one slot is one test.
--
-- In order: the tests; those of one slot, from its test and back; those of recovery, and back; those of a sound record, and back.
-- Assumes nothing.
use Rattle.rules.specs.declared.Pair.{Pair}
use Rattle.std.specs.Prelude.{◌≡◌, refl, Bool, true, false, not, ℕ, ◌<◌, eqb, leb}
use Rattle.std.proofs.Common.{ap}
use Rattle.std.proofs.lemmas.Bool.{not-true}
use Rattle.folds.specs.Tests.{◌and◌, same, implies, and_left, and_right, and_intro, same_eq, eq_same, iff_same}
use Rattle.folds.specs.Below.{all_below, all_below_at, all_below_all}
use Rattle.std.specs.Prelude.{Option, Some, None, is_some}
use Rattle.rules.specs.declared.Record.{Record}
use Rattle.rules.specs.declared.Slot.{Slot}
use Rattle.rules.specs.Numbers.{group_keeps, numbers_keep}
use Rattle.rules.specs.Record.{group_in, slot_at, share_at, heard_for, shares_kept, kept_below, setup_keeps, slot_below, exponents_below, matrices_differ, matrices_pass, marks_keep, places_keep, use_keeps, pair_keeps, completion_keeps, recovery_keeps, dealt_keeps, entries_zero, unused_zero, sound}
use Rattle.rules.proofs.Laws.Clauses.{clauses, is_sound}
use Rattle.record_clauses.specs.Clauses.{every_slot, slot_keeps, passes_in, differ_from, all_differ}
use Rattle.record_soundness.specs.Clauses.{share_keeps, shares_keep, recovery_passes, senders_clear, tests_pass}

pub record Tests (x : Record) : Type 0 where
  pub group : group_keeps x.setup ≡ true
  pub numbers : numbers_keep x.setup ≡ true
  pub slots : every_slot x.slots (slot_keeps (group_in x) x.setup) ≡ true
  pub differ : all_differ x.setup.k x.slots ≡ true
  pub marks : marks_keep x ≡ true
  pub completion : completion_keeps x x.progress.completion ≡ true
  pub recovery : recovery_passes (group_in x).q x ≡ true
  pub dealt : dealt_keeps x ≡ true
  pub senders : senders_clear x ≡ true

-- ---- one slot

record SlotTests (x : Record) (slot : Slot) : Type 0 where
  below : slot_below (group_in x).q slot ≡ true
  pass : passes_in (group_in x) x.setup.k slot ≡ true
  places : places_keep slot ≡ true
  use' : use_keeps slot ≡ true
  pair : pair_keeps x.setup slot ≡ true
  zero : entries_zero x.setup.k slot ≡ true

module _ (x : Record) (slot : Slot) where
  slot_tests : slot_keeps (group_in x) x.setup slot ≡ true → SlotTests x slot
  unfolding slot_keeps
  slot_tests h =
      let h1 = and_right (slot_below (group_in x).q slot) _ h in
      let h2 = and_right (passes_in (group_in x) x.setup.k slot) _ h1 in
      let h3 = and_right (places_keep slot) _ h2 in
      let h4 = and_right (use_keeps slot) _ h3 in
      record {
        below = and_left _ _ h;
        pass = and_left _ _ h1;
        places = and_left _ _ h2;
        use' = and_left _ _ h3;
        pair = and_left _ _ h4;
        zero = and_right (pair_keeps x.setup slot) _ h4;
      }

  slot_keeps_lem : SlotTests x slot → slot_keeps (group_in x) x.setup slot ≡ true
  unfolding slot_keeps
  slot_keeps_lem t = rw (t.below, t.pass, t.places, t.use', t.pair) t.zero

-- ---- recovery

-- what the clauses say of a share
record ShareTests (q : ℕ) (commanded heard : Bool) (kept : Option Pair) : Type 0 where
  below : kept_below q kept ≡ true
  command : implies (is_some kept) commanded ≡ true
  alone : same heard (is_some kept) ≡ true

share_tests : (q : ℕ) (commanded heard : Bool) (kept : Option Pair) → share_keeps q commanded heard kept ≡ true → ShareTests q commanded heard kept
share_tests q c h None e = record { below = refl; command = refl; alone = eq_same h false (not-true h e) }
share_tests q c h (Some s) e =
    let rest = and_right h _ e in
    record { below = and_right c _ rest; command = and_left c _ rest; alone = eq_same h true (and_left h _ e) }

share_keeps_lem : (q : ℕ) (commanded heard : Bool) (kept : Option Pair) → ShareTests q commanded heard kept → share_keeps q commanded heard kept ≡ true
share_keeps_lem q c h None t = ap not (same_eq h false t.alone)
share_keeps_lem q c h (Some s) t = rw (same_eq h true t.alone, t.command) t.below

-- what is stored of recovery: the numbers, and the clause on recovery
abbrev stored_below : Record → Bool
stored_below x = all_below 10 (λ m. kept_below (group_in x).q (share_at x.shares m)) and kept_below (group_in x).q x.recovered

-- the parts of both
abbrev done : Record → Bool
done x = implies x.progress.commanded (is_some x.progress.completion)

abbrev few : Record → Bool
few x = leb (shares_kept x.shares) x.setup.k

abbrev given : Record → Bool
given x = same (is_some x.recovered) (eqb (shares_kept x.shares) x.setup.k)

abbrev below : Record → ℕ → Bool
below x m = kept_below (group_in x).q (share_at x.shares m)

abbrev shares : Record → ℕ → Bool
shares x m = share_keeps (group_in x).q x.progress.commanded (heard_for x 4 m) (share_at x.shares m)

abbrev commands : Record → ℕ → Bool
commands x m = implies (is_some (share_at x.shares m)) x.progress.commanded

abbrev alone : Record → ℕ → Bool
alone x m = same (heard_for x 4 m) (is_some (share_at x.shares m))

module _ (x : Record) where
  recovery_passes_lem : stored_below x ≡ true → recovery_keeps x ≡ true → recovery_passes (group_in x).q x ≡ true
  unfolding recovery_keeps recovery_passes shares_keep
  recovery_passes_lem b h =
      let h1 = and_right (done x) _ h in
      let h2 = and_right (all_below 10 (commands x)) _ h1 in
      let h3 = and_right (few x) _ h2 in
      let all =
      all_below_all (shares x) 10 (λ m l.
      share_keeps_lem (group_in x).q x.progress.commanded (heard_for x 4 m) (share_at x.shares m)
      (record {
        below = all_below_at (below x) 10 m (and_left _ _ b) l;
        command = all_below_at (commands x) 10 m (and_left _ _ h1) l;
        alone = all_below_at (alone x) 10 m (and_left _ _ h3) l;
      })) in
      rw (and_left (done x) _ h, all, and_left (few x) _ h2, and_right (all_below 10 (alone x)) (given x) h3) (and_right (all_below 10 (below x)) _ b)

  recovery_clauses : recovery_passes (group_in x).q x ≡ true → (stored_below x ≡ true) × (recovery_keeps x ≡ true)
  unfolding recovery_keeps recovery_passes shares_keep
  recovery_clauses h =
      let h1 = and_right (done x) _ h in
      let h2 = and_right (all_below 10 (shares x)) _ h1 in
      let h3 = and_right (few x) _ h2 in
      let at : (m : ℕ) → m < 10 → ShareTests (group_in x).q x.progress.commanded (heard_for x 4 m) (share_at x.shares m) =
      λ m l. share_tests _ _ _ (share_at x.shares m) (all_below_at (shares x) 10 m (and_left _ _ h1) l) in
      let all-below = all_below_all (below x) 10 (λ m l. (at m l).below) in
      let all-commanded = all_below_all (commands x) 10 (λ m l. (at m l).command) in
      let all-alone = all_below_all (alone x) 10 (λ m l. (at m l).alone) in (
        rw all-below (and_right (given x) _ h3),
        rw (and_left (done x) _ h, all-commanded, and_left (few x) _ h2, all-alone) (and_left (given x) _ h3),
      )

-- ---- the whole record

-- a sound record passes each test
pub tests : (x : Record) → sound x ≡ true → Tests x
unfolding setup_keeps exponents_below matrices_differ matrices_pass unused_zero every_slot passes_in all_differ differ_from senders_clear
tests x h =
    let c = clauses x h in
    record {
      group = and_left _ _ c.setup;
      numbers = and_right (group_keeps x.setup) _ c.setup;
      slots =
          all_below_all _ 20 (λ s l.
          slot_keeps_lem x (slot_at x s)
          (record {
            below = all_below_at _ 20 s (and_left _ _ c.exponents) l;
            pass = all_below_at _ 20 s c.pass l;
            places = all_below_at _ 20 s c.places l;
            use' = all_below_at _ 20 s c.use' l;
            pair = all_below_at _ 20 s c.pairs l;
            zero = all_below_at _ 20 s (and_left _ _ c.zero) l;
          }));
      differ = c.differ;
      marks = c.marks;
      completion = c.completion;
      recovery = recovery_passes_lem x (and_right (all_below 20 (λ s. slot_below (group_in x).q (slot_at x s))) _ c.exponents) c.recovery;
      dealt = c.dealt;
      senders = and_right (all_below 20 (λ s. entries_zero x.setup.k (slot_at x s))) _ c.zero;
    }

-- and one that passes each is sound
pub tests_sound : (x : Record) → Tests x → sound x ≡ true
unfolding setup_keeps exponents_below matrices_differ matrices_pass unused_zero every_slot passes_in all_differ differ_from senders_clear
tests_sound x t =
    let at : (s : ℕ) → s < 20 → SlotTests x (slot_at x s) = λ s l. slot_tests x (slot_at x s) (all_below_at _ 20 s t.slots l) in
    let recovery = recovery_clauses x t.recovery in
    is_sound x
    (record {
      setup = and_intro _ _ t.group t.numbers;
      exponents = and_intro _ _ (all_below_all _ 20 (λ s l. (at s l).below)) recovery.0;
      differ = t.differ;
      pass = all_below_all _ 20 (λ s l. (at s l).pass);
      marks = t.marks;
      places = all_below_all _ 20 (λ s l. (at s l).places);
      use' = all_below_all _ 20 (λ s l. (at s l).use');
      pairs = all_below_all _ 20 (λ s l. (at s l).pair);
      completion = t.completion;
      recovery = recovery.1;
      dealt = t.dealt;
      zero = and_intro _ _ (all_below_all _ 20 (λ s l. (at s l).zero)) t.senders;
    })

-- ---- the tests in the code's order are the sentence

module _ (x : Record) where
  pub sound_is : sound x ≡ (group_keeps x.setup and numbers_keep x.setup and tests_pass (group_in x) x)
  unfolding tests_pass
  sound_is = iff_same (sound x) (group_keeps x.setup and numbers_keep x.setup and tests_pass (group_in x) x) there back
    where
      there : sound x ≡ true → (group_keeps x.setup and numbers_keep x.setup and tests_pass (group_in x) x) ≡ true
      there h = let t = tests x h in rw (t.group, t.numbers, t.slots, t.differ, t.marks, t.completion, t.recovery, t.dealt) t.senders

      back : (group_keeps x.setup and numbers_keep x.setup and tests_pass (group_in x) x) ≡ true → sound x ≡ true
      back h =
          let h1 = and_right (group_keeps x.setup) _ h in
          let h2 = and_right (numbers_keep x.setup) _ h1 in
          let h3 = and_right (every_slot x.slots (slot_keeps (group_in x) x.setup)) _ h2 in
          let h4 = and_right (all_differ x.setup.k x.slots) _ h3 in
          let h5 = and_right (marks_keep x) _ h4 in
          let h6 = and_right (completion_keeps x x.progress.completion) _ h5 in
          let h7 = and_right (recovery_passes (group_in x).q x) _ h6 in
          tests_sound x
          (record {
            group = and_left _ _ h;
            numbers = and_left _ _ h1;
            slots = and_left _ _ h2;
            differ = and_left _ _ h3;
            marks = and_left _ _ h4;
            completion = and_left _ _ h5;
            recovery = and_left _ _ h6;
            dealt = and_left _ _ h7;
            senders = and_right (dealt_keeps x) _ h7;
          })

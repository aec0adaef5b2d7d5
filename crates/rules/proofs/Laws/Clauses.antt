-- A sound record, clause by clause.
-- Assumes nothing.
use Rattle.std.specs.Prelude.{◌≡◌, Bool, true}
use Rattle.folds.specs.Tests.{◌and◌, and_left, and_right}
use Rattle.folds.specs.Below.{all_below}
use Rattle.rules.specs.declared.Record.{Record}
use Rattle.rules.specs.Record.{slot_at, setup_keeps, exponents_below, matrices_differ, matrices_pass, marks_keep, places_keep, use_keeps, pair_keeps, completion_keeps, recovery_keeps, dealt_keeps, unused_zero, sound}

pub record Clauses (x : Record) : Type 0 where
  pub setup : setup_keeps x ≡ true
  pub exponents : exponents_below x ≡ true
  pub differ : matrices_differ x ≡ true
  pub pass : matrices_pass x ≡ true
  pub marks : marks_keep x ≡ true
  pub places : all_below 20 (λ s. places_keep (slot_at x s)) ≡ true
  pub use' : all_below 20 (λ s. use_keeps (slot_at x s)) ≡ true
  pub pairs : all_below 20 (λ s. pair_keeps x.setup (slot_at x s)) ≡ true
  pub completion : completion_keeps x x.progress.completion ≡ true
  pub recovery : recovery_keeps x ≡ true
  pub dealt : dealt_keeps x ≡ true
  pub zero : unused_zero x ≡ true

and_12 : (a b c d e f g h i j k l : Bool) → a and b and c and d and e and f and g and h and i and j and k and l ≡ true
    → (a ≡ true) × (b ≡ true) × (c ≡ true) × (d ≡ true) × (e ≡ true) × (f ≡ true) × (g ≡ true) × (h ≡ true) × (i ≡ true) × (j ≡ true) × (k ≡ true) × (l ≡ true)
and_12 a b c d e f g h i j k l z =
    let z1 = and_right a _ z in
    let z2 = and_right b _ z1 in
    let z3 = and_right c _ z2 in
    let z4 = and_right d _ z3 in
    let z5 = and_right e _ z4 in
    let z6 = and_right f _ z5 in
    let z7 = and_right g _ z6 in
    let z8 = and_right h _ z7 in
    let z9 = and_right i _ z8 in
    let z10 = and_right j _ z9 in (
      and_left a _ z,
      and_left b _ z1,
      and_left c _ z2,
      and_left d _ z3,
      and_left e _ z4,
      and_left f _ z5,
      and_left g _ z6,
      and_left h _ z7,
      and_left i _ z8,
      and_left j _ z9,
      and_left k l z10,
      and_right k l z10,
    )

-- the test of a sound record is its clauses
pub clauses : (x : Record) → sound x ≡ true → Clauses x
unfolding sound
clauses x z =
    let c = and_12 (setup_keeps x) (exponents_below x) (matrices_differ x) (matrices_pass x) (marks_keep x)
    (all_below 20 (λ s. places_keep (slot_at x s))) (all_below 20 (λ s. use_keeps (slot_at x s))) (all_below 20 (λ s. pair_keeps x.setup (slot_at x s)))
    (completion_keeps x x.progress.completion) (recovery_keeps x) (dealt_keeps x) (unused_zero x) z in
    record {
      setup = c.0;
      exponents = c.1;
      differ = c.2;
      pass = c.3;
      marks = c.4;
      places = c.5;
      use' = c.6;
      pairs = c.7;
      completion = c.8;
      recovery = c.9;
      dealt = c.10;
      zero = c.11;
    }

pub is_sound : (x : Record) → Clauses x → sound x ≡ true
unfolding sound
is_sound x c =
    rw (c.setup, c.exponents, c.differ, c.pass, c.marks, c.places, c.use', c.pairs, c.completion, c.recovery, c.dealt) c.zero

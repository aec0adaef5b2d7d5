-- A sound record as facts at each index: what a change of one part of the record is followed through by.
--
-- In order: echo and ready as two sides of one thing; the set-up numbers; a slot; the record.
-- Assumes nothing.
use Rattle.rules.specs.declared.Pair.{Pair}
use Rattle.std.specs.Prelude.{◌≡◌, Bool, true, false, List, ℕ, ◌+◌, ◌<◌, ◌≤◌, eqb, leb, get_or}
use Rattle.std.proofs.Common.{sym, ◌∙◌, arith}
use Rattle.folds.specs.Tests.{◌or◌, or_false}
use Rattle.folds.specs.Below.{any_below}
use Rattle.rules.specs.declared.SetUp.{SetUp}
use Rattle.std.specs.Prelude.{Option, Some, is_some}
use Rattle.rules.specs.declared.Marks.{Marks}
use Rattle.rules.specs.declared.Slot.{Slot}
use Rattle.rules.specs.declared.Progress.{Progress}
use Rattle.rules.specs.declared.Record.{Record}
use Rattle.rules.specs.declared.Side.{Side}
use Rattle.rules.specs.declared.Side.TheVariants.{ByEcho, ByReady}
use Rattle.rules.specs.Numbers.{group_of, group_keeps, numbers_keep, echo_quorum}
use Rattle.rules.specs.Dealing.{matrix_passes}
use Rattle.rules.specs.Record.{no_marks, no_slot, slot_at, marked, place_at, share_at, matrix_of, held, count_e, count_r, shares_kept, same_matrix, point_below, kept_below, entries_zero}
use Rattle.rules.proofs.Laws.Numbers.{bounds, quorum, group_rule}

-- ---- echo and ready

abbrev pub marks_of : Side → Slot → Marks
marks_of ByEcho slot = slot.echoed
marks_of ByReady slot = slot.readied

abbrev pub mark_at : Side → Record → ℕ → ℕ → Bool
mark_at b x m s = marked (marks_of b (slot_at x s)) m

-- where those stand who are heard for the side's tag
abbrev pub ear : Side → ℕ
ear ByEcho = 1
ear ByReady = 2

abbrev pub hears : Record → ℕ → ℕ → Bool
hears x a m = marked (get_or x.heard a no_marks) m

-- ---- the set-up numbers

-- what a change of the record needs of them
pub record Needed (u : SetUp) : Type 0 where
  pub boxes : u.n ≤ 10
  pub above : u.t < u.k
  pub quorum : u.k ≤ echo_quorum u
  pub order : 0 < (group_of u.group).q

-- ---- a slot

-- what a slot holds, but for its being in use and its pair's being there: those change as a message is taken
pub record Contents (u : SetUp) (slot : Slot) : Type 0 where
  pub points : (m : ℕ) → m < 10 → point_below (group_of u.group).q (place_at slot m).point ≡ true
  pub pair : kept_below (group_of u.group).q slot.pair ≡ true
  pub passes : slot.used ≡ true → matrix_passes (group_of u.group) u.k (matrix_of slot) ≡ true
  pub places : (m : ℕ) → m < 10 → held slot m ≡ marked slot.echoed m or marked slot.readied m
  pub zero : entries_zero u.k slot ≡ true
  pub above : (m : ℕ) → m < 10 → u.n ≤ m → held slot m ≡ false

abbrev pub PairRight : SetUp → Slot → Type 0
PairRight u slot = is_some slot.pair ≡ leb (echo_quorum u) (count_e slot) or leb u.k (count_r slot)

pub record SlotFacts (u : SetUp) (slot : Slot) : Type 0 where
  pub contents : Contents u slot
  pub in_use : slot.used ≡ any_below 10 (held slot)
  pub right : PairRight u slot

-- A sender whose place is not held is marked for neither.
pub unmarked : (u : SetUp) (slot : Slot) → Contents u slot → (b : Side) (m : ℕ) → m < 10 → held slot m ≡ false → marked (marks_of b slot) m ≡ false
unmarked u slot c ByEcho m l e = (or_false (marked slot.echoed m) (marked slot.readied m) (sym (c.places m l) ∙ e)).0
unmarked u slot c ByReady m l e = (or_false (marked slot.echoed m) (marked slot.readied m) (sym (c.places m l) ∙ e)).1

-- ---- the record

-- what holds of slot s if the box has completed with it
pub record DoneWith (u : SetUp) (s : ℕ) (slot : Slot) : Type 0 where
  pub within : s < 20
  pub used : slot.used ≡ true
  pub readies : u.k + u.t ≤ count_r slot

-- A group of facts speaks of the parts of the record that it is about, so that it passes whole where those stay.

pub record SlotsFacts (u : SetUp) (slots : List Slot) (ears : List Marks) : Type 0 where
  pub each : (s : ℕ) → s < 20 → SlotFacts u (get_or slots s no_slot)
  pub differ : (s r : ℕ) → s < 20 → r < 20 → (s ≡ r → ⊥) → (get_or slots s no_slot).used ≡ true → (get_or slots r no_slot).used ≡ true
      → same_matrix u.k (matrix_of (get_or slots s no_slot)) (matrix_of (get_or slots r no_slot)) ≡ false
  pub once : (b : Side) (m s r : ℕ) → m < 10 → s < 20 → r < 20
      → marked (marks_of b (get_or slots s no_slot)) m ≡ true → marked (marks_of b (get_or slots r no_slot)) m ≡ true → s ≡ r
  pub heard : (b : Side) (m s : ℕ) → m < 10 → s < 20 → marked (marks_of b (get_or slots s no_slot)) m ≡ true → marked (get_or ears (ear b) no_marks) m ≡ true

pub record ProgressFacts (u : SetUp) (slots : List Slot) (v : Progress) : Type 0 where
  pub completion : (s : ℕ) → v.completion ≡ Some s → DoneWith u s (get_or slots s no_slot)
  pub commanded : v.commanded ≡ true → is_some v.completion ≡ true
  pub dealt : v.dealt ≡ true → eqb u.i u.d ≡ true

pub record SharesFacts (u : SetUp) (shares : List (Option Pair)) (recovered : Option Pair) (ears : List Marks) (commanded : Bool) : Type 0 where
  pub below : (m : ℕ) → m < 10 → kept_below (group_of u.group).q (share_at shares m) ≡ true
  pub recovered_below : kept_below (group_of u.group).q recovered ≡ true
  pub shared : (m : ℕ) → m < 10 → is_some (share_at shares m) ≡ true → commanded ≡ true
  pub at_most : shares_kept shares ≤ u.k
  pub senders : (m : ℕ) → m < 10 → marked (get_or ears 3 no_marks) m ≡ is_some (share_at shares m)
  pub exactly : is_some recovered ≡ eqb (shares_kept shares) u.k

pub record Facts (x : Record) : Type 0 where
  pub group : group_keeps x.setup ≡ true
  pub numbers : numbers_keep x.setup ≡ true
  pub slots : SlotsFacts x.setup x.slots x.heard
  pub progress : ProgressFacts x.setup x.slots x.progress
  pub shares : SharesFacts x.setup x.shares x.recovered x.heard x.progress.commanded
  pub none : (m a : ℕ) → m < 10 → x.setup.n ≤ m → a < 4 → hears x a m ≡ false

-- The set-up numbers of a record with these facts keep their rules.
pub needed : (x : Record) → Facts x → Needed x.setup
needed x c =
    let s = (bounds x.setup c.numbers).sizes in
    let p = (group_rule x.setup c.group).q_prime in
    record { boxes = s.boxes; above = s.above; quorum = (quorum x.setup).threshold; order = omega (arith, p.big) }

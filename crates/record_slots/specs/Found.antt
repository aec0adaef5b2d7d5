-- The place of a matrix among the slots, and a place that keeps its first point.
-- Assumes nothing.
use Rattle.std.specs.Prelude.{Bool, not, List, ℕ}
use Rattle.rules.specs.declared.Element.{Element}
use Rattle.rules.specs.declared.Four.{Four}
use Rattle.rules.specs.declared.Place.{Place}
use Rattle.rules.specs.declared.Slot.{Slot}
use Rattle.rules.specs.Steps.{first_point}
use Rattle.record_reading.specs.Slots.{slot_in, has_matrix}

abbrev pub has_own : List Slot → ℕ → List (List Element) → ℕ → Bool
has_own slots k C s = has_matrix k C (slot_in slots s)

abbrev pub is_free : List Slot → ℕ → Bool
is_free slots s = not (slot_in slots s).used

abbrev pub held_by : Place → Four → Place
held_by p f = record { point = first_point p.point f }

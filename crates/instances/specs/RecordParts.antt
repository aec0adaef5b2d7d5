-- Parts of a record as literals, and the statement that records are sound or not.
-- Assumes nothing.
use Rattle.rules.specs.declared.Pair.{Pair}
use Rattle.rules.specs.declared.Element.{Element}
use Rattle.std.specs.Prelude.{◌≡◌, Bool, List, map, ℕ}
use Rattle.std.specs.Prelude.{Option, Some}
use Rattle.rules.specs.declared.Marks.{Marks}
use Rattle.rules.specs.declared.Place.{Place}
use Rattle.rules.specs.declared.Point.TheVariants.{Held}
use Rattle.rules.specs.declared.Record.{Record}
use Rattle.rules.specs.declared.Slot.{Slot}
use Rattle.rules.specs.Record.{sound}
use Rattle.rules.specs.HandSums.{four, pair}

-- a place that holds these four numbers
abbrev pub holds : ℕ → ℕ → ℕ → ℕ → Place
holds x x' y y' = record { point = Held (four x x' y y') }

-- a pair that is there
abbrev pub keeps : ℕ → ℕ → Option Pair
keeps s s' = Some (pair s s')

-- whether it is in use, its matrix, places and marks, and the pair kept
abbrev pub slot : Bool → List (List Element) → List Place → Marks → Marks → Option Pair → Slot
slot used rows places echoed readied kept =
    record { used = used; rows = rows; places = places; echoed = echoed; readied = readied; pair = kept }

-- which of these records are sound
abbrev pub Sound : List Record → List Bool → Type 0
Sound xs bs = map sound xs ≡ bs

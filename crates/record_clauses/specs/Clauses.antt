-- What the clauses of slots name beside the definitions of `rules`.
-- Assumes nothing.
use Rattle.std.specs.Prelude.{Bool, true, not, ◌≡◌, List, ℕ, ◌<◌, ◌≤◌, eqb, ltb, get_or}
use Rattle.folds.specs.Tests.{◌and◌, ◌or◌, implies}
use Rattle.folds.specs.Below.{all_below, any_below}
use Rattle.rules.specs.declared.Element.{Element}
use Rattle.rules.specs.declared.Group.{Group}
use Rattle.rules.specs.declared.SetUp.{SetUp}
use Rattle.rules.specs.declared.Slot.{Slot}
use Rattle.rules.specs.Numbers.{element}
use Rattle.rules.specs.Dealing.{matrix_passes}
use Rattle.rules.specs.Record.{held, matrix_of, same_matrix, slot_below, places_keep, use_keeps, pair_keeps, entries_zero}
use Rattle.record_reading.specs.Slots.{slot_in}

-- a test that every slot passes
unfoldable pub every_slot : List Slot → (Slot → Bool) → Bool
every_slot slots P = all_below 20 (λ s. P (slot_in slots s))

unfoldable pub differ_from : ℕ → List Slot → ℕ → Bool
differ_from k slots s =
    all_below s (λ s'. not ((slot_in slots s).used and (slot_in slots s').used and same_matrix k (matrix_of (slot_in slots s)) (matrix_of (slot_in slots s'))))

unfoldable pub all_differ : ℕ → List Slot → Bool
all_differ k slots = all_below 20 (differ_from k slots)

unfoldable pub passes_in : Group → ℕ → Slot → Bool
passes_in G k slot = implies slot.used (matrix_passes G k (matrix_of slot))

unfoldable pub any_held : Slot → Bool
any_held slot = any_below 10 (held slot)

-- every clause that speaks of one slot
unfoldable pub slot_keeps : Group → SetUp → Slot → Bool
slot_keeps G u slot =
    slot_below G.q slot and passes_in G u.k slot and places_keep slot and use_keeps slot and pair_keeps u slot and entries_zero u.k slot

-- a row is zero outside its first k columns, or wholly where its row or its matrix is not in use
unfoldable pub row_zero : Bool → ℕ → List Element → Bool
row_zero used k row = all_below 8 (λ l. (used and ltb l k) or eqb (get_or row l (element 0)).0 0)

-- slot s is in use
pub record UsedAt (k : ℕ) (slots : List Slot) (s : ℕ) : Type 0 where
  pub high : k ≤ 8
  pub place : s < 20
  pub used : (slot_in slots s).used ≡ true

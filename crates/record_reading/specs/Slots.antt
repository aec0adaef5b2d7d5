-- What the readers of slots name beside the definitions of `rules`.
-- Assumes nothing.
use Rattle.std.specs.Prelude.{Bool, List, ℕ, eqb, get_or}
use Rattle.folds.specs.Tests.{◌and◌}
use Rattle.folds.specs.Below.{all_below, count_below}
use Rattle.rules.specs.declared.Element.{Element}
use Rattle.rules.specs.declared.Marks.{Marks}
use Rattle.rules.specs.declared.Slot.{Slot}
use Rattle.rules.specs.Numbers.{element}
use Rattle.rules.specs.Record.{no_slot, marked, matrix_of, same_matrix}

abbrev pub slot_in : List Slot → ℕ → Slot
slot_in slots s = get_or slots s no_slot

unfoldable pub count_marks : Marks → ℕ
count_marks marks = count_below 10 (marked marks)

unfoldable pub same_row : ℕ → List Element → List Element → Bool
same_row k a b = all_below k (λ l. eqb (get_or a l (element 0)).0 (get_or b l (element 0)).0)

-- in use with this matrix
abbrev pub has_matrix : ℕ → List (List Element) → Slot → Bool
has_matrix k C slot = slot.used and same_matrix k (matrix_of slot) C

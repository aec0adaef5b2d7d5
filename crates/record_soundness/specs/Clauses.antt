-- What the tests over the whole record name beside the definitions of `rules`.
-- Assumes nothing.
use Rattle.rules.specs.declared.Pair.{Pair}
use Rattle.std.specs.Prelude.{Bool, not, List, ℕ, eqb, leb, ltb, get_or}
use Rattle.folds.specs.Tests.{◌and◌, ◌or◌, same, implies}
use Rattle.folds.specs.Below.{all_below, any_below, count_below}
use Rattle.std.specs.Prelude.{Option, Some, None, is_some}
use Rattle.rules.specs.declared.Marks.{Marks}
use Rattle.rules.specs.declared.Record.{Record}
use Rattle.rules.specs.declared.Slot.{Slot}
use Rattle.rules.specs.declared.Side.{Side}
use Rattle.rules.specs.declared.Side.TheVariants.{ByEcho, ByReady}
use Rattle.record_reading.specs.Slots.{slot_in}
use Rattle.rules.specs.Dealing.{pair_below}
use Rattle.rules.specs.declared.Group.{Group}
use Rattle.rules.specs.Record.{no_marks, marked, held, share_at, shares_kept, kept_below, sender_zero, marks_keep, completion_keeps, dealt_keeps}
use Rattle.record_clauses.specs.Clauses.{every_slot, slot_keeps, all_differ}

-- sender m + 1 is marked for this side in a slot
abbrev pub mark_of : Side → Slot → ℕ → Bool
mark_of ByEcho slot m = marked slot.echoed m
mark_of ByReady slot m = marked slot.readied m

-- and is so under at most one matrix, and then is heard
unfoldable pub mark_keeps : List Slot → Side → Marks → ℕ → Bool
mark_keeps slots b heard m =
    leb (count_below 20 (λ s. mark_of b (slot_in slots s) m)) 1 and implies (any_below 20 (λ s. mark_of b (slot_in slots s) m)) (marked heard m)

unfoldable pub kind_keeps : List Slot → Side → Marks → Bool
kind_keeps slots b heard = all_below 10 (mark_keeps slots b heard)

-- of a recovery share: "stored exponents are below q", "kept recovery shares a command", "their senders alone are heard for tag 4"
abbrev pub share_keeps : ℕ → Bool → Bool → Option Pair → Bool
share_keeps q commanded heard None = not heard
share_keeps q commanded heard (Some s) = heard and commanded and pair_below q s

unfoldable pub shares_keep : ℕ → Bool → Marks → List (Option Pair) → Bool
shares_keep q commanded heard shares = all_below 10 (λ m. share_keeps q commanded (marked heard m) (share_at shares m))

unfoldable pub recovery_passes : ℕ → Record → Bool
recovery_passes q x =
    implies x.progress.commanded (is_some x.progress.completion)
    and shares_keep q x.progress.commanded (get_or x.heard 3 no_marks) x.shares
    and leb (shares_kept x.shares) x.setup.k
    and same (is_some x.recovered) (eqb (shares_kept x.shares) x.setup.k)
    and kept_below q x.recovered

abbrev pub slot_clear : ℕ → Slot → Bool
slot_clear m slot = not (held slot m) and not (marked slot.echoed m) and not (marked slot.readied m)

unfoldable pub heard_clear : List Marks → ℕ → Bool
heard_clear heard m = all_below 4 (λ t. not (marked (get_or heard t no_marks) m))

unfoldable pub senders_clear : Record → Bool
senders_clear x = all_below 10 (λ m. ltb m x.setup.n or sender_zero x m)

-- the tests in the code's order, behind those of the group and of the numbers
unfoldable pub tests_pass : Group → Record → Bool
tests_pass G x =
    every_slot x.slots (slot_keeps G x.setup)
    and all_differ x.setup.k x.slots
    and marks_keep x
    and completion_keeps x x.progress.completion
    and recovery_passes G.q x
    and dealt_keeps x
    and senders_clear x

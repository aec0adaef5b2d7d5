-- Document 01, "Steps of a box": the record, and when it is sound.
--
-- In order: reading the record; the record of a new box; the sentence "A record is sound when ..", clause by clause.
-- Index m of an array that has a place for each box stands for box m + 1, and index s of the slots for place s.
-- Assumes nothing.
use Rattle.rules.specs.declared.Pair.{Pair}
use Rattle.std.specs.Prelude.{Bool, true, false, not, List, [], ℕ, ◌+◌, ◌-◌, eqb, leb, ltb, get_or, replicate}
use Rattle.folds.specs.Tests.{◌and◌, ◌or◌, same, implies}
use Rattle.folds.specs.Below.{all_below, any_below, count_below}
use Rattle.rules.specs.declared.Element.{Element}
use Rattle.rules.specs.declared.Group.{Group}
use Rattle.rules.specs.declared.SetUp.{SetUp}
use Rattle.rules.specs.declared.Point.{Point}
use Rattle.rules.specs.declared.Point.TheVariants.{Silent, Held}
use Rattle.rules.specs.declared.Place.{Place}
use Rattle.std.specs.Prelude.{Option, Some, None, is_some}
use Rattle.rules.specs.declared.Marks.{Marks}
use Rattle.rules.specs.declared.Slot.{Slot}
use Rattle.rules.specs.declared.Record.{Record}
use Rattle.rules.specs.Numbers.{element, group_of, group_keeps, numbers_keep, echo_quorum}
use Rattle.rules.specs.Matrices.{entry}
use Rattle.rules.specs.Dealing.{matrix_passes, four_below, pair_below}

-- ---- reading the record

abbrev pub silent : Place
silent = record { point = Silent }

abbrev pub nothing : Option Pair
nothing = None

abbrev pub no_marks : Marks
no_marks = record { at = [] }

abbrev pub no_slot : Slot
no_slot = record { used = false; rows = []; places = []; echoed = no_marks; readied = no_marks; pair = nothing }

abbrev pub group_in : Record → Group
group_in x = group_of x.setup.group

abbrev pub slot_at : Record → ℕ → Slot
slot_at x s = get_or x.slots s no_slot

abbrev pub marked : Marks → ℕ → Bool
marked ms m = get_or ms.at m false

abbrev pub heard_for : Record → ℕ → ℕ → Bool
heard_for x tag m = marked (get_or x.heard (tag - 1) no_marks) m

abbrev pub place_at : Slot → ℕ → Place
place_at slot m = get_or slot.places m silent

abbrev pub share_at : List (Option Pair) → ℕ → Option Pair
share_at shares m = get_or shares m nothing

unfoldable pub matrix_of : Slot → List (List Element)
matrix_of slot = slot.rows

abbrev pub is_held : Point → Bool
is_held Silent = false
is_held (Held f) = true

abbrev pub held : Slot → ℕ → Bool
held slot m = is_held (place_at slot m).point

-- "e and r are the numbers of marked senders"
unfoldable pub count_e : Slot → ℕ
count_e slot = count_below 10 (marked slot.echoed)

unfoldable pub count_r : Slot → ℕ
count_r slot = count_below 10 (marked slot.readied)

-- how many recovery shares are kept
unfoldable pub shares_kept : List (Option Pair) → ℕ
shares_kept shares = count_below 10 (λ m. is_some (share_at shares m))

-- two matrices agree in the first k rows and columns
unfoldable pub same_matrix : ℕ → List (List Element) → List (List Element) → Bool
same_matrix k C D = all_below k (λ j. all_below k (λ l. eqb (entry C j l) (entry D j l)))

-- ---- the record of a new box, and the all-zero record

unfoldable pub zero_slot : Slot
zero_slot =
    record {
      used = false;
      rows = replicate 8 (replicate 8 (element 0));
      places = replicate 10 silent;
      echoed = record { at = replicate 10 false };
      readied = record { at = replicate 10 false };
      pair = nothing;
    }

unfoldable pub new_record : SetUp → Record
new_record s =
    record {
      setup = s;
      slots = replicate 20 zero_slot;
      heard = replicate 4 (record { at = replicate 10 false });
      progress = record { dealt = false; completion = None; commanded = false };
      shares = replicate 10 nothing;
      recovered = nothing;
    }

unfoldable pub zero_record : Record
zero_record = new_record (record { group = 0; n = 0; t = 0; k = 0; i = 0; d = 0; session = 0 })

-- ---- "A record is sound when its group and set-up numbers keep their rules;"

unfoldable pub setup_keeps : Record → Bool
setup_keeps x = group_keeps x.setup and numbers_keep x.setup

-- "stored exponents are below q;"
abbrev pub point_below : ℕ → Point → Bool
point_below q Silent = true
point_below q (Held f) = four_below q f

abbrev pub kept_below : ℕ → Option Pair → Bool
kept_below q None = true
kept_below q (Some s) = pair_below q s

unfoldable pub slot_below : ℕ → Slot → Bool
slot_below q slot = all_below 10 (λ m. point_below q (place_at slot m).point) and kept_below q slot.pair

unfoldable pub exponents_below : Record → Bool
exponents_below x =
    all_below 20 (λ s. slot_below (group_in x).q (slot_at x s))
    and all_below 10 (λ m. kept_below (group_in x).q (share_at x.shares m))
    and kept_below (group_in x).q x.recovered

-- "matrices in use are different and would pass refusal 8;"
unfoldable pub matrices_differ : Record → Bool
matrices_differ x =
    all_below 20 (λ s. all_below s (λ s'.
    not ((slot_at x s).used and (slot_at x s').used and same_matrix x.setup.k (matrix_of (slot_at x s)) (matrix_of (slot_at x s')))))

unfoldable pub matrices_pass : Record → Bool
matrices_pass x = all_below 20 (λ s. implies (slot_at x s).used (matrix_passes (group_in x) x.setup.k (matrix_of (slot_at x s))))

-- "a sender is marked for echo or ready under at most one matrix each, and then is heard for that tag;"
abbrev pub echo_mark : Record → ℕ → ℕ → Bool
echo_mark x m s = marked (slot_at x s).echoed m

abbrev pub ready_mark : Record → ℕ → ℕ → Bool
ready_mark x m s = marked (slot_at x s).readied m

unfoldable pub marks_keep : Record → Bool
marks_keep x =
    all_below 10 (λ m. leb (count_below 20 (echo_mark x m)) 1 and implies (any_below 20 (echo_mark x m)) (heard_for x 2 m))
    and all_below 10 (λ m. leb (count_below 20 (ready_mark x m)) 1 and implies (any_below 20 (ready_mark x m)) (heard_for x 3 m))

-- "a place is held exactly if its sender is marked for either;"
unfoldable pub places_keep : Slot → Bool
places_keep slot = all_below 10 (λ m. same (held slot m) (marked slot.echoed m or marked slot.readied m))

-- "a matrix is in use exactly if some place of it is held;"
unfoldable pub use_keeps : Slot → Bool
use_keeps slot = same slot.used (any_below 10 (held slot))

-- "a kept pair is there exactly if e ≥ E or r ≥ k;"
unfoldable pub pair_keeps : SetUp → Slot → Bool
pair_keeps u slot = same (is_some slot.pair) (leb (echo_quorum u) (count_e slot) or leb u.k (count_r slot))

-- "a completed box has one completed matrix in use, with r ≥ k + t;"
abbrev pub completion_keeps : Record → Option ℕ → Bool
completion_keeps x None = true
completion_keeps x (Some s) = ltb s 20 and (slot_at x s).used and leb (x.setup.k + x.setup.t) (count_r (slot_at x s))

-- "a command needs completion, kept recovery shares a command, at most k are kept, their senders alone are heard for
-- tag 4, and the recovered pair is there exactly if k are kept;"
unfoldable pub recovery_keeps : Record → Bool
recovery_keeps x =
    implies x.progress.commanded (is_some x.progress.completion)
    and all_below 10 (λ m. implies (is_some (share_at x.shares m)) x.progress.commanded)
    and leb (shares_kept x.shares) x.setup.k
    and all_below 10 (λ m. same (heard_for x 4 m) (is_some (share_at x.shares m)))
    and same (is_some x.recovered) (eqb (shares_kept x.shares) x.setup.k)

-- "only box d has dealt;"
unfoldable pub dealt_keeps : Record → Bool
dealt_keeps x = implies x.progress.dealt (eqb x.setup.i x.setup.d)

-- "unused places are zero." Entries of matrices not in use, or in a row or column from k on:
unfoldable pub entries_zero : ℕ → Slot → Bool
entries_zero k slot =
    all_below 8 (λ j. all_below 8 (λ l. (slot.used and ltb j k and ltb l k) or eqb (entry (matrix_of slot) j l) 0))

-- and whatever is there of a sender above n
unfoldable pub sender_zero : Record → ℕ → Bool
sender_zero x m =
    all_below 20 (λ s. not (held (slot_at x s) m) and not (echo_mark x m s) and not (ready_mark x m s))
    and all_below 4 (λ t. not (heard_for x (t + 1) m))
    and not (is_some (share_at x.shares m))

unfoldable pub unused_zero : Record → Bool
unused_zero x =
    all_below 20 (λ s. entries_zero x.setup.k (slot_at x s))
    and all_below 10 (λ m. ltb m x.setup.n or sender_zero x m)

unfoldable pub sound : Record → Bool
sound x =
    setup_keeps x
    and exponents_below x
    and matrices_differ x
    and matrices_pass x
    and marks_keep x
    and all_below 20 (λ s. places_keep (slot_at x s))
    and all_below 20 (λ s. use_keeps (slot_at x s))
    and all_below 20 (λ s. pair_keeps x.setup (slot_at x s))
    and completion_keeps x x.progress.completion
    and recovery_keeps x
    and dealt_keeps x
    and unused_zero x

-- What `show` says: all that a record holds, but for the points of its places, which `Points` has.
--
-- In order: a line each for the set-up numbers, for dealing and for who is heard; the places in use; completion, the command and the
-- recovery shares; the whole; a law of the writers. Every record has its lines. Two of them no sound record has: `completed place S
-- share none`, where no pair is kept with the completed matrix, and `completed no place`, where there is no such matrix.
-- Assumes nothing.
use Rattle.std.specs.Prelude.{Bool, List, [], ◌++◌, map, ◌≡◌, ℕ, ◌≤◌, eqb, ltb, get_or, Option, Some, None, is_some}
use Rattle.std.proofs.Common.{arith}
use Rattle.folds.specs.Tests.{pick}
use Rattle.folds.specs.Below.{count_below_le}
use Rattle.folds.specs.Runs.{gather}
use Rattle.rules.specs.declared.Element.{Element}
use Rattle.rules.specs.declared.Marks.{Marks}
use Rattle.rules.specs.declared.Pair.{Pair}
use Rattle.rules.specs.declared.Progress.{Progress}
use Rattle.rules.specs.declared.Record.{Record}
use Rattle.rules.specs.declared.SetUp.{SetUp}
use Rattle.rules.specs.declared.Slot.{Slot}
use Rattle.rules.specs.Numbers.{element}
use Rattle.rules.specs.Record.{no_marks, marked, matrix_of, count_e, count_r}
use Rattle.rules.specs.Text.{text}
use Rattle.record_reading.specs.Slots.{slot_in, count_marks}
use Rattle.console_shows.specs.Parts.{least, numbered, widely, boxes_text, kept_text}

unfoldable pub sizes_text : SetUp → List ℕ
sizes_text u = widely (text " n ") u.n ++ widely (text " t ") u.t ++ widely (text " k ") u.k

unfoldable pub set_up_line : SetUp → List ℕ
set_up_line u =
    widely (text "box ") u.i
    ++ widely (text " group ") u.group
    ++ sizes_text u
    ++ widely (text " dealer ") u.d
    ++ widely (text " session ") u.session
    ++ text "\n"

-- at the dealer's own box only
unfoldable pub dealt_line : SetUp → Bool → List ℕ
dealt_line u dealt = pick (eqb u.i u.d) (pick dealt (text "dealt\n") (text "not dealt\n")) []

-- who is heard for a tag; tag 1 stands at 0
unfoldable pub heard_text : List ℕ → List Marks → ℕ → List ℕ
heard_text word heard tag = word ++ boxes_text (get_or heard tag no_marks)

unfoldable pub heard_line : List Marks → List ℕ
heard_line heard =
    heard_text (text "heard send") heard 0
    ++ heard_text (text " echo") heard 1
    ++ heard_text (text " ready") heard 2
    ++ heard_text (text " recovery") heard 3
    ++ text "\n"

-- ---- the places in use

unfoldable pub row_text : ℕ → List Element → List ℕ
row_text width row = gather width (λ l. numbered (text " ") (get_or row l (element 0)).0)

-- the first k rows and columns
unfoldable pub matrix_text : ℕ → List (List Element) → List ℕ
matrix_text k C = gather (least k 8) (λ j. row_text (least k 8) (get_or C j []))

unfoldable pub counts_text : ℕ → Slot → List ℕ
counts_text s slot = numbered (text "place ") s ++ numbered (text " e ") (count_e slot) ++ numbered (text " r ") (count_r slot)

unfoldable pub place_line : ℕ → ℕ → Slot → List ℕ
place_line k s slot = counts_text s slot ++ text " matrix" ++ matrix_text k (matrix_of slot) ++ text "\n"

unfoldable pub place_lines : ℕ → List Slot → List ℕ
place_lines k slots = gather 20 (λ s. pick (slot_in slots s).used (place_line k s (slot_in slots s)) [])

-- ---- completion and recovery

-- the place of the completed matrix, and the pair that is kept there
unfoldable pub completed_line : ℕ → Option Pair → List ℕ
completed_line s kept = numbered (text "completed place ") s ++ kept_text (text " share ") (text " share none\n") kept

abbrev pub completion_line : List Slot → Option ℕ → List ℕ
completion_line slots None = text "not completed\n"
completion_line slots (Some s) = pick (ltb s 20) (completed_line s (slot_in slots s).pair) (text "completed no place\n")

unfoldable pub commanded_line : Bool → List ℕ
commanded_line commanded = pick commanded (text "commanded\n") (text "not commanded\n")

-- a mark for each box whose recovery share is kept
abbrev pub kept_marks : List (Option Pair) → Marks
kept_marks shares = record { at = map (λ keep. is_some keep) shares }

unfoldable pub kept_line : List (Option Pair) → List ℕ
kept_line shares = (text "kept" ++ boxes_text (kept_marks shares)) ++ text "\n"

abbrev pub recovered_line : Option Pair → List ℕ
recovered_line recovered = kept_text (text "recovered ") (text "not recovered\n") recovered

-- ---- the whole

unfoldable pub first_lines : SetUp → Bool → List Marks → List ℕ
first_lines u dealt heard = set_up_line u ++ dealt_line u dealt ++ heard_line heard

unfoldable pub last_lines : List Slot → Progress → List (Option Pair) → Option Pair → List ℕ
last_lines slots progress shares recovered =
    completion_line slots progress.completion ++ commanded_line progress.commanded ++ kept_line shares ++ recovered_line recovered

-- only the all-zero record has group 0
unfoldable pub show_lines : Record → List ℕ
show_lines x =
    pick (eqb x.setup.group 0) (text "no box\n")
    (first_lines x.setup x.progress.dealt x.heard
    ++ place_lines x.setup.k x.slots
    ++ last_lines x.slots x.progress x.shares x.recovered)

-- ---- a law of the writers: a count of marks is at most ten

pub count_small : (marks : Marks) {n : ℕ} → n ≡ count_marks marks → n ≤ 10
unfolding count_marks
count_small marks e = omega (arith, count_below_le (marked marks) 10)

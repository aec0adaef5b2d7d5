-- Document 01, "Answer numbers": the table of refusals, the order of each call, and the whole outcome of each call.
--
-- In order: refusals and their order; outcomes; the four calls, each with its rows of the table and its promise, the
-- predicate that the contract of the code cites.
-- Assumes nothing.
use Rattle.std.specs.Prelude.{◌≡◌, Bool, true, false, not, List, [], ◌∷◌, ◌++◌, map, ℕ, ◌-◌, eqb, ltb, length}
use Rattle.folds.specs.Tests.{◌and◌, ◌or◌, pick}
use Rattle.rules.specs.declared.Pair.{Pair}
use Rattle.std.specs.Prelude.{Option, Some, None, is_some}
use Rattle.rules.specs.declared.Record.{Record}
use Rattle.rules.specs.declared.SetUp.{SetUp}
use Rattle.rules.specs.declared.Sent.TheVariants.{Nothing}
use Rattle.rules.specs.declared.Answer.{Answer}
use Rattle.rules.specs.declared.Outcome.{Outcome}
use Rattle.rules.specs.Numbers.{exponent, group_of, group_keeps, numbers_keep, is_box}
use Rattle.rules.specs.declared.Message.{Message}
use Rattle.rules.specs.declared.Message.TheVariants.{Send as send, Echo as echo, Ready as ready, Recovery as recovery}
use Rattle.rules.specs.Messages.{tag_in, has_matrix, malformed, foreign, message_in, matrix_in, written}
use Rattle.rules.specs.Dealing.{coins_keep, matrix_passes, polynomials_below, four_below, pair_below, polynomial_check, point_check, share_check}
use Rattle.rules.specs.Record.{group_in, slot_at, heard_for, matrix_of, new_record, zero_record, sound}
use Rattle.rules.specs.Steps.{Step, heard, message_step, deal_step, recover_step, quiet}

-- ---- refusals and their order

-- a row of the table: its number, whether it holds, and whether it marks the sender heard
pub record Row : Type 0 where
  pub number : ℕ
  pub holds : Bool
  pub marks : Bool

infix 70 ◌when◌
abbrev pub ◌when◌ : ℕ → Bool → Row
n when b = record { number = n; holds = b; marks = false }

-- the row that marks the sender heard exactly if m
abbrev pub marking : Bool → Row → Row
marking m x = record { number = x.number; holds = x.holds; marks = m }

-- the first row that holds; where none does, 0: accepted
unfoldable pub first_row : List Row → Row
first_row [] = 0 when true
first_row (x ∷ xs) = pick x.holds x (first_row xs)

-- its number
abbrev pub first_of : List Row → ℕ
first_of rows = (first_row rows).number

-- ---- outcomes

-- what a call answers and leaves: its outcome, and the lent buffer at exit
pub record Done : Type 0 where
  pub outcome : Outcome
  pub buffer : List ℕ

abbrev pub done : Outcome → List ℕ → Done
done o buffer = record { outcome = o; buffer = buffer }

abbrev pub no_pair : Pair
no_pair = record { first = exponent 0; second = exponent 0 }

-- "which (0, 0 with "no" if it did not)"
abbrev pub pair_told : Option Pair → Pair
pair_told None = no_pair
pair_told (Some s) = s

-- "0 is accepted, with what was sent, bytes written, whether the box completed just now, and whether this call
-- recovered a pair, and which"
unfoldable pub accepted : Step → Outcome
accepted x =
    record {
      answer = record {
        no = 0;
        sent = x.sent;
        bytes = length x.bytes;
        completed = x.completed;
        recovered = is_some x.recovered;
        pair = pair_told x.recovered;
      };
      next = x.after;
    }

-- "A refusal gives its number and otherwise zeros."
unfoldable pub refused : ℕ → Record → Outcome
refused n x =
    record { answer = record { no = n; sent = Nothing; bytes = 0; completed = false; recovered = false; pair = no_pair }; next = x }

-- the outcome of a call with this number, step and record after a refusal
unfoldable pub outcome_of : ℕ → Step → Record → Outcome
outcome_of n x after = pick (eqb n 0) (accepted x) (refused n after)

-- "No refusal writes to the outgoing buffer."
unfoldable pub answered : ℕ → Step → Record → List ℕ → Done
answered n x after buffer = done (outcome_of n x after) (pick (eqb n 0) (written x.bytes buffer) buffer)

-- ---- set-up: "Order: set-up 11, 12."

unfoldable pub set_up_rows : SetUp → List Row
set_up_rows u =
    -- "group not 1 or 2"
    11 when not (group_keeps u)
    -- "n, t, k, i, d or the session breaks its rule"
    ∷ 12 when not (numbers_keep u)
    ∷ []

-- "A refused set-up gives the all-zero record"
unfoldable pub set_up : SetUp → Outcome
set_up u = outcome_of (first_of (set_up_rows u)) (quiet (new_record u)) zero_record

-- the promise of set-up
abbrev pub SetsUp : SetUp → Outcome → Type 0
SetsUp u o = o ≡ set_up u

-- ---- commands: "Commands 15, 12, 13, 14."

-- "Every call that can send wants at least 2,048 lent bytes"
abbrev pub too_short : ℕ → Bool
too_short lent = ltb lent 2048

-- the rows of every call on a record, with this many lent bytes: "15, 12"
unfoldable pub call_rows : Record → ℕ → List Row
call_rows x lent =
    15 when too_short lent
    -- "the record is not sound"
    ∷ 12 when not (sound x)
    ∷ []

unfoldable pub own_deal_rows : Record → ℕ → List ℕ → List Row
own_deal_rows x secret coins =
    -- "deal by another box than d or a second time"
    13 when not (eqb x.setup.i x.setup.d) or x.progress.dealt
    -- "secret ≥ q, coins not 2k² - 1 in number, or a coin ≥ q"
    ∷ 14 when not (coins_keep x.setup secret coins)
    ∷ []

unfoldable pub deal_rows : Record → ℕ → List ℕ → ℕ → List Row
deal_rows x secret coins lent = call_rows x lent ++ own_deal_rows x secret coins

unfoldable pub deal : Record → ℕ → List ℕ → List ℕ → Done
deal x secret coins buffer = answered (first_of (deal_rows x secret coins (length buffer))) (deal_step x secret coins) x buffer

-- the promise of a deal
abbrev pub Deals : Record → ℕ → List ℕ → List ℕ → Outcome → List ℕ → Type 0
Deals x secret coins buffer o buffer' = done o buffer' ≡ deal x secret coins buffer

unfoldable pub own_recover_rows : Record → List Row
own_recover_rows x =
    -- "recovery command before completion or a second time"
    13 when not (is_some x.progress.completion) or x.progress.commanded
    ∷ []

unfoldable pub recover_rows : Record → ℕ → List Row
recover_rows x lent = call_rows x lent ++ own_recover_rows x

unfoldable pub recover : Record → List ℕ → Done
recover x buffer = answered (first_of (recover_rows x (length buffer))) (recover_step x) x buffer

-- the promise of a recovery command
abbrev pub Recovers : Record → List ℕ → Outcome → List ℕ → Type 0
Recovers x buffer o buffer' = done o buffer' ≡ recover x buffer

-- ---- delivery: "Delivery 15, 12, then 1 to 10 by number."

-- the exponents of a message are below q
abbrev pub exponents_keep : SetUp → Message → Bool
exponents_keep u (send C P) = polynomials_below (group_of u.group).q u.k P
exponents_keep u (echo C f) = four_below (group_of u.group).q f
exponents_keep u (ready C f) = four_below (group_of u.group).q f
exponents_keep u (recovery s) = pair_below (group_of u.group).q s

-- the check of a message's kind, from box m; a recovery share is checked against the completed matrix
abbrev pub share_checks : Record → Option ℕ → ℕ → Pair → Bool
share_checks x None m s = false
share_checks x (Some c) m s = share_check (group_in x) x.setup.k (matrix_of (slot_at x c)) m s

abbrev pub checks : Record → ℕ → Message → Bool
checks x m (send C P) = polynomial_check (group_in x) x.setup.k C x.setup.i P
checks x m (echo C f) = point_check (group_in x) x.setup.k C x.setup.i m f
checks x m (ready C f) = point_check (group_in x) x.setup.k C x.setup.i m f
checks x m (recovery s) = share_checks x x.progress.completion m s

-- whether the message is one for this box: 1 to 3
unfoldable pub form_rows : SetUp → ℕ → List ℕ → List Row
form_rows u sender bytes =
    -- "sender is 0 or above n"
    1 when not (is_box u sender)
    ∷ 2 when malformed u bytes
    ∷ 3 when foreign u bytes
    ∷ []

-- whether its sender may say it now: 4 to 7
unfoldable pub turn_rows : Record → ℕ → List ℕ → List Row
turn_rows x sender bytes =
    -- "a send from a box other than d"
    4 when eqb (tag_in bytes) 1 and not (eqb sender x.setup.d)
    -- "recovery share before this box has completed and been commanded"
    ∷ 5 when eqb (tag_in bytes) 4 and not (is_some x.progress.completion and x.progress.commanded)
    -- "recovery share after the pair was given"
    ∷ 6 when eqb (tag_in bytes) 4 and is_some x.recovered
    -- "sender already heard for this tag"
    ∷ 7 when heard_for x (tag_in bytes) (sender - 1)
    ∷ []

-- what it says: 8 to 10
abbrev pub hearing_tests : Record → ℕ → List ℕ → List Row
hearing_tests x sender bytes =
    -- "a matrix entry e is 0, ≥ p, or e^q is not 1"
    8 when has_matrix (tag_in bytes) and not (matrix_passes (group_in x) x.setup.k (matrix_in x.setup bytes))
    -- "an exponent ≥ q"
    ∷ 9 when not (exponents_keep x.setup (message_in x.setup bytes))
    -- "the check of its kind fails"
    ∷ 10 when not (checks x sender (message_in x.setup bytes))
    ∷ []

-- "All refusals leave the record as it came, except that 8, 9 and 10 on tags 1, 2, 3 mark that sender heard for that tag: only
-- the first one gets a hearing."
unfoldable pub hearing_rows : Record → ℕ → List ℕ → List Row
hearing_rows x sender bytes = map (marking (has_matrix (tag_in bytes))) (hearing_tests x sender bytes)

-- those before the hearing mark nobody
unfoldable pub early_rows : Record → ℕ → List ℕ → ℕ → List Row
early_rows x sender bytes lent = call_rows x lent ++ (form_rows x.setup sender bytes ++ turn_rows x sender bytes)

unfoldable pub deliver_rows : Record → ℕ → List ℕ → ℕ → List Row
deliver_rows x sender bytes lent = early_rows x sender bytes lent ++ hearing_rows x sender bytes

-- the record after a refusal, by whether its row marks the sender heard
unfoldable pub refusal_heard : Bool → Record → ℕ → List ℕ → Record
refusal_heard marks x sender bytes = pick marks (heard x (tag_in bytes) (sender - 1)) x

unfoldable pub deliver : Record → ℕ → List ℕ → List ℕ → Done
deliver x sender bytes buffer =
    answered (first_of (deliver_rows x sender bytes (length buffer)))
    (message_step x (sender - 1) (message_in x.setup bytes))
    (refusal_heard (first_row (deliver_rows x sender bytes (length buffer))).marks x sender bytes)
    buffer

-- the promise of a delivery
abbrev pub Delivers : Record → ℕ → List ℕ → List ℕ → Outcome → List ℕ → Type 0
Delivers x sender bytes buffer o buffer' = done o buffer' ≡ deliver x sender bytes buffer

-- the promise of a delivery over a lent record: x at entry, x' at exit
abbrev pub DeliversLent : Record → ℕ → List ℕ → List ℕ → Answer → Record → List ℕ → Type 0
DeliversLent x sender bytes buffer a x' buffer' = Delivers x sender bytes buffer (record { answer = a; next = x' }) buffer'

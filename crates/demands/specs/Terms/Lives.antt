-- Of a life, whatever a box is told and sent: what has been checked in it, what the box holds for a matrix, what it has sent, and
-- what one call sends.
--
-- In that order.
-- Assumes nothing.
use Rattle.std.specs.Prelude.{Bool, false, List, [], ◌∷◌, ℕ, ◌+◌, eqb, ltb, take, ◌≡◌}
use Rattle.folds.specs.Tests.{◌and◌, ◌or◌, pick}
use Rattle.rules.specs.declared.Element.{Element}
use Rattle.rules.specs.declared.Four.{Four}
use Rattle.std.specs.Prelude.{Option, Some, None}
use Rattle.rules.specs.declared.Pair.{Pair}
use Rattle.rules.specs.declared.Point.{Point}
use Rattle.rules.specs.declared.Point.TheVariants.{Silent}
use Rattle.rules.specs.declared.Record.{Record}
use Rattle.rules.specs.declared.Sent.{Sent}
use Rattle.rules.specs.declared.Sent.TheVariants.{Nothing, Send, Echo, Ready, Recovery}
use Rattle.rules.specs.declared.SetUp.{SetUp}
use Rattle.rules.specs.declared.Message.TheVariants.{Echo as echo, Ready as ready, Recovery as recovery}
use Rattle.rules.specs.Messages.{tag_in, matrix_in, four_in, pair_in, polynomials_in, to_each}
use Rattle.rules.specs.Record.{slot_at, same_matrix, count_e, count_r}
use Rattle.rules.specs.Steps.{Said, points, own_slot, first_point, echo_four, ready_four}
use Rattle.rules.specs.Answers.{Done}
use Rattle.demands.specs.Terms.Histories.{Call, deals, gets, commanded, doing, after, wrote, message_to, own}
use Rattle.demands.specs.Terms.Dealing.{order, sends_of}

-- ---- what has been checked

-- this call, which got this number, is a message of sender m with this tag, for this matrix, and is accepted: it was checked
abbrev pub checks_by : ℕ → Record → Call → ℕ → ℕ → List (List Element) → Bool
checks_by number x (deals secret coins lent) tag m C = false
checks_by number x (gets sender bytes lent) tag m C =
    eqb number 0 and eqb sender m and eqb (tag_in bytes) tag and same_matrix x.setup.k (matrix_in x.setup bytes) C
checks_by number x (commanded lent) tag m C = false

unfoldable pub checks_now : Record → Call → ℕ → ℕ → List (List Element) → Bool
checks_now x c tag m C = checks_by (doing x c).outcome.answer.no x c tag m C

abbrev pub sender_of : Call → ℕ
sender_of (deals secret coins lent) = 0
sender_of (gets sender bytes lent) = sender
sender_of (commanded lent) = 0

-- some call so far was
unfoldable pub checked : SetUp → List Call → ℕ → ℕ → List (List Element) → Bool
checked u [] tag m C = false
checked u (c ∷ cs) tag m C = checks_now (after u cs) c tag m C or checked u cs tag m C

-- an echo or a ready of sender m for this matrix
abbrev pub takes_now : Record → Call → ℕ → List (List Element) → Bool
takes_now x c m C = checks_now x c 2 m C or checks_now x c 3 m C

-- the four numbers of a call's message
abbrev pub four_of : Record → Call → Four
four_of x (deals secret coins lent) = four_in x.setup []
four_of x (gets sender bytes lent) = four_in x.setup bytes
four_of x (commanded lent) = four_in x.setup []

-- the point of the first checked echo or ready of sender m for this matrix; silent, as long as there is none
unfoldable pub said : SetUp → List Call → ℕ → List (List Element) → Point
said u [] m C = Silent
said u (c ∷ cs) m C =
    pick (takes_now (after u cs) c m C) (first_point (said u cs m C) (four_of (after u cs) c)) (said u cs m C)

-- the call is a recovery share of sender m that is accepted
unfoldable pub share_now : Record → Call → ℕ → Bool
share_now x (deals secret coins lent) m = false
share_now x (gets sender bytes lent) m =
    eqb (doing x (gets sender bytes lent)).outcome.answer.no 0 and eqb sender m and eqb (tag_in bytes) 4
share_now x (commanded lent) m = false

abbrev pub pair_of : Call → Pair
pair_of (deals secret coins lent) = pair_in []
pair_of (gets sender bytes lent) = pair_in bytes
pair_of (commanded lent) = pair_in []

-- the checked recovery share of sender m; absent, as long as there is none
unfoldable pub share_said : SetUp → List Call → ℕ → Option Pair
share_said u [] m = None
share_said u (c ∷ cs) m = pick (share_now (after u cs) c m) (Some (pair_of c)) (share_said u cs m)

-- ---- what a box holds for a matrix

-- e and r of a matrix: those of the place it is in, or 0
unfoldable pub e_of : Record → List (List Element) → ℕ
e_of x C = pick (ltb (own_slot x C) 20) (count_e (slot_at x (own_slot x C))) 0

unfoldable pub r_of : Record → List (List Element) → ℕ
r_of x C = pick (ltb (own_slot x C) 20) (count_r (slot_at x (own_slot x C))) 0

-- the pair kept for a matrix
unfoldable pub kept_for : Record → List (List Element) → Option Pair
kept_for x C = pick (ltb (own_slot x C) 20) (slot_at x (own_slot x C)).pair None

-- the k lowest points held for a matrix
abbrev pub lowest_for : SetUp → Record → List (List Element) → List (Said Four)
lowest_for u x C = take u.k (points (slot_at x (own_slot x C)).places)

-- ---- what a box has sent

-- the tag of it, and 0 of nothing
abbrev pub tag_sent : Sent → ℕ
tag_sent Nothing = 0
tag_sent Send = 1
tag_sent Echo = 2
tag_sent Ready = 3
tag_sent Recovery = 4

abbrev pub is_send : Sent → Bool
is_send what = eqb (tag_sent what) 1

abbrev pub is_echo : Sent → Bool
is_echo what = eqb (tag_sent what) 2

abbrev pub is_ready : Sent → Bool
is_ready what = eqb (tag_sent what) 3

abbrev pub is_recovery : Sent → Bool
is_recovery what = eqb (tag_sent what) 4

-- how many of a list pass a test
unfoldable pub how_many : {A : Type 0} → (A → Bool) → List A → ℕ
how_many p [] = 0
how_many p (a ∷ l) = pick (p a) 1 0 + how_many p l

-- how often ready was sent for a matrix: by a call that is an echo or a ready for it
unfoldable pub readies_sent : SetUp → List Call → List (List Element) → ℕ
readies_sent u [] C = 0
readies_sent u (c ∷ cs) C =
    pick (is_ready (doing (after u cs) c).outcome.answer.sent and takes_now (after u cs) c (sender_of c) C) 1 0
    + readies_sent u cs C

-- ---- what a call sends

-- a call is accepted, and has sent this and written these bytes
pub record Writes (d : Done) (what : Sent) (bytes : List ℕ) : Type 0 where
  pub no : d.outcome.answer.no ≡ 0
  pub sent : d.outcome.answer.sent ≡ what
  pub wrote : wrote d ≡ bytes

-- what box j answers to the message that a call of box i has sent it, where both are of one class and have made these calls before
abbrev pub answer_to : SetUp → (i j : ℕ) → List Call → List Call → Call → ℕ → ℕ
answer_to u i j cs cs' c lent =
    (doing (after (own u j) cs') (gets i (message_to u.n (wrote (doing (after (own u i) cs) c)) j) lent)).outcome.answer.no

-- what a call has sent, by its kind
abbrev pub Sends : SetUp → List Call → Call → Sent → List ℕ → Type 0
Sends u cs c Nothing run = run ≡ []
-- a deal: to each box its send of this secret and these coins
Sends u cs c Send run = (secret : ℕ) × (coins : List ℕ) × (lent : ℕ) × (c ≡ deals secret coins lent) × (run ≡ sends_of u secret coins)
-- a send: the echo of its polynomials
Sends u cs c Echo run =
    (sender lent : ℕ) × (bytes : List ℕ)
    × (c ≡ gets sender bytes lent)
    × (tag_in bytes ≡ 1)
    × (run ≡ to_each u (λ j. echo (matrix_in u bytes) (echo_four (order u) u.k (polynomials_in u bytes) j)))
-- an echo or ready: the ready of the k lowest points then held for its matrix
Sends u cs c Ready run =
    (sender lent : ℕ) × (bytes : List ℕ)
    × (c ≡ gets sender bytes lent)
    × (run ≡ to_each u (λ j. ready (matrix_in u bytes) (ready_four (order u) (lowest_for u (after u (c ∷ cs)) (matrix_in u bytes)) j)))
-- a command: the completed share
Sends u cs c Recovery run =
    (s lent : ℕ) × (p : Pair)
    × (c ≡ commanded lent)
    × ((after u cs).progress.completion ≡ Some s)
    × ((slot_at (after u cs) s).pair ≡ Some p)
    × (run ≡ to_each u (λ j. recovery p))

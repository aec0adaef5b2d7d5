-- Histories: lists of calls on boxes. Nothing is assumed of time or fairness: messages are repeated, dropped, reordered,
-- buffers are short, calls are refused.
--
-- In order: the life of one box; what a box has sent; a class and its history; what the history comes to at each box. In the module
-- below: what an event adds to it (`Added`). Lists of calls and of events have the latest first.
-- Assumes nothing.
use Rattle.std.specs.Prelude.{Bool, not, List, [], ◌∷◌, ◌++◌, ℕ, ◌*◌, ◌-◌, ◌/◌, eqb, ltb, length, get_or, replicate, take, drop}
use Rattle.folds.specs.Tests.{◌and◌, pick}
use Rattle.rules.specs.declared.Answer.{Answer}
use Rattle.rules.specs.declared.Record.{Record}
use Rattle.rules.specs.declared.SetUp.{SetUp}
use Rattle.rules.specs.Numbers.{is_box}
use Rattle.rules.specs.Answers.{Done, set_up, deal, recover, deliver}

-- ---- the life of one box

-- a call to a box, with the length of the lent buffer
pub data Call : Type 0 where
  deals : (secret : ℕ) (coins : List ℕ) (lent : ℕ) → Call
  gets : (sender : ℕ) (bytes : List ℕ) (lent : ℕ) → Call
  commanded : (lent : ℕ) → Call

-- what the box makes of it
unfoldable pub doing : Record → Call → Done
doing x (deals secret coins lent) = deal x secret coins (replicate lent 0)
doing x (gets sender bytes lent) = deliver x sender bytes (replicate lent 0)
doing x (commanded lent) = recover x (replicate lent 0)

-- "set up there once, under its own number and with the set-up numbers that the whole session shares, and each later call
-- gets the record that the last one left"
unfoldable pub after : SetUp → List Call → Record
after u [] = (set_up u).next
after u (c ∷ cs) = (doing (after u cs) c).outcome.next

-- the answers to the calls, the latest first
unfoldable pub answers : SetUp → List Call → List Answer
answers u [] = []
answers u (c ∷ cs) = (doing (after u cs) c).outcome.answer ∷ answers u cs

-- ---- what a box has sent

-- the bytes that a call wrote
abbrev pub wrote : Done → List ℕ
wrote d = take d.outcome.answer.bytes d.buffer

-- one entry for each call that sent, in the order of sending: n messages, to box 1 first
unfoldable pub sendings : SetUp → List Call → List (List ℕ)
sendings u [] = []
sendings u (c ∷ cs) =
    sendings u cs ++ pick (eqb (doing (after u cs) c).outcome.answer.bytes 0) [] (wrote (doing (after u cs) c) ∷ [])

-- of n messages of one length, the one to box j
unfoldable pub message_to : ℕ → List ℕ → ℕ → List ℕ
message_to n run j = take (length run / n) (drop ((j - 1) * (length run / n)) run)

-- ---- a class and its history

-- the set-up numbers that the whole session shares, and the boxes that need not keep the rules
pub record Class : Type 0 where
  pub numbers : SetUp
  pub breaks : ℕ → Bool

unfoldable pub keeps : Class → ℕ → Bool
keeps c i = is_box c.numbers i and not (c.breaks i)

unfoldable pub may_break : Class → ℕ → Bool
may_break c i = is_box c.numbers i and c.breaks i

-- the session's numbers under a box's own number
abbrev pub own : SetUp → ℕ → SetUp
own u i = record { group = u.group; n = u.n; t = u.t; k = u.k; i = i; d = u.d; session = u.session }

-- what happens, with the length of the buffer that the box it happens at is lent
pub data Event : Type 0 where
  -- a box is told to deal
  deal_at : (i secret : ℕ) (coins : List ℕ) (lent : ℕ) → Event
  -- a message is delivered of one that keeps the rules: it has this place among what its sender has sent to its addressee
  hand_on : (from to place lent : ℕ) → Event
  -- any bytes are delivered, of one that need not keep them
  forge : (from to : ℕ) (bytes : List ℕ) (lent : ℕ) → Event
  -- a box is told to recover
  command_at : (i lent : ℕ) → Event

-- ---- what it comes to

-- the message at a place among what a box has sent, to its addressee; none, if there is no such place
unfoldable pub message_at : SetUp → List Call → ℕ → ℕ → List (List ℕ)
message_at u cs to place =
    pick (ltb place (length (sendings u cs))) (message_to u.n (get_or (sendings u cs) place []) to ∷ []) []

-- a message delivered, if there is one
abbrev pub handed : ℕ → ℕ → List (List ℕ) → List Call
handed from lent [] = []
handed from lent (bytes ∷ more) = gets from bytes lent ∷ []

-- the calls at box i, if it keeps the rules
unfoldable pub calls : Class → List Event → ℕ → List Call
calls c [] i = []
calls c (deal_at at secret coins lent ∷ es) i =
    pick (eqb at i and keeps c i) (deals secret coins lent ∷ calls c es i) (calls c es i)
calls c (hand_on from to place lent ∷ es) i =
    pick (eqb to i and keeps c i and keeps c from)
    (handed from lent (message_at (own c.numbers from) (calls c es from) to place) ++ calls c es i)
    (calls c es i)
calls c (forge from to bytes lent ∷ es) i =
    pick (eqb to i and keeps c i and not (keeps c from)) (gets from bytes lent ∷ calls c es i) (calls c es i)
calls c (command_at at lent ∷ es) i = pick (eqb at i and keeps c i) (commanded lent ∷ calls c es i) (calls c es i)

-- the record of box i
abbrev pub record_of : Class → List Event → ℕ → Record
record_of c es i = after (own c.numbers i) (calls c es i)

-- every message that was delivered of boxes that keep the rules to boxes that need not, the latest first
unfoldable pub seen : Class → List Event → List (List ℕ)
seen c [] = []
seen c (deal_at at secret coins lent ∷ es) = seen c es
seen c (hand_on from to place lent ∷ es) =
    pick (may_break c to and keeps c from) (message_at (own c.numbers from) (calls c es from) to place ++ seen c es) (seen c es)
seen c (forge from to bytes lent ∷ es) = seen c es
seen c (command_at at lent ∷ es) = seen c es

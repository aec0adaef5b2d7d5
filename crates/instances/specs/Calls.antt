-- The calls of a life in which all of demand 2 happens: box 1 of document 01's hand sums (group 1, n 4, t 1, k 2, dealer 1, session 7,
-- the secret 5). Lists have the latest first.
--
-- In order: the matrix; the calls, from the deal to the recovered pair.
-- Assumes nothing.
use Rattle.std.specs.Prelude.{List, [], ◌∷◌, ◌++◌, ℕ}
use Rattle.rules.specs.declared.Element.{Element}
use Rattle.rules.specs.declared.Message.{Message}
use Rattle.rules.specs.declared.Message.TheVariants.{Send as send, Echo as echo, Ready as ready, Recovery as recovery}
use Rattle.rules.specs.Messages.{bytes_of}
use Rattle.rules.specs.HandSums.{class, coins, four, pair, C, dealt, point, share}
use Rattle.demands.specs.Terms.Histories.{Call, deals, gets, commanded}

abbrev pub D : List (List Element)
D = C 5 coins

abbrev pub says : ℕ → Message → Call
says m message = gets m (bytes_of class message) 2048

-- box 1, the dealer: it is to deal in too short a buffer, and without coins; it deals
abbrev pub early : List Call
early = deals 5 [] 2048 ∷ deals 5 coins 2047 ∷ []

abbrev pub start : List Call
start = deals 5 coins 2048 ∷ early

-- it gets its send, and once more, and is to deal another secret
abbrev pub first : List ℕ
first = bytes_of class (send D (dealt 5 coins 1))

abbrev pub echoed : List Call
echoed = gets 1 first 2048 ∷ start

abbrev pub twice : List Call
twice = deals 6 coins 2048 ∷ gets 1 first 2048 ∷ echoed

-- echoes of 2 and 4, and a wrong one of 3; the ready of 1
abbrev pub said_2 : List ℕ
said_2 = bytes_of class (echo D (point 2))

abbrev pub wrong : List ℕ
wrong = bytes_of class (echo D (four 0 0 0 0))

abbrev pub hearing : List Call
hearing = gets 2 said_2 2048 ∷ twice

abbrev pub before : List Call
before = says 1 (ready D (point 1)) ∷ says 4 (echo D (point 4)) ∷ gets 3 wrong 2048 ∷ hearing

-- the second ready, of a box that has echoed too: it sends ready
abbrev pub ready_of_2 : List ℕ
ready_of_2 = bytes_of class (ready D (point 2))

abbrev pub moment : Call
moment = gets 2 ready_of_2 2048

-- the same ready once more; it completes by the ready of box 3, and is told to recover in too short a buffer
abbrev completing : List Call
completing = commanded 2047 ∷ says 3 (ready D (point 3)) ∷ moment ∷ []

abbrev pub finished : List Call
finished = completing ++ moment ∷ before

-- it is told to recover, and once more
abbrev commands : List Call
commands = commanded 2048 ∷ commanded 2048 ∷ []

abbrev pub told : List Call
told = commands ++ finished

-- (0, 0), which does not pass for box 2 (P4)
abbrev pub wrong_share : List ℕ
wrong_share = bytes_of class (recovery (pair 0 0))

-- box 2 sends it; the box recovers by the shares of 1, which comes twice, and 3
abbrev recovering : List Call
recovering =
    says 3 (recovery (share 3)) ∷ says 1 (recovery (share 1)) ∷ says 1 (recovery (share 1)) ∷ gets 2 wrong_share 2048 ∷ []

abbrev pub play : List Call
play = recovering ++ told

-- all since ready was sent
abbrev pub later : List Call
later = recovering ++ (commands ++ completing)

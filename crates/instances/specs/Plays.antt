-- Plays of a box, each answer whole: calls in the order of the play, each on the record that the last one left.
--
-- In order: what a play comes to; answers; messages of a class.
-- Assumes nothing.
use Rattle.std.specs.Prelude.{Bool, true, false, List, [], ◌∷◌, ℕ, eqb}
use Rattle.folds.specs.Tests.{pick}
use Rattle.rules.specs.declared.Answer.{Answer}
use Rattle.rules.specs.declared.Record.{Record}
use Rattle.rules.specs.declared.SetUp.{SetUp}
use Rattle.rules.specs.declared.Sent.{Sent}
use Rattle.rules.specs.declared.Sent.TheVariants.{Nothing}
use Rattle.rules.specs.declared.Message.{Message}
use Rattle.rules.specs.Messages.{bytes_of}
use Rattle.rules.specs.Answers.{Done}
use Rattle.rules.specs.HandSums.{pair}
use Rattle.demands.specs.Terms.Histories.{Call, gets, doing, wrote}

-- ---- what a play comes to

-- the answers, what was sent, and the record that the last call left
pub record Played : Type 0 where
  pub told : List Answer
  pub sent : List (List ℕ)
  pub left : Record

unfoldable pub plays : Record → List Call → Played
plays x [] = record { told = []; sent = []; left = x }
plays x (c ∷ cs) =
    let d : Done = doing x c in
    let rest : Played = plays d.outcome.next cs in
    record {
      told = d.outcome.answer ∷ rest.told;
      sent = pick (eqb d.outcome.answer.bytes 0) rest.sent (wrote d ∷ rest.sent);
      left = rest.left;
    }

-- ---- answers

abbrev answer : ℕ → Sent → ℕ → Bool → Answer
answer number what bytes completed =
    record { no = number; sent = what; bytes = bytes; completed = completed; recovered = false; pair = pair 0 0 }

-- "A refusal gives its number and otherwise zeros."
abbrev pub refused : ℕ → Answer
refused number = answer number Nothing 0 false

-- accepted: nothing sent; so many bytes sent; completed just now; this pair recovered
abbrev pub quiet : Answer
quiet = answer 0 Nothing 0 false

abbrev pub sends : Sent → ℕ → Answer
sends what bytes = answer 0 what bytes false

abbrev pub completes : Answer
completes = answer 0 Nothing 0 true

abbrev pub recovers : ℕ → ℕ → Answer
recovers s s' = record { no = 0; sent = Nothing; bytes = 0; completed = false; recovered = true; pair = pair s s' }

-- ---- messages

-- a message from a box, in a class of these numbers
abbrev pub from : SetUp → ℕ → Message → Call
from u m message = gets m (bytes_of u message) 2048

-- A play at box 1 of the class of the hand sums in which each answer number is met: no row of the table stands under
-- another's number, and no number is out of reach.
-- Assumes nothing.
use Rattle.std.specs.Prelude.{◌≡◌, refl, List, [], ◌∷◌, ℕ, replicate, set}
use Rattle.rules.specs.declared.Element.{Element}
use Rattle.rules.specs.declared.Outcome.{Outcome}
use Rattle.rules.specs.declared.Record.{Record}
use Rattle.rules.specs.Numbers.{element}
use Rattle.rules.specs.Matrices.{matrix}
use Rattle.rules.specs.declared.Message.{Message}
use Rattle.rules.specs.declared.Message.TheVariants.{Send as send, Echo as echo, Ready as ready, Recovery as recovery}
use Rattle.rules.specs.Messages.{bytes_of}
use Rattle.rules.specs.Record.{new_record, zero_record}
use Rattle.rules.specs.Answers.{set_up, deal, recover, deliver}
use Rattle.rules.specs.Computed.{computed}
use Rattle.rules.specs.HandSums.{class, coins, four, C, dealt, point, share}

-- a call to a box: a deal, a message or any bytes from a sender, a recovery command; with the length of the lent buffer
pub data Call : Type 0 where
  deals : ℕ → List ℕ → ℕ → Call
  says : ℕ → Message → Call
  bytes : ℕ → List ℕ → Call
  command : Call

abbrev lent : List ℕ
lent = replicate 2048 0

abbrev outcome : Record → Call → Outcome
outcome x (deals secret coins n) = (deal x secret coins (replicate n 0)).outcome
outcome x (says m msg) = (deliver x m (bytes_of class msg) lent).outcome
outcome x (bytes m s) = (deliver x m s lent).outcome
outcome x command = (recover x lent).outcome

-- the numbers that a box answers to calls, each on the record that the last one left
unfoldable pub numbers : Record → List Call → List ℕ
numbers x [] = []
numbers x (c ∷ cs) =
    let o : Outcome = outcome x c in
    o.answer.no ∷ numbers o.next cs

-- a matrix of entries that are no elements
abbrev no_elements : List (List Element)
no_elements = matrix 2 (element 0) (λ j l. element 0)

-- first refusals; then box 1 echoes, completes by the readies of boxes 1, 2, 3, and recovers by the shares of boxes 1 and 3
abbrev play : List Call
play =
    deals 5 coins 2047
    ∷ deals 5 [] 2048
    ∷ command
    ∷ says 5 (send (C 5 coins) (dealt 5 coins 1))
    ∷ bytes 1 []
    ∷ bytes 1 (set (bytes_of class (recovery (share 1))) 5 8)
    ∷ says 2 (send (C 5 coins) (dealt 5 coins 1))
    ∷ says 1 (recovery (share 1))
    ∷ says 2 (echo no_elements (four 11 0 0 0))
    ∷ says 3 (echo (C 5 coins) (four 11 0 0 0))
    ∷ says 4 (echo (C 5 coins) (four 0 0 0 0))
    ∷ says 1 (send (C 5 coins) (dealt 5 coins 1))
    ∷ says 1 (send (C 5 coins) (dealt 5 coins 1))
    ∷ says 1 (ready (C 5 coins) (point 1))
    ∷ says 2 (ready (C 5 coins) (point 2))
    ∷ says 3 (ready (C 5 coins) (point 3))
    ∷ command
    ∷ says 1 (recovery (share 1))
    ∷ says 3 (recovery (share 3))
    ∷ says 2 (recovery (share 2))
    ∷ []

pub record EachNumber : Type 0 where
  pub met : numbers (new_record class) play ≡ 15 ∷ 14 ∷ 13 ∷ 1 ∷ 2 ∷ 3 ∷ 4 ∷ 5 ∷ 8 ∷ 9 ∷ 10 ∷ 0 ∷ 7 ∷ 0 ∷ 0 ∷ 0 ∷ 0 ∷ 0 ∷ 0 ∷ 6 ∷ []
  -- the all-zero record meets 12, and a group of no row 11
  pub meets_12 : numbers zero_record (says 1 (recovery (share 1)) ∷ command ∷ deals 5 coins 2048 ∷ []) ≡ 12 ∷ 12 ∷ 12 ∷ []
  pub gets_11 : (set_up (record { group = 3; n = 4; t = 1; k = 2; i = 1; d = 1; session = 7 })).answer.no ≡ 11

pub each_number : EachNumber
unfolding numbers computed
each_number = record { met = refl; meets_12 = refl; gets_11 = refl }

-- A class and a script for demand 3: group 1, n 5, t 1, k 3, dealer 1, and the set of boxes 2 and 4, which forges points that pass
-- their check though they were not dealt, and a matrix of its own. Lists have the latest first.
--
-- In order: the class and its set; the deal of the secret 5, and the coins that match for the secret 0; what the set makes up; the
-- script; what the set sees of it.
-- Assumes nothing.
use Rattle.std.specs.Prelude.{◌≡◌, refl, Bool, true, List, [], ◌∷◌, ◌++◌, ℕ, ◌+◌, ◌%◌, ◌<◌, eqb}
use Rattle.std.proofs.Common.{arith}
use Rattle.folds.specs.Tests.{◌or◌}
use Rattle.rules.specs.declared.Element.{Element}
use Rattle.rules.specs.declared.Four.{Four}
use Rattle.rules.specs.declared.SetUp.{SetUp}
use Rattle.rules.specs.Matrices.{α, α', β, β'}
use Rattle.rules.specs.declared.Message.{Message}
use Rattle.rules.specs.declared.Message.TheVariants.{Send as send, Echo as echo, Ready as ready}
use Rattle.rules.specs.Messages.{bytes_of}
use Rattle.rules.specs.Dealing.{coins_keep}
use Rattle.rules.specs.Computed.{computed}
use Rattle.rules.specs.HandSums.{sized, four}
use Rattle.rules.specs.HandSums as HandSums
use Rattle.demands.specs.Terms.Histories.{Class, Event, deal_at, hand_on, forge, command_at}
use Rattle.demands.specs.Terms.Dealing.{order, dealt_matrix, dealt_to, dealt_point}
use Rattle.demands.specs.Terms.Secrets.{vanishing, difference', moved, matching, Few}

-- ---- the class

abbrev pub numbers : SetUp
numbers = sized 5 1 3

abbrev pub set : ℕ → Bool
set m = eqb m 2 or eqb m 4

abbrev pub room : Class
room = record { numbers = numbers; breaks = set }

-- two of them, and k is 3
pub few : Few numbers set
unfolding computed
few = omega arith

-- ---- the deal

abbrev pub coins : List ℕ
coins = 3 ∷ 7 ∷ 2 ∷ 4 ∷ 9 ∷ 6 ∷ 1 ∷ 8 ∷ 1 ∷ 6 ∷ 10 ∷ 7 ∷ 9 ∷ 3 ∷ 5 ∷ 2 ∷ 4 ∷ []

pub coins_keep_lem : coins_keep numbers 5 coins ≡ true
unfolding computed
coins_keep_lem = refl

abbrev pub D : List (List Element)
D = dealt_matrix numbers 5 coins

-- what box m sends to box j
abbrev pub point : ℕ → ℕ → Four
point = dealt_point numbers 5 coins

pub low_5 : 5 < order numbers
unfolding computed
low_5 = omega arith

pub low_0 : 0 < order numbers
unfolding computed
low_0 = omega arith

abbrev pub coins* : List ℕ
coins* = 4 ∷ 5 ∷ 3 ∷ 6 ∷ 5 ∷ 4 ∷ 8 ∷ 5 ∷ 3 ∷ 10 ∷ 2 ∷ 0 ∷ 6 ∷ 9 ∷ 8 ∷ 8 ∷ 3 ∷ []

pub matches : matching numbers set 5 0 coins ≡ coins*
unfolding computed vanishing difference' moved matching
matches = refl

-- they are coins of a deal, and match back
pub back : (coins_keep numbers 0 coins* ≡ true) × (matching numbers set 0 5 coins* ≡ coins)
unfolding computed vanishing difference' moved matching
back = (refl, refl)

-- ---- what the set makes up

-- h is g to the 8: with 2 less in the second number and 16 more in the first it is the same commitment (P8 for points)
abbrev pub lie : Four → Four
lie f = four ((α f + 5) % 11) ((α' f + 9) % 11) ((β f + 5) % 11) ((β' f + 9) % 11)

-- the matrix of a deal that is another in the last coefficient of f alone, 9 where it was 8
abbrev pub rival_coins : List ℕ
rival_coins = 3 ∷ 7 ∷ 2 ∷ 4 ∷ 9 ∷ 6 ∷ 1 ∷ 9 ∷ 1 ∷ 6 ∷ 10 ∷ 7 ∷ 9 ∷ 3 ∷ 5 ∷ 2 ∷ 4 ∷ []

abbrev pub rival : List (List Element)
rival = dealt_matrix numbers 5 rival_coins

pub record Forged : Type 0 where
  pub dealt_2 : point 2 3 ≡ four 8 1 9 4
  pub lie_2 : lie (point 2 3) ≡ four 2 10 3 2
  pub dealt_4 : point 4 1 ≡ four 7 5 0 1
  pub lie_4 : lie (point 4 1) ≡ four 1 3 5 10

pub forged : Forged
unfolding computed
forged = record { dealt_2 = refl; lie_2 = refl; dealt_4 = refl; lie_4 = refl }

-- ---- the script

abbrev pub handed : ℕ → ℕ → ℕ → Event
handed from to place = hand_on from to place 2048

abbrev pub forges : ℕ → ℕ → Message → Event
forges from to message = forge from to (bytes_of numbers message) 2048

-- box 1 deals: with too few coins, in too short a buffer, at last, and once more; the send goes to all, and to box 3 twice; echoes
-- of 1 and 3 go to the set
abbrev dealing : List Event
dealing =
    handed 3 4 0
    ∷ handed 1 2 1
    ∷ handed 1 3 0
    ∷ handed 1 5 0
    ∷ handed 1 4 0
    ∷ handed 1 3 0
    ∷ handed 1 2 0
    ∷ handed 1 1 0
    ∷ deal_at 1 5 coins 2048
    ∷ deal_at 1 5 coins 2048
    ∷ deal_at 1 5 coins 2047
    ∷ deal_at 1 5 HandSums.coins 2048
    ∷ []

-- box 3 gets an echo for the rival matrix first; it is told to recover, too early; it gets an echo in too short a buffer; at the lie
-- of box 2, the fourth echo for the dealt matrix, it sends ready, which goes to the set
abbrev lied_to : List Event
lied_to =
    handed 3 2 1
    ∷ forges 2 3 (echo D (lie (point 2 3)))
    ∷ handed 5 3 0
    ∷ hand_on 5 3 0 2047
    ∷ command_at 3 2048
    ∷ handed 3 3 0
    ∷ handed 1 3 1
    ∷ forges 4 3 (echo rival (dealt_point numbers 5 rival_coins 4 3))
    ∷ []

-- box 5 gets an echo that fails, and four that were dealt; its ready goes to the set
abbrev honest : List Event
honest =
    handed 5 4 1
    ∷ forges 2 5 (echo D (point 2 5))
    ∷ handed 5 5 0
    ∷ handed 3 5 0
    ∷ handed 1 5 1
    ∷ forges 4 5 (echo D (four 0 0 0 0))
    ∷ []

-- box 1 gets three readies, of which one is a lie and one comes of a lie, and sends ready, which goes to the set; then boxes 1, 5
-- and 3 complete
abbrev completing : List Event
completing =
    forges 2 3 (ready D (lie (point 2 3)))
    ∷ handed 5 3 1
    ∷ handed 3 3 1
    ∷ handed 1 3 2
    ∷ forges 4 5 (ready D (point 4 5))
    ∷ handed 5 5 1
    ∷ handed 3 5 1
    ∷ handed 1 5 2
    ∷ handed 1 1 2
    ∷ handed 1 2 2
    ∷ forges 4 1 (ready D (lie (point 4 1)))
    ∷ handed 5 1 1
    ∷ handed 3 1 1
    ∷ []

abbrev pub script : List Event
script = completing ++ (honest ++ (lied_to ++ dealing))

-- ---- what the set sees

-- the readies of boxes 1 and 3 are no dealt points
abbrev pub to_set : List (List ℕ)
to_set =
    bytes_of numbers (ready D (four 0 0 2 6))
    ∷ bytes_of numbers (ready D (point 5 4))
    ∷ bytes_of numbers (ready D (four 3 2 2 10))
    ∷ bytes_of numbers (echo D (point 3 4))
    ∷ bytes_of numbers (echo D (point 1 2))
    ∷ bytes_of numbers (send D (dealt_to numbers 5 coins 4))
    ∷ bytes_of numbers (send D (dealt_to numbers 5 coins 2))
    ∷ []

-- Two secrets: the map of the coins for the one to coins for the other, and two runs of one script that look the same.
--
-- In order: the set; the polynomial z that is 1 at 0 and 0 at the boxes of the set, and the map; one script for two deals; two
-- histories that look the same; a set that answers to what it has seen.
-- Assumes nothing.
use Rattle.std.specs.Prelude.{◌≡◌, Bool, true, false, List, [], ◌∷◌, map, ℕ, zero, suc, ◌+◌, ◌*◌, ◌-◌, ◌/◌, ◌%◌, ◌<◌, ltb, get_or}
use Rattle.folds.specs.Tests.{pick}
use Rattle.folds.specs.Below.{count_below}
use Rattle.folds.specs.Runs.{gather}
use Rattle.algebra.specs.Residues.{inverse}
use Rattle.rules.specs.declared.SetUp.{SetUp}
use Rattle.rules.specs.Numbers.{logarithm}
use Rattle.rules.specs.Dealing.{coins_keep}
use Rattle.rules.specs.Record.{slot_at, matrix_of, count_e, count_r}
use Rattle.demands.specs.Terms.Histories.{answers, Class, keeps, own, Event, deal_at, hand_on, forge, command_at, calls, record_of, seen}
use Rattle.demands.specs.Terms.Dealing.{group, order}

-- ---- the set

-- a set of at most k - 1 of the boxes 1 to n
abbrev pub Few : SetUp → (ℕ → Bool) → Type 0
Few u A = count_below u.n (λ m. A (m + 1)) < u.k

-- ---- the polynomial z

-- z(x) is the product of 1 - x / m over the boxes m of the set: its coefficient of x^l, over boxes 1 to n
unfoldable pub vanishing : ℕ → (ℕ → Bool) → ℕ → ℕ → ℕ
vanishing q A zero zero = 1
vanishing q A zero (suc l) = 0
vanishing q A (suc n) zero = vanishing q A n zero
vanishing q A (suc n) (suc l) =
    pick (A (suc n)) ((vanishing q A n (suc l) + (q - inverse q (suc n)) * vanishing q A n l) % q) (vanishing q A n (suc l))

module _ (u : SetUp) (A : ℕ → Bool) where
  abbrev pub z : ℕ → ℕ
  z l = vanishing (order u) A u.n l

-- ---- the map

-- δ, and - δ / λ
abbrev pub difference : SetUp → ℕ → ℕ → ℕ
difference u s s' = (s' + (order u - s)) % order u

unfoldable pub difference' : SetUp → ℕ → ℕ → ℕ
difference' u s s' = difference u s s' * (order u - inverse (order u) (logarithm (group u))) % order u

-- number v of the secret and the coins behind it moves by this much: the first k² are f's coefficients, row by row, then f''s
unfoldable pub moved : SetUp → (ℕ → Bool) → ℕ → ℕ → ℕ → ℕ
moved u A s s' v =
    pick (ltb v (u.k * u.k))
    (difference u s s' * (z u A (v / u.k) * z u A (v % u.k)))
    (difference' u s s' * (z u A ((v - u.k * u.k) / u.k) * z u A ((v - u.k * u.k) % u.k)))

-- the coins for the secret s' that match these for s
unfoldable pub matching : SetUp → (ℕ → Bool) → ℕ → ℕ → List ℕ → List ℕ
matching u A s s' coins =
    gather (2 * (u.k * u.k) - 1) (λ c. (get_or coins c 0 + moved u A s s' (c + 1)) % order u ∷ [])

-- ---- one script for two deals

-- the script, where the dealer deals this secret with these coins; a deal of coins that get 14 stays as it is
abbrev pub dealing : SetUp → ℕ → List ℕ → Event → Event
dealing u secret coins (deal_at i s cs lent) = deal_at i (pick (coins_keep u s cs) secret s) (pick (coins_keep u s cs) coins cs) lent
dealing u secret coins (hand_on from to place lent) = hand_on from to place lent
dealing u secret coins (forge from to bytes lent) = forge from to bytes lent
dealing u secret coins (command_at i lent) = command_at i lent

unfoldable pub played : SetUp → ℕ → List ℕ → List Event → List Event
played u secret coins script = map (dealing u secret coins) script

-- no box that keeps the rules has its mark; a command that was refused left none
abbrev pub Uncommanded : Class → List Event → Type 0
Uncommanded c es = (i : ℕ) → keeps c i ≡ true → (record_of c es i).progress.commanded ≡ false

-- ---- two histories that look the same

-- two histories look the same to the set, and to whoever sees what the other boxes answer
pub record Alike (c : Class) (es es' : List Event) : Type 0 where
  -- every byte delivered to the set
  pub bytes : seen c es ≡ seen c es'
  -- every answer of the others, whole: its number, what was sent, how many bytes, whether the box completed
  pub told : (i : ℕ) → keeps c i ≡ true → answers (own c.numbers i) (calls c es i) ≡ answers (own c.numbers i) (calls c es' i)
  -- their matrices and counts
  pub matrix : (i s : ℕ) → keeps c i ≡ true → s < 20 → matrix_of (slot_at (record_of c es i) s) ≡ matrix_of (slot_at (record_of c es' i) s)
  pub e : (i s : ℕ) → keeps c i ≡ true → s < 20 → count_e (slot_at (record_of c es i) s) ≡ count_e (slot_at (record_of c es' i) s)
  pub r : (i s : ℕ) → keeps c i ≡ true → s < 20 → count_r (slot_at (record_of c es i) s) ≡ count_r (slot_at (record_of c es' i) s)
  -- and the place of the matrix that they completed with
  pub completed : (i : ℕ) → keeps c i ≡ true → (record_of c es i).progress.completion ≡ (record_of c es' i).progress.completion

-- ---- a set that answers to what it has seen

-- what happens next, by how much has happened and what the set has seen
abbrev pub Strategy : Type 0
Strategy = ℕ → List (List ℕ) → Event

-- the script that it makes in a run of so many events
unfoldable pub script_by : Class → Strategy → ℕ → List ℕ → ℕ → List Event
script_by c strategy secret coins zero = []
script_by c strategy secret coins (suc n) =
    strategy n (seen c (played c.numbers secret coins (script_by c strategy secret coins n))) ∷ script_by c strategy secret coins n

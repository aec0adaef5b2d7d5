-- An honest deal, and what k different boxes say.
--
-- In that order.
-- Assumes nothing.
use Rattle.rules.specs.declared.Message.TheVariants.{Send as send}
use Rattle.rules.specs.Messages.{to_each}
use Rattle.std.specs.Prelude.{◌≡◌, true, ◌≢◌, List, ℕ, ◌<◌, ◌≤◌, length, get_or}
use Rattle.rules.specs.declared.Element.{Element}
use Rattle.rules.specs.declared.Four.{Four}
use Rattle.rules.specs.declared.Group.{Group}
use Rattle.rules.specs.declared.Pair.{Pair}
use Rattle.rules.specs.declared.Polynomials.{Polynomials}
use Rattle.rules.specs.declared.SetUp.{SetUp}
use Rattle.rules.specs.Numbers.{exponent, group_of, group_keeps, sizes_keep}
use Rattle.rules.specs.Dealing.{f_of, f'_of, commitment, polynomials_of, value_at}
use Rattle.rules.specs.Steps.{Said, echo_four}

-- ---- an honest deal

abbrev pub group : SetUp → Group
group u = group_of u.group

abbrev pub order : SetUp → ℕ
order u = (group u).q

-- the group and n, t, k keep their rules
pub record Sound (u : SetUp) : Type 0 where
  pub group_keeps_lem : group_keeps u ≡ true
  pub sizes_keep_lem : sizes_keep u.n u.t u.k ≡ true

module _ (u : SetUp) (secret : ℕ) (coins : List ℕ) where
  abbrev pub dealt_matrix : List (List Element)
  dealt_matrix = commitment (group u) u.k (f_of u secret coins) (f'_of u secret coins)

  -- what box j gets
  abbrev pub dealt_to : ℕ → Polynomials
  dealt_to j = polynomials_of (order u) u.k (f_of u secret coins) (f'_of u secret coins) j

  -- a(j), a'(j), b(j), b'(j) of box m: what it sends to box j
  abbrev pub dealt_point : ℕ → ℕ → Four
  dealt_point m j = echo_four (order u) u.k (dealt_to m) j

  -- f(j, 0), f'(j, 0)
  abbrev pub dealt_share : ℕ → Pair
  dealt_share j =
      record { first = exponent (value_at (order u) u.k (dealt_to j).a 0); second = exponent (value_at (order u) u.k (dealt_to j).a2 0) }

-- to each box the dealt matrix and its polynomials
abbrev pub sends_of : SetUp → ℕ → List ℕ → List ℕ
sends_of u secret coins = to_each u (λ j. send (dealt_matrix u secret coins) (dealt_to u secret coins j))

-- ---- what different boxes say

-- of no box, for a list that is too short
abbrev pub none : {A : Type 0} → A → Said A
none a = record { box = 0; says = a }

-- k boxes of the class, all different, each of which says something that keeps P
pub record Different {A : Type 0} (u : SetUp) (zero : A) (ps : List (Said A)) (P : ℕ → A → Type 0) : Type 0 where
  pub count : length ps ≡ u.k
  pub boxes : (i : ℕ) → i < u.k → (1 ≤ (get_or ps i (none zero)).box) × ((get_or ps i (none zero)).box ≤ u.n)
  pub apart : (i j : ℕ) → i < j → j < u.k → (get_or ps i (none zero)).box ≢ (get_or ps j (none zero)).box
  pub each : (i : ℕ) → i < u.k → P (get_or ps i (none zero)).box (get_or ps i (none zero)).says

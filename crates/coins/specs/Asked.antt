-- What the test of the coins asks.
-- Assumes nothing.
use Rattle.std.specs.Prelude.{◌≡◌, true, ◌≤◌, eqb}
use Rattle.std.proofs.Common.{⊎_elim, arith, eqb-true}
use Rattle.folds.specs.Tests.{or_cases}
use Rattle.rules.specs.declared.SetUp.{SetUp}
use Rattle.rules.specs.Numbers.{group_keeps}

-- what the test of the coins asks of a set-up
pub record Dealable (u : SetUp) : Type 0 where
  pub group : group_keeps u ≡ true
  pub low : 1 ≤ u.k
  pub high : u.k ≤ 8

-- its group is one of the table
pub record InTable (u : SetUp) : Type 0 where
  pub first : 1 ≤ u.group
  pub last : u.group ≤ 2

pub in_table : (u : SetUp) → group_keeps u ≡ true → InTable u
unfolding group_keeps
in_table u h =
    ⊎_elim
    (λ e. let q = eqb-true u.group 1 e in record { first = omega arith; last = omega arith })
    (λ e. let q = eqb-true u.group 2 e in record { first = omega arith; last = omega arith })
    (or_cases (eqb u.group 1) (eqb u.group 2) h)

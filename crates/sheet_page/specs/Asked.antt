-- What printing the rest of a sheet asks.
-- Assumes nothing.
use Rattle.std.specs.Prelude.{true, List, ◌≡◌, ℕ}
use Rattle.rules.specs.declared.SetUp.{SetUp}
use Rattle.rules.specs.Numbers.{group_keeps, sizes_keep}
use Rattle.rules.specs.Sheet.{first_line_keeps}

-- the first line, its group and its sizes have passed
pub record Lawful (b : List ℕ) (u : SetUp) : Type 0 where
  pub first : first_line_keeps b ≡ true
  pub group : group_keeps u ≡ true
  pub sizes : sizes_keep u.n u.t u.k ≡ true

-- A sender m + 1 that a box of a sound record has.
-- Assumes nothing.
use Rattle.std.specs.Prelude.{◌≡◌, true, ℕ, ◌<◌, ◌≤◌}
use Rattle.rules.specs.declared.Record.{Record}
use Rattle.rules.specs.Record.{sound}

pub record Sender (x : Record) (m : ℕ) : Type 0 where
  pub is_sound : sound x ≡ true
  pub sender : m < x.setup.n

-- and there is room for what its message may make the box send
pub record Speaks (x : Record) (m lent : ℕ) : Type 0 where
  pub here : Sender x m
  pub room : 2048 ≤ lent

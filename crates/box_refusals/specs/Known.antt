-- What is known of a delivery past rows 1 to 3.
-- Assumes nothing.
use Rattle.std.specs.Prelude.{◌≡◌, true, List, ℕ}
use Rattle.rules.specs.declared.SetUp.{SetUp}
use Rattle.rules.specs.Numbers.{is_box}
use Rattle.rules.specs.Laws.Numbers.{Ranges}
use Rattle.rules.specs.Laws.RoundTrip.{Formed}

-- a message that can be read, and its sender is a box
pub record InForm (u : SetUp) (sender : ℕ) (bytes : List ℕ) : Type 0 where
  pub ranges : Ranges u
  pub form : Formed u bytes
  pub box : is_box u sender ≡ true

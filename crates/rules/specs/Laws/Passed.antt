-- What holds of a call past rows of the table, as contracts ask for it. That the rows give it stands in proofs/Laws/Passed.
-- Assumes nothing.
use Rattle.std.specs.Prelude.{is_some}
use Rattle.std.specs.Prelude.{◌≡◌, true, List, ℕ, ◌-◌, ◌<◌, ◌≤◌, eqb}
use Rattle.std.proofs.Math.Bool.{false}
use Rattle.folds.specs.Tests.{◌and◌}
use Rattle.rules.specs.declared.Record.{Record}
use Rattle.rules.specs.Numbers.{is_box}
use Rattle.rules.specs.Messages.{tag_in, foreign, matrix_in, message_in}
use Rattle.rules.specs.Dealing.{matrix_passes, coins_keep}
use Rattle.rules.specs.Record.{group_in, heard_for, sound}
use Rattle.rules.specs.Answers.{exponents_keep, checks}
use Rattle.rules.specs.Laws.RoundTrip.{Formed}

-- what every call on a record has passed
pub record Called (x : Record) (lent : ℕ) : Type 0 where
  pub room : 2048 ≤ lent
  pub is_sound : sound x ≡ true

pub record DealPassed (x : Record) (secret : ℕ) (coins : List ℕ) (lent : ℕ) : Type 0 where
  pub called : Called x lent
  pub dealer : eqb x.setup.i x.setup.d ≡ true
  pub first : x.progress.dealt ≡ false
  pub keeps : coins_keep x.setup secret coins ≡ true

pub record RecoverPassed (x : Record) (lent : ℕ) : Type 0 where
  pub called : Called x lent
  pub completed : is_some x.progress.completion ≡ true
  pub first : x.progress.commanded ≡ false

-- a message that gets a hearing
pub record Hearing (x : Record) (sender : ℕ) (bytes : List ℕ) : Type 0 where
  pub is_sound : sound x ≡ true
  pub box : is_box x.setup sender ≡ true
  pub within : sender - 1 < x.setup.n
  pub form : Formed x.setup bytes
  pub ours : foreign x.setup bytes ≡ false
  pub dealer : tag_in bytes ≡ 1 → sender ≡ x.setup.d
  pub commanded : tag_in bytes ≡ 4 → is_some x.progress.completion and x.progress.commanded ≡ true
  pub unrecovered : tag_in bytes ≡ 4 → is_some x.recovered ≡ false
  pub unheard : heard_for x (tag_in bytes) (sender - 1) ≡ false

-- and is accepted
pub record Passed (x : Record) (sender : ℕ) (bytes : List ℕ) : Type 0 where
  pub hearing : Hearing x sender bytes
  pub passes : tag_in bytes ≤ 3 → matrix_passes (group_in x) x.setup.k (matrix_in x.setup bytes) ≡ true
  pub exponents : exponents_keep x.setup (message_in x.setup bytes) ≡ true
  pub check : checks x sender (message_in x.setup bytes) ≡ true

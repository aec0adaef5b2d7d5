-- `digits_end` is the first place where no digit stands. The loop's invariant: the first from j on is the first from i on, and no turn
-- is taken from behind the text. Assumes nothing.
use Rattle.std.proofs.Common.{◌≡◌, ◌<◌, ◌-◌, not, length}
use Rattle.folds.specs.Below.{first_from}
use Rattle.rules.specs.Text.{digit_at, digits_end}
use Rattle.text.proofs.read.digits_end.Given as goal

abbrev pub invariant-loop-j : goal.invariant-loop-j
invariant-loop-j l = (first_from (length l.b - l.j) l.j (λ k. not (digit_at l.b k)) ≡ digits_end l.b l.i) × (length l.b < l.i → l.j ≡ l.i)

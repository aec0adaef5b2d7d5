-- `byte_from` is the first place where the byte stands. The loop's invariant: the first from j on is the first from i on, and no turn is
-- taken from behind the text. Assumes nothing.
use Rattle.std.proofs.Common.{◌≡◌, ◌<◌, ◌-◌, eqb, length, get_or}
use Rattle.folds.specs.Below.{first_from}
use Rattle.text.specs.Finds.{byte_from}
use Rattle.text.proofs.read.byte_from.Given as goal

abbrev pub invariant-loop-j : goal.invariant-loop-j
invariant-loop-j l = (first_from (length l.b - l.j) l.j (λ k. eqb (get_or l.b k 0) l.c) ≡ byte_from l.b l.i l.c) × (length l.b < l.i → l.j ≡ l.i)

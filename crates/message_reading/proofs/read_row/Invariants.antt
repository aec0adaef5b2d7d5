use Rattle.std.specs.Prelude.{◌+◌, ◌*◌}
use Rattle.rules.specs.Messages.{word}
use Rattle.folds.specs.Loops.{Filling}
use Rattle.message_reading.proofs.read_row.Given as goal

abbrev pub invariant-loop-l : goal.invariant-loop-l
invariant-loop-l g l = Filling (λ i. g.T.Number.wrap (word l.s (l.p + 2 * i))) l.initial.made l.k l.l l.made

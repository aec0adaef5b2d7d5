use Rattle.std.specs.Prelude.{◌+◌, ◌*◌}
use Rattle.rules.specs.Numbers.{element}
use Rattle.rules.specs.Matrices.{row}
use Rattle.rules.specs.Messages.{word}
use Rattle.folds.specs.Loops.{Filling}
use Rattle.message_reading.proofs.read_matrix.Given as goal

abbrev pub invariant-loop-j : goal.invariant-loop-j
invariant-loop-j l = Filling (λ i. row l.k (element 0) (λ n. element (word l.s (7 + 2 * (i * l.k + n))))) l.initial.c l.k l.j l.c

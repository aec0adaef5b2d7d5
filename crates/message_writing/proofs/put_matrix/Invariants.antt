use Rattle.std.specs.Prelude.{◌*◌}
use Rattle.folds.specs.Runs.{gather}
use Rattle.rules.specs.Matrices.{entry}
use Rattle.rules.specs.Messages.{two_bytes}
use Rattle.message_writing.specs.Laws.{Put}
use Rattle.message_writing.proofs.put_matrix.Given as goal

abbrev pub invariant-loop-row : goal.invariant-loop-row
invariant-loop-row l = Put (λ i. gather l.k (λ n. two_bytes (entry l.fn.c i n))) (l.k * 2) l.k l.at l.fn.out l.out l.next l.row-index

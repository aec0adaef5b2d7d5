use Rattle.std.specs.Prelude.{[], get_or}
use Rattle.folds.specs.Loops.{Filling}
use Rattle.matrices.proofs.column.Given as goal

abbrev pub invariant-loop-j : goal.invariant-loop-j
invariant-loop-j g l = Filling (λ n. get_or (get_or l.m n []) l.l l.fn.zero) l.initial.made l.k l.j l.made

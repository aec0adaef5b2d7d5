use Rattle.std.specs.Prelude.{◌+◌, ◌*◌}
use Rattle.folds.specs.Loops.{Filling}
use Rattle.rules.specs.Numbers.{element}
use Rattle.rules.specs.Text.{number_at}
use Rattle.rules.specs.Sheet.{matrix_place}
use Rattle.sheet_form.proofs.matrix_row.Given as goal

abbrev pub invariant-loop-l : goal.invariant-loop-l
invariant-loop-l l = Filling (λ n. element (number_at l.b (matrix_place l.b) (l.j * l.k + n))) l.initial.row l.k l.l l.row

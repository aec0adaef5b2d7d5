use Rattle.folds.specs.Loops.{filling_none}
use Rattle.sheet_form.proofs.matrix_row.Goals as goal

pub loop-l-init : goal.loop-l-init
loop-l-init c = filling_none

use Rattle.folds.specs.Loops.{filling_none}
use Rattle.matrices.proofs.column.Goals as goal

pub loop-j-init : goal.loop-j-init
loop-j-init g c = filling_none

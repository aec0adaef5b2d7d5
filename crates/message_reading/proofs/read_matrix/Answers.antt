use Rattle.folds.specs.Loops.{filling_none}
use Rattle.message_reading.proofs.read_matrix.Goals as goal

pub loop-j-init : goal.loop-j-init
loop-j-init c = filling_none

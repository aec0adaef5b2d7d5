use Rattle.folds.specs.Loops.{filling_none}
use Rattle.message_reading.proofs.read_row.Goals as goal

pub loop-l-init : goal.loop-l-init
loop-l-init g c = filling_none

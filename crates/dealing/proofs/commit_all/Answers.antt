use Rattle.folds.specs.Loops.{filling_none}
use Rattle.dealing.proofs.commit_all.Goals as goal

pub loop-j-init : goal.loop-j-init
loop-j-init c = filling_none

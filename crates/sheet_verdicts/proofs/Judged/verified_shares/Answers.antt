use Rattle.folds.specs.Loops.{filling_none}
use Rattle.sheet_verdicts.proofs.Judged.verified_shares.Goals as goal

pub loop-m-init : goal.loop-m-init
loop-m-init c = filling_none

use Rattle.std.proofs.Common.{rules}
use Rattle.rules.specs.Dealing.{α_equation, β_equation, point_check}
use Rattle.checking.proofs.point_check.Goals as goal

pub returns-then-point_opens : goal.returns-then-point_opens
unfolding α_equation β_equation point_check
returns-then-point_opens c = search rules

pub returns-else-point_opens : goal.returns-else-point_opens
unfolding α_equation β_equation point_check
returns-else-point_opens c = search rules

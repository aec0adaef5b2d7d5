use Rattle.std.proofs.Common.{arith}
use Rattle.rules.proofs.Laws.Sound.{sound_facts}
use Rattle.box_steps.proofs.completed_share.Goals as goal

-- the completed slot is one of the twenty
pub bounds-x-branch : goal.bounds-x-branch
bounds-x-branch c = ((sound_facts _ c.requires).progress.completion _ c.in_ok-x.was).within

pub offset_bounds-x-branch : goal.offset_bounds-x-branch
offset_bounds-x-branch c = omega (arith, ((sound_facts _ c.requires).progress.completion _ c.in_ok-x.was).within)

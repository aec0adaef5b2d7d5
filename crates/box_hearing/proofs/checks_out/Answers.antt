use Rattle.std.proofs.Common.{arith}
use Rattle.rules.proofs.Laws.Sound.{sound_ranges}
use Rattle.box_hearing.proofs.checks_out.Goals as goal

pub group_of-group-requires : goal.group_of-group-requires
group_of-group-requires c = (sound_ranges _ c.requires.is_sound).group

pub overflow_cast-own : goal.overflow_cast-own
overflow_cast-own c = omega (arith, (sound_ranges _ c.requires.is_sound).own)

use Rattle.std.proofs.Common.{arith}
use Rattle.rules.proofs.Laws.Numbers.{is_box_lem}
use Rattle.rules.proofs.Laws.Sound.{sound_ranges}
use Rattle.box_steps.proofs.refused_at_hearing.Goals as goal

pub overflow_sub-sender : goal.overflow_sub-sender
overflow_sub-sender c = (is_box_lem _ _ c.requires.box).0

pub heard_for-requires : goal.heard_for-requires
heard_for-requires c =
    let p = c.requires in
    record {
      low = omega (arith, p.form.low);
      high = omega (arith, p.form.high);
      place = omega (arith, p.within, (sound_ranges _ p.is_sound).boxes);
    }

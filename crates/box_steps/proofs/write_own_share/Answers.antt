use Rattle.rules.proofs.Laws.Sound.{sound_ranges}
use Rattle.box_steps.specs.Laws.{can_send}
use Rattle.box_steps.proofs.write_own_share.Goals as goal

pub write_shares-requires : goal.write_shares-requires
write_shares-requires c = can_send (sound_ranges _ c.requires.called.is_sound) c.requires.called.room

use Rattle.std.proofs.Common.{sym, ap, ◌∙◌, ◌-◌}
use Rattle.rules.specs.Messages.{tag_of}
use Rattle.rules.specs.Steps.{message_step}
use Rattle.rules.proofs.Laws.Numbers.{is_box_lem}
use Rattle.rules.proofs.Laws.Sound.{sound_ranges}
use Rattle.box_step.specs.Takes.{takes_as, still}
use Rattle.box_steps.specs.Laws.{share_silent, unheard}
use Rattle.box_steps.proofs.take.Goals as goal

pub overflow_sub-m : goal.overflow_sub-m
overflow_sub-m c = (is_box_lem _ _ c.requires.0.hearing.box).0

pub read-requires : goal.read-requires
read-requires c =
    let h = c.requires.0.hearing in ((sound_ranges _ h.is_sound).high, h.form)

pub take_point-requires : goal.take_point-requires
unfolding tag_of
take_point-requires c =
    let h = c.requires.0.hearing in
    let none = unheard _ _ _ h c.read.ensures in
    (record { here = record { is_sound = h.is_sound; sender = h.within }; room = c.requires.1 }, rw c.in-Echo.is at none)

pub take_point-requires-in-Ready : goal.take_point-requires-in-Ready
unfolding tag_of
take_point-requires-in-Ready c =
    let h = c.requires.0.hearing in
    let none = unheard _ _ _ h c.read.ensures in
    (record { here = record { is_sound = h.is_sound; sender = h.within }; room = c.requires.1 }, rw c.in-Ready.is at none)

pub returns-in-Recovery : goal.returns-in-Recovery
returns-in-Recovery c =
    let said = ap (message_step c.args.x (c.args.sender - 1)) (sym c.read.ensures ∙ c.in-Recovery.is) in
    takes_as said (still _ _ (share_silent _ _ _) c.take_share.ensures)

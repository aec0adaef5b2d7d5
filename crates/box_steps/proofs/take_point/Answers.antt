use Rattle.std.proofs.Common.{refl, sym, ap, ◌∙◌, arith}
use Rattle.rules.specs.Steps.{heard, completed}
use Rattle.box_step.specs.Takes.{made, takes_as, still, rests}
use Rattle.box_steps.specs.Laws.{ranges, place, slot_within, point_goes, point_sends, point_completes, point_rests}
use Rattle.box_steps.proofs.take_point.Goals as goal

pub slot_for-s-requires : goal.slot_for-s-requires
slot_for-s-requires c = (ranges c.requires.0.here).high

pub bounds-x-s : goal.bounds-x-s
bounds-x-s c = slot_within _ _ _ _ c.requires.0.here c.requires.1 c.slot_for-s.ensures

pub offset_bounds-x-s : goal.offset_bounds-x-s
offset_bounds-x-s c = omega (arith, slot_within _ _ _ _ c.requires.0.here c.requires.1 c.slot_for-s.ensures)

pub with_point-fresh-requires : goal.with_point-fresh-requires
with_point-fresh-requires c = place c.requires.0.here

pub ready_due-requires : goal.ready_due-requires
ready_due-requires c = ranges c.requires.0.here

pub send_ready-requires : goal.send_ready-requires
send_ready-requires c = (c.requires.0, slot_within _ _ _ _ c.requires.0.here c.requires.1 c.slot_for-s.ensures)

pub returns-then-ready_due : goal.returns-then-ready_due
unfolding heard
returns-then-ready_due c =
    let goes = point_goes _ _ _ _ _ c.slot_for-s.ensures c.opened_for-open.ensures c.with_point-fresh.ensures in
    takes_as (goes ∙ point_sends _ _ _ _ (sym c.ready_due.ensures ∙ c.if-ready_due.true)) c.send_ready.ensures

pub heard_at_slot-next-requires : goal.heard_at_slot-next-requires
heard_at_slot-next-requires c =
    (place c.requires.0.here, slot_within _ _ _ _ c.requires.0.here c.requires.1 c.slot_for-s.ensures)

pub completion_due-requires : goal.completion_due-requires
completion_due-requires c = ranges c.requires.0.here

pub returns-then-completion_due : goal.returns-then-completion_due
unfolding heard completed
returns-then-completion_due c =
    let goes = point_goes _ _ _ _ _ c.slot_for-s.ensures c.opened_for-open.ensures c.with_point-fresh.ensures in
    let ends = point_completes _ _ _ _ (sym c.ready_due.ensures ∙ c.if-ready_due.false) (sym c.completion_due.ensures ∙ c.if-completion_due.true) in
    takes_as (goes ∙ ends) (still _ _ refl (c.complete.ensures ∙ ap (λ y. made (completed y c.slot_for-s.result)) c.heard_at_slot-next.ensures))

pub returns : goal.returns
unfolding heard
returns c =
    let goes = point_goes _ _ _ _ _ c.slot_for-s.ensures c.opened_for-open.ensures c.with_point-fresh.ensures in
    let stays = point_rests _ _ _ _ (sym c.ready_due.ensures ∙ c.if-ready_due.false) (sym c.completion_due.ensures ∙ c.if-completion_due.false) in
    takes_as (goes ∙ stays) (rests _ c.quiet.ensures c.heard_at_slot-next.ensures)

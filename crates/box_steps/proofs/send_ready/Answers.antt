use Rattle.std.proofs.Common.{ap, ◌∙◌, arith, take}
use Rattle.rules.specs.declared.Sent.TheVariants.{Ready}
use Rattle.rules.specs.declared.Side.TheVariants.{ByReady}
use Rattle.rules.specs.Matrices.{to_boxes, zero_four}
use Rattle.rules.specs.Messages.{saying, side_tag}
use Rattle.rules.specs.Record.{matrix_of}
use Rattle.rules.specs.Steps.{heard, with_slot, points, pair_from, ready_four, keeping, ready_sent}
use Rattle.std.proofs.Common.{refl}
use Rattle.box_steps.specs.Laws.{tells, ranges, place, group_ranges, can_send, each_written}
use Rattle.box_steps.proofs.send_ready.Goals as goal

pub group_of-group-requires : goal.group_of-group-requires
group_of-group-requires c = (ranges c.requires.0.here).group

pub ready_from-ready-requires : goal.ready_from-ready-requires
ready_from-ready-requires c =
    let r = ranges c.requires.0.here in
    (record { order = omega (arith, (group_ranges r c.group_of-group.ensures).above); few = r.high }, r.boxes)

pub write_points-bytes-requires : goal.write_points-bytes-requires
write_points-bytes-requires c = can_send (ranges c.requires.0.here) c.requires.0.room

pub heard_at_slot-requires : goal.heard_at_slot-requires
heard_at_slot-requires c = (place c.requires.0.here, c.requires.1)

pub returns : goal.returns
unfolding heard ready_sent matrix_of
returns c =
    let a = c.args in
    let u = a.x.setup in
    let ps = take u.k (points a.fresh.places) in
    let group = c.group_of-group.ensures in
    let kept =
    c.with_pair-kept.ensures
    ∙ ap (keeping a.fresh) (c.ready_from-ready.ensures.0 ∙ ap (λ G. pair_from G.q ps) group) in
    let fours = c.ready_from-ready.ensures.1 ∙ ap (λ G. to_boxes u.n zero_four (ready_four G.q ps)) group in
    tells Ready c.sending.ensures
    (c.heard_at_slot.ensures ∙ ap (with_slot (heard a.x (side_tag a.side) a.m) a.s) kept)
    (each_written u (saying ByReady) zero_four zero_four _ (ranges c.requires.0.here).boxes refl fours c.write_points-bytes.ensures)

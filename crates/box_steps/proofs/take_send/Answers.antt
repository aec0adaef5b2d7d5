use Rattle.std.proofs.Common.{refl, ap, ◌∙◌, lit≤}
use Rattle.rules.specs.declared.Sent.TheVariants.{Echo}
use Rattle.rules.specs.declared.Side.TheVariants.{ByEcho}
use Rattle.rules.specs.Matrices.{to_boxes, zero_four}
use Rattle.rules.specs.Messages.{saying}
use Rattle.rules.specs.Steps.{heard, echo_four, send_step}
use Rattle.box_steps.specs.Laws.{tells, ranges, place, group_ranges, can_send, each_written}
use Rattle.box_steps.proofs.take_send.Goals as goal

pub group_of-group-requires : goal.group_of-group-requires
group_of-group-requires c = (ranges c.requires.here).group

pub echo_fours-fours-requires : goal.echo_fours-fours-requires
echo_fours-fours-requires c =
    let r = ranges c.requires.here in
    record { some = (group_ranges r c.group_of-group.ensures).some; high = r.high; boxes = r.boxes }

pub write_points-bytes-requires : goal.write_points-bytes-requires
write_points-bytes-requires c = can_send (ranges c.requires.here) c.requires.room

pub heard_for-requires : goal.heard_for-requires
heard_for-requires c = record { low = lit≤ tt; high = lit≤ tt; place = place c.requires.here }

pub returns : goal.returns
unfolding heard send_step
returns c =
    let a = c.args in
    let u = a.x.setup in
    let fours =
    c.echo_fours-fours.ensures ∙ ap (λ G. to_boxes u.n zero_four (echo_four G.q u.k a.all)) c.group_of-group.ensures in
    tells Echo c.sending.ensures c.heard_for.ensures
    (each_written u (saying ByEcho) zero_four zero_four _ (ranges c.requires.here).boxes refl fours c.write_points-bytes.ensures)

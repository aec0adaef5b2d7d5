use Rattle.std.proofs.Common.{arith}
use Rattle.rules.proofs.Laws.Numbers.{is_box_lem}
use Rattle.box_refusals.proofs.turn.Goals as goal

pub overflow_sub-m : goal.overflow_sub-m
overflow_sub-m c = (is_box_lem _ _ c.requires.box).0

pub is_heard-requires : goal.is_heard-requires
is_heard-requires c =
    let p = c.requires in
    let b = is_box_lem _ _ p.box in
    record { low = p.form.low; high = p.form.high; place = omega (arith, p.ranges.boxes, b.0, b.1) }

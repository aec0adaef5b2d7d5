use Rattle.std.proofs.Common.{◌+◌, sym, ap, ◌∙◌, arith}
use Rattle.console_lines.specs.Items.{item_end, item_place-zero, item_place_more, item_place_most, item_end_most}
use Rattle.console_lines.proofs.items.item_place.Goals as goal

pub loop-l-init : goal.loop-l-init
loop-l-init c = sym (item_place-zero _)

pub overflow_add-place : goal.overflow_add-place
overflow_add-place c =
    omega (arith, c.item_end-place.ensures, c.loop-l.invariant, item_end_most c.args.line.now c.loop-l.place, item_place_most c.args.line.now c.loop-l._l)

pub loop-l-preserved : goal.loop-l-preserved
loop-l-preserved c = ap (λ n. n + 1) (c.item_end-place.ensures ∙ ap (item_end c.args.line.now) c.loop-l.invariant) ∙ sym (item_place_more _ _)

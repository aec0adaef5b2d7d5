use Rattle.std.proofs.Common.{◌+◌, not, sym, ap, ◌∙◌, arith}
use Rattle.folds.specs.Loops.{first_here, first_more, first_none}
use Rattle.console_lines.specs.Items.{item_end, item_place_more, item_place_most, item_end_most, not_yet_start, place_here, place_none}
use Rattle.console_lines.specs.Words.{item_keeps, bad_item}
use Rattle.console_lines.proofs.words.bad_item.Goals as goal

pub loop-j-init : goal.loop-j-init
loop-j-init c = (not_yet_start _ _, c.item_place-place.ensures)

pub returns-then-not-item_keeps : goal.returns-then-not-item_keeps
unfolding bad_item
returns-then-not-item_keeps c =
    let tested = ap not (c.item_keeps.ensures ∙ ap (item_keeps c.args.line.now c.args.form c.loop-j.j) c.loop-j.invariant.1) in
    place_here c.loop-j-test.true (first_here _ _ _ c.loop-j-test.true c.loop-j.invariant.0 (sym tested ∙ ap not c.if-not-item_keeps.true))

pub overflow_add-place : goal.overflow_add-place
overflow_add-place c =
    omega (arith, c.item_end-end.ensures, c.loop-j.invariant.1, item_end_most c.args.line.now c.loop-j.place, item_place_most c.args.line.now (c.loop-j.j + 1))

pub loop-j-preserved : goal.loop-j-preserved
loop-j-preserved c =
    let tested = ap not (c.item_keeps.ensures ∙ ap (item_keeps c.args.line.now c.args.form c.loop-j.j) c.loop-j.invariant.1) in (
      first_more _ _ _ c.loop-j-test.true c.loop-j.invariant.0 (sym tested ∙ ap not c.if-not-item_keeps.false),
      ap (λ n. n + 1) (c.item_end-end.ensures ∙ ap (item_end c.args.line.now) c.loop-j.invariant.1) ∙ sym (item_place_more _ _),
    )

pub returns : goal.returns
unfolding bad_item
returns c = place_none (first_none _ _ _ c.loop-j-test.false c.loop-j.invariant.0)

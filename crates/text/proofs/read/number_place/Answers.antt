use Rattle.std.proofs.Common.{sym, ap, ◌∙◌, ◌+◌, arith}
use Rattle.rules.specs.Text.{digits_end}
use Rattle.text.specs.Lines.{number_place-zero, number_place_more, number_within}
use Rattle.text.proofs.read.number_place.Goals as goal

pub loop-l-init : goal.loop-l-init
loop-l-init c = sym (number_place-zero _ _)

pub overflow_add-place : goal.overflow_add-place
overflow_add-place c =
    omega (arith, c.digits_end-place.ensures ∙ ap (digits_end c.args.b.now) c.loop-l.invariant, number_within c.args.b.now c.args.i c.args.m c.loop-l._l c.requires.0 (omega arith))

pub loop-l-preserved : goal.loop-l-preserved
loop-l-preserved c = ap (λ n. n + 1) (c.digits_end-place.ensures ∙ ap (digits_end c.args.b.now) c.loop-l.invariant) ∙ sym (number_place_more _ _ _)

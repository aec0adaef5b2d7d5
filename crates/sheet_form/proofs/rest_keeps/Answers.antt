use Rattle.std.proofs.Common.{rules, ◌≡◌, true, false, ◌*◌, sym, ap, ◌∙◌}
use Rattle.folds.specs.Below.{all_below-zero, all_below_not}
use Rattle.rules.specs.Text.{numbers_at}
use Rattle.rules.specs.Sheet.{matrix_place, rest_keeps}
use Rattle.sheet_form.specs.Reading.{line_in}
use Rattle.sheet_form.specs.Laws.{line_keeps, line_place-zero, none_line}
use Rattle.sheet_form.proofs.rest_keeps.Goals as goal

pub loop-m-init : goal.loop-m-init
loop-m-init c = (c.boxes_place-i.ensures ∙ sym (line_place-zero _ _), all_below-zero _)

-- the line of box m + 1 fails
pub returns-in_default : goal.returns-in_default
unfolding rest_keeps
returns-in_default c =
    let b = c.args.b.now in
    let m = c.loop-m.m in
    let tested : numbers_at b (matrix_place b) (c.args.k * c.args.k) ≡ true = search rules in
    let line : line_keeps b c.args.k m ≡ false = none_line b _ m (sym c.in_default.is ∙ c.line_at.ensures ∙ ap (λ p. line_in b p m) c.loop-m.invariant.0) in
    rw (tested, all_below_not (line_keeps b c.args.k) c.args.n m c.loop-m-test.true line)

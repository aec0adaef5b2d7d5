use Rattle.std.proofs.Common.{ℕ, ◌≡◌, ◌+◌, sym, ap, ◌∙◌, arith}
use Rattle.text.specs.Puts.{puts_byte, runs_none, runs_more, runs_all}
use Rattle.console_lines.specs.Items.{item_end, item_place, item_place_more, item_place_most, item_end_most}
use Rattle.console_lines.specs.Says.{number_at, number_of, coins_in}
use Rattle.console_lines.proofs.said.read_coins.Goals as goal

pub loop-j-init : goal.loop-j-init
loop-j-init c = (runs_none _ 1 _ 0 _, c.item_place-place.ensures)

pub overflow_add-place : goal.overflow_add-place
overflow_add-place c =
    omega (arith, c.item_end-place.ensures, c.loop-j.invariant.1, item_end_most c.args.line.now c.loop-j.place, item_place_most c.args.line.now (c.loop-j.j + 2))

pub loop-j-preserved : goal.loop-j-preserved
unfolding number_of
loop-j-preserved c =
    let line = c.args.line.now in
    let j = c.loop-j.j in
    let on : j + 2 + 1 ≡ j + 1 + 2 = omega arith in (
      runs_more c.loop-j.invariant.0 c.loop-j-test.true (puts_byte c.loop-j.coins _ (c.number_at.ensures ∙ ap (number_at line) c.loop-j.invariant.1)),
      ap (λ (n : ℕ). n + 1) (c.item_end-place.ensures ∙ ap (item_end line) c.loop-j.invariant.1) ∙ sym (item_place_more line (j + 2)) ∙ ap (item_place line) on,
    )

pub returns : goal.returns
unfolding coins_in
returns c = (runs_all c.loop-j.invariant.0 c.loop-j-test.false).2

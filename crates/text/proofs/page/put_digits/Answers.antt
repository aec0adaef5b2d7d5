-- `put_digits` adds digits. Assumes nothing.
use Rattle.std.proofs.Common.{◌-◌, arith, ap, ◌∙◌}
use Rattle.std.proofs.Math.Nat.{one-le-pow}
use Rattle.text.specs.Pages.{runs_none, runs_more, digit_added, digit_left, digits_all}
use Rattle.text.proofs.page.put_digits.Goals.{then-power-x, else-power-x}
use Rattle.text.proofs.page.put_digits.Goals as goal

pub loop-j-init : goal.loop-j-init
loop-j-init g c = runs_none

pub nonzero_div-x : goal.nonzero_div-x
nonzero_div-x g c = omega (arith, c.pow-power.ensures, one-le-pow (c.args.n - c.loop-j.j) 10 (omega arith))

pub loop-j-preserved : goal.loop-j-preserved
loop-j-preserved g c =
    runs_more c.loop-j.invariant
    (elim c.if-power-x.branch [
      | then-power-x w ↦ digit_added c.args.n c.args.x c.loop-j.j c.pow-power.ensures w.if-power-x.true (ap (λ p. p.items) w.page-is ∙ w.push.ensures.items)
      | else-power-x w ↦ digit_left c.args.n c.args.x c.loop-j.j c.pow-power.ensures w.if-power-x.false w.page-is
    ])

pub returns : goal.returns
returns g c = digits_all c.args.n c.args.x c.loop-j.invariant (omega arith) c.push-2.ensures.items

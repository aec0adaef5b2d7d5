use Rattle.std.specs.Prelude.{◌≡◌, ◌%◌}
use Rattle.std.proofs.Common.{sym, ap, arith}
use Rattle.folds.specs.Below.{prod_below-zero}
use Rattle.algebra.specs.Interpolation.{others}
use Rattle.rules.specs.Numbers.{exponent}
use Rattle.interpolation.proofs.Values.{number_at, another, own}
use Rattle.interpolation.proofs.others_at.Goals.{then-j-i, else-j-i}
use Rattle.interpolation.proofs.others_at.Goals as goal

pub loop-j-init : goal.loop-j-init
loop-j-init c = ap (λ t. t % c.args.q) (sym (prod_below-zero _))

pub difference-requires : goal.difference-requires
difference-requires c = (c.requires.some, rw (number_at c.args.all c.loop-j.j) (c.requires.low _ c.loop-j-test.true))

pub loop-j-preserved : goal.loop-j-preserved
loop-j-preserved c =
    elim c.if-j-i.branch [
      | then-j-i w ↦ rw (w.made-is, w.product-made.ensures, w.difference.ensures, number_at c.args.all c.loop-j.j, c.loop-j.invariant) (another _ _ _ _ _ w.if-j-i.true)
      | else-j-i w ↦ rw (w.made-is, c.loop-j.invariant) (own _ _ _ _ _ w.if-j-i.false)
    ]

pub returns : goal.returns
unfolding others
returns c =
    let all : c.loop-j.j ≡ c.args.all.count = omega arith in
    ap exponent (rw all at c.loop-j.invariant)

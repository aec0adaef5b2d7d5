use Rattle.std.specs.Prelude.{◌*◌, ◌^◌}
use Rattle.checking.specs.Equations.{element_at}
use Rattle.checking.proofs.Weights.{weight_none, weight_more, factor_none, factor_more}
use Rattle.checking.proofs.opened_part.Goals as goal

pub loop-l-init : goal.loop-l-init
loop-l-init c = (factor_none _ _, weight_none _ _ _)

pub loop-l-preserved : goal.loop-l-preserved
loop-l-preserved c =
    let a = c.args in
    let inv = c.loop-l.invariant in
    rw (c.times-made.ensures, c.power.ensures, c.product-power.ensures) (
      factor_more _ _ (element_at a.c) (λ n. a.w.0 * a.x ^ n) _ _ (c.requires.members _ c.loop-l-test.true) inv.0 inv.1,
      weight_more _ _ _ _ _ inv.1,
    )

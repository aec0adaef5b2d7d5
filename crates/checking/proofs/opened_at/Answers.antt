use Rattle.checking.proofs.Lines.{row_line, row_more}
use Rattle.checking.proofs.Weights.{weight_none, weight_more, factor_none}
use Rattle.checking.proofs.opened_at.Goals as goal

pub loop-j-init : goal.loop-j-init
loop-j-init c = (factor_none _ _, weight_none _ _ _)

pub opened_part-requires : goal.opened_part-requires
opened_part-requires c = row_line c.requires _ c.loop-j-test.true

pub loop-j-preserved : goal.loop-j-preserved
loop-j-preserved c =
    let a = c.args in
    let inv = c.loop-j.invariant in
    rw (c.times-made.ensures, c.opened_part.ensures, c.product-power.ensures) (
      row_more c.requires a.x a.y _ _ c.loop-j-test.true inv.0 inv.1,
      weight_more _ _ _ _ _ inv.1,
    )

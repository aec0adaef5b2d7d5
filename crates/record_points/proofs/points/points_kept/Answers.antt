use Rattle.std.proofs.Common.{◌≡◌, ◌∙◌, arith}
use Rattle.std.specs.Prelude.{get_or}
use Rattle.folds.specs.Runs.{gather-zero, gather-more}
use Rattle.rules.specs.Record.{nothing}
use Rattle.rules.specs.Steps.{share_points}
use Rattle.record_points.proofs.Lists.{considered_none, considered_more}
use Rattle.record_points.proofs.points.points_kept.Invariants.{pair_at}
use Rattle.record_points.proofs.points.points_kept.Goals as goal

pub loop-m-init : goal.loop-m-init
loop-m-init c = rw (gather-zero (pair_at c.args.keeps)) (c.no_points-made.ensures ∙ considered_none c.args.k)

pub loop-m-preserved : goal.loop-m-preserved
loop-m-preserved c =
    rw (gather-more (pair_at c.args.keeps))
    (rw c.loop-m.invariant at c.consider-made.ensures ∙ considered_more c.args.k c.loop-m.m _ (get_or c.args.keeps c.loop-m.m nothing))

pub returns : goal.returns
unfolding share_points
returns c =
    let all : c.loop-m.m ≡ 10 = omega (arith, c.loop-m.auto.m-end) in
    rw all at c.loop-m.invariant

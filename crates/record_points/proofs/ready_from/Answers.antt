use Rattle.std.proofs.Common.{rules, ◌≡◌, ◌∙◌, take}
use Rattle.std.specs.Prelude.{◌+◌, get_or}
use Rattle.matrices.specs.Filled.{filled_is}
use Rattle.rules.specs.Matrices.{to_boxes, zero_four}
use Rattle.interpolation.specs.Points.{said_by}
use Rattle.interpolation.specs.Lagrange.{four_through}
use Rattle.rules.specs.Steps.{ready_four, points}
use Rattle.record_points.proofs.Values.{side_fit, pair_ready, four_ready, sides_ready}
use Rattle.record_points.proofs.ready_from.Goals as goal

pub inverses-inverse-requires : goal.inverses-inverse-requires
inverses-inverse-requires c = rw c.points_held-rows.ensures (side_fit c.args.q c.args.k c.requires.0 c.args.places _)

pub pair_at-pair-requires : goal.pair_at-pair-requires
pair_at-pair-requires c =
    (sides_ready c.args.q c.args.k c.requires.0 c.args.places _ _ _ c.points_held-rows.ensures c.points_held-columns.ensures c.inverses-inverse.ensures).based

pub filled-fours-requires : goal.filled-fours-requires
filled-fours-requires c =
    let sides = sides_ready c.args.q c.args.k c.requires.0 c.args.places _ _ _ c.points_held-rows.ensures c.points_held-columns.ensures c.inverses-inverse.ensures in
    search rules

pub returns : goal.returns
unfolding to_boxes
returns c =
    let ready = four_ready c.args.q c.args.k c.requires.0 c.args.places in (
      (rw c.points_held-rows.ensures at c.pair_at-pair.ensures) ∙ pair_ready c.args.q c.args.k c.requires.0 c.args.places,
      filled_is (λ j. ready_four c.args.q (take c.args.k (points c.args.places)) (j + 1)) c.requires.1 (search rules)
          (λ i l.
          let made = c.filled-fours.ensures.made i l in
          let four : get_or c.filled-fours.result i zero_four ≡ four_through c.args.q (said_by c.points_held-rows.result) (said_by c.points_held-columns.result) (i + 1) = search rules in
          four ∙ rw (c.points_held-rows.ensures, c.points_held-columns.ensures) (ready (i + 1)))
          c.filled-fours.ensures.rest,
    )

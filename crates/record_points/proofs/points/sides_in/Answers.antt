use Rattle.std.proofs.Common.{rules}
use Rattle.interpolation.proofs.Values.{map_is}
use Rattle.rules.specs.Record.{silent, nothing}
use Rattle.record_points.specs.Points.{side_kept}
use Rattle.record_points.proofs.points.sides_in.Goals as goal

pub returns : goal.returns
returns c =
    map_is (side_kept c.args.drawn) silent c.args.places c.map.result (search rules) c.map.ensures.items.long
    (λ i l. let called = c.map.ensures.items.at i silent nothing l in search rules)

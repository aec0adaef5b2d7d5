use Rattle.rules.specs.Steps.{recovered_from}
use Rattle.interpolation.specs.Lagrange.{pair_through}
use Rattle.record_points.proofs.Values.{kept_fit, kept_said}
use Rattle.record_points.proofs.recovered_from.Goals as goal

pub inverses-inverse-requires : goal.inverses-inverse-requires
inverses-inverse-requires c = rw c.points_kept-all.ensures (kept_fit c.args.q c.args.k c.requires c.args.keeps)

pub pair_at-requires : goal.pair_at-requires
pair_at-requires c =
    record { fit = rw c.points_kept-all.ensures (kept_fit c.args.q c.args.k c.requires c.args.keeps); inverses = c.inverses-inverse.ensures }

pub returns : goal.returns
unfolding recovered_from pair_through
returns c = rw (c.points_kept-all.ensures, kept_said c.args.q c.args.k c.requires c.args.keeps) at c.pair_at.ensures

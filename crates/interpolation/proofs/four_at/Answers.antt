use Rattle.std.specs.Prelude.{◌≡◌}
use Rattle.std.proofs.Common.{◌∙◌}
use Rattle.interpolation.specs.Points.{said_by}
use Rattle.interpolation.specs.Lagrange.{pair_through, four_through}
use Rattle.interpolation.proofs.Values.{weighted_through}
use Rattle.interpolation.proofs.four_at.Goals as goal

pub returns : goal.returns
unfolding four_through
returns c =
    let a = c.args in
    let p = c.requires in
    let rows : c.weighted_pair-a.result ≡ pair_through a.q (said_by a.rows) a.x =
    (rw c.weights-weight.ensures at c.weighted_pair-a.ensures) ∙ weighted_through _ _ a.x p.based.fit.few in
    let columns : c.weighted_pair-b.result ≡ pair_through a.q (said_by a.columns) a.x =
    (rw (c.weights-weight.ensures, ← p.count, ← p.boxes) at c.weighted_pair-b.ensures) ∙ weighted_through _ _ a.x p.fit.few in
    rw (rows, columns)

use Rattle.std.proofs.Common.{rules}
use Rattle.matrices.specs.Filled.{filled_is}
use Rattle.rules.specs.Matrices.{row}
use Rattle.interpolation.specs.Points.{boxes_of}
use Rattle.interpolation.specs.Lagrange.{weight_at, weight_row}
use Rattle.interpolation.proofs.Values.{under_at}
use Rattle.interpolation.proofs.weights.Goals as goal

pub returns : goal.returns
unfolding weight_row row
returns c =
    filled_is (weight_at c.args.q c.args.all.count (boxes_of c.args.all) c.args.x) c.requires.fit.few (search rules)
    (λ i l. let made = c.filled.ensures.made i l in let under = under_at _ _ _ c.requires i l in search (rules, under))
    c.filled.ensures.rest

use Rattle.std.proofs.Common.{rules}
use Rattle.matrices.specs.Filled.{filled_is}
use Rattle.rules.specs.Matrices.{row}
use Rattle.interpolation.specs.Points.{boxes_of}
use Rattle.interpolation.specs.Lagrange.{inverse_at, inverse_row}
use Rattle.interpolation.proofs.Values.{number_at}
use Rattle.interpolation.proofs.inverses.Goals as goal

pub returns : goal.returns
unfolding inverse_row row
returns c =
    filled_is (inverse_at c.args.q c.args.all.count (boxes_of c.args.all)) c.requires.few (search rules)
    (λ i l. let made = c.filled.ensures.made i l in let number = number_at c.args.all i in search (rules, number))
    c.filled.ensures.rest

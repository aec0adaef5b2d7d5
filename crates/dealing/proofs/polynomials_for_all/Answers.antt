use Rattle.std.specs.Prelude.{◌+◌}
use Rattle.std.proofs.Common.{rules}
use Rattle.matrices.specs.Filled.{filled_is}
use Rattle.rules.specs.Matrices.{to_boxes}
use Rattle.rules.specs.Dealing.{polynomials_of}
use Rattle.dealing.proofs.polynomials_for_all.Goals as goal

pub returns : goal.returns
unfolding to_boxes
returns c =
    filled_is (λ j. polynomials_of c.args.q c.args.k c.args.f c.args.f2 (j + 1)) c.requires.boxes (search rules)
    (λ i l. let made = c.filled.ensures.made i l in search rules)
    c.filled.ensures.rest

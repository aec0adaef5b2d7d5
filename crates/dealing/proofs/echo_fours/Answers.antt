use Rattle.std.specs.Prelude.{◌+◌}
use Rattle.std.proofs.Common.{rules}
use Rattle.matrices.specs.Filled.{filled_is}
use Rattle.rules.specs.Matrices.{to_boxes}
use Rattle.rules.specs.Steps.{echo_four}
use Rattle.dealing.proofs.echo_fours.Goals as goal

pub returns : goal.returns
unfolding to_boxes
returns c =
    filled_is (λ j. echo_four c.args.q c.args.k c.args.all (j + 1)) c.requires.boxes (search rules)
    (λ i l. let made = c.filled.ensures.made i l in search rules)
    c.filled.ensures.rest

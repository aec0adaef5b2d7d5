use Rattle.std.specs.Prelude.{◌*◌, ◌%◌, ◌^◌}
use Rattle.std.proofs.Common.{rules}
use Rattle.matrices.specs.Filled.{filled_is}
use Rattle.folds.specs.Below.{sum_below}
use Rattle.rules.specs.Numbers.{exponent}
use Rattle.rules.specs.Matrices.{row, coefficient₂}
use Rattle.rules.specs.Dealing.{value_at, along_x}
use Rattle.dealing.proofs.along_rows.Goals as goal

pub returns : goal.returns
unfolding along_x row value_at
returns c =
    filled_is (λ j. exponent (sum_below c.args.k (λ l. coefficient₂ c.args.f j l * c.args.i ^ l) % c.args.q)) c.requires.1 (search rules)
    (λ i l. let made = c.filled.ensures.made i l in search rules)
    c.filled.ensures.rest

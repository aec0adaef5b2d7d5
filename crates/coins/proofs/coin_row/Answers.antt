use Rattle.std.specs.Prelude.{◌∷◌, ◌+◌, get_or}
use Rattle.std.proofs.Common.{rules}
use Rattle.matrices.specs.Filled.{filled_is}
use Rattle.rules.specs.Numbers.{exponent}
use Rattle.rules.specs.Matrices.{row}
use Rattle.coins.proofs.coin_row.Goals as goal

pub returns : goal.returns
unfolding row
returns c =
    filled_is (λ l. exponent (get_or (c.args.secret ∷ c.args.coins.now) (c.args.from + l) 0)) c.requires.0 (search rules)
    (λ i l. let made = c.filled.ensures.made i l in search rules)
    c.filled.ensures.rest

use Rattle.std.proofs.Common.{rules}
use Rattle.matrices.specs.Filled.{filled_is}
use Rattle.rules.specs.Numbers.{element}
use Rattle.rules.specs.Matrices.{row, coefficient}
use Rattle.rules.specs.Dealing.{committed}
use Rattle.dealing.proofs.commit_row.Goals as goal

pub returns : goal.returns
unfolding row
returns c =
    filled_is (λ l. element (committed c.args.group (coefficient c.args.f l) (coefficient c.args.f2 l))) c.requires.1 (search rules)
    (λ i l. let made = c.filled.ensures.made i l in search rules)
    c.filled.ensures.rest

use Rattle.std.proofs.Common.{rules}
use Rattle.std.specs.Prelude.{ltb}
use borrow.Author.Tests.{tests}
use Rattle.folds.specs.Chains.{all_of_slice}
use Rattle.coins.proofs.coins_below.Goals as goal

pub returns : goal.returns
returns c = all_of_slice (λ x. ltb x c.args.q) 0 c.args.coins.now _ c.all.ensures.ran (search rules) (λ x b q k. search (rules, tests))

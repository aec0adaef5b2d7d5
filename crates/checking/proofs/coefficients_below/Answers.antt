use Rattle.std.proofs.Common.{rules, refl}
use Rattle.std.specs.Prelude.{ltb}
use borrow.Author.Tests.{tests}
use Rattle.rules.specs.Matrices.{coefficient}
use Rattle.rules.specs.Dealing.{coefficients_below}
use Rattle.folds.specs.Chains.{all_of_range}
use Rattle.checking.proofs.coefficients_below.Goals as goal

pub returns : goal.returns
unfolding coefficients_below
returns c = all_of_range (λ l. ltb (coefficient c.args.a l) c.args.q) c.args.k _ c.all.ensures.ran refl (λ x b q k. search (rules, tests))

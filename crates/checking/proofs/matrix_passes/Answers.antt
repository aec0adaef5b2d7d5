use Rattle.std.proofs.Common.{rules, refl}
use borrow.Author.Tests.{tests}
use Rattle.rules.specs.Matrices.{entry}
use Rattle.rules.specs.Dealing.{in_group, matrix_passes}
use Rattle.folds.specs.Below.{all_below}
use Rattle.folds.specs.Chains.{all_of_range}
use Rattle.checking.proofs.matrix_passes.Goals as goal

pub returns : goal.returns
unfolding matrix_passes
returns c = all_of_range (λ j. all_below c.args.k (λ l. in_group c.args.group (entry c.args.c j l))) c.args.k _ c.all.ensures.ran refl (λ x b q k. search (rules, tests))

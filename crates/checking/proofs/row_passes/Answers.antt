use Rattle.std.proofs.Common.{rules, refl}
use borrow.Author.Tests.{tests}
use Rattle.rules.specs.Dealing.{in_group}
use Rattle.checking.specs.Equations.{element_at}
use Rattle.folds.specs.Chains.{all_of_range}
use Rattle.checking.proofs.row_passes.Goals as goal

pub returns : goal.returns
returns c = all_of_range (λ l. in_group c.args.group (element_at c.args.c l)) c.args.k _ c.all.ensures.ran refl (λ x b q k. search (rules, tests))

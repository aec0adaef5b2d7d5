use Rattle.std.proofs.Common.{rules, refl}
use Rattle.std.specs.Prelude.{eqb, ltb, get_or}
use borrow.Author.Tests.{tests}
use Rattle.folds.specs.Tests.{◌and◌, ◌or◌}
use Rattle.folds.specs.Chains.{all_of_range}
use Rattle.rules.specs.Numbers.{element}
use Rattle.record_clauses.specs.Clauses.{row_zero}
use Rattle.record_clauses.proofs.row_zero.Goals as goal

pub returns : goal.returns
unfolding row_zero
returns c = all_of_range (λ l. (c.args.used and ltb l c.args.k) or eqb (get_or c.args.row l (element 0)).0 0) 8 _ c.all.ensures.ran refl (λ x b q k. search (rules, tests))

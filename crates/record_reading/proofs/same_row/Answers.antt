use Rattle.std.proofs.Common.{rules, refl}
use Rattle.std.specs.Prelude.{eqb, get_or}
use borrow.Author.Tests.{tests}
use Rattle.folds.specs.Chains.{all_of_range}
use Rattle.rules.specs.Numbers.{element}
use Rattle.record_reading.specs.Slots.{same_row}
use Rattle.record_reading.proofs.same_row.Goals as goal

pub returns : goal.returns
unfolding same_row
returns c =
    all_of_range (λ l. eqb (get_or c.args.a l (element 0)).0 (get_or c.args.b l (element 0)).0) c.args.k _ c.all.ensures.ran refl
    (λ x b q k. search (rules, tests))

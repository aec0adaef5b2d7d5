use Rattle.std.proofs.Common.{rules, refl}
use Rattle.std.specs.Prelude.{[], get_or}
use borrow.Author.Tests.{tests}
use Rattle.folds.specs.Chains.{all_of_range}
use Rattle.rules.specs.Record.{same_matrix}
use Rattle.record_reading.specs.Slots.{same_row}
use Rattle.record_reading.proofs.same_matrix.Goals as goal

pub returns : goal.returns
unfolding same_matrix same_row
returns c = all_of_range (λ j. same_row c.args.k (get_or c.args.c j []) (get_or c.args.d j [])) c.args.k _ c.all.ensures.ran refl (λ x b q k. search (rules, tests))

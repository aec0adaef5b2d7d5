use Rattle.std.proofs.Common.{rules, refl}
use Rattle.std.specs.Prelude.{ltb}
use borrow.Author.Tests.{tests}
use Rattle.folds.specs.Tests.{◌or◌}
use Rattle.folds.specs.Chains.{all_of_range}
use Rattle.rules.specs.Record.{sender_zero}
use Rattle.record_soundness.specs.Clauses.{senders_clear}
use Rattle.record_soundness.proofs.clauses.senders_zero.Goals as goal

pub returns : goal.returns
unfolding senders_clear
returns c = all_of_range (λ m. ltb m c.args.x.setup.n or sender_zero c.args.x m) 10 _ c.all.ensures.ran refl (λ x b q k. search (rules, tests))

use Rattle.std.proofs.Common.{rules, refl}
use borrow.Author.Tests.{tests}
use Rattle.folds.specs.Chains.{all_of_range}
use Rattle.rules.specs.Record.{marked, share_at}
use Rattle.record_soundness.specs.Clauses.{share_keeps, shares_keep}
use Rattle.record_soundness.proofs.clauses.shares_keep.Goals as goal

pub returns : goal.returns
unfolding shares_keep
returns c = all_of_range (λ m. share_keeps c.args.q c.args.commanded (marked c.args.heard m) (share_at c.args.shares m)) 10 _ c.all.ensures.ran refl (λ x b q k. search (rules, tests))

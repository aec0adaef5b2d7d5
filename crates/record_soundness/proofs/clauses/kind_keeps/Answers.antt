use Rattle.std.proofs.Common.{rules, refl}
use borrow.Author.Tests.{tests}
use Rattle.folds.specs.Chains.{all_of_range}
use Rattle.record_soundness.specs.Clauses.{mark_keeps, kind_keeps}
use Rattle.record_soundness.proofs.clauses.kind_keeps.Goals as goal

pub returns : goal.returns
unfolding kind_keeps
returns c = all_of_range (mark_keeps c.args.slots.now c.args.side c.args.heard) 10 _ c.all.ensures.ran refl (λ x b q k. search (rules, tests))

use Rattle.std.proofs.Common.{rules, refl}
use borrow.Author.Tests.{tests}
use Rattle.folds.specs.Tests.{◌or◌, same}
use Rattle.folds.specs.Chains.{all_of_range}
use Rattle.rules.specs.Record.{held, marked, places_keep}
use Rattle.record_clauses.proofs.places_keep.Goals as goal

pub returns : goal.returns
unfolding places_keep
returns c = all_of_range (λ m. same (held c.args.slot m) (marked c.args.slot.echoed m or marked c.args.slot.readied m)) 10 _ c.all.ensures.ran refl (λ x b q k. search (rules, tests))

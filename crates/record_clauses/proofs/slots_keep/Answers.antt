use Rattle.std.proofs.Common.{rules, ◌≡◌, length}
use borrow.Author.Tests.{tests}
use Rattle.std.specs.Prelude.{get_or}
use Rattle.folds.specs.Below.{all_below}
use Rattle.folds.specs.Chains.{all_of_slice}
use Rattle.rules.specs.Record.{no_slot}
use Rattle.record_clauses.specs.Clauses.{slot_keeps, every_slot}
use Rattle.record_clauses.proofs.slots_keep.Goals as goal

pub returns : goal.returns
unfolding every_slot
returns c =
    let twenty : length c.args.slots ≡ 20 = search rules in
    let all : c.all.result ≡ all_below (length c.args.slots) (λ s. slot_keeps c.args.group c.args.u (get_or c.args.slots s no_slot)) = all_of_slice (slot_keeps c.args.group c.args.u) no_slot c.args.slots _ c.all.ensures.ran (cc) (λ x b q k. search (rules, tests)) in
    rw twenty at all

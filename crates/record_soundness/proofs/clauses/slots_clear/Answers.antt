use Rattle.std.proofs.Common.{rules, ◌≡◌, length}
use Rattle.std.specs.Prelude.{get_or}
use borrow.Author.Tests.{tests}
use Rattle.folds.specs.Below.{all_below}
use Rattle.folds.specs.Chains.{all_of_slice}
use Rattle.rules.specs.Record.{no_slot}
use Rattle.record_clauses.specs.Clauses.{every_slot}
use Rattle.record_soundness.specs.Clauses.{slot_clear}
use Rattle.record_soundness.proofs.clauses.slots_clear.Goals as goal

pub returns : goal.returns
unfolding every_slot
returns c =
    let twenty : length c.args.slots.now ≡ 20 = search rules in
    let all : c.all.result ≡ all_below (length c.args.slots.now) (λ s. slot_clear c.args.m (get_or c.args.slots.now s no_slot)) =
    all_of_slice (slot_clear c.args.m) no_slot c.args.slots.now _ c.all.ensures.ran (cc) (λ x b q k. search (rules, tests)) in
    rw twenty at all

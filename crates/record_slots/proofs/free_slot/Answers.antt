use Rattle.std.proofs.Common.{rules, ◌≡◌, length}
use Rattle.std.specs.Prelude.{not}
use borrow.Author.Tests.{tests}
use Rattle.folds.specs.Chains.{position_of_slice}
use Rattle.rules.specs.declared.Slot.{Slot}
use Rattle.rules.specs.Record.{no_slot}
use Rattle.record_slots.proofs.free_slot.Goals as goal

pub returns : goal.returns
returns c =
    let twenty : length c.args.slots.now ≡ 20 = search rules in
    rw twenty at (position_of_slice (λ (slot : Slot). not slot.used) no_slot c.args.slots.now _ c.position.ensures.ran (cc) (λ x b q k. search (rules, tests)))

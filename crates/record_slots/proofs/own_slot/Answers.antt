use Rattle.std.proofs.Common.{rules, ◌≡◌, length}
use borrow.Author.Tests.{tests}
use Rattle.folds.specs.Chains.{position_of_slice}
use Rattle.rules.specs.Record.{no_slot}
use Rattle.record_reading.specs.Slots.{has_matrix}
use Rattle.record_slots.proofs.own_slot.Goals as goal

pub returns : goal.returns
returns c =
    let twenty : length c.args.slots.now ≡ 20 = search rules in
    rw twenty at (position_of_slice (has_matrix c.args.k c.args.c) no_slot c.args.slots.now _ c.position.ensures.ran (cc) (λ x b q k. search (rules, tests)))

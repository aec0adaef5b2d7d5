use Rattle.std.proofs.Common.{sym, ◌∙◌}
use Rattle.folds.specs.Chains.{found_some, found_none, found_or}
use Rattle.rules.specs.Steps.{own_slot, free_slot, slot_for}
use Rattle.record_slots.specs.Found.{has_own, is_free}
use Rattle.record_slots.proofs.slot_for.Goals as goal

pub returns-in-Some : goal.returns-in-Some
unfolding slot_for own_slot
returns-in-Some c =
    let own = found_some 20 (has_own c.args.x.slots c.args.x.setup.k c.args.c) (sym c.own_slot.ensures ∙ c.in-Some.is) in
    rw own.0 (sym own.1)

pub returns-in-None : goal.returns-in-None
unfolding slot_for own_slot free_slot
returns-in-None c =
    rw (found_none 20 (has_own c.args.x.slots c.args.x.setup.k c.args.c) (sym c.own_slot.ensures ∙ c.in-None.is), c.unwrap_or.ensures, c.free_slot.ensures)
    (found_or 20 (is_free c.args.x.slots))

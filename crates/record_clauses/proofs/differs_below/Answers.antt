use Rattle.std.proofs.Common.{rules, ◌∙◌, ap, not, Bool, refl}
use borrow.Author.Tests.{tests}
use Rattle.folds.specs.Tests.{◌and◌}
use Rattle.folds.specs.Below.{all_below_same}
use Rattle.folds.specs.Chains.{all_of_range}
use Rattle.rules.specs.Record.{matrix_of}
use Rattle.rules.proofs.Laws.Sound.{agree_comm}
use Rattle.record_reading.specs.Slots.{slot_in, has_matrix}
use Rattle.record_clauses.specs.Clauses.{differ_from}
use Rattle.record_clauses.proofs.differs_below.Goals as goal

pub returns : goal.returns
unfolding differ_from matrix_of
returns c =
    let a = c.args in
    let slots = a.slots.now in
    all_of_range (λ i. not (has_matrix a.k (slot_in slots a.s).rows (slot_in slots i))) a.s _ c.all.ensures.ran refl (λ x b q k. search (rules, tests))
    ∙ rw c.requires.used
    (all_below_same _ _ a.s (λ i l. ap (λ (b : Bool). not ((slot_in slots i).used and b)) (agree_comm a.k (slot_in slots i).rows (slot_in slots a.s).rows)))

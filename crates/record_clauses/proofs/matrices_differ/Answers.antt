use Rattle.std.proofs.Common.{rules, refl, ◌≡◌, ◌∙◌, sym}
use Rattle.std.specs.Prelude.{Bool, true, false, not, List, ℕ}
use borrow.Author.Tests.{tests}
use Rattle.folds.specs.Tests.{◌or◌}
use Rattle.folds.specs.Below.{all_below_same, all_below_all}
use Rattle.folds.specs.Chains.{all_of_range}
use Rattle.rules.specs.declared.Slot.{Slot}
use Rattle.record_reading.specs.Slots.{slot_in}
use Rattle.record_clauses.specs.Clauses.{all_differ, differ_from}
use Rattle.record_clauses.proofs.matrices_differ.Goals as goal

-- a slot that is not in use differs from any
unused_differs : (k : ℕ) (slots : List Slot) (s : ℕ) (used : Bool) → (slot_in slots s).used ≡ used → (not used or differ_from k slots s) ≡ differ_from k slots s
unfolding differ_from
unused_differs k slots s true e = refl
unused_differs k slots s false e = sym (all_below_all _ s (λ i l. rw e))

pub returns : goal.returns
unfolding all_differ
returns c =
    let a = c.args in
    all_of_range (λ s. not (slot_in a.slots s).used or differ_from a.k a.slots s) 20 _ c.all.ensures.ran refl (λ x b q k. search (rules, tests))
    ∙ all_below_same _ (differ_from a.k a.slots) 20 (λ s l. unused_differs a.k a.slots s _ refl)

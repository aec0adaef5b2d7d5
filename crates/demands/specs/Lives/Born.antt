-- A life begins with a new record, and is good throughout.
--
-- In order: its beginning; what holds throughout; what follows for the slot of a matrix, the numbers and each slot.
-- Assumes nothing.
use Rattle.std.specs.Prelude.{◌≡◌, Bool, false, ℕ, ◌<◌}
use Rattle.std.proofs.Common.{sym, ◌∙◌, eq-eqb}
use Rattle.std.proofs.Math.Path.{ap, subst}
use Rattle.std.proofs.Math.Bool.{true}
use mathlib.Core.List.{List, [], ◌∷◌}
use Rattle.std.proofs.lemmas.List.{get_or-replicate}
use Rattle.folds.specs.Tests.{pick, and_left, true≢false}
use Rattle.rules.specs.declared.Element.{Element}
use Rattle.rules.specs.declared.Record.{Record}
use Rattle.rules.specs.declared.SetUp.{SetUp}
use Rattle.rules.specs.declared.Slot.{Slot}
use Rattle.rules.specs.Numbers.{group_keeps, numbers_keep}
use Rattle.rules.specs.Record.{no_slot, slot_at, zero_slot, new_record, zero_record}
use Rattle.rules.specs.Steps.{quiet}
use Rattle.rules.specs.Answers.{accepted, refused, outcome_of, first_of, set_up_rows, set_up}
use Rattle.rules.proofs.Laws.DemandOne.{outcome_number}
use Rattle.rules.proofs.Laws.Facts.{SlotFacts}
use Rattle.rules.proofs.Laws.New.{set_up_sound}
use Rattle.rules.proofs.Laws.Kept.{good_of}
use Rattle.rules.proofs.Laws.Kept.Changes.{Good}
use Rattle.demands.specs.Terms.Histories.{Call, after}
use Rattle.demands.specs.Terms.Dealing.{Sound}
use Rattle.demands.specs.Lives.Slots.{slot_of, slot_lacks}
use Rattle.demands.specs.Lives.Turns.{Turn}
use Rattle.demands.specs.Lives.Deliveries.{turn}

new_unused : (u : SetUp) (s : ℕ) → s < 20 → (slot_at (new_record u) s).used ≡ false
unfolding new_record zero_slot
new_unused u s l = ap (λ (v : Slot). v.used) (get_or-replicate 20 s zero_slot no_slot l)

module _ (u : SetUp) (taken : (set_up u).answer.no ≡ 0) where
  pub born : after u [] ≡ new_record u
  unfolding after set_up outcome_of accepted
  born =
      ap (λ (b : Bool). (pick b (accepted (quiet (new_record u))) (refused (first_of (set_up_rows u)) zero_record)).next)
      (eq-eqb (first_of (set_up_rows u)) 0 (sym (outcome_number _ (quiet (new_record u)) zero_record) ∙ taken))

  pub good : (cs : List Call) → Good (after u cs)
  unfolding after
  good [] = let new = set_up_sound u taken in good_of (set_up u).next new.0 new.1
  good (c ∷ cs) = (turn (after u cs) (good cs) c).good

  pub turn_at : (cs : List Call) (c : Call) → Turn (after u cs) c
  turn_at cs c = turn (after u cs) (good cs) c

  pub own_setup : (cs : List Call) → (after u cs).setup ≡ u
  unfolding after new_record
  own_setup [] = ap (λ (x : Record). x.setup) born
  own_setup (c ∷ cs) = (turn_at cs c).turned.setup ∙ own_setup cs

  -- at first nothing is held for any matrix
  pub slot_born : (D : List (List Element)) → slot_of (after u []) D ≡ zero_slot
  slot_born D =
      slot_lacks (after u []) (good []) D
      (λ s h. true≢false (sym h.used ∙ ap (λ (x : Record). (slot_at x s).used) born ∙ new_unused u s h.within))

  -- and the numbers keep their rules
  pub numbers_keep_lem : Sound u
  unfolding numbers_keep
  numbers_keep_lem =
      let facts = (good []).facts in
      let n : numbers_keep u ≡ true = subst (λ (v : SetUp). numbers_keep v ≡ true) (own_setup []) facts.numbers in
      record {
        group_keeps_lem = subst (λ (v : SetUp). group_keeps v ≡ true) (own_setup []) facts.group;
        sizes_keep_lem = and_left _ _ n;
      }

  pub facts_at : (cs : List Call) (s : ℕ) → s < 20 → SlotFacts u (slot_at (after u cs) s)
  facts_at cs s l = subst (λ (v : SetUp). SlotFacts v (slot_at (after u cs) s)) (own_setup cs) ((good cs).facts.slots.each s l)

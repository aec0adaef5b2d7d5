use Rattle.std.proofs.Common.{rules, ◌≡◌, ◌∙◌, refl, sym, length, arith}
use Rattle.std.specs.Prelude.{Bool, true, false, List, ℕ, ◌<◌, ◌≢◌, leb, count_by}
use borrow.Author.Tests.{lt-leb, ne_eqb}
use Rattle.folds.specs.Tests.{◌and◌, implies, false_unless, true≢false}
use Rattle.folds.specs.Below.{any_below, any_below_some, count_below, count_below_some, count_below_none, any_below_here}
use Rattle.folds.specs.Chains.{count_places}
use Rattle.rules.specs.declared.Side.{Side}
use Rattle.rules.specs.declared.Slot.{Slot}
use Rattle.rules.specs.Record.{no_slot, marked}
use Rattle.record_reading.specs.Slots.{slot_in}
use Rattle.record_soundness.specs.Clauses.{mark_of, mark_keeps}
use Rattle.record_soundness.proofs.clauses.mark_keeps.Goals as goal

-- under so many of the first n matrices, h saying whether the sender is heard
module _ (p : ℕ → Bool) (n : ℕ) (h : Bool) where
  some_passes : (b : Bool) → any_below n p ≡ b → b ≡ true → 0 < count_below n p
  some_passes b e t = let w = any_below_some p n (e ∙ t) in count_below_some p n w.0 w.1 w.2

  under_none : count_below n p ≡ 0 → (leb (count_below n p) 1 and implies (any_below n p) h) ≡ true
  under_none e =
      let none : any_below n p ≡ false = false_unless (any_below n p) (λ t. let w = some_passes _ refl t in omega arith) in
      rw (e, none)

  under_one : count_below n p ≡ 1 → (leb (count_below n p) 1 and implies (any_below n p) h) ≡ h
  under_one e = go (any_below n p) refl
    where
      go : (b : Bool) → any_below n p ≡ b → (leb (count_below n p) 1 and implies b h) ≡ h
      go true t = rw e
      go false t =
          let none = count_below_none p n (λ i l. false_unless (p i) (λ q. true≢false (sym (any_below_here p n i l q) ∙ t))) in
          absurd (omega arith)

  under_more : count_below n p ≢ 0 → count_below n p ≢ 1 → (leb (count_below n p) 1 and implies (any_below n p) h) ≡ false
  under_more e f = let many : leb (count_below n p) 1 ≡ false = lt-leb _ _ (omega arith) in rw many

-- how many were counted
counted : {n : ℕ} (slots : List Slot) (b : Side) (m : ℕ) → length slots ≡ 20 → n ≡ count_by (λ slot. mark_of b slot m) slots
    → n ≡ count_below 20 (λ s. mark_of b (slot_in slots s) m)
counted slots b m twenty e = e ∙ count_places (λ slot. mark_of b slot m) no_slot slots ∙ rw twenty

pub returns-then-under-eq0 : goal.returns-then-under-eq0
unfolding mark_keeps
returns-then-under-eq0 c =
    let a = c.args in
    let n : c.count-under.result ≡ count_by (λ (slot : Slot). mark_of a.side slot a.m) a.slots.now = search rules in
    let none = counted a.slots.now a.side a.m (search rules) n in
    rw (c.if-under-eq0.true) (sym (under_none _ 20 (marked a.heard a.m) (sym none ∙ c.if-under-eq0.true)))

pub returns-then-under-eq1 : goal.returns-then-under-eq1
unfolding mark_keeps
returns-then-under-eq1 c =
    let a = c.args in
    let n : c.count-under.result ≡ count_by (λ (slot : Slot). mark_of a.side slot a.m) a.slots.now = search rules in
    let one = counted a.slots.now a.side a.m (search rules) n in
    sym (under_one _ 20 (marked a.heard a.m) (sym one ∙ c.if-under-eq1.true))

pub returns-else-under-eq1 : goal.returns-else-under-eq1
unfolding mark_keeps
returns-else-under-eq1 c =
    let a = c.args in
    let n : c.count-under.result ≡ count_by (λ (slot : Slot). mark_of a.side slot a.m) a.slots.now = search rules in
    let many = counted a.slots.now a.side a.m (search rules) n in
    ne_eqb _ _ c.if-under-eq1.false ∙ sym (under_more _ 20 (marked a.heard a.m) (λ e. c.if-under-eq0.false (many ∙ e)) (λ e. c.if-under-eq1.false (many ∙ e)))

-- A step of a life, seen from one matrix: the slot of the matrix stays as it is, or takes an echo or ready.
--
-- In order: the two, each with what it says; which of them any call comes to.
-- Assumes nothing.
use Rattle.std.specs.Prelude.{is_some}
use Rattle.std.specs.Prelude.{◌≡◌, refl, Bool, true, false, List, ℕ, ◌+◌, ◌<◌, eqb}
use Rattle.std.proofs.Common.{sym, ap, ap₂, ◌∙◌, ⊎_elim, eq-eqb}
use Rattle.folds.specs.Tests.{◌and◌, ◌or◌, and_false, decide, and_true}
use Rattle.rules.specs.declared.Element.{Element}
use Rattle.rules.specs.declared.Four.{Four}
use Rattle.rules.specs.declared.Record.{Record}
use Rattle.rules.specs.Dealing.{matrix_passes, point_check}
use Rattle.rules.specs.Record.{group_in, marked, same_matrix}
use Rattle.rules.specs.Steps.{taken, completion_due}
use Rattle.rules.specs.declared.Side.{Side}
use Rattle.rules.specs.declared.Side.TheVariants.{ByEcho, ByReady}
use Rattle.rules.proofs.Laws.Facts.{marks_of, ear}
use Rattle.rules.proofs.Laws.Agreement.{passes_agree, point_agree}
use Rattle.rules.proofs.Laws.Kept.Changes.{Good}
use Rattle.demands.specs.Terms.Histories.{Call, doing}
use Rattle.demands.specs.Terms.Lives.{checks_now, sender_of, takes_now, four_of, is_ready}
use Rattle.demands.specs.Lives.Slots.{slot_of, slot_same, slot_unmarked}
use Rattle.demands.specs.Lives.Took.{SlotTook}
use Rattle.demands.specs.Lives.Turns.{next, Takes, Way, quiet, takes, keeps}
use Rattle.demands.specs.Lives.Deliveries.{turn}

-- ready is sent for the matrix
abbrev pub ready_now : Record → Call → List (List Element) → Bool
ready_now x c D = is_ready (doing x c).outcome.answer.sent and takes_now x c (sender_of c) D

pub record Aside (x : Record) (c : Call) (D : List (List Element)) : Type 0 where
  pub slot : slot_of (next x c) D ≡ slot_of x D
  pub unchecked : (b : Side) (i : ℕ) → checks_now x c (ear b + 1) i D ≡ false
  pub ready : ready_now x c D ≡ false

-- from sender m + 1
pub record Touched (x : Record) (c : Call) (D : List (List Element)) (b : Side) (m : ℕ) (f : Four) (sends : Bool) : Type 0 where
  pub low : m < 10
  pub new : marked (marks_of b (slot_of x D)) m ≡ false
  pub slot : SlotTook x.setup b m f sends (slot_of x D) (slot_of (next x c) D)
  pub checked : (tag i : ℕ) → checks_now x c tag i D ≡ eqb (m + 1) i and eqb (ear b + 1) tag
  pub takes : (i : ℕ) → takes_now x c i D ≡ eqb (m + 1) i
  pub ready : ready_now x c D ≡ sends
  pub four : four_of x c ≡ f
  pub passes : matrix_passes (group_in x) x.setup.k D ≡ true
  pub check : point_check (group_in x) x.setup.k D x.setup.i (m + 1) f ≡ true
  pub completes : sends ≡ false → completion_due x.setup b (taken b (slot_of x D) m f) ≡ true
      → is_some (next x c).progress.completion ≡ true

pub data View (x : Record) (c : Call) (D : List (List Element)) : Type 0 where
  aside : Aside x c D → View x c D
  touched : (b : Side) (m : ℕ) (f : Four) (sends : Bool) → Touched x c D b m f sends → View x c D

-- a tag is that of one side or the other
one_side : (b : Side) (p : Bool) → (p and eqb (ear b + 1) 2) or (p and eqb (ear b + 1) 3) ≡ p
one_side ByEcho true = refl
one_side ByEcho false = refl
one_side ByReady true = refl
one_side ByReady false = refl

module _ (x : Record) (g : Good x) (c : Call) (D : List (List Element)) where
  -- no slot changes
  unmoved : (next x c).slots ≡ x.slots → (next x c).setup ≡ x.setup → ((b : Side) (i : ℕ) → checks_now x c (ear b + 1) i D ≡ false)
      → is_ready (doing x c).outcome.answer.sent ≡ false → View x c D
  unmoved slots setup a r = aside (record { slot = slot_same x (next x c) D slots setup; unchecked = a; ready = rw r })

  module _ (b : Side) (m : ℕ) (C : List (List Element)) (f : Four) (sends : Bool) (t : Takes x c b m C f sends) where
    -- the message is for another matrix
    for_other : same_matrix x.setup.k C D ≡ false → View x c D
    for_other h =
        aside (record {
          slot = t.took.other D h;
          unchecked = λ a i. none (ear a + 1) i;
          ready = ap₂ (λ (p q : Bool). is_ready (doing x c).outcome.answer.sent and (p or q)) (none 2 (sender_of c)) (none 3 (sender_of c))
              ∙ and_false (is_ready (doing x c).outcome.answer.sent);
        })
      where
        none : (tag i : ℕ) → checks_now x c tag i D ≡ false
        none tag i =
            t.checked tag i D
            ∙ ap (λ (q : Bool). eqb (m + 1) i and eqb (ear b + 1) tag and q) h
            ∙ ap (λ (q : Bool). eqb (m + 1) i and q) (and_false (eqb (ear b + 1) tag))
            ∙ and_false (eqb (m + 1) i)

    -- for this one
    for_this : same_matrix x.setup.k C D ≡ true → View x c D
    for_this h =
        touched b m f sends (record {
          low = t.low;
          new = slot_unmarked x g D b m t.low t.new;
          slot = t.took.own D h;
          checked = here;
          takes = all;
          ready =
              ap₂ ◌and◌ t.ready (ap (λ (i : ℕ). takes_now x c i D) t.sender ∙ all (m + 1) ∙ eq-eqb (m + 1) (m + 1) refl)
              ∙ and_true sends;
          four = t.four;
          passes = passes_agree (group_in x) x.setup.k C D h t.passes;
          check = sym (point_agree (group_in x) x.setup.k C D h x.setup.i (m + 1) f) ∙ t.check;
          completes = t.took.completes D h;
        })
      where
        here : (tag i : ℕ) → checks_now x c tag i D ≡ eqb (m + 1) i and eqb (ear b + 1) tag
        here tag i =
            t.checked tag i D
            ∙ ap (λ (q : Bool). eqb (m + 1) i and eqb (ear b + 1) tag and q) h
            ∙ ap (λ (q : Bool). eqb (m + 1) i and q) (and_true (eqb (ear b + 1) tag))

        all : (i : ℕ) → takes_now x c i D ≡ eqb (m + 1) i
        all i = ap₂ ◌or◌ (here 2 i) (here 3 i) ∙ one_side b (eqb (m + 1) i)

  pub view : View x c D
  view = go (turn x g c).way
    where
      go : Way x c → View x c D
      go (quiet q) = unmoved q.slots (turn x g c).turned.setup (λ b i. q.unchecked b i D) q.ready
      go (takes b m C f sends t) =
          ⊎_elim (for_this b m C f sends t) (for_other b m C f sends t) (decide (same_matrix x.setup.k C D))
      go (keeps m p q) = unmoved q.slots (turn x g c).turned.setup (λ b i. q.unchecked b i D) q.ready

-- The slot that a matrix finds, replaced: what becomes of the slot of each matrix.
--
-- In order: the slot opened for the matrix holds what the box held for it; the slot of that matrix after; of any other; a slot in use
-- keeps its matrix.
-- Assumes nothing.
use Rattle.std.specs.Prelude.{◌≡◌, refl, true, false, List, ℕ, ◌<◌, get_or, set}
use Rattle.std.proofs.Common.{sym, ap, ◌∙◌, arith, get_or-set_same, get_or-set_other}
use Rattle.std.proofs.Math.Logic.{⊎_elim}
use Rattle.std.proofs.Math.Decide.{ℕ_discrete}
use Rattle.folds.specs.Tests.{true≢false, not_true_and_false}
use Rattle.rules.specs.declared.Element.{Element}
use Rattle.rules.specs.declared.Record.{Record}
use Rattle.rules.specs.declared.SetUp.{SetUp}
use Rattle.rules.specs.declared.Slot.{Slot}
use Rattle.rules.specs.Record.{no_slot, slot_at, matrix_of, same_matrix}
use Rattle.rules.specs.Steps.{opened}
use Rattle.rules.proofs.Laws.Sound.{agree_comm}
use Rattle.rules.proofs.Laws.Agreement.{agree_self, agree_trans}
use Rattle.rules.proofs.Laws.Room.{Found}
use Rattle.rules.proofs.Laws.Kept.OpenSlot.{open_same, open_new}
use Rattle.rules.proofs.Laws.Kept.Changes.{Good}
use Rattle.demands.specs.Lives.Slots.{slot_of, Has, Lacks, some_has, slot_has, slot_lacks}

-- what a slot holds, in use and with these rows
abbrev pub dressed : Slot → List (List Element) → Slot
dressed w rows = record { used = true; rows = rows; places = w.places; echoed = w.echoed; readied = w.readied; pair = w.pair }

dress_used : (w : Slot) → w.used ≡ true → w ≡ dressed w w.rows
dress_used w e = λ i. record { used = e i; rows = w.rows; places = w.places; echoed = w.echoed; readied = w.readied; pair = w.pair }

module _ (x : Record) (g : Good x) (C : List (List Element)) (s : ℕ) (found : Found x C s) where
  -- ---- the slot opened

  found_has : ((slot_at x s).used ≡ true) × (same_matrix x.setup.k (matrix_of (slot_at x s)) C ≡ true) → Has x C s
  found_has h = record { within = found.within; used = h.0; agrees = h.1 }

  found_lacks : ((r : ℕ) → r < 20 → (slot_at x r).used ≡ true → same_matrix x.setup.k (matrix_of (slot_at x r)) C ≡ false) → Lacks x C
  found_lacks h r i = true≢false (sym i.agrees ∙ h r i.within i.used)

  open_agrees : same_matrix x.setup.k (matrix_of (opened C (slot_at x s))) C ≡ true
  open_agrees =
      ⊎_elim
      (λ h. rw (open_same C (slot_at x s) h.0) h.1)
      (λ h. rw (open_new C (slot_at x s) h.0) (agree_self x.setup.k C))
      found.own

  pub open_as : opened C (slot_at x s) ≡ dressed (slot_of x C) (opened C (slot_at x s)).rows
  unfolding opened
  open_as =
      ⊎_elim
      (λ h. rw (slot_has x g C s (found_has h), h.0) (dress_used (slot_at x s) h.0))
      (λ h. rw (slot_lacks x g C (found_lacks h.1), h.0))
      found.own

  -- ---- and replaced by one with its matrix

  module _ (y : Record) (gy : Good y) (new : Slot) (slots : y.slots ≡ set x.slots s new) (setup : y.setup ≡ x.setup)
      (used : new.used ≡ true) (matrix : matrix_of new ≡ matrix_of (opened C (slot_at x s))) where
    here : slot_at y s ≡ new
    here =
        ap (λ (l : List Slot). get_or l s no_slot) slots
        ∙ get_or-set_same x.slots s new no_slot (let e = g.shape.slots in let l = found.within in omega arith)

    elsewhere : (r : ℕ) → (r ≡ s → ⊥) → slot_at y r ≡ slot_at x r
    elsewhere r n = ap (λ (l : List Slot). get_or l r no_slot) slots ∙ get_or-set_other x.slots s r new no_slot n

    new_agrees : (D : List (List Element)) → same_matrix x.setup.k C D ≡ true → same_matrix y.setup.k (matrix_of new) D ≡ true
    new_agrees D h = rw (setup, matrix) (agree_trans x.setup.k (matrix_of (opened C (slot_at x s))) C D open_agrees h)

    agrees_new : (D : List (List Element)) → same_matrix y.setup.k (matrix_of new) D ≡ true → same_matrix x.setup.k C D ≡ true
    agrees_new D h =
        agree_trans x.setup.k C (matrix_of new) D
        (agree_comm x.setup.k C (matrix_of new) ∙ ap (λ (M : List (List Element)). same_matrix x.setup.k M C) matrix ∙ open_agrees)
        (ap (λ (u : SetUp). same_matrix u.k (matrix_of new) D) (sym setup) ∙ h)

    -- The slot of the matrix is the new one.
    pub new_has : (D : List (List Element)) → same_matrix x.setup.k C D ≡ true → Has y D s
    new_has D h =
        record {
          within = found.within;
          used = ap (λ (v : Slot). v.used) here ∙ used;
          agrees = ap (λ (v : Slot). same_matrix y.setup.k (matrix_of v) D) here ∙ new_agrees D h;
        }

    pub slot_own : (D : List (List Element)) → same_matrix x.setup.k C D ≡ true → slot_of y D ≡ new
    slot_own D h = slot_has y gy D s (new_has D h) ∙ here

    has_moves : (D : List (List Element)) (r : ℕ) → (r ≡ s → ⊥) → Has x D r → Has y D r
    has_moves D r n h = record { within = h.within; used = rw (elsewhere r n) h.used; agrees = rw (elsewhere r n, setup) h.agrees }

    has_back : (D : List (List Element)) (r : ℕ) → (r ≡ s → ⊥) → Has y D r → Has x D r
    has_back D r n h =
        record { within = h.within; used = rw (← elsewhere r n) h.used; agrees = rw (← elsewhere r n, ← setup) h.agrees }

    -- The slot of any other matrix is as it was.
    pub slot_other : (D : List (List Element)) → same_matrix x.setup.k C D ≡ false → slot_of y D ≡ slot_of x D
    slot_other D h = ⊎_elim (λ w. kept w.0 w.1) none (some_has x g D)
      where
        -- slot s has the matrix or none
        not_here : (r : ℕ) → Has x D r → r ≡ s → ⊥
        not_here r i e =
            ⊎_elim
            (λ f.
            true≢false (sym (agree_trans x.setup.k C (matrix_of (slot_at x s)) D
            (agree_comm x.setup.k C (matrix_of (slot_at x s)) ∙ f.1) (rw e at i.agrees)) ∙ h))
            (λ f. not_true_and_false (slot_at x s).used (rw e at i.used) f.0)
            found.own

        kept : (r : ℕ) → Has x D r → slot_of y D ≡ slot_of x D
        kept r i =
            slot_has y gy D r (has_moves D r (not_here r i) i) ∙ elsewhere r (not_here r i) ∙ sym (slot_has x g D r i)

        nowhere : Lacks x D → (r : ℕ) → Dec (r ≡ s) → Has y D r → ⊥
        nowhere l r (yes e) i =
            true≢false (sym (agrees_new D (ap (λ (v : Slot). same_matrix y.setup.k (matrix_of v) D) (sym here)
            ∙ (rw e at i.agrees))) ∙ h)
        nowhere l r (no n) i = l r (has_back D r n i)

        none : Lacks x D → slot_of y D ≡ slot_of x D
        none l = slot_lacks y gy D (λ r. nowhere l r (ℕ_discrete r s)) ∙ sym (slot_lacks x g D l)

    -- A slot in use stays in use, with its matrix.
    pub slot_stays : (r : ℕ) → (slot_at x r).used ≡ true → ((slot_at y r).used ≡ true) × (matrix_of (slot_at y r) ≡ matrix_of (slot_at x r))
    slot_stays r e = go (ℕ_discrete r s)
      where
        go : Dec (r ≡ s) → ((slot_at y r).used ≡ true) × (matrix_of (slot_at y r) ≡ matrix_of (slot_at x r))
        go (yes q) =
            rw q (
              ap (λ (v : Slot). v.used) here ∙ used,
              ap matrix_of here ∙ matrix ∙ ap matrix_of (open_same C (slot_at x s) (rw q at e)),
            )
        go (no n) = rw (elsewhere r n) (e, refl)

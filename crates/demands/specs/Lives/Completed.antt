-- A box completes when enough readies for one matrix were checked, and then stays as it is.
--
-- In order: completion is forced; its share is the pair kept for its matrix; matrix and share stay.
-- Assumes nothing.
use Rattle.std.specs.Prelude.{◌≡◌, Bool, true, false, ℕ, ◌+◌, ◌<◌, ◌≤◌, leb, ltb}
use Rattle.std.proofs.Math.Path.{refl, sym, ap}
use Rattle.std.proofs.Common.{◌∙◌, arith, eq-eqb, ne_eqb, le-leb}
use mathlib.Core.List.{List, [], ◌∷◌, ◌++◌}
use Rattle.std.proofs.Math.Decide.{dec_lt}
use Rattle.folds.specs.Tests.{◌and◌, or_right}
use Rattle.folds.specs.Below.{count_below}
use Rattle.std.specs.Prelude.{Some, is_some}
use Rattle.rules.specs.declared.Element.{Element}
use Rattle.rules.specs.declared.Four.{Four}
use Rattle.rules.specs.declared.Marks.{Marks}
use Rattle.rules.specs.declared.Record.{Record}
use Rattle.rules.specs.declared.SetUp.{SetUp}
use Rattle.rules.specs.declared.Side.{Side}
use Rattle.rules.specs.declared.Side.TheVariants.{ByEcho, ByReady}
use Rattle.rules.specs.declared.Slot.{Slot}
use Rattle.rules.specs.Numbers.{echo_quorum}
use Rattle.rules.specs.Record.{slot_at, marked, matrix_of, count_e, count_r, zero_slot}
use Rattle.rules.specs.Steps.{taken, ready_due, completion_due}
use Rattle.rules.specs.Answers.{set_up}
use Rattle.rules.proofs.Laws.Kept.TakenSlot.{count_is, count_up}
use Rattle.demands.specs.Terms.Histories.{Call, after}
use Rattle.demands.specs.Sharing.{size}
use Rattle.demands.specs.Terms.Lives.{kept_for}
use Rattle.demands.specs.Lives.Slots.{slot_of, kept_of, slot_shape, slot_used, there_some}
use Rattle.demands.specs.Lives.Seen.{View, Touched, aside, touched, view}
use Rattle.demands.specs.Lives.Born.{good, own_setup, slot_born, turn_at, numbers_keep_lem}
use Rattle.demands.specs.Lives.Readies.{kept_on}
use Rattle.demands.specs.Lives.Once.{done_stays}

-- ---- completion is forced

zero-r : count_r zero_slot ≡ 0
unfolding count_r count_below zero_slot
zero-r = refl

-- an echo leaves r as it is
echo_leaves_r : (w : Slot) (m : ℕ) (f : Four) → count_r (taken ByEcho w m f) ≡ count_r w
unfolding count_r
echo_leaves_r w m f = refl

module _ (u : SetUp) (set_up_lem : (set_up u).answer.no ≡ 0) where
  -- at k + t completion is due and no ready, since t is at least 1
  due_then : (w : Slot) → count_r w ≡ u.k + u.t → (ready_due u ByReady w ≡ false) × (completion_due u ByReady w ≡ true)
  due_then w e =
      let some = (size u (numbers_keep_lem u set_up_lem)).faults in
      (ap (λ b. b and ltb (count_e w) (echo_quorum u)) (ne_eqb (count_r w) u.k (λ q. omega arith)), eq-eqb _ _ e)

  abbrev IsComplete : List Call → Type 0
  IsComplete cs = is_some (after u cs).progress.completion ≡ true

  complete_on : (c : Call) (cs : List Call) → IsComplete cs → IsComplete (c ∷ cs)
  unfolding after
  complete_on c cs = done_stays _ _ (turn_at u set_up_lem cs c).turned.still

  module _ (D : List (List Element)) where
    abbrev r : List Call → ℕ
    r cs = count_r (slot_of (after u cs) D)

    -- r after a message for the matrix
    r_took : (c : Call) (cs : List Call) (b : Side) (m : ℕ) (f : Four) (sends : Bool) → Touched (after u cs) c D b m f sends
        → r (c ∷ cs) ≡ count_r (taken b (slot_of (after u cs) D) m f)
    unfolding after
    r_took c cs b m f sends t =
        count_is ByReady _ ∙ ap (λ (ms : Marks). count_below 10 (marked ms)) (t.slot.marks ByReady) ∙ sym (count_is ByReady _)

    pub forced : (cs : List Call) → u.k + u.t ≤ r cs → IsComplete cs
    unfolding after
    forced [] many =
        let low = (size u (numbers_keep_lem u set_up_lem)).low in
        let none = ap count_r (slot_born u set_up_lem D) ∙ zero-r in
        absurd (omega arith)
    forced (c ∷ cs) many = go (view (after u cs) (good u set_up_lem cs) c D) (forced cs) (dec_lt (r cs) (u.k + u.t))
      where
        x : Record
        x = after u cs

        go : View x c D → (u.k + u.t ≤ r cs → IsComplete cs) → Dec (r cs < u.k + u.t) → IsComplete (c ∷ cs)
        go v ih (no n) = complete_on c cs (ih (omega arith))
        go (aside t) ih (yes l) = let same : r (c ∷ cs) ≡ r cs = ap count_r t.slot in absurd (omega arith)
        go (touched ByEcho m f sends t) ih (yes l) =
            let same = r_took c cs ByEcho m f sends t ∙ echo_leaves_r (slot_of x D) m f in absurd (omega arith)
        go (touched ByReady m f sends t) ih (yes l) =
            let now = r_took c cs ByReady m f sends t in
            let up = count_up ByReady (slot_of x D) (slot_shape x (good u set_up_lem cs) D) m t.low f t.new in
            let due = due_then (taken ByReady (slot_of x D) m f) (omega arith) in
            let own = own_setup u set_up_lem cs in
            t.completes (t.slot.test ∙ (rw own due.0)) (rw own due.1)

  -- ---- its share is the pair kept for its matrix

  -- the slot is in use
  done_used : (s : ℕ) (cs : List Call) → (after u cs).progress.completion ≡ Some s → (s < 20) × ((slot_at (after u cs) s).used ≡ true)
  done_used s cs e = let done = (good u set_up_lem cs).facts.progress.completion s e in (done.within, done.used)

  -- and has a pair
  pub done_kept : (s : ℕ) (cs : List Call) → (after u cs).progress.completion ≡ Some s
      → (s < 20) × (is_some (slot_at (after u cs) s).pair ≡ true)
  done_kept s cs e =
      let x = after u cs in
      let facts = (good u set_up_lem cs).facts in
      let done = facts.progress.completion s e in
      let many = done.readies in
      let enough = le-leb x.setup.k (count_r (slot_at x s)) (omega arith) in
      (done.within, (facts.slots.each s done.within).right ∙ or_right (leb (echo_quorum x.setup) (count_e (slot_at x s))) _ enough)

  pub share_kept : (s : ℕ) (cs : List Call) → (after u cs).progress.completion ≡ Some s
      → kept_for (after u cs) (matrix_of (slot_at (after u cs) s)) ≡ (slot_at (after u cs) s).pair
  share_kept s cs e =
      let h = done_used s cs e in
      kept_of (after u cs) (matrix_of (slot_at (after u cs) s))
      ∙ ap (λ (w : Slot). w.pair) (slot_used (after u cs) (good u set_up_lem cs) s h.0 h.1)

  -- ---- it stays

  module _ (s : ℕ) (cs : List Call) (done : (after u cs).progress.completion ≡ Some s) where
    pub completion_on : (later : List Call) → (after u (later ++ cs)).progress.completion ≡ Some s
    unfolding after
    completion_on [] = done
    completion_on (c ∷ later) = (turn_at u set_up_lem (later ++ cs) c).turned.still s (completion_on later)

    pub matrix_on : (later : List Call) → matrix_of (slot_at (after u (later ++ cs)) s) ≡ matrix_of (slot_at (after u cs) s)
    unfolding after
    matrix_on [] = refl
    matrix_on (c ∷ later) =
        ((turn_at u set_up_lem (later ++ cs) c).turned.stays s (done_used s (later ++ cs) (completion_on later)).1).1 ∙ matrix_on later

    pub share_on : (later : List Call) → (slot_at (after u (later ++ cs)) s).pair ≡ (slot_at (after u cs) s).pair
    share_on later =
        let M = matrix_of (slot_at (after u cs) s) in
        let kept = there_some _ (done_kept s cs done).1 in
        let then : (slot_of (after u cs) M).pair ≡ Some kept.0 = sym (kept_of (after u cs) M) ∙ share_kept s cs done ∙ kept.1 in
        sym (share_kept s (later ++ cs) (completion_on later))
        ∙ ap (kept_for (after u (later ++ cs))) (matrix_on later)
        ∙ kept_of (after u (later ++ cs)) M
        ∙ kept_on u set_up_lem M cs kept.0 later then
        ∙ sym kept.1

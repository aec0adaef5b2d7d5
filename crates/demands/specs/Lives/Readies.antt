-- Ready is sent once for a matrix, and the pair kept then stays and passes.
--
-- In order: a slot that is to send ready has no pair yet; the pair is there once ready was sent; it is the interpolation at that
-- moment; it never changes; it passes the share check.
-- Assumes nothing.
use Rattle.std.specs.Prelude.{◌≡◌, refl, true, false, ℕ, ◌+◌, ◌<◌, ◌≤◌, eqb, leb, take}
use Rattle.std.proofs.Common.{sym, ap, ◌∙◌, subst, ⊎_elim, arith, eqb-true, ltb-true, leb-true}
use mathlib.Core.List.{List, [], ◌∷◌, ◌++◌}
use Rattle.folds.specs.Tests.{pick, and_left, and_right, or_cases, or_left, or_right, true≢false, false_unless, decide}
use Rattle.folds.specs.Below.{count_below, any_below_here, count_below_none, count_below_mono}
use Rattle.rules.specs.declared.Element.{Element}
use Rattle.rules.specs.declared.Four.{Four}
use Rattle.std.specs.Prelude.{Option, Some, None, is_some}
use Rattle.rules.specs.declared.Pair.{Pair}
use Rattle.rules.specs.declared.Point.TheVariants.{Held}
use Rattle.rules.specs.declared.Record.{Record}
use Rattle.rules.specs.declared.SetUp.{SetUp}
use Rattle.rules.specs.declared.Slot.{Slot}
use Rattle.rules.specs.Numbers.{echo_quorum}
use Rattle.rules.specs.Matrices.{zero_four}
use Rattle.rules.specs.Dealing.{matrix_passes, point_check, share_check}
use Rattle.rules.specs.Record.{marked, held, count_e, count_r, zero_slot}
use Rattle.rules.specs.Steps.{points, pair_from, taken, ready_due}
use Rattle.rules.specs.Answers.{set_up}
use Rattle.rules.proofs.Laws.Numbers.{quorum}
use Rattle.rules.specs.Laws.Shape.{ShapedSlot}
use Rattle.rules.specs.declared.Side.{Side}
use Rattle.rules.proofs.Laws.Facts.{marks_of, PairRight, SlotFacts}
use Rattle.rules.proofs.Laws.Kept.TakenSlot.{other, count_of, aim, count_grows, count_up, either_side, due_sides}
use Rattle.demands.specs.Terms.Honest.{Past}
use Rattle.demands.specs.Terms.Histories.{Call, after}
use Rattle.demands.specs.Terms.Dealing.{group, order, Different}
use Rattle.demands.specs.Sharing.{share_passes}
use Rattle.demands.specs.Terms.Lives.{readies_sent, said}
use Rattle.demands.specs.Histories.{past_self, past_more}
use Rattle.demands.specs.Lives.Slots.{slot_of, slot_facts, slot_shape}
use Rattle.demands.specs.Lives.Turns.{next}
use Rattle.demands.specs.Lives.Seen.{ready_now, View, aside, touched, view}
use Rattle.demands.specs.Lives.Born.{good, own_setup, slot_born, numbers_keep_lem}
use Rattle.demands.specs.Lives.Counts.{points_are, said_passes}
use Rattle.demands.specs.Lives.Points.{points_differ}

-- ---- no pair yet

-- below both aims there is none
no_pair_lem : (u : SetUp) (b : Side) (w : Slot) → PairRight u w → count_of b w < aim u b → count_of (other b) w < aim u (other b)
    → is_some w.pair ≡ false
no_pair_lem u b w right h g = false_unless _ (λ e.
    ⊎_elim (λ q. let z = leb-true (aim u b) (count_of b w) q in let bad : ⊥ = omega arith in bad)
    (λ q. let z = leb-true (aim u (other b)) (count_of (other b) w) q in let bad : ⊥ = omega arith in bad)
    (or_cases (leb (aim u b) (count_of b w)) _ (sym (right ∙ either_side u b w) ∙ e)))

-- a slot that is to send ready has none
pub none_before_lem : (u : SetUp) (b : Side) (m : ℕ) (f : Four) (w : Slot) → ShapedSlot w → PairRight u w → m < 10
    → marked (marks_of b w) m ≡ false
    → ready_due u b (taken b w m f) ≡ true → is_some w.pair ≡ false
none_before_lem u b m f w shape right l n t =
    let up = count_up b w shape m l f n in
    let grows = count_grows b w shape m l f (other b) in
    let due = sym (due_sides u b (taken b w m f)) ∙ t in
    let at = eqb-true (count_of b (taken b w m f)) (aim u b) (and_left _ _ due) in
    let low = ltb-true (count_of (other b) (taken b w m f)) (aim u (other b)) (and_right (eqb (count_of b (taken b w m f)) (aim u b)) _ due) in
    no_pair_lem u b w right (omega arith) (omega arith)

-- a pair is there: k are held at least
pub enough : (u : SetUp) (w : Slot) → SlotFacts u w → is_some w.pair ≡ true → u.k ≤ count_below 10 (held w)
unfolding count_e count_r
enough u w c e =
    let q = (quorum u).threshold in
    ⊎_elim
    (λ h.
    let z = leb-true (echo_quorum u) (count_e w) h in
    let g = count_below_mono (marked w.echoed) (held w) 10 (λ i l t. c.contents.places i l ∙ or_left _ _ t) in
    let r : u.k ≤ count_below 10 (held w) = omega arith in r)
    (λ h.
    let z = leb-true u.k (count_r w) h in
    let g = count_below_mono (marked w.readied) (held w) 10 (λ i l t. c.contents.places i l ∙ or_right (marked w.echoed i) _ t) in
    let r : u.k ≤ count_below 10 (held w) = omega arith in r)
    (or_cases (leb (echo_quorum u) (count_e w)) (leb u.k (count_r w)) (sym c.right ∙ e))

-- and the slot is in use
pub used_there : (u : SetUp) (w : Slot) → SlotFacts u w → 1 ≤ u.k → is_some w.pair ≡ true → w.used ≡ true
used_there u w c l e =
    ⊎_elim (λ h. h)
    (λ h.
    let many = enough u w c e in
    let none = count_below_none (held w) 10
    (λ i b. false_unless _ (λ t. true≢false (sym (any_below_here (held w) 10 i b t) ∙ sym c.in_use ∙ h))) in
    absurd (omega arith))
    (decide w.used)

-- ---- over a life

zero-pair : zero_slot.pair ≡ None
unfolding zero_slot
zero-pair = refl

module _ (u : SetUp) (set_up_lem : (set_up u).answer.no ≡ 0) (D : List (List Element)) where
  -- what is kept for the matrix
  abbrev kept_in : List Call → Option Pair
  kept_in cs = (slot_of (after u cs) D).pair

  at_first : kept_in [] ≡ None
  at_first = ap (λ (w : Slot). w.pair) (slot_born u set_up_lem D) ∙ zero-pair

  -- a call leaves the pair, or sends ready and keeps one where there was none
  data Pairing (c : Call) (cs : List Call) : Type 0 where
    left : ready_now (after u cs) c D ≡ false → kept_in (c ∷ cs) ≡ kept_in cs → Pairing c cs
    made : ready_now (after u cs) c D ≡ true → matrix_passes (group u) u.k D ≡ true → is_some (kept_in cs) ≡ false
        → kept_in (c ∷ cs) ≡ Some (pair_from (order u) (take u.k (points (slot_of (after u (c ∷ cs)) D).places))) → Pairing c cs

  pairing : (c : Call) (cs : List Call) → Pairing c cs
  unfolding after
  pairing c cs = go (view x (good u set_up_lem cs) c D)
    where
      x : Record
      x = after u cs

      go : View x c D → Pairing c cs
      go (aside t) = left t.ready (ap (λ (w : Slot). w.pair) t.slot)
      go (touched b m f true t) =
          made t.ready
          (subst (λ (v : SetUp). matrix_passes (group v) v.k D ≡ true) (own_setup u set_up_lem cs) t.passes)
          (none_before_lem x.setup b m f (slot_of x D) (slot_shape x (good u set_up_lem cs) D)
          (slot_facts x (good u set_up_lem cs) D).right
          t.low t.new (sym t.slot.test))
          (subst (λ (v : SetUp). (slot_of (next x c) D).pair
          ≡ Some (pair_from (order v) (take v.k (points (slot_of (next x c) D).places))))
          (own_setup u set_up_lem cs) t.slot.pair)
      go (touched b m f false t) = left t.ready t.slot.pair

  -- ready was sent once if a pair is kept, and else never
  pub readies_are : (cs : List Call) → readies_sent u cs D ≡ pick (is_some (kept_in cs)) 1 0
  unfolding readies_sent
  readies_are [] = rw at_first
  readies_are (c ∷ cs) = go (pairing c cs) (readies_are cs)
    where
      go : Pairing c cs → readies_sent u cs D ≡ pick (is_some (kept_in cs)) 1 0
          → pick (ready_now (after u cs) c D) 1 0 + readies_sent u cs D ≡ pick (is_some (kept_in (c ∷ cs))) 1 0
      go (left r e) ih = rw (r, e) (omega arith)
      go (made r m n e) ih = rw (r, e, ih, n)

  pub kept_now : (c : Call) (cs : List Call) → readies_sent u (c ∷ cs) D ≡ readies_sent u cs D + 1
      → kept_in (c ∷ cs) ≡ Some (pair_from (order u) (take u.k (points (slot_of (after u (c ∷ cs)) D).places)))
  unfolding readies_sent
  kept_now c cs h = go (pairing c cs) h
    where
      go : Pairing c cs → pick (ready_now (after u cs) c D) 1 0 + readies_sent u cs D ≡ readies_sent u cs D + 1
          → kept_in (c ∷ cs) ≡ Some (pair_from (order u) (take u.k (points (slot_of (after u (c ∷ cs)) D).places)))
      go (left r e) h = let z : 0 + readies_sent u cs D ≡ readies_sent u cs D + 1 = rw r at h in absurd (omega arith)
      go (made r m n e) h = e

  pub kept_on : (cs : List Call) (p : Pair) (later : List Call) → kept_in cs ≡ Some p → kept_in (later ++ cs) ≡ Some p
  kept_on cs p [] e = e
  kept_on cs p (c ∷ later) e = go (pairing c (later ++ cs)) (kept_on cs p later e)
    where
      go : Pairing c (later ++ cs) → kept_in (later ++ cs) ≡ Some p → kept_in (c ∷ (later ++ cs)) ≡ Some p
      go (left r q) ih = q ∙ ih
      go (made r m n q) ih = absurd (true≢false (sym (ap is_some ih) ∙ n))

  -- ---- the pair passes

  -- what holds of all that was said holds of the k lowest points of a slot with a pair
  pub said_differ : (P : ℕ → Four → Type 0) (cs : List Call) → ((m : ℕ) (f : Four) → said u cs m D ≡ Held f → P m f)
      → is_some (kept_in cs) ≡ true → Different u zero_four (take u.k (points (slot_of (after u cs) D).places)) P
  said_differ P cs each e =
      let x = after u cs in
      let facts = subst (λ (v : SetUp). SlotFacts v (slot_of x D)) (own_setup u set_up_lem cs) (slot_facts x (good u set_up_lem cs) D) in
      points_differ u (slot_of x D) P facts.contents.above
      (λ m f l h. each (m + 1) f (sym (points_are u set_up_lem D m l cs) ∙ h))
      (enough u (slot_of x D) facts e)

  -- they pass the point check
  pub held_differ : (cs : List Call) → is_some (kept_in cs) ≡ true
      → Different u zero_four (take u.k (points (slot_of (after u cs) D).places)) (λ m f. point_check (group u) u.k D u.i m f ≡ true)
  held_differ cs = said_differ _ cs (λ m f. said_passes u set_up_lem D m f cs)

  -- what holds, at each moment, of the pair of a slot's k lowest points holds of the pair kept
  pub pair_holds : (P : Pair → Type 0) (cs : List Call)
      → ((now : List Call) → Past now cs → is_some (kept_in now) ≡ true → matrix_passes (group u) u.k D ≡ true
      → P (pair_from (order u) (take u.k (points (slot_of (after u now) D).places))))
      → (p : Pair) → kept_in cs ≡ Some p → P p
  pair_holds P [] holds p e = absurd (true≢false (sym (ap is_some e) ∙ ap is_some at_first))
  pair_holds P (c ∷ cs) holds p e =
      go (pairing c cs) (pair_holds P cs (λ now q. holds now (past_more c now cs q)) p)
    where
      go : Pairing c cs → (kept_in cs ≡ Some p → P p) → P p
      go (left r q) ih = ih (sym q ∙ e)
      go (made r m n q) ih =
          let made_of : pair_from (order u) (take u.k (points (slot_of (after u (c ∷ cs)) D).places)) ≡ p = cc in
          subst P made_of (holds (c ∷ cs) (past_self (c ∷ cs)) (ap is_some e) m)

  pub pair_passes : (cs : List Call) (p : Pair) → kept_in cs ≡ Some p → share_check (group u) u.k D u.i p ≡ true
  pair_passes cs p =
      pair_holds (λ v. share_check (group u) u.k D u.i v ≡ true) cs
      (λ now q there passes. (share_passes u (numbers_keep_lem u set_up_lem) D passes u.i _ (held_differ now there)).1) p

-- Marks, counts and points go by what has been checked.
--
-- In order: who is marked, and so e and r; the points held, and that they pass.
-- Assumes nothing.
use Rattle.std.proofs.Math.Path.{◌≡◌, ap, ap₂}
use Rattle.std.proofs.Common.{sym, ◌∙◌, subst₂, inl, inr, ⊎_elim, arith, eqb-true}
use Rattle.std.specs.Prelude.{Bool, ◌⊎◌, eqb, get_or}
use Rattle.std.proofs.Math.Bool.{true}
use mathlib.Core.List.{List, [], ◌∷◌}
use Prim.Native.Nat.{ℕ, ◌+◌, ◌<◌}
use Rattle.folds.specs.Tests.{◌or◌, pick, pick_true, pick-false, decide}
use Rattle.folds.specs.Below.{count_below, count_below_same}
use Rattle.rules.specs.declared.Element.{Element}
use Rattle.rules.specs.declared.Four.{Four}
use Rattle.rules.specs.declared.Marks.{Marks}
use Rattle.rules.specs.declared.Place.{Place}
use Rattle.rules.specs.declared.Point.{Point}
use Rattle.rules.specs.declared.Point.TheVariants.{Silent, Held}
use Rattle.rules.specs.declared.SetUp.{SetUp}
use Rattle.rules.specs.declared.Slot.{Slot}
use Rattle.rules.specs.Dealing.{point_check}
use Rattle.rules.specs.Record.{silent, marked, place_at, count_e, count_r}
use Rattle.rules.specs.Steps.{first_point}
use Rattle.rules.specs.Answers.{set_up}
use Rattle.rules.specs.declared.Side.{Side}
use Rattle.rules.specs.declared.Side.TheVariants.{ByEcho, ByReady}
use Rattle.rules.proofs.Laws.Facts.{marks_of, ear}
use Rattle.rules.proofs.Laws.Kept.OpenSlot.{zero-silent, zero_unmarked}
use Rattle.demands.specs.Terms.Histories.{Call, after}
use Rattle.demands.specs.Terms.Dealing.{group}
use Rattle.demands.specs.Terms.Lives.{checks_now, checked, takes_now, four_of, said, e_of, r_of}
use Rattle.demands.specs.Lives.Slots.{slot_of, e_of_lem, r_of_lem, slot_shape}
use Rattle.demands.specs.Lives.Took.{taken_mark, taken_point}
use Rattle.demands.specs.Lives.Turns.{next}
use Rattle.demands.specs.Lives.Seen.{View, aside, touched, view}
use Rattle.demands.specs.Lives.Born.{good, own_setup, slot_born}

-- a first point is the one that was there, or the one that came
pub first_cases : (p : Point) (g f : Four) → first_point p g ≡ Held f → (p ≡ Held f) ⊎ (g ≡ f)
first_cases Silent g f e = inr (cc)
first_cases (Held h) g f e = inl e

module _ (u : SetUp) (set_up_lem : (set_up u).answer.no ≡ 0) (D : List (List Element)) where
  -- ---- who is marked

  pub marks_are : (a : Side) (i : ℕ) → i < 10 → (cs : List Call)
      → marked (marks_of a (slot_of (after u cs) D)) i ≡ checked u cs (ear a + 1) (i + 1) D
  unfolding after checked
  marks_are a i l [] = ap (λ (w : Slot). marked (marks_of a w) i) (slot_born u set_up_lem D) ∙ zero_unmarked a i l
  marks_are a i l (c ∷ cs) = go (view (after u cs) (good u set_up_lem cs) c D) (marks_are a i l cs)
    where
      go : View (after u cs) c D → marked (marks_of a (slot_of (after u cs) D)) i ≡ checked u cs (ear a + 1) (i + 1) D
          → marked (marks_of a (slot_of (next (after u cs) c) D)) i
          ≡ checks_now (after u cs) c (ear a + 1) (i + 1) D or checked u cs (ear a + 1) (i + 1) D
      go (aside t) ih = rw (t.slot, t.unchecked a (i + 1)) ih
      go (touched b m f sends t) ih =
          ap (λ (ms : Marks). marked ms i) (t.slot.marks a)
          ∙ taken_mark (slot_of (after u cs) D) (slot_shape (after u cs) (good u set_up_lem cs) D) m i t.low a b f
          ∙ ap₂ ◌or◌ (sym (t.checked (ear a + 1) (i + 1))) ih

  pub e_is : (cs : List Call) → e_of (after u cs) D ≡ count_below 10 (λ m. checked u cs 2 (m + 1) D)
  unfolding count_e
  e_is cs = e_of_lem (after u cs) D ∙ count_below_same _ _ 10 (λ i l. marks_are ByEcho i l cs)

  pub r_is : (cs : List Call) → r_of (after u cs) D ≡ count_below 10 (λ m. checked u cs 3 (m + 1) D)
  unfolding count_r
  r_is cs = r_of_lem (after u cs) D ∙ count_below_same _ _ 10 (λ i l. marks_are ByReady i l cs)

  -- ---- the points held

  pub points_are : (i : ℕ) → i < 10 → (cs : List Call) → (place_at (slot_of (after u cs) D) i).point ≡ said u cs (i + 1) D
  unfolding after said
  points_are i l [] = ap (λ (w : Slot). (place_at w i).point) (slot_born u set_up_lem D) ∙ ap (λ (p : Place). p.point) (zero-silent i l)
  points_are i l (c ∷ cs) = go (view (after u cs) (good u set_up_lem cs) c D) (points_are i l cs)
    where
      go : View (after u cs) c D → (place_at (slot_of (after u cs) D) i).point ≡ said u cs (i + 1) D
          → (place_at (slot_of (next (after u cs) c) D) i).point
          ≡ pick (takes_now (after u cs) c (i + 1) D) (first_point (said u cs (i + 1) D) (four_of (after u cs) c)) (said u cs (i + 1) D)
      go (aside t) ih = rw (t.slot, t.unchecked ByEcho (i + 1), t.unchecked ByReady (i + 1)) ih
      go (touched b m f sends t) ih =
          ap (λ (ps : List Place). (get_or ps i silent).point) t.slot.places
          ∙ taken_point (slot_of (after u cs) D) (slot_shape (after u cs) (good u set_up_lem cs) D) m i t.low b f
          ∙ ap₂ (λ (p : Point) (q : Bool). pick q (first_point p f) p) ih (sym (t.takes (i + 1)))
          ∙ ap (λ (h : Four). pick (takes_now (after u cs) c (i + 1) D) (first_point (said u cs (i + 1) D) h) (said u cs (i + 1) D))
          (sym t.four)

  -- what was said passed the point check
  pub said_passes : (m : ℕ) (f : Four) (cs : List Call) → said u cs m D ≡ Held f → point_check (group u) u.k D u.i m f ≡ true
  unfolding said
  said_passes m f [] e = let z : ◌≡◌ {A = ℕ} 0 1 = cc in absurd (omega arith)
  said_passes m f (c ∷ cs) e = go (view (after u cs) (good u set_up_lem cs) c D) (said_passes m f cs) e
    where
      now : ℕ → Four → Type 0
      now i h = point_check (group u) u.k D u.i i h ≡ true

      go : View (after u cs) c D → (said u cs m D ≡ Held f → now m f)
          → pick (takes_now (after u cs) c m D) (first_point (said u cs m D) (four_of (after u cs) c)) (said u cs m D) ≡ Held f → now m f
      go (aside t) ih e = ih (rw (t.unchecked ByEcho m, t.unchecked ByReady m) at e)
      go (touched b i h sends t) ih e =
          ⊎_elim
          (λ q.
          ⊎_elim ih
          (λ r. subst₂ now (eqb-true (i + 1) m q) r (rw (own_setup u set_up_lem cs) at t.check))
          (first_cases (said u cs m D) h f
          (ap (first_point (said u cs m D)) (sym t.four)
          ∙ sym (pick_true _ (first_point (said u cs m D) (four_of (after u cs) c)) (said u cs m D) (t.takes m ∙ q))
          ∙ e)))
          (λ q. ih (sym (pick-false _ (first_point (said u cs m D) (four_of (after u cs) c)) (said u cs m D) (t.takes m ∙ q)) ∙ e))
          (decide (eqb (i + 1) m))

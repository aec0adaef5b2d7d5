-- What a checked echo or ready leaves of the slot of each matrix.
--
-- In order: what is read of a slot that took a message; the slot of each matrix; the slot from which ready is sent.
-- Assumes nothing.
use Rattle.std.specs.Prelude.{◌≡◌, Bool, List, ℕ, ◌+◌, ◌<◌, eqb, length, take, get_or}
use Rattle.std.proofs.Math.Path.{refl, ap}
use Rattle.std.proofs.Common.{sym, ◌∙◌, subst₂, arith, get_or-set_same, eq-eqb, ne_eqb}
use Rattle.std.proofs.Math.Bool.{true, false}
use Rattle.std.proofs.Math.Decide.{ℕ_discrete}
use Rattle.folds.specs.Tests.{◌and◌, ◌or◌, pick, and_false, and_true}
use Rattle.rules.specs.declared.Element.{Element}
use Rattle.rules.specs.declared.Four.{Four}
use Rattle.std.specs.Prelude.{Some, is_some}
use Rattle.rules.specs.declared.Marks.{Marks}
use Rattle.rules.specs.declared.Record.{Record}
use Rattle.rules.specs.declared.SetUp.{SetUp}
use Rattle.rules.specs.declared.Slot.{Slot}
use Rattle.rules.specs.Numbers.{group_of}
use Rattle.rules.specs.Record.{group_in, slot_at, marked, place_at, matrix_of, count_e, count_r, same_matrix, no_slot}
use Rattle.rules.specs.Steps.{mark, points, pair_from, slot_for, opened, first_point, holding, keeping, taken, ready_due, completion_due}
use Rattle.rules.specs.Laws.Shape.{ShapedSlot}
use Rattle.rules.specs.declared.Side.{Side}
use Rattle.rules.specs.declared.Side.TheVariants.{ByEcho, ByReady}
use Rattle.rules.proofs.Laws.Facts.{marks_of, ear}
use Rattle.rules.proofs.Laws.Room.{Found}
use Rattle.rules.proofs.Laws.Kept.TakenSlot.{mark_own, mark_other, place_own, place_other}
use Rattle.rules.proofs.Laws.Kept.Changes.{Good}
use Rattle.demands.specs.Lives.Slots.{Has, slot_of, slot_agree}
use Rattle.demands.specs.Lives.Replaced.{dressed, open_as, new_has, slot_own, slot_other, slot_stays}
use Rattle.demands.specs.Lives.Stepped.{step_of, paired, stepped}

-- ---- what is read of it

module _ (w : Slot) (shape : ShapedSlot w) (m i : ℕ) (l : m < 10) where
  set-mark : (ms : Marks) → length ms.at ≡ 10 → marked (mark ms m) i ≡ eqb (m + 1) (i + 1) or marked ms i
  set-mark ms e = go (ℕ_discrete i m)
    where
      go : Dec (i ≡ m) → marked (mark ms m) i ≡ eqb (m + 1) (i + 1) or marked ms i
      go (yes q) = rw (q, mark_own ms e m l, eq-eqb (m + 1) (m + 1) refl)
      go (no n) = rw (mark_other ms e m l i n, ne_eqb (m + 1) (i + 1) (λ q. n (omega arith)))

  -- the sender is marked for the side, and who was marked before
  pub taken_mark : (a b : Side) (f : Four)
      → marked (marks_of a (taken b w m f)) i ≡ (eqb (m + 1) (i + 1) and eqb (ear b + 1) (ear a + 1)) or marked (marks_of a w) i
  taken_mark ByEcho ByEcho f = set-mark w.echoed shape.echoed ∙ (rw (and_true (eqb (m + 1) (i + 1))))
  taken_mark ByReady ByReady f = set-mark w.readied shape.readied ∙ (rw (and_true (eqb (m + 1) (i + 1))))
  taken_mark ByEcho ByReady f = rw (and_false (eqb (m + 1) (i + 1)))
  taken_mark ByReady ByEcho f = rw (and_false (eqb (m + 1) (i + 1)))

  -- its place holds its first point, and every other what it held
  pub taken_point : (b : Side) (f : Four)
      → (place_at (taken b w m f) i).point ≡ pick (eqb (m + 1) (i + 1)) (first_point (place_at w i).point f) (place_at w i).point
  taken_point b f = go (ℕ_discrete i m)
    where
      go : Dec (i ≡ m) → (place_at (taken b w m f) i).point
          ≡ pick (eqb (m + 1) (i + 1)) (first_point (place_at w i).point f) (place_at w i).point
      go (yes q) = rw (q, place_own b w shape m l f, eq-eqb (m + 1) (m + 1) refl)
      go (no n) = rw (place_other b w shape m l f i n, ne_eqb (m + 1) (i + 1) (λ q. n (omega arith)))

-- ---- the slot of each matrix

-- slot w took a message of side b, of sender m + 1, and became v, but for its matrix; and whether ready is sent
pub record SlotTook (u : SetUp) (b : Side) (m : ℕ) (f : Four) (sends : Bool) (w v : Slot) : Type 0 where
  pub test : sends ≡ ready_due u b (taken b w m f)
  pub places : v.places ≡ holding w m f
  pub marks : (a : Side) → marks_of a v ≡ marks_of a (taken b w m f)
  pub pair : v.pair ≡ pick sends (Some (pair_from (group_of u.group).q (take u.k (points v.places)))) w.pair

-- record y is x after a message for C
pub record Took (x y : Record) (b : Side) (m : ℕ) (C : List (List Element)) (f : Four) (sends : Bool) : Type 0 where
  pub own : (D : List (List Element)) → same_matrix x.setup.k C D ≡ true → SlotTook x.setup b m f sends (slot_of x D) (slot_of y D)
  pub other : (D : List (List Element)) → same_matrix x.setup.k C D ≡ false → slot_of y D ≡ slot_of x D
  pub stays : (r : ℕ) → (slot_at x r).used ≡ true → ((slot_at y r).used ≡ true) × (matrix_of (slot_at y r) ≡ matrix_of (slot_at x r))
  -- the slot that it is taken into
  pub has : (D : List (List Element)) → same_matrix x.setup.k C D ≡ true → Has y D (slot_for x C)
  -- where no ready is sent, the box completes if that is due
  pub completes : (D : List (List Element)) → same_matrix x.setup.k C D ≡ true → sends ≡ false
      → completion_due x.setup b (taken b (slot_of x D) m f) ≡ true → is_some y.progress.completion ≡ true

-- a slot v that took the message into o, an opened one that holds what w does: paired or not
module _ (x : Record) (b : Side) (m : ℕ) (f : Four) (o w : Slot) (e : o ≡ dressed w o.rows) where
  abbrev after_it : Bool → Slot
  after_it sends = pick sends (paired x (taken b o m f)) (taken b o m f)

  it_used : (sends : Bool) → (after_it sends).used ≡ true
  unfolding keeping
  it_used true = ap (λ (v : Slot). v.used) e
  it_used false = ap (λ (v : Slot). v.used) e

  it_matrix : (sends : Bool) → matrix_of (after_it sends) ≡ matrix_of o
  unfolding keeping matrix_of
  it_matrix true = refl
  it_matrix false = refl

  it_places : (sends : Bool) → (after_it sends).places ≡ holding w m f
  unfolding keeping
  it_places true = ap (λ (v : Slot). holding v m f) e
  it_places false = ap (λ (v : Slot). holding v m f) e

  it_marks : (sends : Bool) (a : Side) → marks_of a (after_it sends) ≡ marks_of a (taken b w m f)
  unfolding keeping
  it_marks true ByEcho = ap (λ (v : Slot). (taken b v m f).echoed) e
  it_marks true ByReady = ap (λ (v : Slot). (taken b v m f).readied) e
  it_marks false ByEcho = ap (λ (v : Slot). (taken b v m f).echoed) e
  it_marks false ByReady = ap (λ (v : Slot). (taken b v m f).readied) e

  it_pair : (sends : Bool)
      → (after_it sends).pair
      ≡ pick sends (Some (pair_from (group_in x).q (take x.setup.k (points (after_it sends).places)))) w.pair
  unfolding keeping
  it_pair true = refl
  it_pair false = ap (λ (v : Slot). v.pair) e

  -- what is due then goes by the counts
  it_due : (due : SetUp → Side → Slot → Bool)
      → ((c : Side) → due x.setup c (taken b (dressed w o.rows) m f) ≡ due x.setup c (taken b w m f))
      → due x.setup b (taken b o m f) ≡ due x.setup b (taken b w m f)
  it_due due bare = ap (λ (v : Slot). due x.setup b (taken b v m f)) e ∙ bare b

  it_test : ready_due x.setup b (taken b o m f) ≡ ready_due x.setup b (taken b w m f)
  unfolding count_e count_r
  it_test = it_due ready_due bare
    where
      bare : (c : Side) → ready_due x.setup c (taken b (dressed w o.rows) m f) ≡ ready_due x.setup c (taken b w m f)
      bare ByEcho = refl
      bare ByReady = refl

  it_completes : completion_due x.setup b (taken b o m f) ≡ completion_due x.setup b (taken b w m f)
  unfolding count_r
  it_completes = it_due completion_due bare
    where
      bare : (c : Side) → completion_due x.setup c (taken b (dressed w o.rows) m f) ≡ completion_due x.setup c (taken b w m f)
      bare ByEcho = refl
      bare ByReady = refl

-- the slot opened for a matrix, and whether ready is sent when it takes a message
abbrev open_for : Record → List (List Element) → Slot
open_for x C = opened C (slot_at x (slot_for x C))

abbrev pub sends_now : Side → Record → ℕ → List (List Element) → Four → Bool
sends_now b x m C f = ready_due x.setup b (taken b (open_for x C) m f)

module _ (b : Side) (x : Record) (g : Good x) (m : ℕ) (C : List (List Element)) (f : Four) (found : Found x C (slot_for x C)) where
  pub took : Good (step_of b x m C f).after → Took x (step_of b x m C f).after b m C f (sends_now b x m C f)
  took gy =
      let y = (step_of b x m C f).after in
      let st = stepped b x m C f in
      let s = slot_for x C in
      let e = open_as x g C s found in
      let w = slot_of x C in
      let o = open_for x C in
      let sends = sends_now b x m C f in
      let new = after_it x b m f o w e sends in
      let used = it_used x b m f o w e sends in
      let same = it_matrix x b m f o w e sends in
      let mine = slot_own x g C s found y gy new st.slots st.setup used same in
      record {
        own = λ D h. subst₂ (SlotTook x.setup b m f sends) (sym (slot_agree x C D h)) (sym (mine D h)) (record {
          test = it_test x b m f o w e;
          places = it_places x b m f o w e sends;
          marks = it_marks x b m f o w e sends;
          pair = it_pair x b m f o w e sends;
        });
        other = slot_other x g C s found y gy new st.slots st.setup used same;
        stays = slot_stays x g C s found y gy new st.slots st.setup used same;
        has = new_has x g C s found y gy new st.slots st.setup used same;
        completes = λ D h none due.
            st.completes none (it_completes x b m f o w e ∙ ap (λ (v : Slot). completion_due x.setup b (taken b v m f)) (sym (slot_agree x C D h)) ∙ due);
      }

  -- Where ready is sent, the slot is left with its pair.
  pub slot_sent : sends_now b x m C f ≡ true → slot_at (step_of b x m C f).after (slot_for x C) ≡ paired x (taken b (open_for x C) m f)
  slot_sent e =
      let n = g.shape.slots in
      let l = found.within in
      ap (λ (v : List Slot). get_or v (slot_for x C) no_slot) (stepped b x m C f).slots
      ∙ get_or-set_same x.slots (slot_for x C) _ no_slot (omega arith)
      ∙ ap (λ (t : Bool). pick t (paired x (taken b (open_for x C) m f)) (taken b (open_for x C) m f)) e

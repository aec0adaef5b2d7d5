-- The slot that the matrix of a checked message is taken into: as it stands if it is in use, else new.
--
-- In order: a matrix that fits; the new slot; the slot opened for a matrix.
-- Assumes nothing.
use Rattle.std.specs.Prelude.{◌≡◌, refl, true, List, [], ◌⊎◌, eqb, get_or}
use Rattle.std.proofs.Math.Path.{sym, ap}
use Rattle.std.proofs.Common.{◌∙◌, inl, inr, arith, lt-ltb, eq-eqb}
use Rattle.std.proofs.Math.Bool.{Bool, false}
use Prim.Native.Nat.{ℕ, ◌<◌}
use Rattle.std.proofs.Math.Decide.{dec_lt}
use Rattle.std.proofs.Math.Dec.{ltb}
use Rattle.std.proofs.Math.ListN.{length}
use Rattle.std.proofs.lemmas.List.{get_or-replicate}
use Rattle.std.proofs.lemmas.Bool.{lt-leb}
use Rattle.folds.specs.Tests.{◌and◌, ◌or◌, and_intro, or_left, or_right, or_none_lem, pick_true, pick-either, true≢false, decide}
use Rattle.folds.specs.Below.{count_below, all_below_all, count_below_none}
use Rattle.rules.specs.declared.Element.{Element}
use Rattle.rules.specs.declared.SetUp.{SetUp}
use Rattle.rules.specs.declared.Place.{Place}
use Rattle.rules.specs.declared.Slot.{Slot}
use Rattle.rules.specs.Numbers.{element, group_of, echo_quorum}
use Rattle.rules.specs.Matrices.{matrix, entry}
use Rattle.rules.specs.Messages.{matrix_in}
use Rattle.rules.specs.Dealing.{matrix_passes}
use Rattle.rules.specs.Record.{silent, marked, place_at, matrix_of, is_held, count_e, count_r, zero_slot, entries_zero}
use Rattle.rules.specs.Steps.{opened}
use Rattle.rules.specs.Laws.Shape.{ShapedSlot}
use Rattle.rules.specs.declared.Side.{Side}
use Rattle.rules.specs.declared.Side.TheVariants.{ByEcho, ByReady}
use Rattle.rules.proofs.Laws.Facts.{marks_of, Needed, Contents, PairRight, SlotFacts}
use Rattle.rules.proofs.Laws.Matrices.{row-length, row_zero, matrix_height, matrix_filled, matrix_empty}

-- ---- a matrix that fits: 8 by 8, would pass refusal 8, and is zero from k on

pub record Fits (u : SetUp) (C : List (List Element)) : Type 0 where
  pub passes : matrix_passes (group_of u.group) u.k C ≡ true
  pub height : length C ≡ 8
  pub width : (j : ℕ) → j < 8 → length (get_or C j []) ≡ 8
  pub zero : (j l : ℕ) → j < 8 → l < 8 → (j < u.k → l < u.k → ⊥) → entry C j l ≡ 0

module _ (k : ℕ) (f : ℕ → ℕ → Element) where
  matrix_width : (j : ℕ) → j < 8 → length (get_or (matrix k (element 0) f) j []) ≡ 8
  matrix_width j l = go (dec_lt j k)
    where
      go : Dec (j < k) → length (get_or (matrix k (element 0) f) j []) ≡ 8
      go (yes h) = ap length (matrix_filled k (element 0) f j l h) ∙ row-length k (element 0) (f j)
      go (no h) = ap length (matrix_empty k (element 0) f j l (omega arith))

  matrix-zero : (j l : ℕ) → j < 8 → l < 8 → (j < k → l < k → ⊥) → entry (matrix k (element 0) f) j l ≡ 0
  matrix-zero j l a b out = ap (λ (e : Element). e.0) (go (dec_lt j k) (dec_lt l k))
    where
      at : List Element → Element
      at r = get_or r l (element 0)

      go : Dec (j < k) → Dec (l < k) → at (get_or (matrix k (element 0) f) j []) ≡ element 0
      go (yes h) (yes g) = absurd (out h g)
      go (yes h) (no g) = ap at (matrix_filled k (element 0) f j a h) ∙ row_zero k (element 0) (f j) l b (omega arith)
      go (no h) g = ap at (matrix_empty k (element 0) f j a (omega arith)) ∙ get_or-replicate 8 l (element 0) (element 0) b

-- The matrix read out of a message fits if it would pass refusal 8.
pub matrix_fits : (u : SetUp) (bytes : List ℕ) → matrix_passes (group_of u.group) u.k (matrix_in u bytes) ≡ true → Fits u (matrix_in u bytes)
unfolding matrix_in
matrix_fits u bytes h = record { passes = h; height = matrix_height u.k (element 0) _; width = matrix_width u.k _; zero = matrix-zero u.k _ }

-- ---- the new slot

unfoldable pub fresh : List (List Element) → Slot
fresh C =
    record {
      used = true;
      rows = C;
      places = zero_slot.places;
      echoed = zero_slot.echoed;
      readied = zero_slot.readied;
      pair = zero_slot.pair;
    }

fresh_matrix : (C : List (List Element)) → matrix_of (fresh C) ≡ C
unfolding matrix_of fresh
fresh_matrix C = refl

-- it holds nothing, as a zero slot does
pub zero-silent : (m : ℕ) → m < 10 → place_at zero_slot m ≡ silent
unfolding zero_slot
zero-silent m l = get_or-replicate 10 m silent silent l

pub zero_unmarked : (b : Side) (m : ℕ) → m < 10 → marked (marks_of b zero_slot) m ≡ false
unfolding zero_slot
zero_unmarked ByEcho m l = get_or-replicate 10 m false false l
zero_unmarked ByReady m l = get_or-replicate 10 m false false l

fresh_silent : (C : List (List Element)) (m : ℕ) → m < 10 → place_at (fresh C) m ≡ silent
unfolding fresh
fresh_silent C m l = zero-silent m l

fresh_unmarked : (C : List (List Element)) (b : Side) (m : ℕ) → m < 10 → marked (marks_of b (fresh C)) m ≡ false
unfolding fresh
fresh_unmarked C ByEcho m l = zero_unmarked ByEcho m l
fresh_unmarked C ByReady m l = zero_unmarked ByReady m l

module _ (u : SetUp) (C : List (List Element)) (fit : Fits u C) where
  fresh_shape : ShapedSlot (fresh C)
  unfolding fresh zero_slot
  fresh_shape =
      record {
        rows = fit.height;
        row = fit.width;
        places = refl;
        echoed = refl;
        readied = refl;
      }

  fresh-zero : entries_zero u.k (fresh C) ≡ true
  unfolding entries_zero fresh
  fresh-zero = all_below_all _ 8 (λ j a. all_below_all _ 8 (λ l b. go j l a b (decide (inside j l))))
    where
      inside : ℕ → ℕ → Bool
      inside j l = ltb j u.k and ltb l u.k

      go : (j l : ℕ) → j < 8 → l < 8 → (inside j l ≡ true) ⊎ (inside j l ≡ false) → inside j l or eqb (entry (matrix_of (fresh C)) j l) 0 ≡ true
      go j l a b (inl e) = or_left (inside j l) _ e
      go j l a b (inr e) =
          or_right (inside j l) _ (eq-eqb _ 0 (ap (λ (D : List (List Element)). entry D j l) (fresh_matrix C)
          ∙ fit.zero j l a b (λ h g. true≢false (sym (and_intro _ _ (lt-ltb j u.k h) (lt-ltb l u.k g)) ∙ e))))

  fresh_contents : Contents u (fresh C)
  unfolding fresh zero_slot
  fresh_contents =
      record {
        points = λ m l. rw (fresh_silent C m l);
        pair = refl;
        passes = λ e. rw (fresh_matrix C) fit.passes;
        places = λ m l. silence m l ∙ sym (or_none_lem _ _ (fresh_unmarked C ByEcho m l) (fresh_unmarked C ByReady m l));
        zero = fresh-zero;
        above = λ m l g. silence m l;
      }
    where
      silence : (m : ℕ) → m < 10 → is_held (place_at (fresh C) m).point ≡ false
      silence m l = ap (λ (p : Place). is_held p.point) (fresh_silent C m l)

-- no sender is marked, and both quorums are above 0
fresh_right : (u : SetUp) (C : List (List Element)) → Needed u → PairRight u (fresh C)
unfolding count_e count_r fresh zero_slot
fresh_right u C z =
    sym (or_none_lem _ _ (lt-leb (echo_quorum u) _ (few ByEcho (echo_quorum u) (omega arith))) (lt-leb u.k _ (few ByReady u.k (omega arith))))
  where
    few : (b : Side) (n : ℕ) → 0 < n → count_below 10 (marked (marks_of b (fresh C))) < n
    few b n l = rw (count_below_none (marked (marks_of b (fresh C))) 10 (fresh_unmarked C b)) l

-- ---- the slot opened for a matrix

pub record OpenFacts (u : SetUp) (slot : Slot) : Type 0 where
  pub contents : Contents u slot
  pub used : slot.used ≡ true
  pub right : PairRight u slot
  pub shape : ShapedSlot slot

-- The slot opened for a matrix that fits is in use, with the facts of a slot otherwise.
pub open_facts : (u : SetUp) (C : List (List Element)) (slot : Slot) → Needed u → Fits u C → SlotFacts u slot → ShapedSlot slot → OpenFacts u (opened C slot)
unfolding opened fresh
open_facts u C slot z fit c shape =
    pick-either (OpenFacts u) slot.used slot (fresh C)
    (λ e. record { contents = c.contents; used = e; right = c.right; shape = shape })
    (λ e. record { contents = fresh_contents u C fit; used = refl; right = fresh_right u C z; shape = fresh_shape u C fit })

-- It has no mark that was not there.
pub open_marks : (C : List (List Element)) (slot : Slot) (b : Side) (m : ℕ) → m < 10 → marked (marks_of b (opened C slot)) m ≡ true → marked (marks_of b slot) m ≡ true
unfolding opened fresh
open_marks C slot b m l =
    pick-either (λ (o : Slot). marked (marks_of b o) m ≡ true → marked (marks_of b slot) m ≡ true) slot.used slot (fresh C)
    (λ e h. h)
    (λ e h. absurd (true≢false (sym h ∙ fresh_unmarked C b m l)))

-- A slot in use is opened as it stands.
pub open_same : (C : List (List Element)) (slot : Slot) → slot.used ≡ true → opened C slot ≡ slot
unfolding opened
open_same C slot e = pick_true slot.used slot _ e

-- One that is not in use gets the matrix.
pub open_new : (C : List (List Element)) (slot : Slot) → slot.used ≡ false → matrix_of (opened C slot) ≡ C
unfolding opened fresh
open_new C slot e = rw e (fresh_matrix C)

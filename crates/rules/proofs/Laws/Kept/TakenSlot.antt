-- A slot in use that takes a checked message of either side: one more point and mark.
--
-- In order: the marks; the slot that took a message; its counts; what it holds; when a pair is kept in it.
-- Assumes nothing.
use Rattle.std.specs.Prelude.{◌≡◌, refl, Bool, false, ◌⊎◌, ℕ, ◌+◌, ◌<◌, ◌≤◌, eqb, leb, ltb, length}
use Rattle.std.proofs.Common.{sym, ◌∙◌, inl, inr, ⊎_elim, length-set, get_or-set_same, get_or-set_other, leb-true, eqb-true, le-leb, lt-ltb, eq-eqb}
use Rattle.std.proofs.Math.Path.{ap}
use Rattle.std.proofs.Math.Bool.{true}
use Rattle.std.proofs.Math.Decide.{ℕ_discrete, dec_lt}
use native.Mathlib.Omega.{arith}
use Rattle.std.proofs.Math.Seq.{set_out}
use Rattle.folds.specs.Tests.{◌and◌, ◌or◌, and_left, and_intro, or_cases, or_left, or_right, iff_same, true≢false}
use Rattle.folds.specs.Below.{any_below, count_below, any_below_here, count_below_up, count_below_mono}
use Rattle.rules.specs.declared.SetUp.{SetUp}
use Rattle.rules.specs.declared.Four.{Four}
use Rattle.rules.specs.declared.Pair.{Pair}
use Rattle.rules.specs.declared.Point.{Point}
use Rattle.rules.specs.declared.Point.TheVariants.{Silent, Held}
use Rattle.rules.specs.declared.Place.{Place}
use Rattle.rules.specs.declared.Marks.{Marks}
use Rattle.rules.specs.declared.Slot.{Slot}
use Rattle.rules.specs.Numbers.{group_of, echo_quorum}
use Rattle.rules.specs.Dealing.{four_below}
use Rattle.rules.specs.Record.{silent, marked, place_at, matrix_of, is_held, held, count_e, count_r, point_below, entries_zero}
use Rattle.rules.specs.Steps.{mark, first_point, side_marks, taken, keeping, ready_due}
use Rattle.rules.specs.Laws.Shape.{ShapedSlot}
use Rattle.rules.specs.declared.Side.{Side}
use Rattle.rules.specs.declared.Side.TheVariants.{ByEcho, ByReady}
use Rattle.rules.proofs.Laws.Facts.{marks_of, Needed, Contents, PairRight}
use Rattle.rules.proofs.Laws.Kept.OpenSlot.{OpenFacts}

abbrev pub other : Side → Side
other ByEcho = ByReady
other ByReady = ByEcho

-- ---- the marks

-- Who is marked stays marked.
pub mark_stays : (ms : Marks) (m i : ℕ) → marked ms i ≡ true → marked (mark ms m) i ≡ true
mark_stays ms m i e = go (ℕ_discrete i m) (dec_lt m (length ms.at))
  where
    go : Dec (i ≡ m) → Dec (m < length ms.at) → marked (mark ms m) i ≡ true
    go (yes q) (yes l) = rw (q, get_or-set_same ms.at m true false l)
    go (yes q) (no l) = rw (set_out ms.at m true (omega arith)) e
    go (no n) l = get_or-set_other ms.at m i true false n ∙ e

module _ (ms : Marks) (shape : length ms.at ≡ 10) (m : ℕ) (l : m < 10) where
  -- The sender is marked, and of the others who was.
  pub mark_own : marked (mark ms m) m ≡ true
  mark_own = get_or-set_same ms.at m true false (omega arith)

  pub mark_other : (i : ℕ) → (i ≡ m → ⊥) → marked (mark ms m) i ≡ marked ms i
  mark_other i n = get_or-set_other ms.at m i true false n

  side_marks_own : (b : Side) → marked (side_marks b b ms m) m ≡ true
  side_marks_own ByEcho = mark_own
  side_marks_own ByReady = mark_own

  side_marks_other : (a b : Side) (i : ℕ) → (i ≡ m → ⊥) → marked (side_marks a b ms m) i ≡ marked ms i
  side_marks_other ByEcho ByEcho i n = mark_other i n
  side_marks_other ByEcho ByReady i n = refl
  side_marks_other ByReady ByEcho i n = refl
  side_marks_other ByReady ByReady i n = mark_other i n

  side_marks-length : (a b : Side) → length (side_marks a b ms m).at ≡ 10
  side_marks-length ByEcho ByEcho = length-set ms.at m true ∙ shape
  side_marks-length ByEcho ByReady = shape
  side_marks-length ByReady ByEcho = shape
  side_marks-length ByReady ByReady = length-set ms.at m true ∙ shape

  -- a mark is the new one or was there, and one that was there stays
  side_marks_cases : (a b : Side) (i : ℕ) → marked (side_marks a b ms m) i ≡ true → ((a ≡ b) × (i ≡ m)) ⊎ (marked ms i ≡ true)
  side_marks_cases a b i e = go a b (ℕ_discrete i m) e
    where
      go : (a b : Side) → Dec (i ≡ m) → marked (side_marks a b ms m) i ≡ true → ((a ≡ b) × (i ≡ m)) ⊎ (marked ms i ≡ true)
      go a b (no n) e = inr (sym (side_marks_other a b i n) ∙ e)
      go ByEcho ByEcho (yes q) e = inl (refl, q)
      go ByEcho ByReady (yes q) e = inr e
      go ByReady ByEcho (yes q) e = inr e
      go ByReady ByReady (yes q) e = inl (refl, q)

  side_marks_stays : (a b : Side) (i : ℕ) → marked ms i ≡ true → marked (side_marks a b ms m) i ≡ true
  side_marks_stays ByEcho ByEcho i e = mark_stays ms m i e
  side_marks_stays ByEcho ByReady i e = e
  side_marks_stays ByReady ByEcho i e = e
  side_marks_stays ByReady ByReady i e = mark_stays ms m i e

-- ---- the slot that took a message

abbrev pub count_of : Side → Slot → ℕ
count_of ByEcho slot = count_e slot
count_of ByReady slot = count_r slot

-- It is the number of those marked.
pub count_is : (a : Side) (slot : Slot) → count_of a slot ≡ count_below 10 (marked (marks_of a slot))
unfolding count_e count_r
count_is ByEcho slot = refl
count_is ByReady slot = refl

marks_shape : (a : Side) (slot : Slot) → ShapedSlot slot → length (marks_of a slot).at ≡ 10
marks_shape ByEcho slot shape = shape.echoed
marks_shape ByReady slot shape = shape.readied

taken_marks : (a b : Side) (slot : Slot) (m : ℕ) (f : Four) → marks_of a (taken b slot m f) ≡ side_marks a b (marks_of a slot) m
taken_marks ByEcho b slot m f = refl
taken_marks ByReady b slot m f = refl

first_held : (p : Point) (f : Four) → is_held (first_point p f) ≡ true
first_held Silent f = refl
first_held (Held g) f = refl

first_below : (q : ℕ) (p : Point) (f : Four) → point_below q p ≡ true → four_below q f ≡ true → point_below q (first_point p f) ≡ true
first_below q Silent f h e = e
first_below q (Held g) f h e = h

module _ (b : Side) (slot : Slot) (shape : ShapedSlot slot) (m : ℕ) (l : m < 10) (f : Four) where
  -- The sender's place holds its first point, and every other what it held.
  pub place_own : (place_at (taken b slot m f) m).point ≡ first_point (place_at slot m).point f
  place_own = ap (λ (p : Place). p.point) (get_or-set_same slot.places m _ silent (let e = shape.places in omega arith))

  pub place_other : (i : ℕ) → (i ≡ m → ⊥) → place_at (taken b slot m f) i ≡ place_at slot i
  place_other i n = get_or-set_other slot.places m i _ silent n

  held_own : held (taken b slot m f) m ≡ true
  held_own = ap is_held place_own ∙ first_held (place_at slot m).point f

  either_own : (c : Side) → marked (side_marks ByEcho c slot.echoed m) m or marked (side_marks ByReady c slot.readied m) m ≡ true
  either_own ByEcho = or_left _ _ (mark_own slot.echoed shape.echoed m l)
  either_own ByReady = or_right (marked slot.echoed m) _ (mark_own slot.readied shape.readied m l)

  -- It marks the sender, and whom it marked before.
  pub taken_cases : (a : Side) (i : ℕ) → marked (marks_of a (taken b slot m f)) i ≡ true → ((a ≡ b) × (i ≡ m)) ⊎ (marked (marks_of a slot) i ≡ true)
  taken_cases a i e = side_marks_cases (marks_of a slot) (marks_shape a slot shape) m l a b i (ap (λ (ms : Marks). marked ms i) (sym (taken_marks a b slot m f)) ∙ e)

  -- Its arrays are as long as they were.
  pub taken_shape : ShapedSlot (taken b slot m f)
  taken_shape =
      record {
        rows = shape.rows;
        row = shape.row;
        places = length-set slot.places m _ ∙ shape.places;
        echoed = side_marks-length slot.echoed shape.echoed m l ByEcho b;
        readied = side_marks-length slot.readied shape.readied m l ByReady b;
      }

  -- ---- its counts

  -- No count goes down.
  pub count_grows : (a : Side) → count_of a slot ≤ count_of a (taken b slot m f)
  count_grows a =
      rw (count_is a slot, count_is a (taken b slot m f), taken_marks a b slot m f)
      (count_below_mono _ _ 10 (λ i g e. side_marks_stays (marks_of a slot) (marks_shape a slot shape) m l a b i e))

  -- That of the side goes up by one if the sender was not marked, and that of the other stays.
  pub count_up : marked (marks_of b slot) m ≡ false → count_of b (taken b slot m f) ≡ count_of b slot + 1
  count_up e =
      rw (count_is b slot, count_is b (taken b slot m f), taken_marks b b slot m f)
      (count_below_up _ _ m 10 l e
      (side_marks_own (marks_of b slot) (marks_shape b slot shape) m l b)
      (side_marks_other (marks_of b slot) (marks_shape b slot shape) m l b b))

count_other : (b : Side) (slot : Slot) (m : ℕ) (f : Four) → count_of (other b) (taken b slot m f) ≡ count_of (other b) slot
unfolding count_e count_r
count_other ByEcho slot m f = refl
count_other ByReady slot m f = refl

-- ---- what it holds

module _ (u : SetUp) (z : Needed u) (b : Side) (slot : Slot) (o : OpenFacts u slot) (m : ℕ) (l : m < u.n) (f : Four) where
  low : m < 10
  low = let e = z.boxes in omega arith

  -- It is in use, as it should be with a place held.
  pub taken_use : (taken b slot m f).used ≡ any_below 10 (held (taken b slot m f))
  taken_use = o.used ∙ sym (any_below_here (held (taken b slot m f)) 10 m low (held_own b slot o.shape m low f))

  -- It holds what a slot may hold.
  pub taken_contents : four_below (group_of u.group).q f ≡ true → Contents u (taken b slot m f)
  unfolding entries_zero matrix_of
  taken_contents below =
      record {
        points = λ i g. points i g (ℕ_discrete i m);
        pair = o.contents.pair;
        passes = o.contents.passes;
        places = λ i g. places i g (ℕ_discrete i m);
        zero = o.contents.zero;
        above = λ i g h. ap (λ (p : Place). is_held p.point) (place_other b slot o.shape m low f i (λ e. let w : ⊥ = omega arith in w)) ∙ o.contents.above i g h;
      }
    where
      points : (i : ℕ) → i < 10 → Dec (i ≡ m) → point_below (group_of u.group).q (place_at (taken b slot m f) i).point ≡ true
      points i g (yes e) = rw (e, place_own b slot o.shape m low f) (first_below _ (place_at slot m).point f (o.contents.points m low) below)
      points i g (no n) = rw (place_other b slot o.shape m low f i n) (o.contents.points i g)

      places : (i : ℕ) → i < 10 → Dec (i ≡ m) → held (taken b slot m f) i ≡ marked (side_marks ByEcho b slot.echoed m) i or marked (side_marks ByReady b slot.readied m) i
      places i g (yes e) = rw e (held_own b slot o.shape m low f ∙ sym (either_own b slot o.shape m low f b))
      places i g (no n) =
          rw (place_other b slot o.shape m low f i n, side_marks_other slot.echoed o.shape.echoed m low ByEcho b i n, side_marks_other slot.readied o.shape.readied m low ByReady b i n)
          (o.contents.places i g)

-- ---- when a pair is kept

-- what the count of a side is measured by
abbrev pub aim : SetUp → Side → ℕ
aim u ByEcho = echo_quorum u
aim u ByReady = u.k

-- Ready is sent, and a pair kept, where the count of a side has just reached its aim and the other's has not.
pub due_sides : (u : SetUp) (b : Side) (slot : Slot)
    → ready_due u b slot ≡ eqb (count_of b slot) (aim u b) and ltb (count_of (other b) slot) (aim u (other b))
due_sides u ByEcho slot = refl
due_sides u ByReady slot = refl

or_comm : (a b : Bool) → a or b ≡ b or a
or_comm true true = refl
or_comm true false = refl
or_comm false true = refl
or_comm false false = refl

-- Whether a pair is to be there does not go by the order of the sides.
pub either_side : (u : SetUp) (b : Side) (slot : Slot)
    → leb (echo_quorum u) (count_e slot) or leb u.k (count_r slot) ≡ leb (aim u b) (count_of b slot) or leb (aim u (other b)) (count_of (other b) slot)
either_side u ByEcho slot = refl
either_side u ByReady slot = or_comm (leb (echo_quorum u) (count_e slot)) (leb u.k (count_r slot))

-- one more, but not to the aim A while c is below B: whether a side has reached its aim comes out as before
step_or : (A a B c : ℕ) → eqb (a + 1) A and ltb c B ≡ false → leb A a or leb B c ≡ leb A (a + 1) or leb B c
step_or A a B c e =
    iff_same (leb A a or leb B c) (leb A (a + 1) or leb B c)
    (λ h. ⊎_elim (λ g. or_left _ _ (le-leb A (a + 1) (let w = leb-true A a g in omega arith))) (or_right (leb A (a + 1)) (leb B c)) (or_cases (leb A a) (leb B c) h))
    (λ h. ⊎_elim (λ g. go (leb-true A (a + 1) g) (dec_lt c B)) (or_right (leb A a) (leb B c)) (or_cases (leb A (a + 1)) (leb B c) h))
  where
    go : A ≤ a + 1 → Dec (c < B) → leb A a or leb B c ≡ true
    go g (no n) = or_right (leb A a) (leb B c) (le-leb B c (omega arith))
    go g (yes h) =
        let w : a + 1 ≡ A → ⊥ = λ q. true≢false (sym (and_intro (eqb (a + 1) A) (ltb c B) (eq-eqb (a + 1) A q) (lt-ltb c B h)) ∙ e) in
        or_left (leb A a) (leb B c) (le-leb A a (omega arith))

-- Where the test fails, the pair that the slot has is right.
pub right_stays : (u : SetUp) (b : Side) (slot : Slot) (m : ℕ) (f : Four) → ShapedSlot slot → m < 10 → marked (marks_of b slot) m ≡ false
    → PairRight u slot → ready_due u b (taken b slot m f) ≡ false → PairRight u (taken b slot m f)
right_stays u b slot m f shape l e h t =
    let up = count_up b slot shape m l f e in
    let stays = count_other b slot m f in
    h ∙ either_side u b slot ∙ step_or (aim u b) (count_of b slot) (aim u (other b)) (count_of (other b) slot) (rw (← up, ← stays) (sym (due_sides u b (taken b slot m f)) ∙ t))
    ∙ (rw (← up, ← stays) (sym (either_side u b (taken b slot m f))))

-- Where it passes, the pair kept now is right.
pub right_kept : (u : SetUp) (b : Side) (slot : Slot) (p : Pair) → ready_due u b slot ≡ true → PairRight u (keeping slot p)
unfolding keeping count_e count_r
right_kept u b slot p h =
    sym (either_side u b slot ∙ or_left _ _ (le-leb (aim u b) (count_of b slot) (let e = eqb-true (count_of b slot) (aim u b) (and_left _ _ (sym (due_sides u b slot) ∙ h)) in omega arith)))

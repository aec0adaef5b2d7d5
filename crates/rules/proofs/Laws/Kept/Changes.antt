-- A record that is good, one part of it anew: it is good still.
--
-- In order: progress; a sender heard; a slot replaced; completion; a recovery share kept.
-- Assumes nothing.
use Rattle.std.specs.Prelude.{◌≡◌, refl, ℕ, ◌+◌, ◌-◌, ◌<◌, ◌≤◌, eqb, get_or, set}
use Rattle.std.proofs.Common.{sym, ◌∙◌, subst, get_or-set_same}
use Rattle.std.proofs.Math.Path.{ap}
use Rattle.std.proofs.Math.Bool.{true, false}
use Rattle.std.proofs.Math.Decide.{ℕ_discrete, dec_lt}
use native.Mathlib.Omega.{arith}
use Rattle.std.proofs.Math.ListN.{length, length-set}
use Rattle.std.proofs.Math.Seq.{get_or-set_other, set_out}
use Rattle.std.proofs.lemmas.Bool.{eqb-false}
use Rattle.folds.specs.Below.{any_below, count_below_up}
use Rattle.folds.specs.Stores.{set-each}
use Rattle.rules.specs.declared.Pair.{Pair}
use Rattle.std.specs.Prelude.{Option, Some, None, is_some}
use Rattle.rules.specs.declared.Marks.{Marks}
use Rattle.rules.specs.declared.Slot.{Slot}
use Rattle.rules.specs.declared.Progress.{Progress}
use Rattle.rules.specs.declared.Record.{Record}
use Rattle.rules.specs.Dealing.{pair_below}
use Rattle.rules.specs.Record.{nothing, no_marks, no_slot, group_in, slot_at, marked, share_at, matrix_of, held, count_r, shares_kept, same_matrix, kept_below, entries_zero}
use Rattle.rules.specs.Steps.{with_progress, with_slot, with_shares, mark, heard, keeping, first_completion, completing, sharing}
use Rattle.rules.specs.Laws.Shape.{ShapedSlot, Shaped}
use Rattle.rules.specs.declared.Side.{Side}
use Rattle.rules.specs.declared.Side.TheVariants.{ByEcho, ByReady}
use Rattle.rules.proofs.Laws.Facts.{marks_of, mark_at, ear, hears, Contents, PairRight, SlotFacts, DoneWith, SlotsFacts, Facts, needed}
use Rattle.rules.proofs.Laws.Sound.{agree_comm}
use Rattle.rules.proofs.Laws.Kept.TakenSlot.{mark_stays}

-- a sound record, and its arrays have their lengths
pub record Good (x : Record) : Type 0 where
  pub facts : Facts x
  pub shape : Shaped x

-- ---- progress

-- Progress may change to any that the record allows and that takes no command back.
pub progress_good : (x : Record) (v : Progress) → Good x → ((s : ℕ) → v.completion ≡ Some s → DoneWith x.setup s (slot_at x s))
    → (v.commanded ≡ true → is_some v.completion ≡ true) → (x.progress.commanded ≡ true → v.commanded ≡ true)
    → (v.dealt ≡ true → eqb x.setup.i x.setup.d ≡ true) → Good (with_progress x v)
progress_good x v g done commanded stays dealt =
    let c = g.facts in
    record {
      facts = record {
        group = c.group;
        numbers = c.numbers;
        slots = c.slots;
        progress = record { completion = done; commanded = commanded; dealt = dealt };
        shares = record {
          below = c.shares.below;
          recovered_below = c.shares.recovered_below;
          shared = λ m l e. stays (c.shares.shared m l e);
          at_most = c.shares.at_most;
          senders = c.shares.senders;
          exactly = c.shares.exactly;
        };
        none = c.none;
      };
      shape = record { slots = g.shape.slots; slot = g.shape.slot; heard = g.shape.heard; marks = g.shape.marks; shares = g.shape.shares };
    }

-- ---- a sender heard

-- Who is heard stays heard.
pub hears_stays : (x : Record) (tag m a i : ℕ) → hears x a i ≡ true → hears (heard x tag m) a i ≡ true
unfolding heard
hears_stays x tag m a i e = go (ℕ_discrete a (tag - 1)) (dec_lt (tag - 1) (length x.heard))
  where
    new : Marks
    new = mark (get_or x.heard (tag - 1) no_marks) m

    go : Dec (a ≡ tag - 1) → Dec (tag - 1 < length x.heard) → marked (get_or (set x.heard (tag - 1) new) a no_marks) i ≡ true
    go (yes q) (yes l) =
        rw (q, get_or-set_same x.heard (tag - 1) new no_marks l) (mark_stays (get_or x.heard (tag - 1) no_marks) m i (rw q at e))
    go (yes q) (no l) = rw (set_out x.heard (tag - 1) new (omega arith)) e
    go (no n) l = ap (λ (ms : Marks). marked ms i) (get_or-set_other x.heard (tag - 1) a new no_marks n) ∙ e

module _ (x : Record) (shape : Shaped x) (tag m : ℕ) (lt : tag - 1 < 4) (lm : m < 10) where
  -- The sender is heard for the tag.
  pub hears_own : hears (heard x tag m) (tag - 1) m ≡ true
  unfolding heard
  hears_own =
      let e = shape.heard in
      let w = shape.marks (tag - 1) lt in
      rw (get_or-set_same x.heard (tag - 1) (mark (get_or x.heard (tag - 1) no_marks) m) no_marks (omega arith))
      (get_or-set_same (get_or x.heard (tag - 1) no_marks).at m true false (omega arith))

  hears_other : (a i : ℕ) → (a ≡ tag - 1 → i ≡ m → ⊥) → hears (heard x tag m) a i ≡ hears x a i
  unfolding heard
  hears_other a i =
      set-each (λ (a : ℕ) (ms : Marks). (a ≡ tag - 1 → i ≡ m → ⊥) → marked ms i ≡ hears x a i) x.heard (tag - 1) _ no_marks (let e = shape.heard in omega arith)
      (λ n. get_or-set_other (get_or x.heard (tag - 1) no_marks).at m i true false (n refl))
      (λ r n h. refl)
      a

  heard_shape : Shaped (heard x tag m)
  unfolding heard
  heard_shape =
      record {
        slots = shape.slots;
        slot = shape.slot;
        shares = shape.shares;
        heard = length-set x.heard (tag - 1) _ ∙ shape.heard;
        marks = set-each (λ (a : ℕ) (ms : Marks). a < 4 → length ms.at ≡ 10) x.heard (tag - 1) _ no_marks (let e = shape.heard in omega arith)
            (λ l. length-set (get_or x.heard (tag - 1) no_marks).at m true ∙ shape.marks (tag - 1) lt)
            (λ r n l. shape.marks r l);
      }

-- One more sender heard changes nothing of the slots, and above n there is none.
heard_slots : (x : Record) (tag m : ℕ) → SlotsFacts x.setup x.slots x.heard → SlotsFacts x.setup x.slots (heard x tag m).heard
unfolding heard
heard_slots x tag m c =
    record {
      each = c.each;
      differ = c.differ;
      once = c.once;
      heard = λ b i s a l e. hears_stays x tag m (ear b) i (c.heard b i s a l e);
    }

heard_none : (x : Record) (g : Good x) (tag m : ℕ) → tag - 1 < 4 → m < x.setup.n → (i a : ℕ) → i < 10 → x.setup.n ≤ i → a < 4 → hears (heard x tag m) a i ≡ false
heard_none x g tag m lt lm i a l n h =
    let boxes = (needed x g.facts).boxes in
    hears_other x g.shape tag m lt (omega arith) a i (λ p q. let w : ⊥ = omega arith in w) ∙ g.facts.none i a l n h

-- A box may be heard for a send, an echo or a ready.
pub heard_good : (x : Record) (tag m : ℕ) → Good x → tag - 1 < 3 → m < x.setup.n → Good (heard x tag m)
unfolding heard
heard_good x tag m g lt lm =
    let c = g.facts in
    let lt4 : tag - 1 < 4 = omega arith in
    let boxes = (needed x c).boxes in
    let lm10 : m < 10 = omega arith in
    record {
      facts = record {
        group = c.group;
        numbers = c.numbers;
        slots = heard_slots x tag m c.slots;
        progress = c.progress;
        shares = record {
          below = c.shares.below;
          recovered_below = c.shares.recovered_below;
          shared = c.shares.shared;
          at_most = c.shares.at_most;
          senders = λ i l. hears_other x g.shape tag m lt4 lm10 3 i (λ p q. let w : ⊥ = omega arith in w) ∙ c.shares.senders i l;
          exactly = c.shares.exactly;
        };
        none = heard_none x g tag m lt4 lm;
      };
      shape = heard_shape x g.shape tag m lt4 lm10;
    }

-- ---- a slot replaced

-- what a slot has to be to stand in place s, but for its pair
pub record Replaces (x : Record) (s : ℕ) (slot : Slot) : Type 0 where
  pub contents : Contents x.setup slot
  pub in_use : slot.used ≡ any_below 10 (held slot)
  pub shape : ShapedSlot slot
  pub differ : (r : ℕ) → r < 20 → (r ≡ s → ⊥) → slot.used ≡ true → (slot_at x r).used ≡ true → same_matrix x.setup.k (matrix_of slot) (matrix_of (slot_at x r)) ≡ false
  pub once : (b : Side) (m r : ℕ) → m < 10 → r < 20 → (r ≡ s → ⊥) → marked (marks_of b slot) m ≡ true → mark_at b x m r ≡ true → ⊥
  pub heard : (b : Side) (m : ℕ) → m < 10 → marked (marks_of b slot) m ≡ true → hears x (ear b) m ≡ true
  pub grows : (slot_at x s).used ≡ true → (slot.used ≡ true) × (count_r (slot_at x s) ≤ count_r slot)

-- A pair kept in it changes nothing of that.
pub keeping_replaces : (x : Record) (s : ℕ) (slot : Slot) (p : Pair) → pair_below (group_in x).q p ≡ true → Replaces x s slot → Replaces x s (keeping slot p)
unfolding keeping matrix_of entries_zero count_r
keeping_replaces x s slot p below c =
    record {
      contents = record {
        points = c.contents.points;
        pair = below;
        passes = c.contents.passes;
        places = c.contents.places;
        zero = c.contents.zero;
        above = c.contents.above;
      };
      in_use = c.in_use;
      shape = record { rows = c.shape.rows; row = c.shape.row; places = c.shape.places; echoed = c.shape.echoed; readied = c.shape.readied };
      differ = c.differ;
      once = λ b m r l g n e. c.once b m r l g n (rw (← same b) e);
      heard = λ b m l e. c.heard b m l (rw (← same b) e);
      grows = c.grows;
    }
  where
    same : (b : Side) → marks_of b (keeping slot p) ≡ marks_of b slot
    same ByEcho = refl
    same ByReady = refl

module _ (x : Record) (g : Good x) (s : ℕ) (slot : Slot) (l : s < 20) (c : Replaces x s slot) where
  -- what holds of the slot there and of each other one holds of each
  each : (P : ℕ → Slot → Type 0) → P s slot → ((r : ℕ) → (r ≡ s → ⊥) → P r (slot_at x r)) → (r : ℕ) → P r (slot_at (with_slot x s slot) r)
  each P = set-each P x.slots s slot no_slot (let e = g.shape.slots in omega arith)

  differ_still : (a b : ℕ) → a < 20 → b < 20 → (a ≡ b → ⊥) → (slot_at (with_slot x s slot) a).used ≡ true → (slot_at (with_slot x s slot) b).used ≡ true
      → same_matrix x.setup.k (matrix_of (slot_at (with_slot x s slot) a)) (matrix_of (slot_at (with_slot x s slot) b)) ≡ false
  differ_still a b =
      each (λ (a : ℕ) (v : Slot). Differ a v b (slot_at (with_slot x s slot) b))
      (each (Differ s slot) (λ h i n. absurd (n refl)) (λ r n h i d e f. c.differ r i n e f) b)
      (λ r n. each (Differ r (slot_at x r))
      (λ h i d e f. agree_comm x.setup.k (matrix_of (slot_at x r)) (matrix_of slot) ∙ c.differ r h n f e)
      (λ q d. g.facts.slots.differ r q)
      b)
      a
    where
      Differ : ℕ → Slot → ℕ → Slot → Type 0
      Differ a v b w = a < 20 → b < 20 → (a ≡ b → ⊥) → v.used ≡ true → w.used ≡ true → same_matrix x.setup.k (matrix_of v) (matrix_of w) ≡ false

  once_still : (b : Side) (m a d : ℕ) → m < 10 → a < 20 → d < 20 → mark_at b (with_slot x s slot) m a ≡ true → mark_at b (with_slot x s slot) m d ≡ true → a ≡ d
  once_still b m a d lm =
      each (λ (a : ℕ) (v : Slot). Once a v d (slot_at (with_slot x s slot) d))
      (each (Once s slot) (λ h i e f. refl) (λ r n h i e f. absurd (c.once b m r lm i n e f)) d)
      (λ r n. each (Once r (slot_at x r)) (λ h i e f. absurd (c.once b m r lm h n f e)) (λ q n. g.facts.slots.once b m r q lm) d)
      a
    where
      Once : ℕ → Slot → ℕ → Slot → Type 0
      Once a v d w = a < 20 → d < 20 → marked (marks_of b v) m ≡ true → marked (marks_of b w) m ≡ true → a ≡ d

  heard_still : (b : Side) (m a : ℕ) → m < 10 → a < 20 → mark_at b (with_slot x s slot) m a ≡ true → hears x (ear b) m ≡ true
  heard_still b m a lm =
      each (λ (a : ℕ) (v : Slot). a < 20 → marked (marks_of b v) m ≡ true → hears x (ear b) m ≡ true)
      (λ h e. c.heard b m lm e)
      (λ r n. g.facts.slots.heard b m r lm)
      a

  done_still : (a : ℕ) → x.progress.completion ≡ Some a → DoneWith x.setup a (slot_at (with_slot x s slot) a)
  done_still a e =
      each (λ (a : ℕ) (v : Slot). DoneWith x.setup a (slot_at x a) → DoneWith x.setup a v)
      (λ h. let w = c.grows h.used in let more = w.1 in let enough = h.readies in record { within = h.within; used = w.0; readies = omega arith })
      (λ r n h. h)
      a (g.facts.progress.completion a e)

  -- A slot that may stand in place s, with the right pair, may replace the one there.
  pub replaced_good : PairRight x.setup slot → Good (with_slot x s slot)
  replaced_good right =
      let f = g.facts in
      record {
        facts = record {
          group = f.group;
          numbers = f.numbers;
          slots = record {
            each = each (λ (a : ℕ) (v : Slot). a < 20 → SlotFacts x.setup v) (λ h. record { contents = c.contents; in_use = c.in_use; right = right }) (λ r n. f.slots.each r);
            differ = differ_still;
            once = once_still;
            heard = heard_still;
          };
          progress = record { completion = done_still; commanded = f.progress.commanded; dealt = f.progress.dealt };
          shares = f.shares;
          none = f.none;
        };
        shape = record {
          slots = length-set x.slots s slot ∙ g.shape.slots;
          slot = each (λ (a : ℕ) (v : Slot). a < 20 → ShapedSlot v) (λ h. c.shape) (λ r n. g.shape.slot r);
          heard = g.shape.heard;
          marks = g.shape.marks;
          shares = g.shape.shares;
        };
      }

-- ---- completion

first_with : (x : Record) (d : Option ℕ) (s : ℕ) → DoneWith x.setup s (slot_at x s) → ((a : ℕ) → d ≡ Some a → DoneWith x.setup a (slot_at x a))
    → (a : ℕ) → first_completion d s ≡ Some a → DoneWith x.setup a (slot_at x a)
first_with x None s c h a e = let q : s ≡ a = cc in subst (λ (i : ℕ). DoneWith x.setup i (slot_at x i)) q c
first_with x (Some b) s c h a e = h a e

first_done : (d : Option ℕ) (s : ℕ) → is_some (first_completion d s) ≡ true
first_done None s = refl
first_done (Some a) s = refl

-- A box may complete with a slot in use that has k + t readies.
pub completing_good : (x : Record) (s : ℕ) → Good x → DoneWith x.setup s (slot_at x s) → Good (completing x s)
unfolding completing
completing_good x s g c =
    progress_good x _ g
    (first_with x x.progress.completion s c g.facts.progress.completion)
    (λ e. first_done x.progress.completion s)
    (λ e. e)
    g.facts.progress.dealt

-- ---- a recovery share kept

module _ (x : Record) (g : Good x) (m : ℕ) (l : m < x.setup.n) (s : Pair) (new : hears x 3 m ≡ false) (unrecovered : is_some x.recovered ≡ false) where
  low : m < 10
  low = let e = (needed x g.facts).boxes in omega arith

  place : m < length x.shares
  place = let e = g.shape.shares in let h = low in omega arith

  -- one share more than before, when they were fewer than k
  share_more : shares_kept (sharing x m s) ≡ shares_kept x.shares + 1
  unfolding shares_kept
  share_more =
      count_below_up (λ i. is_some (share_at x.shares i)) (λ i. is_some (share_at (sharing x m s) i)) m 10 low
      (sym (g.facts.shares.senders m low) ∙ new)
      (ap (λ (v : Option Pair). is_some v) (get_or-set_same x.shares m _ nothing place))
      (λ i n. ap (λ (v : Option Pair). is_some v) (get_or-set_other x.shares m i _ nothing n))

  few : shares_kept x.shares < x.setup.k
  few =
      let d : shares_kept x.shares ≡ x.setup.k → ⊥ = eqb-false _ _ (sym g.facts.shares.exactly ∙ unrecovered) in
      let e = g.facts.shares.at_most in
      omega arith

  -- After a command a new box's share may be kept, with the recovered pair there exactly at the k-th.
  pub share_good : x.progress.commanded ≡ true → pair_below (group_in x).q s ≡ true → (w : Option Pair) → kept_below (group_in x).q w ≡ true
      → is_some w ≡ eqb (shares_kept (sharing x m s)) x.setup.k → Good (with_shares (heard x 4 m) (sharing x m s) w)
  unfolding heard
  share_good commanded below w wb we =
      let f = g.facts in
      let lt : 4 - 1 < 4 = omega arith in
      record {
        facts = record {
          group = f.group;
          numbers = f.numbers;
          slots = heard_slots x 4 m f.slots;
          progress = f.progress;
          shares = record {
            below = set-each (λ (i : ℕ) (v : Option Pair). i < 10 → kept_below (group_in x).q v ≡ true) x.shares m _ nothing place (λ h. below) (λ r n. f.shares.below r);
            recovered_below = wb;
            shared = λ i h e. commanded;
            at_most = let a = share_more in let b = few in omega arith;
            senders = set-each (λ (i : ℕ) (v : Option Pair). i < 10 → hears (heard x 4 m) 3 i ≡ is_some v) x.shares m _ nothing place
                (λ h. hears_own x g.shape 4 m lt low)
                (λ r n h. hears_other x g.shape 4 m lt low 3 r (λ p q. n q) ∙ f.shares.senders r h);
            exactly = we;
          };
          none = heard_none x g 4 m lt l;
        };
        shape = record {
          slots = g.shape.slots;
          slot = g.shape.slot;
          heard = (heard_shape x g.shape 4 m lt low).heard;
          marks = (heard_shape x g.shape 4 m lt low).marks;
          shares = length-set x.shares m _ ∙ g.shape.shares;
        };
      }

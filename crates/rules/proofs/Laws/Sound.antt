-- The test of a sound record gives the facts, and they pass the test.
--
-- In order: matrices that agree; the clause on marks, for either side; from the clauses to the facts; and back.
-- Assumes nothing.
use Rattle.std.specs.Prelude.{◌≡◌, refl, Bool, false, List, ℕ, ◌+◌, ◌-◌, ◌<◌, ◌≤◌, leb, ltb}
use Rattle.std.proofs.Common.{sym, ◌∙◌, subst}
use Rattle.std.proofs.Math.Path.{ap}
use Rattle.std.proofs.Math.Bool.{true, not}
use Rattle.std.proofs.Math.Logic.{⊎_elim}
use Rattle.std.proofs.Math.Decide.{dec_lt}
use native.Mathlib.Omega.{arith}
use borrow.Author.Tests.{ltb-true, ltb-false, leb-true, eqb-true, not-true, le-leb, lt-ltb, eq-eqb}
use Rattle.folds.specs.Tests.{◌and◌, same, implies, and_left, and_right, and_intro, or_cases, or_left, or_right, same_eq, eq_same, implies_at, implies_intro, iff_same, true≢false, false_unless, decide}
use Rattle.folds.specs.Below.{all_below, any_below, count_below, all_below_at, all_below_all, any_below_here, any_below_some, count_below_one, count_below_two}
use Rattle.rules.specs.declared.Element.{Element}
use Rattle.std.specs.Prelude.{Option, Some, None, is_some}
use Rattle.rules.specs.declared.Record.{Record}
use Rattle.rules.specs.Numbers.{group_keeps}
use Rattle.rules.specs.Matrices.{entry}
use Rattle.rules.specs.Record.{group_in, slot_at, heard_for, place_at, share_at, matrix_of, held, shares_kept, same_matrix, setup_keeps, point_below, kept_below, slot_below, exponents_below, matrices_differ, matrices_pass, echo_mark, ready_mark, marks_keep, places_keep, use_keeps, pair_keeps, completion_keeps, recovery_keeps, dealt_keeps, entries_zero, sender_zero, unused_zero, sound}
use Rattle.rules.specs.Laws.Numbers.{Ranges}
use Rattle.rules.proofs.Laws.Numbers.{ranges}
use Rattle.rules.proofs.Laws.Clauses.{Clauses, clauses, is_sound}
use Rattle.rules.specs.declared.Side.{Side}
use Rattle.rules.specs.declared.Side.TheVariants.{ByEcho, ByReady}
use Rattle.rules.proofs.Laws.Facts.{mark_at, ear, hears, Contents, SlotFacts, unmarked, DoneWith, Facts}

-- ---- matrices that agree

-- They agree exactly if their entries do.
pub agree_at : (k : ℕ) (C D : List (List Element)) → same_matrix k C D ≡ true → (j l : ℕ) → j < k → l < k → entry C j l ≡ entry D j l
unfolding same_matrix
agree_at k C D h j l a b = eqb-true (entry C j l) (entry D j l) (all_below_at _ k l (all_below_at _ k j h a) b)

pub agree_all : (k : ℕ) (C D : List (List Element)) → ((j l : ℕ) → j < k → l < k → entry C j l ≡ entry D j l) → same_matrix k C D ≡ true
unfolding same_matrix
agree_all k C D h = all_below_all _ k (λ j a. all_below_all _ k (λ l b. eq-eqb (entry C j l) (entry D j l) (h j l a b)))

-- Two matrices agree either way round.
pub agree_comm : (k : ℕ) (C D : List (List Element)) → same_matrix k C D ≡ same_matrix k D C
agree_comm k C D =
    iff_same (same_matrix k C D) (same_matrix k D C) (turned C D) (turned D C)
  where
    turned : (C D : List (List Element)) → same_matrix k C D ≡ true → same_matrix k D C ≡ true
    turned C D h = agree_all k D C (λ j l a b. sym (agree_at k C D h j l a b))

-- ---- the clause on marks

abbrev mark_clause : (ℕ → ℕ → Bool) → (ℕ → Bool) → Bool
mark_clause mark heard = all_below 10 (λ m. leb (count_below 20 (mark m)) 1 and implies (any_below 20 (mark m)) (heard m))

module _ (mark : ℕ → ℕ → Bool) (heard : ℕ → Bool) where
  marks_once : mark_clause mark heard ≡ true → (m s r : ℕ) → m < 10 → s < 20 → r < 20 → mark m s ≡ true → mark m r ≡ true → s ≡ r
  marks_once h m s r l = count_below_two (mark m) 20 s r (leb-true (count_below 20 (mark m)) 1 (and_left _ _ (all_below_at _ 10 m h l)))

  marks_heard : mark_clause mark heard ≡ true → (m s : ℕ) → m < 10 → s < 20 → mark m s ≡ true → heard m ≡ true
  marks_heard h m s l a e =
      implies_at (any_below 20 (mark m)) (heard m) (and_right (leb (count_below 20 (mark m)) 1) _ (all_below_at _ 10 m h l)) (any_below_here (mark m) 20 s a e)

  marks_clause : ((m s r : ℕ) → m < 10 → s < 20 → r < 20 → mark m s ≡ true → mark m r ≡ true → s ≡ r)
      → ((m s : ℕ) → m < 10 → s < 20 → mark m s ≡ true → heard m ≡ true) → mark_clause mark heard ≡ true
  marks_clause f g =
      all_below_all _ 10 (λ m l. and_intro _ _
      (le-leb (count_below 20 (mark m)) 1 (count_below_one (mark m) 20 (λ s r. f m s r l)))
      (implies_intro (any_below 20 (mark m)) (heard m) (λ e. let w = any_below_some (mark m) 20 e in g m w.0 l w.1 w.2)))

-- ---- from the clauses to the facts

module _ (x : Record) (c : Clauses x) where
  below_at : (s : ℕ) → s < 20 → slot_below (group_in x).q (slot_at x s) ≡ true
  unfolding exponents_below
  below_at s l = all_below_at _ 20 s (and_left _ _ c.exponents) l

  shares_below : all_below 10 (λ m. kept_below (group_in x).q (share_at x.shares m)) and kept_below (group_in x).q x.recovered ≡ true
  unfolding exponents_below
  shares_below = and_right (all_below 20 (λ s. slot_below (group_in x).q (slot_at x s))) _ c.exponents

  sender-zero : (m : ℕ) → m < 10 → x.setup.n ≤ m → sender_zero x m ≡ true
  unfolding unused_zero
  sender-zero m l g =
      ⊎_elim
      (λ e. let z = ltb-true m x.setup.n e in absurd (omega arith))
      (λ e. e)
      (or_cases (ltb m x.setup.n) (sender_zero x m)
      (all_below_at _ 10 m (and_right (all_below 20 (λ s. entries_zero x.setup.k (slot_at x s))) _ c.zero) l))

  held_none : (s m : ℕ) → s < 20 → m < 10 → x.setup.n ≤ m → held (slot_at x s) m ≡ false
  unfolding sender_zero
  held_none s m l g h = not-true (held (slot_at x s) m) (and_left _ _ (all_below_at _ 20 s (and_left _ _ (sender-zero m g h)) l))

  heard_none : (m a : ℕ) → m < 10 → x.setup.n ≤ m → a < 4 → hears x a m ≡ false
  unfolding sender_zero
  heard_none m a l g h =
      let e : a + 1 - 1 ≡ a = omega arith in
      let z = and_left _ _ (and_right (all_below 20 (λ s. not (held (slot_at x s) m) and not (echo_mark x m s) and not (ready_mark x m s))) _ (sender-zero m l g)) in
      ap (λ (i : ℕ). hears x i m) (sym e) ∙ not-true (heard_for x (a + 1) m) (all_below_at _ 4 a z h)

  contents_at : (s : ℕ) → s < 20 → Contents x.setup (slot_at x s)
  unfolding slot_below matrices_pass places_keep unused_zero
  contents_at s l =
      record {
        points = λ m g. all_below_at _ 10 m (and_left _ _ (below_at s l)) g;
        pair = and_right (all_below 10 (λ m. point_below (group_in x).q (place_at (slot_at x s) m).point)) _ (below_at s l);
        passes = implies_at (slot_at x s).used _ (all_below_at _ 20 s c.pass l);
        places = λ m g. same_eq (held (slot_at x s) m) _ (all_below_at _ 10 m (all_below_at (λ s. places_keep (slot_at x s)) 20 s c.places l) g);
        zero = all_below_at _ 20 s (and_left _ _ c.zero) l;
        above = λ m g h. held_none s m l g h;
      }

  slot_at_lem : (s : ℕ) → s < 20 → SlotFacts x.setup (slot_at x s)
  unfolding use_keeps pair_keeps
  slot_at_lem s l =
      record {
        contents = contents_at s l;
        in_use = same_eq (slot_at x s).used _ (all_below_at (λ s. use_keeps (slot_at x s)) 20 s c.use' l);
        right = same_eq (is_some (slot_at x s).pair) _ (all_below_at (λ s. pair_keeps x.setup (slot_at x s)) 20 s c.pairs l);
      }

  differ_below : (s r : ℕ) → s < 20 → r < s → (slot_at x s).used ≡ true → (slot_at x r).used ≡ true
      → same_matrix x.setup.k (matrix_of (slot_at x s)) (matrix_of (slot_at x r)) ≡ false
  unfolding matrices_differ
  differ_below s r l g e f =
      false_unless _ (λ h. true≢false (sym (and_intro _ _ e (and_intro _ _ f h)) ∙ not-true _ (all_below_at _ s r (all_below_at _ 20 s c.differ l) g)))

  differ_at : (s r : ℕ) → s < 20 → r < 20 → (s ≡ r → ⊥) → (slot_at x s).used ≡ true → (slot_at x r).used ≡ true
      → same_matrix x.setup.k (matrix_of (slot_at x s)) (matrix_of (slot_at x r)) ≡ false
  differ_at s r l g n e f = go (dec_lt r s)
    where
      go : Dec (r < s) → same_matrix x.setup.k (matrix_of (slot_at x s)) (matrix_of (slot_at x r)) ≡ false
      go (yes h) = differ_below s r l h e f
      go (no h) = agree_comm x.setup.k (matrix_of (slot_at x s)) (matrix_of (slot_at x r)) ∙ differ_below r s g (omega arith) f e

  side_clause : (b : Side) → mark_clause (mark_at b x) (hears x (ear b)) ≡ true
  unfolding marks_keep
  side_clause ByEcho = and_left _ _ c.marks
  side_clause ByReady = and_right (mark_clause (echo_mark x) (hears x 1)) _ c.marks

  done_with : (d : Option ℕ) → completion_keeps x d ≡ true → (s : ℕ) → d ≡ Some s → DoneWith x.setup s (slot_at x s)
  done_with None h s e = let z : ◌≡◌ {A = ℕ} 0 1 = cc in absurd (omega arith)
  done_with (Some a) h s e =
      let q : a ≡ s = cc in
      let h1 = and_right (ltb a 20) _ h in
      subst (λ (i : ℕ). DoneWith x.setup i (slot_at x i)) q
      (record { within = ltb-true a 20 (and_left _ _ h); used = and_left _ _ h1; readies = leb-true _ _ (and_right (slot_at x a).used _ h1) })

  facts_of : Facts x
  unfolding setup_keeps recovery_keeps dealt_keeps
  facts_of =
      let r1 = and_right (implies x.progress.commanded (is_some x.progress.completion)) _ c.recovery in
      let r2 = and_right (all_below 10 (λ m. implies (is_some (share_at x.shares m)) x.progress.commanded)) _ r1 in
      let r3 = and_right (leb (shares_kept x.shares) x.setup.k) _ r2 in
      record {
        group = and_left _ _ c.setup;
        numbers = and_right (group_keeps x.setup) _ c.setup;
        slots = record {
          each = slot_at_lem;
          differ = differ_at;
          once = λ b. marks_once (mark_at b x) (hears x (ear b)) (side_clause b);
          heard = λ b. marks_heard (mark_at b x) (hears x (ear b)) (side_clause b);
        };
        progress = record {
          completion = done_with x.progress.completion c.completion;
          commanded = implies_at _ _ (and_left _ _ c.recovery);
          dealt = implies_at _ _ c.dealt;
        };
        shares = record {
          below = λ m l. all_below_at _ 10 m (and_left _ _ shares_below) l;
          recovered_below = and_right (all_below 10 (λ m. kept_below (group_in x).q (share_at x.shares m))) _ shares_below;
          shared = λ m l. implies_at (is_some (share_at x.shares m)) _ (all_below_at _ 10 m (and_left _ _ r1) l);
          at_most = leb-true _ _ (and_left _ _ r2);
          senders = λ m l. same_eq (heard_for x 4 m) _ (all_below_at _ 10 m (and_left _ _ r3) l);
          exactly = same_eq _ _ (and_right (all_below 10 (λ m. same (heard_for x 4 m) (is_some (share_at x.shares m)))) _ r3);
        };
        none = heard_none;
      }

-- A sound record has the facts.
pub sound_facts : (x : Record) → sound x ≡ true → Facts x
sound_facts x h = facts_of x (clauses x h)

-- Its set-up numbers are small.
pub sound_ranges : (x : Record) → sound x ≡ true → Ranges x.setup
sound_ranges x h = let c = sound_facts x h in ranges x.setup c.group c.numbers

-- ---- and back

module _ (x : Record) (c : Facts x) where
  exponents_below_lem : exponents_below x ≡ true
  unfolding exponents_below slot_below
  exponents_below_lem =
      and_intro _ _
      (all_below_all _ 20 (λ s l. and_intro _ _ (all_below_all _ 10 (c.slots.each s l).contents.points) (c.slots.each s l).contents.pair))
      (and_intro _ _ (all_below_all _ 10 c.shares.below) c.shares.recovered_below)

  matrices_differ_lem : matrices_differ x ≡ true
  unfolding matrices_differ
  matrices_differ_lem =
      all_below_all _ 20 (λ s l. all_below_all _ s (λ r g. ap not (false_unless _ (λ e.
      let e1 = and_right (slot_at x s).used _ e in
      true≢false (sym (and_right (slot_at x r).used _ e1) ∙ c.slots.differ s r l (omega arith) (λ q. let w : ⊥ = omega arith in w) (and_left _ _ e) (and_left _ _ e1))))))

  matrices_pass_lem : matrices_pass x ≡ true
  unfolding matrices_pass
  matrices_pass_lem = all_below_all _ 20 (λ s l. implies_intro (slot_at x s).used _ (c.slots.each s l).contents.passes)

  marks_keep_lem : marks_keep x ≡ true
  unfolding marks_keep
  marks_keep_lem = and_intro _ _ (at ByEcho) (at ByReady)
    where
      at : (b : Side) → mark_clause (mark_at b x) (hears x (ear b)) ≡ true
      at b = marks_clause (mark_at b x) (hears x (ear b)) (c.slots.once b) (c.slots.heard b)

  places_keep_lem : all_below 20 (λ s. places_keep (slot_at x s)) ≡ true
  unfolding places_keep
  places_keep_lem = all_below_all _ 20 (λ s l. all_below_all _ 10 (λ m g. eq_same (held (slot_at x s) m) _ ((c.slots.each s l).contents.places m g)))

  uses_keep : all_below 20 (λ s. use_keeps (slot_at x s)) ≡ true
  unfolding use_keeps
  uses_keep = all_below_all _ 20 (λ s l. eq_same (slot_at x s).used _ (c.slots.each s l).in_use)

  pairs_keep : all_below 20 (λ s. pair_keeps x.setup (slot_at x s)) ≡ true
  unfolding pair_keeps
  pairs_keep = all_below_all _ 20 (λ s l. eq_same (is_some (slot_at x s).pair) _ (c.slots.each s l).right)

  completion_keeps_lem : (d : Option ℕ) → ((s : ℕ) → d ≡ Some s → DoneWith x.setup s (slot_at x s)) → completion_keeps x d ≡ true
  completion_keeps_lem None h = refl
  completion_keeps_lem (Some s) h = let w = h s refl in and_intro _ _ (lt-ltb s 20 w.within) (and_intro _ _ w.used (le-leb _ _ w.readies))

  recovery_keeps_lem : recovery_keeps x ≡ true
  unfolding recovery_keeps
  recovery_keeps_lem =
      and_intro _ _ (implies_intro _ _ c.progress.commanded)
      (and_intro _ _ (all_below_all _ 10 (λ m l. implies_intro (is_some (share_at x.shares m)) _ (c.shares.shared m l)))
      (and_intro _ _ (le-leb _ _ c.shares.at_most)
      (and_intro _ _ (all_below_all _ 10 (λ m l. eq_same (heard_for x 4 m) _ (c.shares.senders m l)))
      (eq_same _ _ c.shares.exactly))))

  sender_none : (m : ℕ) → m < 10 → x.setup.n ≤ m → sender_zero x m ≡ true
  unfolding sender_zero
  sender_none m l g =
      and_intro _ _
      (all_below_all _ 20 (λ s h.
      let f = (c.slots.each s h).contents in
      let e = f.above m l g in
      and_intro _ _ (ap not e) (and_intro _ _ (ap not (unmarked x.setup (slot_at x s) f ByEcho m l e)) (ap not (unmarked x.setup (slot_at x s) f ByReady m l e)))))
      (and_intro _ _
      (all_below_all _ 4 (λ t h. let e : t + 1 - 1 ≡ t = omega arith in ap not (ap (λ (i : ℕ). hears x i m) e ∙ c.none m t l g h)))
      (ap not (sym (c.shares.senders m l) ∙ c.none m 3 l g (omega arith))))

  unused_zero_lem : unused_zero x ≡ true
  unfolding unused_zero
  unused_zero_lem =
      and_intro _ _
      (all_below_all _ 20 (λ s l. (c.slots.each s l).contents.zero))
      (all_below_all _ 10 (λ m l.
      ⊎_elim
      (or_left (ltb m x.setup.n) (sender_zero x m))
      (λ e. or_right (ltb m x.setup.n) (sender_zero x m) (sender_none m l (ltb-false m x.setup.n e)))
      (decide (ltb m x.setup.n))))

  clauses_of : Clauses x
  unfolding setup_keeps dealt_keeps
  clauses_of =
      record {
        setup = and_intro _ _ c.group c.numbers;
        exponents = exponents_below_lem;
        differ = matrices_differ_lem;
        pass = matrices_pass_lem;
        marks = marks_keep_lem;
        places = places_keep_lem;
        use' = uses_keep;
        pairs = pairs_keep;
        completion = completion_keeps_lem x.progress.completion c.progress.completion;
        recovery = recovery_keeps_lem;
        dealt = implies_intro _ _ c.progress.dealt;
        zero = unused_zero_lem;
      }

-- A record with the facts is sound.
pub facts_sound : (x : Record) → Facts x → sound x ≡ true
facts_sound x c = is_sound x (clauses_of x c)

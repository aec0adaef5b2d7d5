-- A checked message leaves a good record.
--
-- In order: the slot of an echo or ready may stand where it is put; the steps of echo, ready and recovery share.
-- Assumes nothing.
use Rattle.std.specs.Prelude.{is_some}
use Rattle.std.specs.Prelude.{◌≡◌, true, false, List, ◌⊎◌, ℕ, ◌+◌, ◌-◌, ◌<◌, ◌≤◌, eqb}
use Rattle.std.proofs.Math.Path.{sym}
use Rattle.std.proofs.Common.{ap, ◌∙◌, subst, inl, inr, arith, get_or-set_same, eqb-true}
use Rattle.std.proofs.Math.Logic.{⊎_elim}
use Rattle.folds.specs.Tests.{pick-either, true≢false, false_unless}
use Rattle.rules.specs.declared.Element.{Element}
use Rattle.rules.specs.declared.Four.{Four}
use Rattle.rules.specs.declared.Pair.{Pair}
use Rattle.rules.specs.declared.Slot.{Slot}
use Rattle.rules.specs.declared.Record.{Record}
use Rattle.rules.specs.declared.SetUp.{SetUp}
use Rattle.rules.specs.Dealing.{four_below, pair_below}
use Rattle.rules.specs.Record.{no_slot, group_in, slot_at, heard_for, marked, matrix_of, count_r, shares_kept, same_matrix, sound}
use Rattle.rules.specs.Steps.{Said, pair_from, share_points, heard, own_slot, free_slot, slot_for, opened, taken, keeping, Step, ready_sent, with_slot, ready_due, completion_due, point_at, point_step, completing, completed, sharing, recovering, share_step}
use Rattle.rules.proofs.Laws.Room.{Found, room}
use Rattle.rules.specs.declared.Side.{Side}
use Rattle.rules.specs.declared.Side.TheVariants.{ByEcho, ByReady}
use Rattle.rules.proofs.Laws.Facts.{marks_of, mark_at, ear, hears, Needed, DoneWith, Facts, needed}
use Rattle.rules.proofs.Laws.Sound.{agree_comm}
use Rattle.rules.proofs.Laws.Kept.OpenSlot.{Fits, OpenFacts, open_facts, open_marks, open_same, open_new}
use Rattle.rules.proofs.Laws.Kept.TakenSlot.{taken_cases, taken_use, taken_contents, taken_shape, count_grows, right_stays, right_kept}
use Rattle.rules.proofs.Laws.Kept.Changes.{Good, heard_good, hears_own, Replaces, keeping_replaces, replaced_good, completing_good, share_good}
use Rattle.rules.proofs.Laws.Checks.{pair_from_below, recovered_below}

-- ---- the slot of an echo or ready

-- a checked message of side b, from a sender heard for it but marked in no slot yet, and the place s of its matrix
record Taking (b : Side) (y : Record) (s m : ℕ) (C : List (List Element)) (f : Four) : Type 0 where
  good : Good y
  found : Found y C s
  fit : Fits y.setup C
  sender : m < y.setup.n
  below : four_below (group_in y).q f ≡ true
  new : (r : ℕ) → r < 20 → mark_at b y m r ≡ true → ⊥
  here : hears y (ear b) m ≡ true

abbrev next : Side → Record → ℕ → ℕ → List (List Element) → Four → Slot
next b y s m C f = taken b (opened C (slot_at y s)) m f

module _ (b : Side) (y : Record) (s m : ℕ) (C : List (List Element)) (f : Four) (c : Taking b y s m C f) where
  facts_now : Facts y
  facts_now = c.good.facts

  here_now : s < 20
  here_now = c.found.within

  numbers : Needed y.setup
  numbers = needed y facts_now

  sender_low : m < 10
  sender_low = let e = numbers.boxes in let h = c.sender in omega arith

  open_now : OpenFacts y.setup (opened C (slot_at y s))
  open_now = open_facts y.setup C (slot_at y s) numbers c.fit (facts_now.slots.each s here_now) (c.good.shape.slot s here_now)

  open_differs : (r : ℕ) → r < 20 → (r ≡ s → ⊥) → (slot_at y r).used ≡ true → same_matrix y.setup.k (matrix_of (opened C (slot_at y s))) (matrix_of (slot_at y r)) ≡ false
  open_differs r l n e =
      ⊎_elim
      (λ h. rw (open_same C (slot_at y s) h.0) (facts_now.slots.differ s r here_now l (λ q. n (sym q)) h.0 e))
      (λ h. rw (open_new C (slot_at y s) h.0) (agree_comm y.setup.k C (matrix_of (slot_at y r)) ∙ h.1 r l e))
      c.found.own

  -- whom the slot marks: the sender, or one whom it marked before
  mark_cases : (a : Side) (i : ℕ) → i < 10 → marked (marks_of a (next b y s m C f)) i ≡ true → ((a ≡ b) × (i ≡ m)) ⊎ (mark_at a y i s ≡ true)
  mark_cases a i l e =
      ⊎_elim inl (λ h. inr (open_marks C (slot_at y s) a i l h)) (taken_cases b (opened C (slot_at y s)) open_now.shape m sender_low f a i e)

  open_grows : (slot_at y s).used ≡ true → count_r (slot_at y s) ≤ count_r (next b y s m C f)
  open_grows e =
      let q : count_r (opened C (slot_at y s)) ≡ count_r (slot_at y s) = ap count_r (open_same C (slot_at y s) e) in
      let h : count_r (opened C (slot_at y s)) ≤ count_r (next b y s m C f) = count_grows b (opened C (slot_at y s)) open_now.shape m sender_low f ByReady in
      omega arith

  next_replaces : Replaces y s (next b y s m C f)
  unfolding matrix_of
  next_replaces =
      record {
        contents = taken_contents y.setup numbers b (opened C (slot_at y s)) open_now m c.sender f c.below;
        in_use = taken_use y.setup numbers b (opened C (slot_at y s)) open_now m c.sender f;
        shape = taken_shape b (opened C (slot_at y s)) open_now.shape m sender_low f;
        differ = λ r l n e h. open_differs r l n h;
        once = λ a i r li lr n e h.
            ⊎_elim
            (λ q. c.new r lr (rw (← q.0, ← q.1) h))
            (λ q. n (sym (facts_now.slots.once a i s r li here_now lr q h)))
            (mark_cases a i li e);
        heard = λ a i li e. ⊎_elim (λ q. rw (q.0, q.1) c.here) (λ q. facts_now.slots.heard a i s li here_now q) (mark_cases a i li e);
        grows = λ e. (open_now.used, open_grows e);
      }

  unmarked_yet : marked (marks_of b (opened C (slot_at y s))) m ≡ false
  unmarked_yet = false_unless _ (λ e. c.new s here_now (open_marks C (slot_at y s) b m sender_low e))

  -- the pair as it was, or kept just now
  plain_good : ready_due y.setup b (next b y s m C f) ≡ false → Good (with_slot y s (next b y s m C f))
  plain_good e =
      replaced_good y c.good s (next b y s m C f) here_now next_replaces
      (right_stays y.setup b (opened C (slot_at y s)) m f open_now.shape sender_low unmarked_yet open_now.right e)

  paired_good : (ps : List (Said Four)) → ready_due y.setup b (next b y s m C f) ≡ true → Good (with_slot y s (keeping (next b y s m C f) (pair_from (group_in y).q ps)))
  paired_good ps e =
      replaced_good y c.good s (keeping (next b y s m C f) (pair_from (group_in y).q ps)) here_now
      (keeping_replaces y s (next b y s m C f) (pair_from (group_in y).q ps) (pair_from_below (group_in y).q numbers.order ps) next_replaces)
      (right_kept y.setup b (next b y s m C f) (pair_from (group_in y).q ps) e)

  -- the slot has k + t readies
  done_good : ready_due y.setup b (next b y s m C f) ≡ false → y.setup.k + y.setup.t ≤ count_r (next b y s m C f) → Good (completing (with_slot y s (next b y s m C f)) s)
  done_good e h =
      completing_good (with_slot y s (next b y s m C f)) s (plain_good e)
      (subst (DoneWith y.setup s) (sym (get_or-set_same y.slots s (next b y s m C f) no_slot (let q = c.good.shape.slots in let i = here_now in omega arith)))
      (record { within = here_now; used = open_now.used; readies = h }))

-- ---- the steps

abbrev AfterGood : Step → Type 0
AfterGood st = Good st.after

-- k + t readies, where the box completes
enough : (u : SetUp) (b : Side) (v : Slot) → completion_due u b v ≡ true → u.k + u.t ≤ count_r v
enough u ByEcho v h = absurd (true≢false (sym h))
enough u ByReady v h = let q = eqb-true (count_r v) (u.k + u.t) h in omega arith

point_at_lem : (b : Side) (y : Record) (s m : ℕ) (C : List (List Element)) (f : Four) → Taking b y s m C f → Good (point_at b y s (next b y s m C f)).after
unfolding point_at ready_sent completed
point_at_lem b y s m C f c =
    let v = next b y s m C f in
    pick-either AfterGood (ready_due y.setup b v) _ _
    (paired_good b y s m C f c _)
    (λ e. pick-either AfterGood (completion_due y.setup b v) _ _
    (λ h. done_good b y s m C f c e (enough y.setup b v h))
    (λ h. plain_good b y s m C f c e))

ear_low : (b : Side) → ear b < 3
ear_low ByEcho = omega arith
ear_low ByReady = omega arith

-- the sender is heard for the side's tag, and the message is taken into the place that its matrix finds
heard_taking : (b : Side) (x : Record) (m : ℕ) (C : List (List Element)) (f : Four) → Good x → Found x C (slot_for x C) → Fits x.setup C → m < x.setup.n
    → four_below (group_in x).q f ≡ true → hears x (ear b) m ≡ false → Taking b (heard x (ear b + 1) m) (slot_for (heard x (ear b + 1) m) C) m C f
unfolding heard slot_for own_slot free_slot
heard_taking b x m C f g found fit l below unheard =
    let q : ear b + 1 - 1 ≡ ear b = omega arith in
    let low = ear_low b in
    let boxes = (needed x g.facts).boxes in
    let l10 : m < 10 = omega arith in
    record {
      good = heard_good x (ear b + 1) m g (omega arith) l;
      found = record { within = found.within; own = found.own };
      fit = fit;
      sender = l;
      below = below;
      new = λ r h e. true≢false (sym (g.facts.slots.heard b m r l10 h e) ∙ unheard);
      here = ap (λ (i : ℕ). hears (heard x (ear b + 1) m) i m) (sym q) ∙ hears_own x g.shape (ear b + 1) m (omega arith) l10;
    }

module _ (x : Record) (m : ℕ) (h : sound x ≡ true) (g : Good x) (l : m < x.setup.n) where
  -- A checked echo or ready of a box not heard for it leaves a good record.
  pub point_good : (b : Side) (C : List (List Element)) (f : Four) → Fits x.setup C → four_below (group_in x).q f ≡ true → hears x (ear b) m ≡ false
      → Good (point_step b (heard x (ear b + 1) m) m C f).after
  unfolding point_step
  point_good b C f fit below e = point_at_lem b _ _ m C f (heard_taking b x m C f g (room x m C h l b e) fit l below e)

  -- A checked recovery share of a box not heard for one, after a command and before a pair is recovered, leaves a good record.
  pub recovery_good : (s : Pair) → pair_below (group_in x).q s ≡ true → heard_for x 4 m ≡ false → x.progress.commanded ≡ true → is_some x.recovered ≡ false
      → Good (share_step (heard x 4 m) m s).after
  unfolding share_step recovering heard
  recovery_good s below e commanded none =
      let order = (needed x g.facts).order in
      pick-either AfterGood (eqb (shares_kept (sharing x m s)) x.setup.k) _ _
      (λ q. share_good x g m l s e none commanded below _ (recovered_below (group_in x).q order (share_points (sharing x m s))) (sym q))
      (λ q. share_good x g m l s e none commanded below x.recovered g.facts.shares.recovered_below (none ∙ sym q))

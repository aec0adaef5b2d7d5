-- Ready is sent only for the dealt matrix: a box outside the set speaks of no other, and the set is too small for a quorum.
--
-- In order: calls that keep to this; whose a held point is; a slot whose points are the set's; after an accepted message.
-- Assumes nothing.
use Rattle.std.specs.Prelude.{is_some}
use Rattle.std.specs.Prelude.{◌≡◌, false, ◌⊎◌, ℕ, ◌+◌, ◌-◌, ◌<◌, ◌≤◌, eqb, replicate, length}
use Rattle.std.proofs.Common.{sym, ◌∙◌, arith}
use Rattle.std.proofs.Math.Path.{ap, subst}
use Rattle.std.proofs.Math.Bool.{true}
use Rattle.std.proofs.Math.Logic.{inl, inr, ⊎_elim}
use mathlib.Core.List.{List, [], ◌∷◌}
use borrow.Author.Tests.{eqb-true}
use Rattle.folds.specs.Tests.{and_left, and_right, or_cases, decide, pick-either, true≢false, false_unless}
use Rattle.folds.specs.Below.{count_below, count_below_mono, count_below_beyond, passes_below}
use Rattle.rules.specs.declared.Element.{Element}
use Rattle.rules.specs.declared.Four.{Four}
use Rattle.rules.specs.declared.Outcome.{Outcome}
use Rattle.rules.specs.declared.Point.{Point}
use Rattle.rules.specs.declared.Record.{Record}
use Rattle.rules.specs.declared.SetUp.{SetUp}
use Rattle.rules.specs.declared.Slot.{Slot}
use Rattle.rules.specs.Numbers.{is_box}
use Rattle.rules.specs.Messages.{tag_in, matrix_in}
use Rattle.rules.specs.Record.{slot_at, is_held, held, matrix_of, same_matrix}
use Rattle.rules.specs.Steps.{slot_for, opened, keeping, taken}
use Rattle.rules.specs.Answers.{set_up, first_of, accepted, deliver_rows}
use Rattle.rules.proofs.Laws.Numbers.{box_is}
use Rattle.rules.specs.declared.Side.{Side}
use Rattle.rules.specs.declared.Side.TheVariants.{ByEcho, ByReady}
use Rattle.rules.proofs.Laws.Facts.{SlotFacts}
use Rattle.rules.proofs.Laws.Sound.{agree_comm, facts_sound}
use Rattle.rules.proofs.Laws.RoundTrip.{is_echo_lem, is_ready_lem}
use Rattle.rules.proofs.Laws.Room.{Found, room}
use Rattle.rules.specs.Laws.Passed.{Passed}
use Rattle.rules.proofs.Laws.Kept.Changes.{Good}
use Rattle.demands.specs.Terms.Histories.{Call, deals, gets, commanded, own, doing, after}
use Rattle.demands.specs.Terms.Lives.{checks_now, takes_now, said}
use Rattle.demands.specs.Lives.{life_sound, places_say}
use Rattle.demands.specs.Lives.Stepped.{step_of}
use Rattle.demands.specs.Lives.Took.{sends_now, slot_sent}
use Rattle.demands.specs.Lives.Deliveries.{has_passed, out_message}
use Rattle.demands.specs.Lives.Born.{good, facts_at}
use Rattle.demands.specs.Lives.Points.{points_differ}
use Rattle.demands.specs.Lives.Readies.{enough, used_there}
use Rattle.demands.specs.Hiding.Moves.{Twice, numbers, in_set, dealt}
use Rattle.demands.specs.Hiding.Hypotheses.{Given, size, own_taken}
use Rattle.demands.specs.Hiding.Steps.{Ripe}
use Rattle.demands.specs.Hiding.Arrivals.{FromSetOrDealt}
use Rattle.demands.specs.Hiding.Deliveries.{RipeIfSent}
use Rattle.demands.specs.Own.{own_matrix}

-- ---- calls that keep to this

-- each message of a box outside the set is for the dealt matrix
unfoldable pub Honest : Twice → List Call → Type 0
Honest t [] = Unit {0}
Honest t (deals secret coins lent ∷ cs) = Honest t cs
Honest t (gets from bytes lent ∷ cs) = FromSetOrDealt t from bytes × Honest t cs
Honest t (commanded lent ∷ cs) = Honest t cs

-- ---- whose a held point is

module _ (t : Twice) (h : Given t) (i : ℕ) (box-i : is_box (numbers t) i ≡ true) where
  abbrev u : SetUp
  u = own (numbers t) i

  -- this call is checked: it is of the set, or for the dealt matrix
  check_whose : (cs : List Call) (tag : ℕ) → tag ≤ 3 → (m from : ℕ) (bytes : List ℕ) (lent : ℕ) → is_box (numbers t) m ≡ true
      → FromSetOrDealt t from bytes → (C : List (List Element)) → checks_now (after u cs) (gets from bytes lent) tag m C ≡ true
      → (in_set t m ≡ true) ⊎ (same_matrix (numbers t).k (dealt t) C ≡ true)
  unfolding checks_now
  check_whose cs tag low m from bytes lent b whose C e =
      let e1 = and_right (eqb (doing (after u cs) (gets from bytes lent)).outcome.answer.no 0) _ e in
      let e2 = and_right (eqb from m) _ e1 in
      let e3 = and_right (eqb (tag_in bytes) tag) _ e2 in
      let sender : from ≡ m = eqb-true from m (and_left _ _ e1) in
      let it : tag_in bytes ≡ tag = eqb-true (tag_in bytes) tag (and_left _ _ e2) in
      let same : same_matrix (numbers t).k (matrix_in (numbers t) bytes) C ≡ true =
      subst (λ (D : List (List Element)). same_matrix (numbers t).k D C ≡ true) (own_matrix (numbers t) i bytes)
      (subst (λ (v : SetUp). same_matrix v.k (matrix_in v bytes) C ≡ true) (life_sound u (own_taken t h i box-i) cs).2 e3) in
      ⊎_elim
      (λ w. inl (sym (ap (in_set t) sender) ∙ w))
      (λ w. inr (subst (λ (D : List (List Element)). same_matrix (numbers t).k D C ≡ true) w same))
      (whose (ap (is_box (numbers t)) sender ∙ b) (omega arith))

  said_whose : (cs : List Call) → Honest t cs → (m : ℕ) → is_box (numbers t) m ≡ true → (C : List (List Element))
      → is_held (said u cs m C) ≡ true → (in_set t m ≡ true) ⊎ (same_matrix (numbers t).k (dealt t) C ≡ true)
  unfolding said Honest checks_now
  said_whose [] g m b C e = absurd (true≢false (sym e))
  said_whose (deals secret coins lent ∷ cs) g m b C e = said_whose cs g m b C e
  said_whose (commanded lent ∷ cs) g m b C e = said_whose cs g m b C e
  said_whose (gets from bytes lent ∷ cs) g m b C e =
      pick-either (λ (p : Point). is_held p ≡ true → (in_set t m ≡ true) ⊎ (same_matrix (numbers t).k (dealt t) C ≡ true))
      (takes_now (after u cs) (gets from bytes lent) m C) _ _
      (λ now held.
      ⊎_elim
      (check_whose cs 2 (omega arith) m from bytes lent b g.0 C)
      (check_whose cs 3 (omega arith) m from bytes lent b g.0 C)
      (or_cases _ _ now))
      (λ not-now. said_whose cs g.1 m b C)
      e

-- ---- a slot whose points are the set's

module _ (t : Twice) (h : Given t) where
  -- only the set holds points in it: then they are fewer than k
  set-few : (slot : Slot) → ((m : ℕ) → m < 10 → held slot m ≡ true → (m < (numbers t).n) × (in_set t (m + 1) ≡ true))
      → count_below 10 (held slot) < (numbers t).k
  set-few slot only =
      let beyond = count_below_beyond (held slot) (numbers t).n 10
      (λ m l g. false_unless _ (λ w. let z = (only m l w).0 in let v : ⊥ = omega arith in v)) (size t h).boxes in
      let few = h.few in
      let boxes = (size t h).boxes in
      let mono = count_below_mono (held slot) (λ m. in_set t (m + 1)) (numbers t).n (λ m l w. (only m (omega arith) w).1) in
      omega arith

-- ---- after an accepted message

module _ (t : Twice) (h : Given t) (i : ℕ) (box-i : is_box (numbers t) i ≡ true) (cs : List Call) (from lent : ℕ) (bytes : List ℕ)
    (honest : Honest t (gets from bytes lent ∷ cs)) where
  abbrev me : SetUp
  me = own (numbers t) i

  abbrev now : List Call
  now = gets from bytes lent ∷ cs

  abbrev taken_up : (set_up me).answer.no ≡ 0
  taken_up = own_taken t h i box-i

  abbrev x : Record
  x = after me cs

  abbrev k : ℕ
  k = (numbers t).k

  -- a slot with a pair: it holds k points, too many for the set alone
  ripe_next : (s : ℕ) → s < 20 → is_some (slot_at (after me now) s).pair ≡ true → Ripe t (slot_at (after me now) s)
  ripe_next s l there = (
    points_differ (numbers t) slot _ facts.contents.above (λ m f lm e. tt) many,
    ⊎_elim (λ w. w) (λ w. absurd (too_few w)) (decide (same_matrix k (matrix_of slot) (dealt t))),
  )
    where
      slot : Slot
      slot = slot_at (after me now) s

      facts : SlotFacts me slot
      facts = facts_at me taken_up now s l

      many : k ≤ count_below 10 (held slot)
      many = enough me slot facts there

      used : slot.used ≡ true
      used = used_there me slot facts (let low = (size t h).low in omega arith) there

      -- whose point it is
      of : (m : ℕ) → m < 10 → held slot m ≡ true → same_matrix k (matrix_of slot) (dealt t) ≡ false
          → (m < (numbers t).n) × (in_set t (m + 1) ≡ true)
      of m lm w differs =
          let low = passes_below m (numbers t).n (held slot m) w (facts.contents.above m lm) in (
            low,
            ⊎_elim (λ v. v) (λ v. absurd (true≢false (sym v ∙ agree_comm k (dealt t) (matrix_of slot) ∙ differs)))
                (said_whose t h i box-i now honest (m + 1) (box_is (numbers t) (m + 1) (omega arith) (omega arith)) (matrix_of slot)
                (sym (ap is_held (places_say me taken_up now s m l lm used)) ∙ w)),
          )

      too_few : same_matrix k (matrix_of slot) (dealt t) ≡ false → ⊥
      too_few differs =
          let few = set-few t h slot (λ m lm w. of m lm w differs) in
          let enough = many in
          let v : ⊥ = omega arith in
          v

  -- an echo or a ready by which ready is sent
  module _ (n : first_of (deliver_rows x from bytes (length {A = ℕ} (replicate lent 0))) ≡ 0) where
    abbrev g : Good x
    g = good me taken_up cs

    came : Passed x from bytes
    came = has_passed x g from bytes lent n

    sent : (b : Side) (C : List (List Element)) (f : Four) → (doing x (gets from bytes lent)).outcome ≡ accepted (step_of b x (from - 1) C f)
        → Found x C (slot_for x C) → sends_now b x (from - 1) C f ≡ true → Ripe t (taken b (opened C (slot_at x (slot_for x C))) (from - 1) f)
    unfolding after accepted keeping matrix_of
    sent b C f out found first =
        let slot = ap (λ (o : Outcome). slot_at o.next (slot_for x C)) out ∙ slot_sent b x g (from - 1) C f found first in
        subst (Ripe t) slot (ripe_next (slot_for x C) found.within (ap (λ (v : Slot). is_some v.pair) slot))

    pub ripe_if_sent : RipeIfSent t x from bytes
    ripe_if_sent ByEcho e =
        sent ByEcho _ _ (out_message x g from bytes lent n _ (is_echo_lem x.setup bytes e))
        (room x (from - 1) _ (facts_sound x g.facts) came.hearing.within ByEcho (rw e at came.hearing.unheard))
    ripe_if_sent ByReady e =
        sent ByReady _ _ (out_message x g from bytes lent n _ (is_ready_lem x.setup bytes e))
        (room x (from - 1) _ (facts_sound x g.facts) came.hearing.within ByReady (rw e at came.hearing.unheard))

-- Who is heard after a delivery, mark by mark.
--
-- In order: one mark more; after an accepted message; after a refused one.
-- Assumes nothing.
use Rattle.std.specs.Prelude.{◌≡◌, true, false, List, ◌⊎◌, ◌≢◌, ℕ, ◌-◌, ◌≤◌, ◌<◌, eqb, length, get_or, set}
use Rattle.std.proofs.Math.Path.{refl, sym, ap}
use Rattle.std.proofs.Common.{◌∙◌, subst, arith, get_or-set_same, get_or-set_other}
use Rattle.std.proofs.Math.Logic.{inl, inr, ⊎_elim}
use Rattle.std.proofs.Math.Decide.{ℕ_discrete}
use Rattle.folds.specs.Tests.{pick-either, decide, true≢false}
use Rattle.rules.specs.declared.Marks.{Marks}
use Rattle.rules.specs.declared.Record.{Record}
use Rattle.rules.specs.declared.Side.{Side}
use Rattle.rules.specs.declared.Side.TheVariants.{ByEcho, ByReady}
use Rattle.rules.specs.declared.Slot.{Slot}
use Rattle.rules.specs.declared.Message.{Message}
use Rattle.rules.specs.declared.Message.TheVariants.{Send as send, Echo as echo, Ready as ready, Recovery as recovery}
use Rattle.rules.specs.Messages.{tag_of, tag_in, message_in}
use Rattle.rules.specs.Record.{no_marks, marked, heard_for, shares_kept}
use Rattle.rules.specs.Steps.{Step, mark, heard, send_step, ready_sent, completing, completed, ready_due, completion_due, point_at, point_step, sharing, recovering, share_step, message_step}
use Rattle.rules.specs.Answers.{Done, accepted, answered, first_of, deliver_rows, deliver}
use Rattle.rules.specs.Laws.Shape.{Shaped, HasMark}
use Rattle.rules.proofs.Laws.DemandOne.{Heard, to_hear, heard_test, test_heard, deliver_marks, deliver_refused, deliver_heard, outcome_number, answered_accepted}
use Rattle.rules.proofs.Laws.Facts.{needed}
use Rattle.rules.proofs.Laws.Sound.{sound_facts}
use Rattle.rules.specs.Laws.RoundTrip.{Formed}
use Rattle.rules.proofs.Laws.RoundTrip.{is_send_lem, is_echo_lem, is_ready_lem, is_recovery_lem, by_tag}
use Rattle.rules.specs.Laws.Passed.{Hearing}
use Rattle.rules.proofs.Laws.Passed.{rows_passed, marked_hearing}

-- ---- one mark more

-- the sender is heard for the tag, and everybody else is heard as before
pub record NowHeard (x y : Record) (tag m : ℕ) : Type 0 where
  pub there : heard_for y tag m ≡ true
  pub elsewhere : (tag' m' : ℕ) → 1 ≤ tag' → (tag' ≡ tag → m' ≡ m → ⊥) → heard_for y tag' m' ≡ heard_for x tag' m'

now_heard : (x : Record) (tag m : ℕ) → Shaped x → HasMark tag m → NowHeard x (heard x tag m) tag m
unfolding heard
now_heard x tag m S within =
    let l = within.low in
    let h = within.high in
    record {
      there = rw (get_or-set_same x.heard (tag - 1) (mark row m) no_marks in_heard) (get_or-set_same row.at m true false in_row);
      elsewhere = λ tag' m' l' ne. other tag' m' ne (ℕ_discrete (tag' - 1) (tag - 1)) (λ e. omega arith);
    }
  where
    row : Marks
    row = get_or x.heard (tag - 1) no_marks

    in_heard : tag - 1 < length x.heard
    in_heard = let h = within.high in rw S.heard (omega arith)

    in_row : m < length row.at
    in_row = let h = within.high in let b = within.place in rw (S.marks (tag - 1) (omega arith)) b

    other : (tag' m' : ℕ) → (tag' ≡ tag → m' ≡ m → ⊥) → Dec (tag' - 1 ≡ tag - 1) → (tag' - 1 ≡ tag - 1 → tag' ≡ tag)
        → marked (get_or (set x.heard (tag - 1) (mark row m)) (tag' - 1) no_marks) m' ≡ heard_for x tag' m'
    other tag' m' ne (yes e) up =
        rw (e, get_or-set_same x.heard (tag - 1) (mark row m) no_marks in_heard) (get_or-set_other row.at m m' true false (ne (up e)))
    other tag' m' ne (no e) up = rw (get_or-set_other x.heard (tag - 1) (tag' - 1) (mark row m) no_marks e)

-- it goes by the ears alone
same_ears : (x y z : Record) (tag m : ℕ) → y.heard ≡ z.heard → NowHeard x z tag m → NowHeard x y tag m
same_ears x y z tag m e h = record { there = rw e h.there; elsewhere = λ tag' m' l ne. rw e (h.elsewhere tag' m' l ne) }

-- a record is as it came but for one sender's mark for one tag
pub record OneMark (x y : Record) (tag m : ℕ) : Type 0 where
  pub setup : y.setup ≡ x.setup
  pub slots : y.slots ≡ x.slots
  pub progress : y.progress ≡ x.progress
  pub shares : y.shares ≡ x.shares
  pub recovered : y.recovered ≡ x.recovered
  pub ears : NowHeard x y tag m

-- what `heard` changes is one mark
pub one_mark : (x : Record) (tag m : ℕ) → Shaped x → HasMark tag m → OneMark x (heard x tag m) tag m
unfolding heard
one_mark x tag m S within =
    record { setup = refl; slots = refl; progress = refl; shares = refl; recovered = refl; ears = now_heard x tag m S within }

-- a message that got a hearing has its mark
has_mark : (x : Record) (sender : ℕ) (bytes : List ℕ) → Hearing x sender bytes → HasMark (tag_in bytes) (sender - 1)
has_mark x sender bytes h =
    let n = (needed x (sound_facts x h.is_sound)).boxes in
    let w = h.within in
    record { low = h.form.low; high = h.form.high; place = omega arith }

-- ---- after an accepted message

module _ (x : Record) (m : ℕ) where
  -- the ears that a step leaves
  abbrev Hears : ℕ → Step → Type 0
  Hears tag st = st.after.heard ≡ (heard x tag m).heard

  point_hears : (tag : ℕ) (b : Side) (s : ℕ) (slot : Slot) → Hears tag (point_at b (heard x tag m) s slot)
  unfolding point_at ready_sent completed completing
  point_hears tag b s slot =
      pick-either (Hears tag) (ready_due (heard x tag m).setup b slot) _ _ (λ e. refl)
      (λ e. pick-either (Hears tag) (completion_due (heard x tag m).setup b slot) _ _ (λ q. refl) (λ q. refl))

  step_hears : (msg : Message) → Hears (tag_of msg) (message_step x m msg)
  unfolding tag_of send_step point_step share_step recovering heard
  step_hears (send C P) = refl
  step_hears (echo C f) = point_hears 2 ByEcho _ _
  step_hears (ready C f) = point_hears 3 ByReady _ _
  step_hears (recovery s) =
      pick-either (Hears 4) (eqb (shares_kept (sharing x m s)) x.setup.k) _ _ (λ e. refl) (λ e. refl)

tag_told : (x : Record) (bytes : List ℕ) → Formed x.setup bytes → tag_of (message_in x.setup bytes) ≡ tag_in bytes
unfolding tag_of
tag_told x bytes form =
    let u = x.setup in
    by_tag u bytes form (λ h. ap tag_of (is_send_lem u bytes h) ∙ sym h) (λ h. ap tag_of (is_echo_lem u bytes h) ∙ sym h)
    (λ h. ap tag_of (is_ready_lem u bytes h) ∙ sym h) (λ h. ap tag_of (is_recovery_lem u bytes h) ∙ sym h)

module _ (x : Record) (S : Shaped x) (sender : ℕ) (bytes buffer : List ℕ) where
  abbrev d : Done
  d = deliver x sender bytes buffer

  -- "An accepted message marks its sender heard for its tag."
  pub accepted_hears : d.outcome.answer.no ≡ 0 → NowHeard x d.outcome.next (tag_in bytes) (sender - 1)
  unfolding deliver answered accepted
  accepted_hears e =
      let n = sym (outcome_number (first_of (deliver_rows x sender bytes (length buffer))) _ _) ∙ e in
      let hearing = (rows_passed x sender bytes (length buffer) n).hearing in
      same_ears x d.outcome.next (heard x (tag_in bytes) (sender - 1)) (tag_in bytes) (sender - 1)
      (ap (λ (o : Done). o.outcome.next.heard) (answered_accepted _ _ _ buffer n)
      ∙ step_hears x (sender - 1) (message_in x.setup bytes)
      ∙ ap (λ (tag : ℕ). (heard x tag (sender - 1)).heard) (tag_told x bytes hearing.form))
      (now_heard x (tag_in bytes) (sender - 1) S (has_mark x sender bytes hearing))

  -- ---- after a refused one

  -- "All refusals leave the record as it came, except that 8, 9 and 10 on tags 1, 2, 3 mark that sender heard for that tag"
  pub refusal_leaves : d.outcome.answer.no ≢ 0
      → ((Heard d.outcome.answer.no (tag_in bytes) → ⊥) × (d.outcome.next ≡ x))
      ⊎ (Heard d.outcome.answer.no (tag_in bytes) × OneMark x d.outcome.next (tag_in bytes) (sender - 1))
  unfolding deliver answered
  refusal_leaves z =
      ⊎_elim (λ t. inr (heard_then (test_heard _ (tag_in bytes) t)))
      (λ f.
      let unheard : Heard d.outcome.answer.no (tag_in bytes) → ⊥ =
      λ h. true≢false (sym (heard_test d.outcome.answer.no (tag_in bytes) h) ∙ f) in
      inl (unheard, (deliver_refused x sender bytes buffer z unheard).next))
      (decide (to_hear d.outcome.answer.no (tag_in bytes)))
    where
      hearing : Heard d.outcome.answer.no (tag_in bytes) → Hearing x sender bytes
      hearing h =
          let n = first_of (deliver_rows x sender bytes (length buffer)) in
          marked_hearing x sender bytes (length buffer) (deliver_marks x sender bytes (length buffer)
          ∙ heard_test n (tag_in bytes) (subst (λ (v : ℕ). Heard v (tag_in bytes)) (outcome_number n _ _) h))

      heard_then : Heard d.outcome.answer.no (tag_in bytes)
          → Heard d.outcome.answer.no (tag_in bytes) × OneMark x d.outcome.next (tag_in bytes) (sender - 1)
      heard_then h = (
        h,
        subst (λ (y : Record). OneMark x y (tag_in bytes) (sender - 1)) (sym (deliver_heard x sender bytes buffer h).next)
            (one_mark x (tag_in bytes) (sender - 1) S (has_mark x sender bytes (hearing h))),
      )

-- What a delivery makes of a good record: refused, a send, an echo or ready, a recovery share; and so any call.
--
-- In that order.
-- Assumes nothing.
use Rattle.std.specs.Prelude.{◌≡◌, Bool, true, List, ℕ, ◌+◌, ◌-◌, ◌<◌, ◌≤◌, replicate, length}
use Rattle.std.proofs.Math.Path.{refl, ap, subst}
use Rattle.std.proofs.Common.{sym, ◌∙◌, arith}
use Rattle.std.proofs.Math.Bool.{false}
use Rattle.std.proofs.Math.Decide.{ℕ_discrete}
use Rattle.std.proofs.Math.Dec.{eqb}
use borrow.Author.Tests.{ne_eqb}
use Rattle.folds.specs.Tests.{◌and◌, pick-either, and_false, true≢false, and_true}
use Rattle.rules.specs.declared.Element.{Element}
use Rattle.rules.specs.declared.Four.{Four}
use Rattle.rules.specs.declared.Outcome.{Outcome}
use Rattle.rules.specs.declared.Pair.{Pair}
use Rattle.rules.specs.declared.Polynomials.{Polynomials}
use Rattle.rules.specs.declared.Progress.{Progress}
use Rattle.rules.specs.declared.Record.{Record}
use Rattle.rules.specs.declared.Sent.TheVariants.{Echo}
use Rattle.rules.specs.declared.SetUp.{SetUp}
use Rattle.rules.specs.declared.Message.{Message}
use Rattle.rules.specs.Messages.{tag_in, matrix_in, four_in, pair_in, message_in}
use Rattle.rules.specs.Dealing.{point_check}
use Rattle.rules.specs.Record.{group_in, same_matrix, sound}
use Rattle.rules.specs.Steps.{heard, send_step, slot_for, share_step, message_step}
use Rattle.rules.specs.Answers.{Done, accepted, refused, answered, first_of, share_checks, deliver_rows, refusal_heard, deliver, first_row}
use Rattle.rules.proofs.Laws.Numbers.{is_box_lem}
use Rattle.rules.proofs.Laws.DemandOne.{outcome_number, answered_accepted, answered_refused}
use Rattle.rules.specs.declared.Side.{Side}
use Rattle.rules.specs.declared.Side.TheVariants.{ByEcho, ByReady}
use Rattle.rules.proofs.Laws.Facts.{ear, hears, needed}
use Rattle.rules.proofs.Laws.Sound.{facts_sound}
use Rattle.rules.proofs.Laws.RoundTrip.{is_send_lem, is_echo_lem, is_ready_lem, is_recovery_lem, by_tag}
use Rattle.rules.proofs.Laws.Room.{Found, room}
use Rattle.rules.proofs.Laws.Kept.{deliver_kept, good_of}
use Rattle.rules.specs.Laws.Passed.{Passed}
use Rattle.rules.proofs.Laws.Passed.{rows_passed}
use Rattle.rules.proofs.Laws.Kept.Changes.{Good, hears_own, hears_stays}
use Rattle.demands.specs.Terms.Histories.{Call, deals, gets, commanded, doing}
use Rattle.demands.specs.Terms.Lives.{checks_now, share_now, is_echo, is_ready}
use Rattle.demands.specs.Lives.Stepped.{JustNow, Stays, as_before, OwnMarks, marks_stay, step_of, stepped, shared}
use Rattle.demands.specs.Lives.Took.{Took, sends_now, took}
use Rattle.demands.specs.Lives.Turns.{next, takes, keeps, Turn, Untouched, untouched_heard, untouched_same, Tells, tells_refused, quiet_turned, quiet_way, turn_deals, turn_commanded}

module _ (x : Record) (g : Good x) (sender : ℕ) (bytes : List ℕ) (lent : ℕ) where
  abbrev it : Call
  it = gets sender bytes lent

  abbrev pub number : ℕ
  number = first_of (deliver_rows x sender bytes (length {A = ℕ} (replicate lent 0)))

  abbrev said_in : Message
  said_in = message_in x.setup bytes

  good_after : Good (next x it)
  unfolding doing
  good_after =
      let kept = deliver_kept x sender bytes (replicate lent 0) (facts_sound x g.facts) g.shape in
      good_of _ kept.0 kept.1

  -- refused
  abbrev marks : Bool
  marks = (first_row (deliver_rows x sender bytes (length {A = ℕ} (replicate lent 0)))).marks

  out_refused : (number ≡ 0 → ⊥) → (doing x it).outcome ≡ refused number (refusal_heard marks x sender bytes)
  unfolding doing deliver
  out_refused d = ap (λ (o : Done). o.outcome) (answered_refused number _ _ (replicate lent 0) d)

  refused_tells : (n : ℕ) → Tells x (refused n (refusal_heard marks x sender bytes))
  unfolding refusal_heard heard
  refused_tells n =
      tells_refused x n (refusal_heard marks x sender bytes)
      (pick-either (Untouched x) marks (heard x (tag_in bytes) (sender - 1)) x
      (λ e. untouched_heard x (tag_in bytes) (sender - 1))
      (λ e. untouched_same x))
      (pick-either (λ (y : Record). y.progress ≡ x.progress) marks (heard x (tag_in bytes) (sender - 1)) x (λ e. refl) (λ e. refl))

  turn_refused : (number ≡ 0 → ⊥) → Turn x it
  unfolding checks_now share_now refused
  turn_refused d =
      let t = subst (Tells x) (sym (out_refused d)) (refused_tells number) in
      let no : eqb (doing x it).outcome.answer.no 0 ≡ false
      = ap (λ (o : Outcome). eqb o.answer.no 0) (out_refused d) ∙ ne_eqb number 0 d in
      record { turned = quiet_turned x it t; good = good_after; way = quiet_way x it t (λ b i D. rw no) (λ i. rw no) }

  -- accepted
  module _ (e : number ≡ 0) where
    out_accepted : (doing x it).outcome ≡ accepted (message_step x (sender - 1) said_in)
    unfolding doing deliver
    out_accepted = ap (λ (o : Done). o.outcome) (answered_accepted number _ _ (replicate lent 0) e)

    no_zero : eqb (doing x it).outcome.answer.no 0 ≡ true
    unfolding accepted
    no_zero = ap (λ (o : Outcome). eqb o.answer.no 0) out_accepted

    pub has_passed : Passed x sender bytes
    has_passed = rows_passed x sender bytes (length {A = ℕ} (replicate lent 0)) e

    from_one : sender ≡ sender - 1 + 1
    from_one = let b = is_box_lem x.setup sender has_passed.hearing.box in omega arith

    below_ten : sender - 1 < 10
    below_ten = let b = has_passed.hearing.within in let n = (needed x g.facts).boxes in omega arith

    -- what the call checks now, by its tag
    checks_now_lem : (t : ℕ) → tag_in bytes ≡ t → (tag i : ℕ) (D : List (List Element))
        → checks_now x it tag i D ≡ eqb (sender - 1 + 1) i and eqb t tag and same_matrix x.setup.k (matrix_in x.setup bytes) D
    unfolding checks_now
    checks_now_lem t h tag i D =
        rw (no_zero, h) (ap (λ (n : ℕ). eqb n i and eqb t tag and same_matrix x.setup.k (matrix_in x.setup bytes) D) from_one)

    shares_now : (t : ℕ) → tag_in bytes ≡ t → (i : ℕ) → share_now x it i ≡ eqb (sender - 1 + 1) i and eqb t 4
    unfolding share_now
    shares_now t h i = rw (no_zero, h) (ap (λ (n : ℕ). eqb n i and eqb t 4) from_one)

    -- a tag that is no side's, and one that is no recovery share's
    unchecked_now : (t : ℕ) → tag_in bytes ≡ t → eqb t 2 ≡ false → eqb t 3 ≡ false → (b : Side) (i : ℕ) (D : List (List Element))
        → checks_now x it (ear b + 1) i D ≡ false
    unchecked_now t h d d' ByEcho i D = checks_now_lem t h 2 i D ∙ (rw d (and_false (eqb (sender - 1 + 1) i)))
    unchecked_now t h d d' ByReady i D = checks_now_lem t h 3 i D ∙ (rw d' (and_false (eqb (sender - 1 + 1) i)))

    unshared_now : (t : ℕ) → tag_in bytes ≡ t → eqb t 4 ≡ false → (i : ℕ) → share_now x it i ≡ false
    unshared_now t h d i = shares_now t h i ∙ (rw d (and_false (eqb (sender - 1 + 1) i)))

    pub out_message : (msg : Message) → said_in ≡ msg → (doing x it).outcome ≡ accepted (message_step x (sender - 1) msg)
    out_message msg h = out_accepted ∙ ap (λ (m : Message). accepted (message_step x (sender - 1) m)) h

    -- a send
    send_tells : tag_in bytes ≡ 1 → (C : List (List Element)) (P : Polynomials) → Tells x (accepted (send_step (heard x 1 (sender - 1)) C P))
    unfolding accepted send_step heard
    send_tells h C P =
        record {
          untouched = untouched_heard x 1 (sender - 1);
          completed = refl;
          ready = refl;
          echoes = λ q.
              rw (← has_passed.hearing.dealer h) (rw h at has_passed.hearing.unheard, hears_own x g.shape 1 (sender - 1) (omega arith) below_ten);
          marks = marks_stay _ _ _ refl refl refl refl;
        }

    turn_send : tag_in bytes ≡ 1 → Turn x it
    turn_send h =
        let t = subst (Tells x) (sym (out_message _ (is_send_lem x.setup bytes h))) (send_tells h _ _) in
        record {
          turned = quiet_turned x it t;
          good = good_after;
          way = quiet_way x it t (unchecked_now 1 h refl refl) (unshared_now 1 h refl);
        }

    -- which is answered by an echo
    send_echoes : tag_in bytes ≡ 1 → (doing x it).outcome.answer.sent ≡ Echo
    unfolding accepted send_step heard
    send_echoes h = ap (λ (o : Outcome). o.answer.sent) (out_message _ (is_send_lem x.setup bytes h))

    -- an echo or a ready
    turn_takes : (b : Side) → tag_in bytes ≡ ear b + 1 → (C : List (List Element)) (f : Four)
        → matrix_in x.setup bytes ≡ C → four_in x.setup bytes ≡ f
        → (doing x it).outcome ≡ accepted (step_of b x (sender - 1) C f) → Found x C (slot_for x C)
        → point_check (group_in x) x.setup.k C x.setup.i sender f ≡ true → Turn x it
    unfolding accepted
    turn_takes b h C f ec ef out found check =
        let st = stepped b x (sender - 1) C f in
        let to : next x it ≡ (step_of b x (sender - 1) C f).after = ap (λ (o : Outcome). o.next) out in
        let gy : Good (step_of b x (sender - 1) C f).after = subst Good to good_after in
        let tk = took b x g (sender - 1) C f found gy in
        record {
          turned = record {
            setup = ap (λ (r : Record). r.setup) to ∙ st.setup;
            done =
                subst (λ (o : Outcome). JustNow x.progress.completion o.next.progress.completion o.answer.completed)
                (sym out) st.done;
            still = subst (λ (r : Record). Stays x.progress.completion r.progress.completion) (sym to) st.still;
            stays = rw to tk.stays;
            ears = λ a i q. rw (to, st.ears) (hears_stays x (ear b + 1) (sender - 1) a i q);
            echoes = λ q. absurd (true≢false (sym q ∙ ap (λ (o : Outcome). is_echo o.answer.sent) out ∙ st.echo));
            marks = subst (λ (o : Outcome). OwnMarks x.progress o.next.progress o.answer.sent) (sym out) st.marks;
          };
          good = good_after;
          way = takes b (sender - 1) C f (sends_now b x (sender - 1) C f) (record {
            low = below_ten;
            new = new b h;
            took = subst (λ (r : Record). Took x r b (sender - 1) C f (sends_now b x (sender - 1) C f)) (sym to) tk;
            shares = ap (λ (r : Record). r.shares) to ∙ st.shares;
            recovered = ap (λ (r : Record). r.recovered) to ∙ st.recovered;
            ready = ap (λ (o : Outcome). is_ready o.answer.sent) out ∙ st.ready;
            checked = λ tag i D. rw (← ec) (checks_now_lem (ear b + 1) h tag i D);
            unshared = unshared_now (ear b + 1) h (no_share b);
            sender = from_one;
            four = ef;
            passes = rw (← ec) (has_passed.passes (rw h (low_tag b)));
            check = rw (← from_one) check;
          });
        }
      where
        no_share : (a : Side) → eqb (ear a + 1) 4 ≡ false
        no_share ByEcho = refl
        no_share ByReady = refl

        new : (a : Side) → tag_in bytes ≡ ear a + 1 → hears x (ear a) (sender - 1) ≡ false
        new ByEcho q = rw q at has_passed.hearing.unheard
        new ByReady q = rw q at has_passed.hearing.unheard

        low_tag : (a : Side) → ear a + 1 ≤ 3
        low_tag ByEcho = omega arith
        low_tag ByReady = omega arith

    -- a recovery share
    turn_keeps : tag_in bytes ≡ 4 → (p : Pair) → pair_in bytes ≡ p
        → (doing x it).outcome ≡ accepted (share_step (heard x 4 (sender - 1)) (sender - 1) p)
        → share_checks x x.progress.completion sender p ≡ true → Turn x it
    unfolding accepted
    turn_keeps h p ep out check =
        let st = shared x (sender - 1) p in
        let to : next x it ≡ (share_step (heard x 4 (sender - 1)) (sender - 1) p).after = ap (λ (o : Outcome). o.next) out in
        let same : (next x it).progress.completion ≡ x.progress.completion
        = ap (λ (r : Record). r.progress.completion) to ∙ ap (λ (v : Progress). v.completion) st.progress in
        record {
          turned = record {
            setup = ap (λ (r : Record). r.setup) to ∙ st.setup;
            done = rw same (ap (λ (o : Outcome). o.answer.completed) out ∙ st.completed ∙ as_before x.progress.completion);
            still = λ s q. same ∙ q;
            stays = λ r q. rw (to, st.slots) (q, refl);
            ears = λ a i q. rw (to, st.ears) (hears_stays x 4 (sender - 1) a i q);
            echoes = λ q. absurd (true≢false (sym q ∙ ap (λ (o : Outcome). is_echo o.answer.sent) out ∙ st.echo));
            marks = subst (λ (o : Outcome). OwnMarks x.progress o.next.progress o.answer.sent) (sym out) st.marks;
          };
          good = good_after;
          way = keeps (sender - 1) p (record {
            low = below_ten;
            slots = ap (λ (r : Record). r.slots) to ∙ st.slots;
            completion = same;
            shares = ap (λ (r : Record). r.shares) to ∙ st.shares;
            recovered = ap (λ (r : Record). r.recovered) to ∙ st.recovered;
            ready = ap (λ (o : Outcome). is_ready o.answer.sent) out ∙ st.ready;
            unchecked = unchecked_now 4 h refl refl;
            shared = λ i. shares_now 4 h i ∙ and_true (eqb (sender - 1 + 1) i);
            pair = ep;
            unrecovered = has_passed.hearing.unrecovered h;
            check = rw (← from_one) check;
          });
        }

    turn_accepted : Turn x it
    turn_accepted =
        by_tag u bytes has_passed.hearing.form turn_send
        (λ h. turn_takes ByEcho h _ _ refl refl (out_message _ (is_echo_lem u bytes h))
        (room x (sender - 1) _ all_sound has_passed.hearing.within ByEcho (rw h at has_passed.hearing.unheard))
        (rw (is_echo_lem u bytes h) at has_passed.check))
        (λ h. turn_takes ByReady h _ _ refl refl (out_message _ (is_ready_lem u bytes h))
        (room x (sender - 1) _ all_sound has_passed.hearing.within ByReady (rw h at has_passed.hearing.unheard))
        (rw (is_ready_lem u bytes h) at has_passed.check))
        (λ h. turn_keeps h _ refl (out_message _ (is_recovery_lem u bytes h)) (rw (is_recovery_lem u bytes h) at has_passed.check))
      where
        u : SetUp
        u = x.setup

        all_sound : sound x ≡ true
        all_sound = facts_sound x g.facts

  turn_gets : Turn x it
  turn_gets = go (ℕ_discrete number 0)
    where
      go : Dec (number ≡ 0) → Turn x it
      go (yes e) = turn_accepted e
      go (no d) = turn_refused d

-- What any call makes of a good record.
pub turn : (x : Record) → Good x → (c : Call) → Turn x c
turn x g (deals secret coins lent) = turn_deals x g secret coins lent
turn x g (gets sender bytes lent) = turn_gets x g sender bytes lent
turn x g (commanded lent) = turn_commanded x g lent

-- A checked send has its echo.
pub has_echo : (x : Record) → Good x → (sender lent : ℕ) (bytes : List ℕ) → tag_in bytes ≡ 1
    → (doing x (gets sender bytes lent)).outcome.answer.no ≡ 0 → (doing x (gets sender bytes lent)).outcome.answer.sent ≡ Echo
unfolding doing deliver answered
has_echo x g sender lent bytes h e = send_echoes x g sender bytes lent (sym (outcome_number _ _ _) ∙ e) h

-- What stands behind each message that a box sends: an honest deal, a checked send, k checked points, a kept pair.
--
-- In order: what it is, by the kind of message; an answer and its bytes; the commands; a delivery; any call; a call that wrote.
-- Assumes nothing.
use Rattle.std.specs.Prelude.{is_some}
use Rattle.std.specs.Prelude.{◌≡◌, Bool, true, List, [], ℕ, ◌-◌, ◌<◌, eqb, replicate, take, length}
use Rattle.std.proofs.Math.Path.{refl, ap, subst}
use Rattle.std.proofs.Common.{sym, ◌∙◌, arith}
use borrow.Author.Tests.{eqb-true}
use Rattle.folds.specs.Tests.{pick-either}
use Rattle.rules.specs.declared.Element.{Element}
use Rattle.rules.specs.declared.Four.{Four}
use Rattle.rules.specs.declared.Outcome.{Outcome}
use Rattle.rules.specs.declared.Pair.{Pair}
use Rattle.rules.specs.declared.Record.{Record}
use Rattle.rules.specs.declared.Sent.{Sent}
use Rattle.rules.specs.declared.Sent.TheVariants.{Nothing, Send, Echo, Ready, Recovery}
use Rattle.rules.specs.declared.SetUp.{SetUp}
use Rattle.rules.specs.declared.Slot.{Slot}
use Rattle.rules.specs.declared.Message.{Message}
use Rattle.rules.specs.declared.Message.TheVariants.{Echo as echo, Ready as ready}
use Rattle.rules.specs.Messages.{tag_in, matrix_in, polynomials_in, pair_in, message_in, to_each}
use Rattle.rules.specs.Dealing.{coins_keep, matrix_passes, polynomial_check}
use Rattle.rules.specs.Record.{slot_at, matrix_of, shares_kept}
use Rattle.rules.specs.Steps.{Step, heard, points, ready_four, echo_four, own_slot, free_slot, slot_for, opened, keeping, send_step, ready_sent, completed, sharing, recovering, share_step, message_step, deal_step, completed_share, share_bytes, recover_step, completion_due, point_at, point_step, taken, ready_due}
use Rattle.rules.specs.Answers.{accepted, refused, answered, first_of, deal_rows, deal, recover, refusal_heard, deliver, Done, first_row, deliver_rows}
use Rattle.rules.proofs.Laws.DemandOne.{answered_either}
use Rattle.rules.specs.declared.Side.{Side}
use Rattle.rules.specs.declared.Side.TheVariants.{ByEcho, ByReady}
use Rattle.rules.proofs.Laws.Sound.{facts_sound}
use Rattle.rules.proofs.Laws.Lengths.{take-written}
use Rattle.rules.proofs.Laws.RoundTrip.{is_send_lem, is_echo_lem, is_ready_lem, is_recovery_lem, by_tag}
use Rattle.rules.proofs.Laws.Room.{Found, room}
use Rattle.rules.proofs.Laws.Agreement.{agree_self}
use Rattle.rules.specs.Laws.Passed.{Passed}
use Rattle.rules.proofs.Laws.Passed.{deal_passed, recover_passed}
use Rattle.rules.proofs.Laws.Kept.Changes.{Good}
use Rattle.demands.specs.Terms.Histories.{Call, deals, gets, commanded, doing, wrote}
use Rattle.demands.specs.Terms.Dealing.{group, order, sends_of}
use Rattle.demands.specs.Lives.Commands.{deal_sends}
use Rattle.demands.specs.Lives.Stepped.{step_of, paired}
use Rattle.demands.specs.Lives.Slots.{Has}
use Rattle.demands.specs.Lives.Took.{took, slot_sent}
use Rattle.demands.specs.Lives.Turns.{next}
use Rattle.demands.specs.Lives.Deliveries.{turn, number, has_passed, out_message}

-- ---- what stands behind the bytes of a call

-- what box u .i says to each j in a ready, from the slot that it has then
abbrev pub ready_of : SetUp → Slot → ℕ → Message
ready_of u slot j = ready (matrix_of slot) (ready_four (order u) (take u.k (points slot.places)) j)

abbrev pub Spoken : SetUp → Record → Call → Sent → List ℕ → Type 0
Spoken u x c Nothing run = run ≡ []
Spoken u x c Send run =
    (secret : ℕ) × (coins : List ℕ)
    × (coins_keep u secret coins ≡ true)
    × (u.i ≡ u.d)
    × (run ≡ sends_of u secret coins)
    × (lent : ℕ) × (c ≡ deals secret coins lent)
Spoken u x c Echo run =
    (bytes : List ℕ)
    × (matrix_passes (group u) u.k (matrix_in u bytes) ≡ true)
    × (polynomial_check (group u) u.k (matrix_in u bytes) u.i (polynomials_in u bytes) ≡ true)
    × (run ≡ to_each u (λ j. echo (matrix_in u bytes) (echo_four (order u) u.k (polynomials_in u bytes) j)))
    × (sender lent : ℕ) × (c ≡ gets sender bytes lent) × (tag_in bytes ≡ 1)
Spoken u x c Ready run =
    (s : ℕ)
    × (s < 20)
    × (is_some (slot_at (next x c) s).pair ≡ true)
    × (run ≡ to_each u (ready_of u (slot_at (next x c) s)))
    × (sender lent : ℕ) × (bytes : List ℕ) × (c ≡ gets sender bytes lent) × Has (next x c) (matrix_in u bytes) s
Spoken u x c Recovery run =
    (run ≡ share_bytes u (completed_share x x.progress.completion))
    × (is_some x.progress.completion ≡ true)
    × (lent : ℕ) × (c ≡ commanded lent)

-- ---- an answer and its bytes

-- what holds of a step's, and of nothing, holds of an answer's
answered_holds : (T : Sent → List ℕ → Type 0) (n : ℕ) (st : Step) (after : Record) (buffer : List ℕ) → T Nothing []
    → (n ≡ 0 → T st.sent st.bytes)
    → T (answered n st after buffer).outcome.answer.sent (wrote (answered n st after buffer))
unfolding accepted refused
answered_holds T n st after buffer a b =
    answered_either n st after buffer (λ (d : Done). T d.outcome.answer.sent (wrote d))
    (λ e. subst (T st.sent) (sym (take-written st.bytes buffer)) (b e)) (λ z. a)

module _ (x : Record) where
  -- ---- the commands

  deals_spoken : (secret : ℕ) (coins : List ℕ) (lent : ℕ)
      → Spoken x.setup x (deals secret coins lent) (doing x (deals secret coins lent)).outcome.answer.sent
      (wrote (doing x (deals secret coins lent)))
  unfolding doing deal
  deals_spoken secret coins lent =
      answered_holds (Spoken x.setup x (deals secret coins lent)) (first_of (deal_rows x secret coins (length {A = ℕ} (replicate lent 0))))
      (deal_step x secret coins) x (replicate lent 0) refl
      (λ e.
      let c = deal_passed x secret coins (length {A = ℕ} (replicate lent 0)) e in
      let sends = deal_sends x secret coins in
      rw sends.0
      (secret, coins, c.keeps, eqb-true x.setup.i x.setup.d c.dealer, sends.1, lent, refl))

  commanded_spoken : (lent : ℕ)
      → Spoken x.setup x (commanded lent) (doing x (commanded lent)).outcome.answer.sent (wrote (doing x (commanded lent)))
  unfolding doing recover recover_step
  commanded_spoken lent =
      answered_holds (Spoken x.setup x (commanded lent)) _ (recover_step x) x (replicate lent 0) refl
      (λ e. (refl, (recover_passed x (length {A = ℕ} (replicate lent 0)) e).completed, lent, refl))

  -- ---- a delivery

  module _ (g : Good x) (sender : ℕ) (bytes : List ℕ) (lent : ℕ) where
    abbrev it : Call
    it = gets sender bytes lent

    -- what a step sends
    abbrev Tells : Step → Type 0
    Tells st = Spoken x.setup x it st.sent st.bytes

    -- an echo or a ready: the slot that it is taken into
    module _ (b : Side) (f : Four) (out : (doing x it).outcome ≡ accepted (step_of b x (sender - 1) (matrix_in x.setup bytes) f))
        (found : Found x (matrix_in x.setup bytes) (slot_for x (matrix_in x.setup bytes))) where
      abbrev C : List (List Element)
      C = matrix_in x.setup bytes

      abbrev new : Slot
      new = taken b (opened C (slot_at x (slot_for x C))) (sender - 1) f

      abbrev sends : Bool
      sends = ready_due x.setup b new

      slot_now : sends ≡ true → slot_at (next x it) (slot_for x C) ≡ paired x new
      unfolding accepted
      slot_now e = ap (λ (o : Outcome). slot_at o.next (slot_for x C)) out ∙ slot_sent b x g (sender - 1) C f found e

      now_has : Has (next x it) C (slot_for x C)
      unfolding accepted
      now_has =
          let to : next x it ≡ (step_of b x (sender - 1) C f).after = ap (λ (o : Outcome). o.next) out in
          let tk = took b x g (sender - 1) C f found (subst Good to (turn x g it).good) in
          subst (λ (y : Record). Has y C (slot_for x C)) (sym to) (tk.has C (agree_self x.setup.k C))

      -- ready is sent
      sends_ready : sends ≡ true → Spoken x.setup x it Ready (to_each x.setup (ready_of x.setup new))
      unfolding keeping matrix_of
      sends_ready e =
          let now = slot_now e in (
            slot_for x C,
            found.within,
            ap (λ (w : Slot). is_some w.pair) now,
            ap (λ (w : Slot). to_each x.setup (ready_of x.setup w)) (sym now),
            sender,
            lent,
            bytes,
            refl,
            now_has,
          )

    step_tells : (b : Side) (f : Four) → (doing x it).outcome ≡ accepted (step_of b x (sender - 1) (matrix_in x.setup bytes) f)
        → Found x (matrix_in x.setup bytes) (slot_for x (matrix_in x.setup bytes)) → Tells (step_of b x (sender - 1) (matrix_in x.setup bytes) f)
    unfolding point_step point_at ready_sent completed heard slot_for own_slot free_slot
    step_tells b f out found =
        pick-either Tells (sends b f out found) _ _ (sends_ready b f out found)
        (λ e. pick-either Tells (completion_due x.setup b (new b f out found)) _ _ (λ q. refl) (λ q. refl))

    share_tells : (p : Pair) → Tells (share_step (heard x 4 (sender - 1)) (sender - 1) p)
    unfolding share_step recovering heard
    share_tells p =
        pick-either Tells (eqb (shares_kept (sharing x (sender - 1) p)) x.setup.k) _ _ (λ e. refl) (λ e. refl)

    -- a message by its tag
    abbrev says : Message
    says = message_in x.setup bytes

    module _ (e : number x g sender bytes lent ≡ 0) where
      abbrev came : Passed x sender bytes
      came = has_passed x g sender bytes lent e

      message_tells : Tells (message_step x (sender - 1) says)
      unfolding send_step heard
      message_tells =
          by_tag u bytes came.hearing.form
          (λ h. of _ (is_send_lem u bytes h) (bytes, came.passes (omega arith), rw (is_send_lem u bytes h) at came.check, refl, sender, lent, refl, h))
          (λ h. of _ (is_echo_lem u bytes h)
          (step_tells ByEcho _ (out_message x g sender bytes lent e _ (is_echo_lem u bytes h))
          (room x (sender - 1) _ (facts_sound x g.facts) came.hearing.within ByEcho (rw h at came.hearing.unheard))))
          (λ h. of _ (is_ready_lem u bytes h)
          (step_tells ByReady _ (out_message x g sender bytes lent e _ (is_ready_lem u bytes h))
          (room x (sender - 1) _ (facts_sound x g.facts) came.hearing.within ByReady (rw h at came.hearing.unheard))))
          (λ h. of _ (is_recovery_lem u bytes h) (share_tells (pair_in bytes)))
        where
          u : SetUp
          u = x.setup

          of : (msg : Message) → says ≡ msg → Tells (message_step x (sender - 1) msg) → Tells (message_step x (sender - 1) says)
          of msg h = subst (λ (m : Message). Tells (message_step x (sender - 1) m)) (sym h)

    gets_spoken : Spoken x.setup x it (doing x it).outcome.answer.sent (wrote (doing x it))
    unfolding doing deliver
    gets_spoken =
        answered_holds (Spoken x.setup x it) (number x g sender bytes lent)
        (message_step x (sender - 1) says) (refusal_heard (first_row (deliver_rows x sender bytes (length {A = ℕ} (replicate lent 0)))).marks x sender bytes)
        (replicate lent 0) refl message_tells

-- What any call on a good record has sent.
pub spoken : (x : Record) → Good x → (c : Call) → Spoken x.setup x c (doing x c).outcome.answer.sent (wrote (doing x c))
spoken x g (deals secret coins lent) = deals_spoken x secret coins lent
spoken x g (gets sender bytes lent) = gets_spoken x g sender bytes lent
spoken x g (commanded lent) = commanded_spoken x lent

-- ---- a call that wrote

-- it was accepted, and what it wrote is not empty
abbrev Wrote : Done → Type 0
Wrote d = (d.outcome.answer.bytes ≡ 0 → ⊥) → (d.outcome.answer.no ≡ 0) × (wrote d ≡ [] → ⊥)

answered_wrote : (n : ℕ) (st : Step) (after : Record) (buffer : List ℕ) → Wrote (answered n st after buffer)
unfolding accepted refused
answered_wrote n st after buffer =
    answered_either n st after buffer Wrote
    (λ e some. (refl, λ q. some (ap length (sym (take-written st.bytes buffer) ∙ q)))) (λ z some. absurd (some refl))

pub wrote_some : (x : Record) (c : Call) → Wrote (doing x c)
unfolding doing deal recover deliver
wrote_some x (deals secret coins lent) = answered_wrote _ (deal_step x secret coins) x (replicate lent 0)
wrote_some x (gets sender bytes lent) = answered_wrote _ (message_step x (sender - 1) (message_in x.setup bytes)) _ (replicate lent 0)
wrote_some x (commanded lent) = answered_wrote _ (recover_step x) x (replicate lent 0)

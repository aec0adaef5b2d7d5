-- Kept: from a sound record, whatever the arguments, the record after is sound; so a box that keeps the rules never meets 12.
--
-- In the modules below, over the facts of a sound record (`Facts`, `Sound`): the slot of an echo or ready (`OpenSlot`,
-- `TakenSlot`); one part of the record anew (`Changes`); the checked messages (`Checked`). Here: what a call leaves; for each
-- call what it has passed where it is accepted, and the theorem.
-- Assumes nothing.
use Rattle.std.specs.Prelude.{is_some}
use Rattle.std.specs.Prelude.{◌≡◌, refl, Bool, true, List, ℕ, ◌-◌, ◌<◌, ◌≤◌, length}
use Rattle.std.proofs.Common.{sym, arith}
use Rattle.std.proofs.Math.Path.{subst}
use Rattle.folds.specs.Tests.{and_right, pick-either}
use Rattle.rules.specs.declared.Record.{Record}
use Rattle.rules.specs.declared.Side.TheVariants.{ByEcho, ByReady}
use Rattle.rules.specs.declared.Message.{Message}
use Rattle.rules.specs.Messages.{tag_in, pair_in, message_in}
use Rattle.rules.specs.Record.{sound}
use Rattle.rules.specs.Steps.{Step, heard, send_step, message_step, deal_step, recover_step}
use Rattle.rules.specs.Answers.{first_row, first_of, accepted, refused, answered, deal_rows, deal, recover_rows, recover, exponents_keep, deliver_rows, refusal_heard, deliver, Done}
use Rattle.rules.proofs.Laws.DemandOne.{answered_either, marked_tag}
use Rattle.rules.specs.Laws.Shape.{Shaped}
use Rattle.rules.proofs.Laws.RoundTrip.{by_tag, is_send_lem, is_echo_lem, is_ready_lem, is_recovery_lem}
pub mod OpenSlot
pub mod TakenSlot
pub mod Changes
pub mod Checked
use Rattle.rules.proofs.Laws.Sound.{sound_facts, facts_sound}
use OpenSlot.{matrix_fits}
use Changes.{Good, progress_good, heard_good}
use Checked.{point_good, recovery_good}
use Rattle.rules.specs.Laws.Passed.{Passed}
use Rattle.rules.proofs.Laws.Passed.{rows_passed, deal_passed, recover_passed, marked_hearing}

-- ---- what a call leaves

answered_good : (n : ℕ) (st : Step) (after : Record) (buffer : List ℕ) → (n ≡ 0 → Good st.after) → ((n ≡ 0 → ⊥) → Good after)
    → Good (answered n st after buffer).outcome.next
unfolding accepted refused
answered_good n st after buffer = answered_either n st after buffer (λ (d : Done). Good d.outcome.next)

-- A sound record whose arrays have their lengths is good.
pub good_of : (x : Record) → sound x ≡ true → Shaped x → Good x
good_of x h shape = record { facts = sound_facts x h; shape = shape }

sound_of : (x : Record) → Good x → (sound x ≡ true) × Shaped x
sound_of x g = (facts_sound x g.facts, g.shape)

-- ---- the calls

deal_good : (x : Record) (secret : ℕ) (coins buffer : List ℕ) → Good x → first_of (deal_rows x secret coins (length buffer)) ≡ 0 → Good (deal_step x secret coins).after
unfolding deal_step
deal_good x secret coins buffer g e =
    progress_good x _ g g.facts.progress.completion g.facts.progress.commanded (λ q. q) (λ q. (deal_passed x secret coins (length buffer) e).dealer)

-- The record after a deal is sound.
pub deal_kept : (x : Record) (secret : ℕ) (coins buffer : List ℕ) → sound x ≡ true → Shaped x
    → (sound (deal x secret coins buffer).outcome.next ≡ true) × Shaped (deal x secret coins buffer).outcome.next
unfolding deal
deal_kept x secret coins buffer h shape =
    sound_of _ (answered_good _ (deal_step x secret coins) x buffer (deal_good x secret coins buffer (good_of x h shape)) (λ e. good_of x h shape))

recover_good : (x : Record) (buffer : List ℕ) → Good x → first_of (recover_rows x (length buffer)) ≡ 0 → Good (recover_step x).after
unfolding recover_step
recover_good x buffer g e =
    progress_good x _ g g.facts.progress.completion (λ q. (recover_passed x (length buffer) e).completed) (λ q. refl) g.facts.progress.dealt

-- The record after a recovery command is sound.
pub recover_kept : (x : Record) (buffer : List ℕ) → sound x ≡ true → Shaped x
    → (sound (recover x buffer).outcome.next ≡ true) × Shaped (recover x buffer).outcome.next
unfolding recover
recover_kept x buffer h shape = sound_of _ (answered_good _ (recover_step x) x buffer (recover_good x buffer (good_of x h shape)) (λ e. good_of x h shape))

-- ---- delivery

-- the sender of a refused delivery, where it is marked heard for a tag up to 3
record MarkedHeard (x : Record) (sender : ℕ) (bytes : List ℕ) : Type 0 where
  within : sender - 1 < x.setup.n
  low : tag_in bytes ≤ 3

refused_heard : (x : Record) (sender : ℕ) (bytes : List ℕ) (lent : ℕ) → (first_row (deliver_rows x sender bytes lent)).marks ≡ true → MarkedHeard x sender bytes
refused_heard x sender bytes lent e = record { within = (marked_hearing x sender bytes lent e).within; low = marked_tag x sender bytes lent e }

refusal_good : (m : Bool) (x : Record) (sender : ℕ) (bytes : List ℕ) → Good x → (m ≡ true → MarkedHeard x sender bytes) → Good (refusal_heard m x sender bytes)
unfolding refusal_heard
refusal_good m x sender bytes g h =
    pick-either Good m (heard x (tag_in bytes) (sender - 1)) x
    (λ e. let w = h e in let low = w.low in heard_good x (tag_in bytes) (sender - 1) g (omega arith) w.within)
    (λ e. g)

module _ (x : Record) (sender : ℕ) (bytes : List ℕ) (h : sound x ≡ true) (g : Good x) (c : Passed x sender bytes) where
  TakenGood : Message → Type 0
  TakenGood msg = exponents_keep x.setup msg ≡ true → Good (message_step x (sender - 1) msg).after

  of : (msg : Message) → message_in x.setup bytes ≡ msg → TakenGood msg → Good (message_step x (sender - 1) (message_in x.setup bytes)).after
  unfolding TakenGood
  of msg e f = subst TakenGood (sym e) f c.exponents

  message_good : Good (message_step x (sender - 1) (message_in x.setup bytes)).after
  unfolding send_step TakenGood
  message_good =
      let u = x.setup in
      by_tag u bytes c.hearing.form
      (λ e. of _ (is_send_lem u bytes e) (λ below. heard_good x 1 (sender - 1) g (omega arith) c.hearing.within))
      (λ e. of _ (is_echo_lem u bytes e) (λ below.
      point_good x (sender - 1) h g c.hearing.within ByEcho _ _ (matrix_fits x.setup bytes (c.passes (omega arith))) below (rw e at c.hearing.unheard)))
      (λ e. of _ (is_ready_lem u bytes e) (λ below.
      point_good x (sender - 1) h g c.hearing.within ByReady _ _ (matrix_fits x.setup bytes (c.passes (omega arith))) below (rw e at c.hearing.unheard)))
      (λ e. of _ (is_recovery_lem u bytes e) (λ below.
      recovery_good x (sender - 1) h g c.hearing.within (pair_in bytes) below (rw e at c.hearing.unheard)
      (and_right (is_some x.progress.completion) _ (c.hearing.commanded e))
      (c.hearing.unrecovered e)))

-- The record after a delivery is sound.
pub deliver_kept : (x : Record) (sender : ℕ) (bytes buffer : List ℕ) → sound x ≡ true → Shaped x
    → (sound (deliver x sender bytes buffer).outcome.next ≡ true) × Shaped (deliver x sender bytes buffer).outcome.next
unfolding deliver
deliver_kept x sender bytes buffer h shape =
    let g = good_of x h shape in
    sound_of _ (answered_good (first_of (deliver_rows x sender bytes (length buffer))) (message_step x (sender - 1) (message_in x.setup bytes)) _ buffer
    (λ e. message_good x sender bytes h g (rows_passed x sender bytes (length buffer) e))
    (λ e. refusal_good (first_row (deliver_rows x sender bytes (length buffer))).marks x sender bytes g (refused_heard x sender bytes (length buffer))))

-- A deal and a recovery command: when they are taken, and what they write.
--
-- In order: the sends of a deal; a deal and a command that are taken; in a life, the first deal and the first command.
-- Assumes nothing.
use Rattle.std.specs.Prelude.{◌≡◌, true, false, List, ℕ, ◌≤◌, ltb, length, replicate}
use Rattle.std.proofs.Math.Path.{refl, sym, ap}
use Rattle.std.proofs.Common.{◌∙◌, arith, le-ltb, eq-eqb}
use Rattle.std.proofs.Math.Bool.{not}
use Rattle.std.proofs.lemmas.List.{length-replicate}
use Rattle.folds.specs.Tests.{and_intro, or_none_lem}
use Rattle.rules.specs.declared.Answer.{Answer}
use Rattle.std.specs.Prelude.{Option, Some, is_some}
use Rattle.rules.specs.declared.Pair.{Pair}
use Rattle.rules.specs.declared.Record.{Record}
use Rattle.rules.specs.declared.Sent.{Sent}
use Rattle.rules.specs.declared.Sent.TheVariants.{Send, Recovery}
use Rattle.rules.specs.declared.SetUp.{SetUp}
use Rattle.rules.specs.declared.Message.TheVariants.{Recovery as recovery}
use Rattle.rules.specs.Messages.{to_each}
use Rattle.rules.specs.Dealing.{coins_keep}
use Rattle.rules.specs.Record.{slot_at, sound}
use Rattle.rules.specs.Steps.{Step, deal_step, recover_step, completed_share, share_bytes}
use Rattle.rules.specs.Answers.{done, accepted, answered, first_of, call_rows, own_deal_rows, deal_rows, deal, own_recover_rows, recover_rows, recover, set_up}
use Rattle.rules.proofs.Laws.Table.{none}
use Rattle.rules.proofs.Laws.Sound.{facts_sound}
use Rattle.rules.proofs.Laws.DemandOne.{deal_number, recover_number, outcome_number, answered_accepted}
use Rattle.rules.proofs.Laws.Lengths.{take-written}
use Rattle.demands.specs.Terms.Histories.{Call, deals, commanded, doing, after, answers}
use Rattle.demands.specs.Terms.Dealing.{sends_of}
use Rattle.demands.specs.Terms.Lives.{is_send, is_recovery, how_many, Writes}
use Rattle.demands.specs.Lives.Born.{good, own_setup}
use Rattle.demands.specs.Lives.Marks.{dealt_counts, commanded_counts}

-- ---- the sends of a deal

pub deal_sends : (x : Record) (secret : ℕ) (coins : List ℕ)
    → ((deal_step x secret coins).sent ≡ Send) × ((deal_step x secret coins).bytes ≡ sends_of x.setup secret coins)
unfolding deal_step
deal_sends x secret coins = (refl, refl)

-- ---- taken

module _ (x : Record) (is_sound : sound x ≡ true) (lent : ℕ) (long : 2048 ≤ lent) where
  abbrev size : ℕ
  size = length {A = ℕ} (replicate lent 0)

  room : not (ltb size 2048) ≡ true
  room = let n = length-replicate {A = ℕ} lent 0 in ap not (le-ltb size 2048 (omega arith))

  -- the dealer's, if it has not dealt and the coins keep their rule
  pub deal_taken : (secret : ℕ) (coins : List ℕ) → x.setup.i ≡ x.setup.d → x.progress.dealt ≡ false
      → coins_keep x.setup secret coins ≡ true → first_of (deal_rows x secret coins size) ≡ 0
  unfolding deal answered deal_rows call_rows own_deal_rows none
  deal_taken secret coins dealer first keep =
      sym (outcome_number _ _ _)
      ∙ (deal_number x secret coins (replicate lent 0)).zero.1
      (and_intro _ _ room
      (and_intro _ _ (ap (λ b. not (not b)) is_sound)
      (and_intro _ _ (ap not (or_none_lem _ _ (ap not (eq-eqb x.setup.i x.setup.d dealer)) first))
      (and_intro _ _ (ap (λ b. not (not b)) keep) refl))))

  -- a completed box's, if it has not been commanded
  pub command_taken : is_some x.progress.completion ≡ true → x.progress.commanded ≡ false → first_of (recover_rows x size) ≡ 0
  unfolding recover answered recover_rows call_rows own_recover_rows none
  command_taken complete first =
      sym (outcome_number _ _ _)
      ∙ (recover_number x (replicate lent 0)).zero.1
      (and_intro _ _ room
      (and_intro _ _ (ap (λ b. not (not b)) is_sound)
      (and_intro _ _ (ap not (or_none_lem _ _ (ap not complete) first)) refl)))

-- ---- in a life

writes : (n : ℕ) (st : Step) (after : Record) (buffer : List ℕ) (what : Sent) (bytes : List ℕ) → n ≡ 0 → st.sent ≡ what → st.bytes ≡ bytes
    → Writes (answered n st after buffer) what bytes
unfolding accepted
writes n st after buffer what bytes e same_sent same_bytes =
    rw (answered_accepted n st after buffer e)
    (record { no = refl; sent = same_sent; wrote = take-written st.bytes buffer ∙ same_bytes })

module _ (u : SetUp) (set_up_lem : (set_up u).answer.no ≡ 0) (cs : List Call) (lent : ℕ) (long : 2048 ≤ lent) where
  abbrev x : Record
  x = after u cs

  all_sound : sound x ≡ true
  all_sound = facts_sound x (good u set_up_lem cs).facts

  own : x.setup ≡ u
  own = own_setup u set_up_lem cs

  pub first_deal : u.i ≡ u.d → how_many (λ (a : Answer). is_send a.sent) (answers u cs) ≡ 0
      → (secret : ℕ) (coins : List ℕ) → coins_keep u secret coins ≡ true
      → Writes (doing x (deals secret coins lent)) Send (sends_of u secret coins)
  unfolding doing deal
  first_deal dealer undealt secret coins keep =
      let n = deal_taken x all_sound lent long secret coins (rw own dealer) (dealt_counts u set_up_lem cs ∙ ap (ltb 0) undealt) (rw own keep) in
      let sends = deal_sends x secret coins in
      writes _ (deal_step x secret coins) x (replicate lent 0) Send _ n sends.0 (sends.1 ∙ ap (λ (v : SetUp). sends_of v secret coins) own)

  pub first_command : (s : ℕ) (p : Pair) → x.progress.completion ≡ Some s → (slot_at x s).pair ≡ Some p
      → how_many (λ (a : Answer). is_recovery a.sent) (answers u cs) ≡ 0
      → Writes (doing x (commanded lent)) Recovery (to_each u (λ j. recovery p))
  unfolding doing recover recover_step
  first_command s p done kept uncommanded =
      let n = command_taken x all_sound lent long (ap is_some done) (commanded_counts u set_up_lem cs ∙ ap (ltb 0) uncommanded) in
      writes _ (recover_step x) x (replicate lent 0) Recovery _ n refl
      (ap (λ (c : Option ℕ). share_bytes x.setup (completed_share x c)) done
      ∙ ap (share_bytes x.setup) kept
      ∙ ap (λ (v : SetUp). to_each v (λ j. recovery p)) own)

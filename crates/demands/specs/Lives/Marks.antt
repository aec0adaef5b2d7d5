-- The marks of a deal and of a command, over a life: each is set by what is sent, once, and neither goes back.
--
-- In order: an accepted deal sends; how often a mark was set; neither goes back; two deals that were accepted are one.
-- Assumes nothing.
use Rattle.std.specs.Prelude.{◌≡◌, refl, Bool, true, false, ℕ, ◌+◌, ◌≤◌, ltb, length, replicate}
use Rattle.std.proofs.Math.Path.{sym, ap}
use Rattle.std.proofs.Common.{◌∙◌, subst, lt-ltb, ⊎_elim}
use mathlib.Core.List.{List, [], ◌∷◌, ◌++◌}
use native.Mathlib.Omega.{arith}
use Rattle.folds.specs.Tests.{pick, true≢false, or_left, or_right, or_false}
use Rattle.rules.specs.declared.Answer.{Answer}
use Rattle.rules.specs.declared.Progress.{Progress}
use Rattle.rules.specs.declared.Record.{Record}
use Rattle.rules.specs.declared.Sent.{Sent}
use Rattle.rules.specs.declared.SetUp.{SetUp}
use Rattle.rules.specs.Record.{new_record}
use Rattle.rules.specs.Answers.{set_up, first_of, Done, accepted, answered, deal_rows, deal}
use Rattle.demands.specs.Terms.Honest.{Past}
use Rattle.demands.specs.Terms.Histories.{Call, doing, after, answers, deals}
use Rattle.demands.specs.Terms.Lives.{is_send, is_recovery, how_many}
use Rattle.demands.specs.Lives.Stepped.{Once, OwnMarks}
use Rattle.demands.specs.Lives.Turns.{next, Turn}
use Rattle.demands.specs.Lives.Born.{born, turn_at}
use Rattle.rules.specs.Steps.{deal_step}
use Rattle.rules.proofs.Laws.DemandOne.{outcome_number, answered_accepted}
use Rattle.demands.specs.Histories.{past_none, past_cases}
use Rattle.demands.specs.Lives.Once.{told_up, one_at_most}

-- ---- an accepted deal

module _ (x : Record) (secret : ℕ) (coins : List ℕ) (lent : ℕ) (taken : (doing x (deals secret coins lent)).outcome.answer.no ≡ 0) where
  -- passed all rows
  pub deal-zero : first_of (deal_rows x secret coins (length {A = ℕ} (replicate lent 0))) ≡ 0
  unfolding doing deal answered
  deal-zero = sym (outcome_number _ _ _) ∙ taken

  -- and sends
  deal_sent : is_send (doing x (deals secret coins lent)).outcome.answer.sent ≡ true
  unfolding doing deal deal_step accepted
  deal_sent = ap (λ (d : Done). is_send d.outcome.answer.sent) (answered_accepted _ (deal_step x secret coins) x (replicate lent 0) deal-zero)

-- ---- in a life

-- a mark that goes up with what is told is there once one was told
counted : (n : ℕ) (now was is : Bool) → Once now was is → was ≡ ltb 0 n → is ≡ ltb 0 (pick now 1 0 + n)
counted n true was is m e = m.now ∙ sym (lt-ltb 0 (1 + n) (omega arith))
counted n false was is m e = let same : n ≡ 0 + n = omega arith in m.now ∙ e ∙ ap (ltb 0) same

once_up : (now was is : Bool) → Once now was is → (now ≡ true → (was ≡ false) × (is ≡ true)) × (was ≡ true → is ≡ true)
once_up now was is m = (λ e. (m.first e, m.now ∙ or_left now was e), λ e. m.now ∙ or_right now was e)

module _ (u : SetUp) (set_up_lem : (set_up u).answer.no ≡ 0) where
  -- ---- how often it was set

  module _ (sends : Sent → Bool) (mark : Progress → Bool) (new : mark (new_record u).progress ≡ false)
      (once : (x : Record) (c : Call) → Turn x c → Once (sends (doing x c).outcome.answer.sent) (mark x.progress) (mark (next x c).progress)) where
    abbrev sent : List Call → ℕ
    sent cs = how_many (λ (a : Answer). sends a.sent) (answers u cs)

    begins : mark (after u []).progress ≡ false
    begins = ap (λ (x : Record). mark x.progress) (born u set_up_lem) ∙ new

    mark_counts : (cs : List Call) → mark (after u cs).progress ≡ ltb 0 (sent cs)
    unfolding after answers how_many
    mark_counts [] = begins
    mark_counts (c ∷ cs) = counted (sent cs) _ _ _ (once (after u cs) c (turn_at u set_up_lem cs c)) (mark_counts cs)

    marks_once : (cs : List Call) → sent cs ≤ pick (mark (after u cs).progress) 1 0
    unfolding after answers how_many
    marks_once [] = omega arith
    marks_once (c ∷ cs) =
        let up = once_up _ _ _ (once (after u cs) c (turn_at u set_up_lem cs c)) in told_up _ _ _ _ up.0 up.1 (marks_once cs)

  new_progress : ((new_record u).progress.dealt ≡ false) × ((new_record u).progress.commanded ≡ false)
  unfolding new_record
  new_progress = (refl, refl)

  -- the dealer is marked once it has dealt, and deals once
  pub dealt_counts : (cs : List Call) → (after u cs).progress.dealt ≡ ltb 0 (how_many (λ (a : Answer). is_send a.sent) (answers u cs))
  dealt_counts = mark_counts is_send (λ (v : Progress). v.dealt) new_progress.0 (λ x c t. t.turned.marks.dealt)

  pub deal_once : (cs : List Call) → how_many (λ (a : Answer). is_send a.sent) (answers u cs) ≤ 1
  deal_once cs = one_at_most _ (after u cs).progress.dealt (marks_once is_send (λ (v : Progress). v.dealt) new_progress.0 (λ x c t. t.turned.marks.dealt) cs)

  -- a box is marked once it was commanded, and takes one command
  pub commanded_counts : (cs : List Call)
      → (after u cs).progress.commanded ≡ ltb 0 (how_many (λ (a : Answer). is_recovery a.sent) (answers u cs))
  commanded_counts = mark_counts is_recovery (λ (v : Progress). v.commanded) new_progress.1 (λ x c t. t.turned.marks.commanded)

  pub command_once : (cs : List Call) → how_many (λ (a : Answer). is_recovery a.sent) (answers u cs) ≤ 1
  command_once cs =
      one_at_most _ (after u cs).progress.commanded (marks_once is_recovery (λ (v : Progress). v.commanded) new_progress.1 (λ x c t. t.turned.marks.commanded) cs)

  -- ---- neither goes back

  -- without a mark after a call there was none before it
  pub unmarked_before : (c : Call) (cs : List Call) → (after u (c ∷ cs)).progress.commanded ≡ false → (after u cs).progress.commanded ≡ false
  unfolding after
  unmarked_before c cs e = (or_false (is_recovery (doing (after u cs) c).outcome.answer.sent) _ (sym (turn_at u set_up_lem cs c).turned.marks.commanded.now ∙ e)).1

  -- ---- two deals that were accepted are one

  module _ (secret : ℕ) (coins : List ℕ) (lent : ℕ) (before : List Call)
      (taken : (doing (after u before) (deals secret coins lent)).outcome.answer.no ≡ 0) where
    abbrev marks : OwnMarks (after u before).progress (next (after u before) (deals secret coins lent)).progress
        (doing (after u before) (deals secret coins lent)).outcome.answer.sent
    marks = (turn_at u set_up_lem before (deals secret coins lent)).turned.marks

    sends_it : is_send (doing (after u before) (deals secret coins lent)).outcome.answer.sent ≡ true
    sends_it = deal_sent (after u before) secret coins lent taken

    undealt_then : (after u before).progress.dealt ≡ false
    undealt_then = marks.dealt.first sends_it

    -- ever after the box has dealt
    dealt_since : (since : List Call) → (after u (since ++ deals secret coins lent ∷ before)).progress.dealt ≡ true
    unfolding after
    dealt_since [] = marks.dealt.now ∙ or_left _ _ sends_it
    dealt_since (c ∷ since) =
        let past = since ++ deals secret coins lent ∷ before in
        (turn_at u set_up_lem past c).turned.marks.dealt.now ∙ or_right (is_send (doing (after u past) c).outcome.answer.sent) _ (dealt_since since)

    dealt_now : (now : List Call) → Past (deals secret coins lent ∷ before) now → (after u now).progress.dealt ≡ true
    dealt_now now (since, e) = subst (λ (cs : List Call). (after u cs).progress.dealt ≡ true) (sym e) (dealt_since since)

  pub one_deal : (secret : ℕ) (coins : List ℕ) (lent : ℕ) (before : List Call) (secret' : ℕ) (coins' : List ℕ) (lent' : ℕ) (before' cs : List Call)
      → (doing (after u before) (deals secret coins lent)).outcome.answer.no ≡ 0
      → (doing (after u before') (deals secret' coins' lent')).outcome.answer.no ≡ 0
      → Past (deals secret coins lent ∷ before) cs → Past (deals secret' coins' lent' ∷ before') cs → (secret' ≡ secret) × (coins' ≡ coins)
  one_deal s c l b s' c' l' b' [] a a' p p' = absurd (past_none _ _ p)
  one_deal s c l b s' c' l' b' (call ∷ cs) a a' p p' =
      ⊎_elim
      (λ w.
      ⊎_elim
      (λ w'. (cc, cc))
      (λ q'. absurd (true≢false (sym (dealt_now s' c' l' b' a' cs q') ∙ ap dealt (sym w.1) ∙ undealt_then s c l b a)))
      (past_cases _ call b' cs p'))
      (λ q.
      ⊎_elim
      (λ w'. absurd (true≢false (sym (dealt_now s c l b a cs q) ∙ ap dealt (sym w'.1) ∙ undealt_then s' c' l' b' a')))
      (λ q'. one_deal s c l b s' c' l' b' cs a a' q q')
      (past_cases _ call b' cs p'))
      (past_cases _ call b cs p)
    where
      dealt : List Call → Bool
      dealt cs = (after u cs).progress.dealt

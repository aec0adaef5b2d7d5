-- Who is heard in the life of Life: by an accepted message, and by refused ones.
--
-- In order: a refusal that marks, and one that does not; the messages.
-- Assumes nothing.
use Rattle.std.specs.Prelude.{◌≡◌, refl, true, false, List, ◌∷◌, ◌≢◌, ℕ, ◌-◌, ◌≤◌, eqb, get_or}
use Rattle.std.proofs.Common.{sym, ap, subst, ◌∙◌, ⊎_elim, arith}
use Rattle.std.proofs.lemmas.Bool.{eqb-false}
use Rattle.folds.specs.Tests.{true≢false}
use Rattle.rules.specs.Messages.{tag_in}
use Rattle.rules.specs.Record.{heard_for}
use Rattle.rules.specs.Computed.{computed}
use Rattle.rules.specs.HandSums.{class}
use Rattle.rules.proofs.Laws.Table.{lacks}
use Rattle.rules.proofs.Laws.DemandOne.{Heard}
use Rattle.rules.proofs.Laws.Heard.{NowHeard, OneMark}
use Rattle.demands.specs.Terms.Histories.{Call, gets, doing, after, answers}
use Rattle.demands.specs.Demands.{accepted_is_heard, refusal_marks_one_at_most}
use Rattle.instances.specs.Calls.{first, echoed, twice, said_2, wrong, hearing, told, wrong_share}
use Rattle.instances.specs.Life.{one_life}

-- ---- refusals

-- a message of a sender, after these calls, that gets this number, which is a refusal
module _ (cs : List Call) (sender : ℕ) (bytes : List ℕ) (n : ℕ) (refusal : eqb n 0 ≡ false)
    (gets-n : (doing (after class cs) (gets sender bytes 2048)).outcome.answer.no ≡ n) where
  abbrev it : Call
  it = gets sender bytes 2048

  refused : (doing (after class cs) it).outcome.answer.no ≢ 0
  refused e = eqb-false n 0 refusal (sym gets-n ∙ e)

  marks : Heard n (tag_in bytes) → OneMark (after class cs) (after class (it ∷ cs)) (tag_in bytes) (sender - 1)
  marks h =
      ⊎_elim (λ w. absurd (w.0 (subst (λ n. Heard n (tag_in bytes)) (sym gets-n) h))) (λ w. w.1)
      (refusal_marks_one_at_most class one_life.taken cs sender 2048 bytes refused)

  leaves : (Heard n (tag_in bytes) → ⊥) → after class (it ∷ cs) ≡ after class cs
  leaves h =
      ⊎_elim (λ w. w.1) (λ w. absurd (h (subst (λ n. Heard n (tag_in bytes)) gets-n w.0)))
      (refusal_marks_one_at_most class one_life.taken cs sender 2048 bytes refused)

-- ---- the messages

tags : (tag_in said_2 ≡ 2) × (tag_in wrong ≡ 2) × (tag_in wrong_share ≡ 4)
unfolding computed
tags = (refl, refl, refl)

pub record HeardNow : Type 0 where
  -- the echo of box 2 is accepted: it was not heard for echo, and is; box 3 is as before
  pub echo : NowHeard (after class twice) (after class hearing) 2 1
  pub was : heard_for (after class twice) 2 1 ≡ false
  pub now : heard_for (after class hearing) 2 1 ≡ true
  pub other : heard_for (after class hearing) 2 2 ≡ heard_for (after class twice) 2 2
  -- the wrong echo of box 3 gets 10: it is heard too, and nothing else has changed
  pub gets_10 : (doing (after class hearing) (gets 3 wrong 2048)).outcome.answer.no ≡ 10
  pub wrong_echo : OneMark (after class hearing) (after class (gets 3 wrong 2048 ∷ hearing)) 2 2
  pub unmarked : heard_for (after class hearing) 2 2 ≡ false
  pub marked : heard_for (after class (gets 3 wrong 2048 ∷ hearing)) 2 2 ≡ true
  -- the send that comes again gets 7, and a share that fails 10: both leave the record as it came
  pub gets_7 : (doing (after class echoed) (gets 1 first 2048)).outcome.answer.no ≡ 7
  pub second_send : after class (gets 1 first 2048 ∷ echoed) ≡ after class echoed
  pub fails : (doing (after class told) (gets 2 wrong_share 2048)).outcome.answer.no ≡ 10
  pub failed_share : after class (gets 2 wrong_share 2048 ∷ told) ≡ after class told

pub heard_now : HeardNow
unfolding answers lacks
heard_now =
    let l = one_life in
    let accepted : (doing (after class twice) (gets 2 said_2 2048)).outcome.answer.no ≡ 0 = ap (λ ns. get_or ns 13 1) l.numbers in
    let ten : (doing (after class hearing) (gets 3 wrong 2048)).outcome.answer.no ≡ 10 = ap (λ ns. get_or ns 12 0) l.numbers in
    let seven : (doing (after class echoed) (gets 1 first 2048)).outcome.answer.no ≡ 7 = ap (λ ns. get_or ns 15 0) l.numbers in
    let fails : (doing (after class told) (gets 2 wrong_share 2048)).outcome.answer.no ≡ 10 = ap (λ ns. get_or ns 3 0) l.numbers in
    let echo =
    subst (λ tag. NowHeard (after class twice) (after class hearing) tag 1) tags.0
    (accepted_is_heard class l.taken twice 2 2048 said_2 accepted) in
    let wrong_echo =
    subst (λ tag. OneMark (after class hearing) (after class (gets 3 wrong 2048 ∷ hearing)) tag 2) tags.1
    (marks hearing 3 wrong 10 refl ten (refl, subst (λ tag. tag ≤ 3) (sym tags.1) (omega arith))) in
    record {
      echo = echo;
      was = l.heard_2;
      now = echo.there;
      other = echo.elsewhere 2 2 (omega arith) (λ _ m. omega arith);
      gets_10 = ten;
      wrong_echo = wrong_echo;
      unmarked = l.heard_3;
      marked = wrong_echo.ears.there;
      gets_7 = seven;
      second_send = leaves echoed 1 first 7 refl seven (λ h. true≢false (sym h.0));
      fails = fails;
      failed_share =
          leaves told 2 wrong_share 10 refl fails (λ h. let low : 4 ≤ 3 = subst (λ tag. tag ≤ 3) tags.2 h.1 in omega arith);
    }

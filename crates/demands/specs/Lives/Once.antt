-- Echo is sent at most once, and a box completes at most once.
--
-- In order: a test that turns once; echo; completion.
-- Assumes nothing.
use Rattle.std.specs.Prelude.{◌≡◌, refl, Bool, true, false, not, ℕ, ◌+◌, ◌-◌, ◌≤◌}
use Rattle.std.proofs.Common.{sym, ap, ◌∙◌}
use Rattle.std.proofs.Math.Path.{subst}
use mathlib.Core.List.{List, [], ◌∷◌}
use native.Mathlib.Omega.{arith}
use Rattle.folds.specs.Tests.{◌and◌, pick, true≢false}
use Rattle.rules.specs.declared.Answer.{Answer}
use Rattle.std.specs.Prelude.{Option, Some, None, is_some}
use Rattle.rules.specs.declared.SetUp.{SetUp}
use Rattle.rules.specs.Answers.{set_up}
use Rattle.rules.proofs.Laws.Facts.{hears}
use Rattle.demands.specs.Terms.Histories.{Call, doing, after, answers}
use Rattle.demands.specs.Terms.Lives.{is_echo, how_many}
use Rattle.demands.specs.Lives.Stepped.{Stays}
use Rattle.demands.specs.Lives.Turns.{next}
use Rattle.demands.specs.Lives.Born.{own_setup, turn_at}

-- ---- a test that turns once

-- one is told when a test turns from false to true: as often as it has turned
pub told_up : (n : ℕ) (now was is : Bool) → (now ≡ true → (was ≡ false) × (is ≡ true)) → (was ≡ true → is ≡ true) → n ≤ pick was 1 0
    → pick now 1 0 + n ≤ pick is 1 0
told_up n true was is h g l = let w = h refl in rw w.1 (let z : n ≤ 0 = rw w.0 at l in omega arith)
told_up n false true is h g l = rw (g refl) (omega arith)
told_up n false false is h g l = omega arith

pub one_at_most : (n : ℕ) (b : Bool) → n ≤ pick b 1 0 → n ≤ 1
one_at_most n true l = l
one_at_most n false l = omega arith

turns : (was is now : Bool) → now ≡ (not was and is) → now ≡ true → (was ≡ false) × (is ≡ true)
turns true is now e h = absurd (true≢false (sym h ∙ e))
turns false is now e h = (refl, sym e ∙ h)

pub done_stays : (c c' : Option ℕ) → Stays c c' → is_some c ≡ true → is_some c' ≡ true
done_stays None c' h e = absurd (true≢false (sym e))
done_stays (Some s) c' h e = ap is_some (h s refl)

module _ (u : SetUp) (set_up_lem : (set_up u).answer.no ≡ 0) where
  -- ---- echo

  -- an echo is sent when the dealer is newly heard for a send
  echoes_heard : (cs : List Call) → how_many (λ (a : Answer). is_echo a.sent) (answers u cs) ≤ pick (hears (after u cs) 0 (u.d - 1)) 1 0
  unfolding after answers how_many
  echoes_heard [] = omega arith
  echoes_heard (c ∷ cs) =
      let t = (turn_at u set_up_lem cs c).turned in
      told_up _ (is_echo (doing (after u cs) c).outcome.answer.sent)
      (hears (after u cs) 0 (u.d - 1)) (hears (next (after u cs) c) 0 (u.d - 1))
      (λ e. subst (λ (v : SetUp). (hears (after u cs) 0 (v.d - 1) ≡ false) × (hears (next (after u cs) c) 0 (v.d - 1) ≡ true))
      (own_setup u set_up_lem cs) (t.echoes e))
      (t.ears 0 (u.d - 1))
      (echoes_heard cs)

  pub echo_once : (cs : List Call) → how_many (λ (a : Answer). is_echo a.sent) (answers u cs) ≤ 1
  echo_once cs = one_at_most _ (hears (after u cs) 0 (u.d - 1)) (echoes_heard cs)

  -- ---- completion

  completions_done : (cs : List Call) → how_many (λ (a : Answer). a.completed) (answers u cs)
      ≤ pick (is_some (after u cs).progress.completion) 1 0
  unfolding after answers how_many
  completions_done [] = omega arith
  completions_done (c ∷ cs) =
      let t = (turn_at u set_up_lem cs c).turned in
      told_up _ (doing (after u cs) c).outcome.answer.completed
      (is_some (after u cs).progress.completion) (is_some (next (after u cs) c).progress.completion)
      (turns _ _ _ t.done)
      (done_stays _ _ t.still)
      (completions_done cs)

  pub complete_once : (cs : List Call) → how_many (λ (a : Answer). a.completed) (answers u cs) ≤ 1
  complete_once cs = one_at_most _ (is_some (after u cs).progress.completion) (completions_done cs)

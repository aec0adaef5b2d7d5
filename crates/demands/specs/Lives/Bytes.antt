-- Every byte that a box sends, by the call that sent it.
--
-- In order: what a call sends, by its kind; that it does.
-- Assumes nothing.
use Rattle.std.specs.Prelude.{◌≡◌, refl, true, List, ◌∷◌, ℕ, take}
use Rattle.std.proofs.Common.{sym, ◌∙◌, subst}
use Rattle.std.proofs.Math.Path.{ap}
use Rattle.folds.specs.Tests.{true≢false}
use Rattle.std.specs.Prelude.{Option, Some, None, is_some}
use Rattle.rules.specs.declared.Element.{Element}
use Rattle.rules.specs.declared.Record.{Record}
use Rattle.rules.specs.declared.Sent.{Sent}
use Rattle.rules.specs.declared.Sent.TheVariants.{Nothing, Send, Echo, Ready, Recovery}
use Rattle.rules.specs.declared.SetUp.{SetUp}
use Rattle.rules.specs.declared.Message.TheVariants.{Ready as ready}
use Rattle.rules.specs.Messages.{matrix_in, to_each}
use Rattle.rules.specs.Record.{slot_at, matrix_of}
use Rattle.rules.specs.Steps.{points, ready_four, completed_share, share_bytes}
use Rattle.rules.specs.Answers.{Done, set_up}
use Rattle.demands.specs.Terms.Histories.{Call, doing, after, wrote}
use Rattle.demands.specs.Terms.Dealing.{order}
use Rattle.demands.specs.Terms.Lives.{lowest_for, Sends}
use Rattle.demands.specs.Lives.Slots.{Has, own_is, there_some}
use Rattle.demands.specs.Lives.Born.{good, own_setup}
use Rattle.demands.specs.Lives.Completed.{done_kept}
use Rattle.demands.specs.Lives.Origins.{ready_of, Spoken, spoken}
use Rattle.demands.specs.Own.{each_same, ready_bytes}

-- ---- it does

module _ (u : SetUp) (set_up_lem : (set_up u).answer.no ≡ 0) (cs : List Call) (c : Call) where
  abbrev x : Record
  x = after u cs

  abbrev d : Done
  d = doing x c

  abbrev y : Record
  y = after u (c ∷ cs)

  -- a ready is that of the slot of its matrix
  module _ (C : List (List Element)) (s : ℕ) (has : Has y C s) where
    own_ready : to_each u (ready_of u (slot_at y s)) ≡ to_each u (λ j. ready C (ready_four (order u) (lowest_for u y C) j))
    own_ready =
        let own = own_setup u set_up_lem (c ∷ cs) in
        each_same u _ _ (λ j. ready_bytes u (matrix_of (slot_at y s)) C _ (rw own at has.agrees))
        ∙ ap (λ (r : ℕ). to_each u (λ j. ready C (ready_four (order u) (take u.k (points (slot_at y r).places)) j)))
        (sym (own_is y (good u set_up_lem (c ∷ cs)) C s has))

  done_with : (v : Option ℕ) → is_some v ≡ true → (s : ℕ) × (v ≡ Some s)
  done_with None e = absurd (true≢false (sym e))
  done_with (Some s) e = (s, refl)

  by_kind : (what : Sent) → Spoken u x c what (wrote d) → Sends u cs c what (wrote d)
  unfolding after
  by_kind Nothing t = t
  by_kind Send t = (t.0, t.1, t.5, t.6, t.4)
  by_kind Echo t = (t.4, t.5, t.0, t.6, t.7, t.3)
  by_kind Ready t = (t.4, t.5, t.6, t.7, t.3 ∙ own_ready (matrix_in u t.6) t.0 t.8)
  by_kind Recovery t =
      let done = done_with x.progress.completion t.1 in
      let kept = there_some _ (done_kept u set_up_lem done.0 cs done.1).1 in (
        done.0,
        t.2,
        kept.0,
        t.3,
        done.1,
        kept.1,
        t.0 ∙ ap (λ (v : Option ℕ). share_bytes u (completed_share x v)) done.1 ∙ ap (share_bytes u) kept.1,
      )

  pub every_byte : Sends u cs c d.outcome.answer.sent (wrote d)
  every_byte =
      by_kind d.outcome.answer.sent
      (subst (λ (v : SetUp). Spoken v x c d.outcome.answer.sent (wrote d)) (own_setup u set_up_lem cs) (spoken x (good u set_up_lem cs) c))

-- What a box sends whose accepted deals and deliveries are the dealt ones: dealt messages alone.
--
-- In order: what one call sends, by what stands behind it; all that the box has sent.
-- Assumes nothing.
use Rattle.std.specs.Prelude.{◌≡◌, true, ℕ, eqb}
use Rattle.std.proofs.Math.Path.{refl, ap, ap₂}
use Rattle.std.proofs.Common.{sym, ◌∙◌, subst, arith, eq-eqb}
use mathlib.Core.List.{List, [], ◌∷◌}
use Rattle.folds.specs.Tests.{pick-either, true≢false}
use Rattle.folds.specs.Runs.{Every, every_nil, every_cons, every_append}
use Rattle.std.specs.Prelude.{Option, Some, None, is_some}
use Rattle.rules.specs.declared.Element.{Element}
use Rattle.rules.specs.declared.Pair.{Pair}
use Rattle.rules.specs.declared.Polynomials.{Polynomials}
use Rattle.rules.specs.declared.Record.{Record}
use Rattle.rules.specs.declared.Sent.{Sent}
use Rattle.rules.specs.declared.Sent.TheVariants.{Nothing, Send, Echo, Ready, Recovery}
use Rattle.rules.specs.declared.SetUp.{SetUp}
use Rattle.rules.specs.declared.Side.TheVariants.{ByEcho, ByReady}
use Rattle.rules.specs.Numbers.{is_box}
use Rattle.rules.specs.declared.Message.TheVariants.{Send as send, Echo as echo, Ready as ready, Recovery as recovery}
use Rattle.rules.specs.Messages.{matrix_in, polynomials_in, to_each}
use Rattle.rules.specs.Dealing.{from_coins, f_of, f'_of}
use Rattle.rules.specs.Record.{slot_at}
use Rattle.rules.specs.Steps.{echo_four, completed_share, share_bytes}
use Rattle.rules.proofs.Laws.RoundTrip.{is_send_lem}
use Rattle.demands.specs.Terms.Honest.{Deal}
use Rattle.demands.specs.Terms.Histories.{Call, deals, gets, doing, after, wrote, sendings, own}
use Rattle.demands.specs.Histories.{past_self}
use Rattle.demands.specs.Terms.Dealing.{order, dealt_matrix, dealt_to}
use Rattle.demands.specs.Own.{own_each}
use Rattle.demands.specs.Lives.{completed_kept}
use Rattle.demands.specs.Lives.Born.{good, own_setup}
use Rattle.demands.specs.Lives.Origins.{Spoken, spoken, wrote_some}
use Rattle.demands.specs.Honest.Messages.{SentDealt, a_send, a_point, a_share}
use Rattle.demands.specs.Honest.Holdings.{CallDealt, LifeDealt, life_before, is_taken, matrix_dealt, used_then, ready_dealt, pair_dealt}

module _ (u : SetUp) (secret : ℕ) (coins : List ℕ) (h : Deal u secret coins) (i : ℕ) (box-i : is_box u i ≡ true) where
  abbrev me : SetUp
  me = own u i

  -- ---- what one call sends

  module _ (c : Call) (cs : List Call) (dealt : LifeDealt u secret coins i (c ∷ cs)) (accepted : (doing (after (own u i) cs) c).outcome.answer.no ≡ 0)
      (run : List ℕ) (some : run ≡ [] → ⊥) where
    abbrev x : Record
    x = after me cs

    -- the call, by another name: it was accepted, so it was dealt
    now : (it : Call) → c ≡ it → CallDealt u secret coins i x it × ((doing x it).outcome.answer.no ≡ 0)
    now it e = (
      subst (CallDealt u secret coins i x) e (dealt c cs (past_self (c ∷ cs))),
      subst (λ (v : Call). (doing x v).outcome.answer.no ≡ 0) e accepted,
    )

    -- a recovery share is the completed slot's pair
    share_sent : (d : Option ℕ) → x.progress.completion ≡ d → run ≡ share_bytes me (completed_share x d) → SentDealt u secret coins i run
    share_sent None q e = absurd (some e)
    share_sent (Some s) q e = pair_sent (slot_at x s).pair refl e
      where
        pair_sent : (v : Option Pair) → (slot_at x s).pair ≡ v → run ≡ share_bytes me v → SentDealt u secret coins i run
        pair_sent None w e = absurd (some e)
        pair_sent (Some p) w e =
            let is = pair_dealt u secret coins h i box-i cs (life_before u secret coins i c cs dealt) s
            (completed_kept me (is_taken u secret coins h i box-i) cs s q).0 (ap is_some w) p w in
            (a_share, e ∙ ap (λ (v : Pair). to_each me (λ j. recovery v)) is ∙ own_each u i _, λ z. absurd (omega arith))

    sends : (what : Sent) → Spoken me x c what run → SentDealt u secret coins i run
    unfolding f_of f'_of from_coins matrix_in polynomials_in after
    sends Nothing e = absurd (some e)
    sends Send (s, cs', keeps, dealer, is, lent, e) =
        let w = (now (deals s cs' lent) e).0 (now (deals s cs' lent) e).1 in (
          a_send,
          is
              ∙ ap₂ (λ (a : ℕ) (b : List ℕ). to_each me (λ j. send (dealt_matrix u a b) (dealt_to u a b j))) w.0 w.1
              ∙ own_each u i _,
          λ z. dealer,
        )
    sends Echo (bytes, passes, check, is, sender, lent, e, tag) =
        let w : (matrix_in u bytes ≡ dealt_matrix u secret coins) × (polynomials_in u bytes ≡ dealt_to u secret coins i) =
        rw (is_send_lem u bytes tag) at ((now (gets sender bytes lent) e).0 (now (gets sender bytes lent) e).1) in (
          a_point ByEcho,
          is
              ∙ ap₂ (λ (C : List (List Element)) (P : Polynomials). to_each me (λ j. echo C (echo_four (order u) u.k P j))) w.0 w.1
              ∙ own_each u i _,
          λ z. absurd (omega arith),
        )
    sends Ready (s, l, there, is, sender, lent, bytes, e, has) =
        let C = matrix_dealt u secret coins h i box-i (c ∷ cs) dealt s l (used_then u secret coins h i box-i (c ∷ cs) dealt s l there) in
        let f = ready_dealt u secret coins h i box-i (c ∷ cs) dealt s l there in
        (a_point ByReady, is ∙ ap (to_each me) (λ a j. ready (C a) (f j a)) ∙ own_each u i _, λ z. absurd (omega arith))
    sends Recovery (is, done, lent, e) = share_sent x.progress.completion refl is

  -- ---- all that it has sent

  pub sendings_dealt : (cs : List Call) → LifeDealt u secret coins i cs → Every (SentDealt u secret coins i) [] (sendings (own u i) cs)
  unfolding sendings
  sendings_dealt [] dealt = every_nil (SentDealt u secret coins i) []
  sendings_dealt (c ∷ cs) dealt =
      let x = after me cs in
      every_append (SentDealt u secret coins i) [] (sendings me cs) _ (sendings_dealt cs (life_before u secret coins i c cs dealt))
      (pick-either (Every (SentDealt u secret coins i) []) (eqb (doing x c).outcome.answer.bytes 0) [] (wrote (doing x c) ∷ [])
      (λ e. every_nil (SentDealt u secret coins i) [])
      (λ e.
      let w = wrote_some x c (λ z. true≢false (sym (eq-eqb _ 0 z) ∙ e)) in
      every_cons (SentDealt u secret coins i) [] (wrote (doing x c)) []
      (sends c cs dealt w.0 (wrote (doing x c)) w.1 (doing x c).outcome.answer.sent
      (subst (λ (v : SetUp). Spoken v x c (doing x c).outcome.answer.sent (wrote (doing x c)))
      (own_setup me (is_taken u secret coins h i box-i) cs) (spoken x (good me (is_taken u secret coins h i box-i) cs) c)))
      (every_nil (SentDealt u secret coins i) [])))

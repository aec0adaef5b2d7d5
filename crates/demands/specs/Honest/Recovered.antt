-- What a box recovers whose accepted deals and deliveries are the dealt ones: from dealt recovery shares, the secret.
--
-- In order: the recovery shares; the pair recovered.
-- Assumes nothing.
use Rattle.std.proofs.Math.Path.{◌≡◌, sym, ap, subst}
use Rattle.std.proofs.Common.{◌∙◌, arith}
use Rattle.std.specs.Prelude.{true, ℕ, ◌+◌, ◌*◌, ◌-◌, ◌<◌, eqb, get_or}
use mathlib.Core.List.{List, [], ◌∷◌}
use borrow.Author.Tests.{eqb-true}
use Rattle.folds.specs.Tests.{and_left, and_right, pick-either}
use Rattle.std.specs.Prelude.{Option, Some}
use Rattle.rules.specs.declared.Pair.{Pair}
use Rattle.rules.specs.declared.Record.{Record}
use Rattle.rules.specs.declared.SetUp.{SetUp}
use Rattle.rules.specs.Numbers.{is_box}
use Rattle.rules.specs.Messages.{tag_in, pair_in}
use Rattle.rules.specs.Dealing.{from_coins, f_of, f'_of}
use Rattle.rules.specs.Record.{share_at}
use Rattle.rules.specs.Steps.{share_points}
use Rattle.rules.proofs.Laws.RoundTrip.{is_recovery_lem}
use Rattle.demands.specs.Terms.Honest.{Deal}
use Rattle.demands.specs.Terms.Histories.{Call, deals, gets, commanded, doing, after, own}
use Rattle.demands.specs.Histories.{past_self}
use Rattle.demands.specs.Terms.Dealing.{dealt_share}
use Rattle.demands.specs.Sharing.{shares_give}
use Rattle.demands.specs.Terms.Lives.{share_now, share_said}
use Rattle.demands.specs.Lives.{shares_say, recovered_from_lem}
use Rattle.demands.specs.Lives.Born.{numbers_keep_lem}
use Rattle.demands.specs.Lives.Recovered.{recovered_differ}
use Rattle.demands.specs.Honest.Holdings.{CallDealt, LifeDealt, life_before, is_taken, coins_own}

module _ (u : SetUp) (secret : ℕ) (coins : List ℕ) (h : Deal u secret coins) (i : ℕ) (box-i : is_box u i ≡ true) where
  abbrev me : SetUp
  me = own u i

  -- ---- the recovery shares

  -- a share that is checked now
  share_now_lem : (x : Record) (m from : ℕ) (bytes : List ℕ) (lent : ℕ) → CallDealt u secret coins i x (gets from bytes lent)
      → share_now x (gets from bytes lent) m ≡ true → pair_in bytes ≡ dealt_share u secret coins m
  unfolding share_now
  share_now_lem x m from bytes lent dealt e =
      let e1 = and_right (eqb (doing x (gets from bytes lent)).outcome.answer.no 0) _ e in
      let it : tag_in bytes ≡ 4 = eqb-true (tag_in bytes) 4 (and_right (eqb from m) _ e1) in
      let is : pair_in bytes ≡ dealt_share u secret coins from = rw (is_recovery_lem u bytes it) at (dealt (eqb-true _ 0 (and_left _ _ e))) in
      is ∙ ap (dealt_share u secret coins) (eqb-true from m (and_left _ _ e1))

  said_share : (cs : List Call) → LifeDealt u secret coins i cs → (m : ℕ) (p : Pair) → share_said me cs m ≡ Some p
      → p ≡ dealt_share u secret coins m
  unfolding share_said share_now
  said_share [] dealt m p e = let z : ◌≡◌ {A = ℕ} 0 1 = cc in absurd (omega arith)
  said_share (deals s c lent ∷ cs) dealt m p e = said_share cs (life_before u secret coins i _ cs dealt) m p e
  said_share (commanded lent ∷ cs) dealt m p e = said_share cs (life_before u secret coins i _ cs dealt) m p e
  said_share (gets from bytes lent ∷ cs) dealt m p e =
      pick-either (λ (v : Option Pair). v ≡ Some p → p ≡ dealt_share u secret coins m) (share_now (after me cs) (gets from bytes lent) m)
      (Some (pair_in bytes)) (share_said me cs m)
      (λ now q.
      let same : pair_in bytes ≡ p = cc in
      sym same ∙ share_now_lem (after me cs) m from bytes lent (dealt (gets from bytes lent) cs (past_self _)) now)
      (λ not-now. said_share cs (life_before u secret coins i _ cs dealt) m p)
      e

  pub share_dealt : (cs : List Call) → LifeDealt u secret coins i cs → (m : ℕ) (p : Pair) → m < 10
      → share_at (after (own u i) cs).shares m ≡ Some p → p ≡ dealt_share u secret coins (m + 1)
  share_dealt cs dealt m p l e =
      said_share cs dealt (m + 1) p (sym (shares_say me (is_taken u secret coins h i box-i) cs m l) ∙ e)

  -- ---- the pair recovered

  -- f(0, 0), f'(0, 0): the secret, and the coin that goes with it
  abbrev Secret : Pair → Type 0
  Secret p = (p.first.0 ≡ secret) × (p.second.0 ≡ get_or coins (u.k * u.k - 1) 0)

  pub recovered_dealt : (cs : List Call) → LifeDealt u secret coins i cs → (p : Pair) → (after (own u i) cs).recovered ≡ Some p → Secret p
  unfolding f_of f'_of from_coins
  recovered_dealt cs dealt p e =
      let up = is_taken u secret coins h i box-i in
      subst Secret (sym (recovered_from_lem me up cs p e))
      (shares_give me (numbers_keep_lem me up) secret coins (coins_own u secret coins h i box-i) (share_points (after me cs).shares)
      (recovered_differ me up (λ m v. v ≡ dealt_share u secret coins m) p cs e (share_dealt cs dealt)))

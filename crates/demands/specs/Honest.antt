-- A class in which all boxes keep the rules: whatever order its messages take, what a box holds, keeps and sends is what was dealt.
--
-- In the modules below: what is said in such a class (`Messages`); a box whose accepted deals and deliveries are the dealt ones, what it
-- holds (`Holdings`), what it sends (`Sendings`) and what it recovers (`Recovered`).
-- Here, in order: what was accepted; where the dealer has dealt there is one deal; every accepted delivery is dealt, by induction
-- over the history for all boxes at once; the statements.
-- Assumes nothing.
pub mod Messages
pub mod Holdings
pub mod Sendings
pub mod Recovered
use Rattle.std.specs.Prelude.{◌≡◌, true, ℕ, ◌+◌, ◌*◌, ◌-◌, ◌<◌, eqb, length, get_or, replicate}
use Rattle.std.proofs.Common.{sym, ap, ◌∙◌, ⊎_elim, eqb-true}
use Rattle.std.proofs.Math.Path.{subst}
use Rattle.std.proofs.Math.Bool.{not}
use mathlib.Core.List.{List, [], ◌∷◌}
use Rattle.std.proofs.Math.Decide.{ℕ_discrete}
use Rattle.folds.specs.Tests.{and_intro, true≢false}
use Rattle.folds.specs.Runs.{Every}
use Rattle.std.specs.Prelude.{Option, Some, None, is_some}
use Rattle.rules.specs.declared.Four.{Four}
use Rattle.rules.specs.declared.Pair.{Pair}
use Rattle.rules.specs.declared.Point.TheVariants.{Held}
use Rattle.rules.specs.declared.Record.{Record}
use Rattle.rules.specs.declared.SetUp.{SetUp}
use Rattle.rules.specs.Numbers.{group_keeps, is_box, numbers_keep}
use Rattle.rules.specs.Messages.{message_in}
use Rattle.rules.specs.Dealing.{coins_keep}
use Rattle.rules.specs.Record.{slot_at, place_at, share_at, matrix_of, same_matrix}
use Rattle.rules.specs.Answers.{set_up, answered, deliver}
use Rattle.rules.proofs.Laws.Agreement.{agree_self}
use Rattle.rules.proofs.Laws.DemandOne.{outcome_number}
use Rattle.rules.specs.Laws.Passed.{Passed, DealPassed}
use Rattle.rules.proofs.Laws.Passed.{rows_passed, deal_passed}
use Rattle.demands.specs.Terms.Honest.{Past, Deal, AllKeep, DealsOnly}
use Rattle.demands.specs.Terms.Histories.{Call, deals, gets, commanded, doing, after, Class, keeps, own, Event, calls, record_of}
use Rattle.demands.specs.Histories.{sent_by, past_self, past_more, past_trans, past_none, past_cases, calls_past, carries_earlier}
use Rattle.demands.specs.Terms.Dealing.{dealt_matrix, dealt_point, dealt_share}
use Rattle.demands.specs.Lives.{completed_kept}
use Rattle.demands.specs.Own.{dealer_box, own_taken}
use Rattle.demands.specs.Lives.Born.{good, own_setup}
use Rattle.demands.specs.Lives.Marks.{deal-zero, one_deal}
use Rattle.demands.specs.Lives.Slots.{there_some}
use Messages.{Dealt, SentDealt, comes_dealt}
use Holdings.{CallDealt, LifeDealt, is_taken, point_dealt, matrix_dealt, pair_dealt}
use Sendings.{sendings_dealt}
use Recovered.{share_dealt, recovered_dealt}

-- ---- what was accepted

-- a call that is accepted has passed the rows
deals_passed : (x : Record) (secret : ℕ) (coins : List ℕ) (lent : ℕ) → (doing x (deals secret coins lent)).outcome.answer.no ≡ 0
    → DealPassed x secret coins (length {A = ℕ} (replicate lent 0))
deals_passed x secret coins lent e = deal_passed x secret coins _ (deal-zero x secret coins lent e)

gets_passed : (x : Record) (sender : ℕ) (bytes : List ℕ) (lent : ℕ) → (doing x (gets sender bytes lent)).outcome.answer.no ≡ 0
    → Passed x sender bytes
unfolding doing deliver answered
gets_passed x sender bytes lent e = rows_passed x sender bytes _ (sym (outcome_number _ _ _) ∙ e)

-- ---- there is one deal

-- a deal of the dealer was accepted in this history: it is the only one, and its coins are some that a deal takes
module _ (c : Class) (group : group_keeps c.numbers ≡ true) (numbers : numbers_keep (own c.numbers c.numbers.d) ≡ true)
    (es : List Event) (secret : ℕ) (coins : List ℕ) (lent : ℕ) (before : List Call)
    (dealt : Past (deals secret coins lent ∷ before) (calls c es c.numbers.d))
    (accepted : (doing (after (own c.numbers c.numbers.d) before) (deals secret coins lent)).outcome.answer.no ≡ 0) where
  dealer_taken : (set_up (own c.numbers c.numbers.d)).answer.no ≡ 0
  dealer_taken = own_taken c.numbers group numbers c.numbers.d (dealer_box c.numbers group numbers)

  pub dealt_once : DealsOnly c secret coins es
  dealt_once secret' coins' lent' before' p a =
      one_deal (own c.numbers c.numbers.d) dealer_taken secret coins lent before secret' coins' lent' before' _ accepted a dealt p

  pub dealt_keeps_lem : Deal c.numbers secret coins
  unfolding coins_keep
  dealt_keeps_lem =
      record {
        group_keeps_lem = group;
        numbers_keep_lem = numbers;
        coins_keep_lem =
            subst (λ (v : SetUp). coins_keep v secret coins ≡ true)
            (own_setup (own c.numbers c.numbers.d) dealer_taken before)
            (deals_passed _ secret coins lent accepted).keeps;
      }

-- ---- every accepted delivery is dealt

module _ (c : Class) (secret : ℕ) (coins : List ℕ) (h : AllKeep c secret coins) where
  abbrev u : SetUp
  u = c.numbers

  -- at every box what was accepted was dealt
  abbrev LivesDealt : List Event → Type 0
  LivesDealt es = (i : ℕ) → is_box u i ≡ true → LifeDealt u secret coins i (calls c es i)

  -- and so before each event
  abbrev DealtBefore : List Event → Type 0
  DealtBefore es = (e : Event) (then : List Event) → Past (e ∷ then) es → LivesDealt then

  keeper : (i : ℕ) → is_box u i ≡ true → keeps c i ≡ true
  unfolding keeps
  keeper i box-i = and_intro _ _ box-i (ap not (h.boxes i box-i))

  lives_dealt : (es : List Event) → DealsOnly c secret coins es → DealtBefore es → LivesDealt es
  unfolding is_box
  lives_dealt es only before i box-i = go
    where
      set_up_lem : (cs : List Call) → (after (own u i) cs).setup ≡ own u i
      set_up_lem = own_setup (own u i) (is_taken u secret coins h.deal i box-i)

      go : (call : Call) (cs : List Call) → Past (call ∷ cs) (calls c es i) → CallDealt u secret coins i (after (own u i) cs) call
      go (deals secret' coins' lent) cs p = λ e.
          let dealer = subst (λ (v : SetUp). eqb v.i v.d ≡ true) (set_up_lem cs) (deals_passed _ secret' coins' lent e).dealer in
          let at-d : i ≡ u.d = eqb-true i u.d dealer in
          only secret' coins' lent cs (subst (λ (j : ℕ). Past (deals secret' coins' lent ∷ cs) (calls c es j)) at-d p)
          (subst (λ (j : ℕ). (doing (after (own u j) cs) (deals secret' coins' lent)).outcome.answer.no ≡ 0) at-d e)
      go (gets from bytes lent) cs p = λ e.
          let box-from : is_box u from ≡ true =
          subst (λ (v : SetUp). is_box v from ≡ true) (set_up_lem cs) (gets_passed _ from bytes lent e).hearing.box in
          let w = carries_earlier c es i from bytes lent cs (keeper from box-from) p in
          subst (λ (b : List ℕ). Dealt u secret coins from i (message_in u b)) (sym w.bytes_are)
          (comes_dealt u secret coins h.deal from i box-i _
          (sendings_dealt u secret coins h.deal from box-from (calls c w.then from)
          (before w.event w.then w.earlier from box-from) w.place w.sent))
      go (commanded lent) cs p = tt

  -- so for the past
  only_before : (past now : List Event) → Past past now → DealsOnly c secret coins now → DealsOnly c secret coins past
  only_before past now p only secret' coins' lent before q =
      only secret' coins' lent before (past_trans _ _ _ q (calls_past c past now u.d p))

  dealt_before_each : (es : List Event) → DealsOnly c secret coins es → DealtBefore es
  dealt_before_each [] only e then p = absurd (past_none e then p)
  dealt_before_each (e ∷ es) only e' then p =
      let only' = only_before es (e ∷ es) (past_more e es es (past_self es)) only in
      let ih = dealt_before_each es only' in
      ⊎_elim (λ w. subst LivesDealt (sym w.1) (lives_dealt es only' ih)) (ih e' then) (past_cases e' e then es p)

-- ---- the statements

module _ (c : Class) (secret : ℕ) (coins : List ℕ) (h : AllKeep c secret coins) (es : List Event) (only : DealsOnly c secret coins es)
    (i : ℕ) (box-i : is_box c.numbers i ≡ true) where
  -- each message that box i accepted is a dealt one, and so is each deal
  pub all_accepted_is_dealt : LifeDealt c.numbers secret coins i (calls c es i)
  all_accepted_is_dealt = lives_dealt c secret coins h es only (dealt_before_each c secret coins h es only) i box-i

  -- each sending is of dealt messages: the send of the dealer, echoes and readies of dealt points, the dealt share
  pub all_sent_is_dealt : Every (SentDealt c.numbers secret coins i) [] (sent_by c es i)
  all_sent_is_dealt = sendings_dealt c.numbers secret coins h.deal i box-i (calls c es i) all_accepted_is_dealt

  -- a matrix in use is the dealt one,
  pub matrix_is_dealt : (s : ℕ) → s < 20 → (slot_at (record_of c es i) s).used ≡ true
      → matrix_of (slot_at (record_of c es i) s) ≡ dealt_matrix c.numbers secret coins
  matrix_is_dealt = matrix_dealt c.numbers secret coins h.deal i box-i (calls c es i) all_accepted_is_dealt

  -- every held point a dealt one,
  pub point_is_dealt : (s m : ℕ) (f : Four) → s < 20 → m < 10 → (place_at (slot_at (record_of c es i) s) m).point ≡ Held f
      → f ≡ dealt_point c.numbers secret coins (m + 1) i
  point_is_dealt s m f l lm = point_dealt c.numbers secret coins h.deal i box-i (calls c es i) all_accepted_is_dealt s l m f lm

  -- the kept pair the dealt share,
  pub pair_is_dealt : (s : ℕ) (p : Pair) → s < 20 → (slot_at (record_of c es i) s).pair ≡ Some p
      → p ≡ dealt_share c.numbers secret coins i
  pair_is_dealt s p l e =
      pair_dealt c.numbers secret coins h.deal i box-i (calls c es i) all_accepted_is_dealt s l (ap is_some e) p e

  -- and a kept recovery share its sender's
  pub share_is_dealt : (m : ℕ) (p : Pair) → m < 10 → share_at (record_of c es i).shares m ≡ Some p
      → p ≡ dealt_share c.numbers secret coins (m + 1)
  share_is_dealt = share_dealt c.numbers secret coins h.deal i box-i (calls c es i) all_accepted_is_dealt

  -- so there is one matrix in use at most,
  pub one_matrix : (s r : ℕ) → s < 20 → r < 20 → (slot_at (record_of c es i) s).used ≡ true → (slot_at (record_of c es i) r).used ≡ true → s ≡ r
  one_matrix s r l m us ur = go (ℕ_discrete s r)
    where
      go : Dec (s ≡ r) → s ≡ r
      go (yes e) = e
      go (no n) =
          absurd (true≢false
          (sym (agree_self x.setup.k (matrix_of (slot_at x r)))
          ∙ ap (λ C. same_matrix x.setup.k C (matrix_of (slot_at x r))) (matrix_is_dealt r m ur ∙ sym (matrix_is_dealt s l us))
          ∙ (good (own c.numbers i) (is_taken c.numbers secret coins h.deal i box-i) (calls c es i)).facts.slots.differ s r l m n us ur))
        where
          x : Record
          x = record_of c es i

  -- a box that completed has the dealt share,
  pub completed_share_is_dealt : (s : ℕ) → (record_of c es i).progress.completion ≡ Some s
      → (slot_at (record_of c es i) s).pair ≡ Some (dealt_share c.numbers secret coins i)
  completed_share_is_dealt s e =
      let w = completed_kept (own c.numbers i) (is_taken c.numbers secret coins h.deal i box-i) (calls c es i) s e in
      let some = there_some _ w.1 in
      some.1 ∙ ap Some (pair_is_dealt s some.0 w.0 some.1)

  -- and the pair that a box recovers is f(0, 0), f'(0, 0): the secret, and the coin that goes with it
  pub recovered_is_the_secret : (p : Pair) → (record_of c es i).recovered ≡ Some p
      → (p.first.0 ≡ secret) × (p.second.0 ≡ get_or coins (c.numbers.k * c.numbers.k - 1) 0)
  recovered_is_the_secret = recovered_dealt c.numbers secret coins h.deal i box-i (calls c es i) all_accepted_is_dealt

-- One box in two runs: its record moved, its answers the same, what it sent moved.
--
-- In order: a command that leaves no mark; the two lives of a box, from set-up, and one call more; a message that it has sent.
-- Assumes nothing.
use Rattle.std.specs.Prelude.{◌≡◌, Bool, true, false, ◌⊎◌, eqb, ltb, get_or, replicate}
use Rattle.std.proofs.Math.Path.{refl, ap, ap₂, subst}
use Rattle.std.proofs.Common.{sym, ◌∙◌, inl, inr, ⊎_elim, eq-eqb, ltb-true}
use mathlib.Core.List.{List, [], ◌∷◌, ◌++◌, append-nil}
use Prim.Native.Nat.{ℕ}
use Rattle.std.proofs.Math.ListN.{length}
use Rattle.folds.specs.Tests.{pick, decide, true≢false}
use Rattle.folds.specs.Stores.{map_from}
use Rattle.rules.specs.declared.Answer.{Answer}
use Rattle.rules.specs.declared.Record.{Record}
use Rattle.rules.specs.declared.SetUp.{SetUp}
use Rattle.rules.specs.Numbers.{is_box}
use Rattle.rules.specs.declared.Message.{Message}
use Rattle.rules.specs.Messages.{bytes_of}
use Rattle.rules.specs.Dealing.{coins_keep}
use Rattle.rules.specs.Record.{zero_slot, new_record, sound}
use Rattle.rules.specs.Steps.{recover_step}
use Rattle.rules.specs.Answers.{first_of, Done, accepted, recover_rows, recover, own_recover_rows, Row, first_row}
use Rattle.rules.proofs.Laws.Numbers.{is_box_lem}
use Rattle.rules.proofs.Laws.DemandOne.{answered_accepted}
use Rattle.demands.specs.Terms.Histories.{Call, deals, gets, commanded, own, doing, after, answers, wrote, sendings, message_to, message_at}
use Rattle.demands.specs.Lives.{life_sound}
use Rattle.demands.specs.Lives.Born.{born}
use Rattle.demands.specs.Hiding.Moves.{Twice, numbers, coins', moved_message, moved_slot, moved_record}
use Rattle.demands.specs.Hiding.Hypotheses.{Given, own_taken}
use Rattle.demands.specs.Hiding.SentTwice.{Proper, twin_to, Twins, twins_none, twins_more, twins_length, twins_at}
use Rattle.demands.specs.Hiding.Outcomes.{DoneAlike, answered_alike, row_alike, call_alike}
use Rattle.demands.specs.Hiding.Arrivals.{Arrives}
use Rattle.demands.specs.Hiding.Deliveries.{deliver_alike}
use Rattle.demands.specs.Hiding.Dealt.{deal_alike, refused_alike}
use Rattle.demands.specs.Hiding.Ripe.{Honest, ripe_if_sent}

-- ---- a command that leaves no mark

-- one that is taken leaves one
taken_marks : (x : Record) (buffer : List ℕ) → first_of (recover_rows x (length buffer)) ≡ 0 → (recover x buffer).outcome.next.progress.commanded ≡ true
unfolding recover recover_step accepted
taken_marks x buffer e =
    ap (λ (d : Done). d.outcome.next.progress.commanded) (answered_accepted (first_of (recover_rows x (length buffer))) (recover_step x) x buffer e)

-- it is refused, by the same row in both runs
module _ (t : Twice) (i : ℕ) (x : Record) (hx : sound x ≡ true) (hy : sound (moved_record t i x) ≡ true) (buffer : List ℕ) where
  rows_same : first_row (recover_rows x (length buffer)) ≡ first_row (recover_rows (moved_record t i x) (length buffer))
  unfolding recover_rows own_recover_rows
  rows_same = call_alike x _ (length buffer) _ _ hx hy (row_alike _ _ _ _ refl refl refl (λ z13. refl))

  recover_alike : (recover x buffer).outcome.next.progress.commanded ≡ false
      → DoneAlike t i (recover x buffer) (recover (moved_record t i x) buffer)
  unfolding recover
  recover_alike unmarked =
      answered_alike t i _ _ _ _ x (moved_record t i x) buffer
      (ap (λ (r : Row). r.number) rows_same) (λ e. absurd (true≢false (sym (taken_marks x buffer e) ∙ unmarked))) (λ e. refl)

-- ---- the two lives of box i

pub record Both (t : Twice) (i : ℕ) (cs cs' : List Call) : Type 0 where
  pub same : after (own (numbers t) i) cs' ≡ moved_record t i (after (own (numbers t) i) cs)
  pub told : answers (own (numbers t) i) cs ≡ answers (own (numbers t) i) cs'
  pub sent : Twins t i (sendings (own (numbers t) i) cs) (sendings (own (numbers t) i) cs')
  pub honest : Honest t cs

-- at a place among what it sent there is no message to box `to` in either run, or one and the same moved
abbrev pub Sent : Twice → ℕ → ℕ → List (List ℕ) → List (List ℕ) → Type 0
Sent t i to l l' =
    ((l ≡ []) × (l' ≡ []))
    ⊎ ((m : Message) × Proper t i m × (l ≡ bytes_of (numbers t) m ∷ []) × (l' ≡ bytes_of (numbers t) (moved_message t i to m) ∷ []))

-- what one call sent stands behind what was sent before
abbrev with_sent : List (List ℕ) → Done → List (List ℕ)
with_sent l d = l ++ pick (eqb d.outcome.answer.bytes 0) [] (wrote d ∷ [])

sendings_more : (t : Twice) (i : ℕ) (l l' : List (List ℕ)) (d d' : Done) → Twins t i l l' → DoneAlike t i d d'
    → Twins t i (with_sent l d) (with_sent l' d')
sendings_more t i l l' d d' w a =
    subst (λ (v : ℕ). Twins t i (l ++ pick (eqb n 0) [] (wrote d ∷ [])) (l' ++ pick (eqb v 0) [] (wrote d' ∷ [])))
    (ap (λ (v : Answer). v.bytes) a.answer)
    (⊎_elim none some (decide (eqb n 0)))
  where
    n : ℕ
    n = d.outcome.answer.bytes

    Now : Bool → Type 0
    Now b = Twins t i (l ++ pick b [] (wrote d ∷ [])) (l' ++ pick b [] (wrote d' ∷ []))

    none : eqb n 0 ≡ true → Now (eqb n 0)
    none e = subst Now (sym e) (rw (append-nil l, append-nil l') w)

    some : eqb n 0 ≡ false → Now (eqb n 0)
    some e =
        ⊎_elim
        (λ z. absurd (true≢false (sym (eq-eqb n 0 z) ∙ e)))
        (λ v. subst Now (sym e) (twins_more t i l l' (wrote d) (wrote d') w v))
        a.sent

module _ (t : Twice) (h : Given t) (i : ℕ) (box-i : is_box (numbers t) i ≡ true) where
  abbrev u : SetUp
  u = own (numbers t) i

  new_moved : new_record u ≡ moved_record t i (new_record u)
  unfolding new_record moved_slot map_from zero_slot
  new_moved = refl

  pub both_new : Both t i [] []
  unfolding after answers sendings Honest new_record
  both_new =
      let new = born u (own_taken t h i box-i) in
      record {
        same = new ∙ new_moved ∙ ap (moved_record t i) (sym new);
        told = refl;
        sent = twins_none t i;
        honest = tt;
      }

  -- one call more
  more : (cs cs' : List Call) (c c' : Call) → Both t i cs cs'
      → DoneAlike t i (doing (after u cs) c) (doing (moved_record t i (after u cs)) c')
      → Honest t (c ∷ cs) → Both t i (c ∷ cs) (c' ∷ cs')
  unfolding after answers sendings
  more cs cs' c c' w alike honest =
      let a : DoneAlike t i (doing (after u cs) c) (doing (after u cs') c') =
      subst (λ (y : Record). DoneAlike t i (doing (after u cs) c) (doing y c')) (sym w.same) alike in
      record {
        same = a.next;
        told = ap₂ (λ (v : Answer) (l : List Answer). v ∷ l) a.answer w.told;
        sent = sendings_more t i (sendings u cs) (sendings u cs') (doing (after u cs) c) (doing (after u cs') c') w.sent a;
        honest = honest;
      }

  module _ (cs cs' : List Call) (w : Both t i cs cs') where
    abbrev x : Record
    x = after u cs

    own_setup : x.setup ≡ u
    own_setup = (life_sound u (own_taken t h i box-i) cs).2

    is_sound : sound x ≡ true
    is_sound = (life_sound u (own_taken t h i box-i) cs).0

    moved_sound : sound (moved_record t i x) ≡ true
    moved_sound = subst (λ (y : Record). sound y ≡ true) w.same (life_sound u (own_taken t h i box-i) cs').0

    pub both_deals : (lent : ℕ) → Both t i (deals t.s t.coins lent ∷ cs) (deals t.s' (coins' t) lent ∷ cs')
    unfolding doing Honest
    both_deals lent =
        more cs cs' (deals t.s t.coins lent) (deals t.s' (coins' t) lent) w
        (deal_alike t h i x own_setup is_sound moved_sound (replicate lent 0))
        w.honest

    pub both_refused : (s : ℕ) (l : List ℕ) (lent : ℕ) → coins_keep (numbers t) s l ≡ false → Both t i (deals s l lent ∷ cs) (deals s l lent ∷ cs')
    unfolding doing Honest
    both_refused s l lent bad =
        more cs cs' (deals s l lent) (deals s l lent) w
        (refused_alike t h i x own_setup is_sound moved_sound s l (replicate lent 0) bad)
        w.honest

    pub both_gets : (from : ℕ) (bytes bytes' : List ℕ) (lent : ℕ) → Arrives t i from bytes bytes' → x.progress.commanded ≡ false
        → Both t i (gets from bytes lent ∷ cs) (gets from bytes' lent ∷ cs')
    unfolding doing Honest
    both_gets from bytes bytes' lent a unmarked =
        more cs cs' (gets from bytes lent) (gets from bytes' lent) w
        (deliver_alike t h i x own_setup from bytes bytes' a is_sound moved_sound (replicate lent 0)
        (ripe_if_sent t h i box-i cs from lent bytes (a.whose, w.honest)) unmarked)
        (a.whose, w.honest)

    pub both_commanded : (lent : ℕ) → (after u (commanded lent ∷ cs)).progress.commanded ≡ false
        → Both t i (commanded lent ∷ cs) (commanded lent ∷ cs')
    unfolding doing after Honest
    both_commanded lent unmarked =
        more cs cs' (commanded lent) (commanded lent) w
        (recover_alike t i x is_sound moved_sound (replicate lent 0) unmarked)
        w.honest

  -- ---- a message that it has sent

  pub both_sent : (cs cs' : List Call) → Both t i cs cs' → (to place : ℕ) → is_box (numbers t) to ≡ true
      → Sent t i to (message_at u cs to place) (message_at u cs' to place)
  unfolding message_at
  both_sent cs cs' w to place b =
      let n : length (sendings u cs) ≡ length (sendings u cs') = twins_length t i _ _ w.sent in
      rw (← n) (go (ltb place (length (sendings u cs))) refl)
    where
      one : List Call → List ℕ
      one c = message_to (numbers t).n (get_or (sendings u c) place []) to

      go : (b : Bool) → ltb place (length (sendings u cs)) ≡ b → Sent t i to (pick b (one cs ∷ []) []) (pick b (one cs' ∷ []) [])
      go false e = inl (refl, refl)
      go true e =
          let v = twins_at t i _ _ w.sent place (ltb-true _ _ e) in
          let c = is_box_lem (numbers t) to b in
          let r = twin_to t i _ _ v to c.0 c.1 in
          inr (v.says to, v.proper to, ap (λ (s : List ℕ). s ∷ []) r.0, ap (λ (s : List ℕ). s ∷ []) r.1)

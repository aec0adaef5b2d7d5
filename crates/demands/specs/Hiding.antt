-- Demand 3: to any k - 1 boxes without the dealer, two secrets look the same.
--
-- In the modules below, in this order: the moves (`Moves`), and what demand 3 is given (`Hypotheses`); what is computed from moved
-- polynomials and points (`Values`); no check sees a move, and to the set there is none (`Unseen`); what a box sends in two runs
-- (`SentTwice`); the steps (`Steps`) and calls (`Outcomes`) of a moved record; a message that comes in (`Arrivals`, `Deliveries`); the
-- deal (`Dealt`); ready is sent for the dealt matrix alone (`Ripe`); one box in two runs (`TwoLives`).
-- Here: no recovery has been commanded; the two runs, box by box; what the
-- set sees, and what the others hold; the statement; the same of a set that answers to what it has seen.
-- Assumes nothing.
pub mod Moves
pub mod Hypotheses
pub mod Values
pub mod Unseen
pub mod SentTwice
pub mod Steps
pub mod Outcomes
pub mod Arrivals
pub mod Deliveries
pub mod Dealt
pub mod Ripe
pub mod TwoLives
use Rattle.std.proofs.Math.Path.{◌≡◌, refl, ap, ap₂}
use Rattle.std.proofs.Common.{sym, ◌∙◌, subst, inl, inr, ⊎_elim}
use Rattle.std.specs.Prelude.{Bool, true, false, eqb}
use Rattle.std.proofs.Math.Bool.{not}
use mathlib.Core.List.{List, [], ◌∷◌, ◌++◌}
use Prim.Native.Nat.{ℕ, zero, suc, ◌<◌}
use borrow.Author.Tests.{eqb-true, not-true}
use Rattle.folds.specs.Tests.{◌and◌, pick, and_left, and_right, pick_two}
use Rattle.rules.specs.declared.Record.{Record}
use Rattle.rules.specs.declared.SetUp.{SetUp}
use Rattle.rules.specs.Numbers.{group_keeps, is_box, numbers_keep}
use Rattle.rules.specs.Dealing.{coins_keep}
use Rattle.rules.specs.Record.{slot_at, matrix_of, count_e, count_r}
use Rattle.demands.specs.Terms.Histories.{Call, deals, commanded, after, Class, keeps, may_break, own, Event, deal_at, hand_on, forge, command_at, message_at, handed, calls, record_of, seen}
use Rattle.demands.specs.Terms.Dealing.{group, order}
use Rattle.demands.specs.Terms.Secrets.{Few, matching, dealing, played, Uncommanded, Alike, Strategy, script_by}
use Rattle.demands.specs.Histories.{one_call_at_most}
use Rattle.demands.specs.Lives.Marks.{unmarked_before}
use Rattle.demands.specs.Own.{own_taken}
use Moves.{Twice, numbers, in_set, coins', moved_slot, slot_moved}
use Hypotheses.{Given, zed_on_set}
use SentTwice.{set-bytes}
use Steps.{matrix_moved, e_moved, r_moved}
use Arrivals.{forged, handed_on}
use TwoLives.{Both, both_new, both_deals, both_refused, both_gets, both_commanded, Sent, both_sent}

-- ---- no recovery has been commanded

-- nor had been before the last event
earlier : (c : Class) → group_keeps c.numbers ≡ true → numbers_keep (own c.numbers c.numbers.d) ≡ true
    → (e : Event) (es : List Event) → Uncommanded c (e ∷ es) → Uncommanded c es
unfolding keeps
earlier c group numbers e es h i k =
    ⊎_elim
    (λ q. subst Unmarked q (h i k))
    (λ w. unmarked_before u (own_taken c.numbers group numbers i (and_left _ _ k)) w.0 (calls c es i) (subst Unmarked w.1 (h i k)))
    (one_call_at_most c es i e)
  where
    u : SetUp
    u = own c.numbers i

    Unmarked : List Call → Type 0
    Unmarked cs = (after u cs).progress.commanded ≡ false

-- ---- the two runs, box by box

module _ (t : Twice) (h : Given t) where
  abbrev first : List Event → List Event
  first script = played (numbers t) t.s t.coins script

  abbrev second : List Event → List Event
  second script = played (numbers t) t.s' (coins' t) script

  -- what a box has at the end of a script
  abbrev Linked : List Event → ℕ → Type 0
  Linked script i = Both t i (calls t.class (first script) i) (calls t.class (second script) i)

  box_of : (i : ℕ) → keeps t.class i ≡ true → is_box (numbers t) i ≡ true
  unfolding keeps
  box_of i e = and_left _ _ e

  before : (e : Event) (es : List Event) → Uncommanded t.class (first (e ∷ es)) → Uncommanded t.class (first es)
  unfolding played
  before e es = earlier t.class h.group_keeps_lem h.numbers_keep_lem (dealing (numbers t) t.s t.coins e) (first es)

  -- a deal of the script: the run's own, or one that both refuse
  dealt_linked : (i : ℕ) → is_box (numbers t) i ≡ true → (cs cs' : List Call) → Both t i cs cs' → (s : ℕ) (l : List ℕ) (lent : ℕ) (own : Bool)
      → coins_keep (numbers t) s l ≡ own
      → Both t i (deals (pick own t.s s) (pick own t.coins l) lent ∷ cs) (deals (pick own t.s' s) (pick own (coins' t) l) lent ∷ cs')
  dealt_linked i b cs cs' v s l lent true e = both_deals t h i b cs cs' v lent
  dealt_linked i b cs cs' v s l lent false e = both_refused t h i b cs cs' v s l lent e

  -- a message handed on, if there is one
  handed_linked : (i from lent : ℕ) → is_box (numbers t) i ≡ true → (l l' : List (List ℕ)) (cs cs' : List Call)
      → Sent t from i l l' → Both t i cs cs' → (after (own (numbers t) i) cs).progress.commanded ≡ false
      → Both t i (handed from lent l ++ cs) (handed from lent l' ++ cs')
  handed_linked i from lent b l l' cs cs' (inl w) v m = rw (w.0, w.1) v
  handed_linked i from lent b l l' cs cs' (inr w) v m =
      rw (w.2, w.3) (both_gets t h i b cs cs' v from _ _ lent (handed_on t h i from w.0 w.1) m)

  linked : (script : List Event) → Uncommanded t.class (first script) → (i : ℕ) → keeps t.class i ≡ true → Linked script i
  unfolding played calls
  linked [] u i k = both_new t h i (box_of i k)
  linked (deal_at at secret coins lent ∷ es) u i k =
      let v = linked es (before (deal_at at secret coins lent) es u) i k in
      pick_two (Both t i) (eqb at i and keeps t.class i) _ _ _ _
      (λ e. dealt_linked i (box_of i k) _ _ v secret coins lent (coins_keep (numbers t) secret coins) refl)
      (λ e. v)
  linked (hand_on from to place lent ∷ es) u i k =
      let m = before (hand_on from to place lent) es u in
      let v = linked es m i k in
      pick_two (Both t i) (eqb to i and keeps t.class i and keeps t.class from) _ _ _ _
      (λ e.
      let kf = and_right (keeps t.class i) _ (and_right (eqb to i) _ e) in
      let it : to ≡ i = eqb-true to i (and_left _ _ e) in
      handed_linked i from lent (box_of i k) _ _ _ _
      (subst (λ (j : ℕ). Sent t from j (message_at (own (numbers t) from) (calls t.class (first es) from) to place)
      (message_at (own (numbers t) from) (calls t.class (second es) from) to place)) it
      (both_sent t h from (box_of from kf) _ _ (linked es m from kf) to place (ap (is_box (numbers t)) it ∙ box_of i k)))
      v (m i k))
      (λ e. v)
  linked (forge from to bytes lent ∷ es) u i k =
      let m = before (forge from to bytes lent) es u in
      let v = linked es m i k in
      pick_two (Both t i) (eqb to i and keeps t.class i and not (keeps t.class from)) _ _ _ _
      (λ e.
      let n = not-true _ (and_right (keeps t.class i) _ (and_right (eqb to i) _ e)) in
      both_gets t h i (box_of i k) _ _ v from bytes bytes lent (forged t h i from bytes n) (m i k))
      (λ e. v)
  linked (command_at at lent ∷ es) u i k =
      let v = linked es (before (command_at at lent) es u) i k in
      pick_two (Both t i) (eqb at i and keeps t.class i) _ _ _ _
      (λ e. both_commanded t h i (box_of i k) _ _ v lent (rw e at (u i k)))
      (λ e. v)

  -- ---- what the set sees

  set_same : (from to : ℕ) → is_box (numbers t) to ≡ true → in_set t to ≡ true
      → (l l' : List (List ℕ)) → Sent t from to l l' → l ≡ l'
  set_same from to b e l l' (inl w) = w.0 ∙ sym w.1
  set_same from to b e l l' (inr w) =
      w.2 ∙ ap (λ (m : List ℕ). m ∷ []) (sym (set-bytes t h from to (zed_on_set t h to b e) w.0 w.1)) ∙ sym w.3

  same_seen : (script : List Event) → Uncommanded t.class (first script)
      → seen t.class (first script) ≡ seen t.class (second script)
  unfolding played seen may_break
  same_seen [] u = refl
  same_seen (deal_at at secret coins lent ∷ es) u = same_seen es (before (deal_at at secret coins lent) es u)
  same_seen (hand_on from to place lent ∷ es) u =
      let m = before (hand_on from to place lent) es u in
      pick_two ◌≡◌ (may_break t.class to and keeps t.class from) _ _ _ _
      (λ e.
      let kf = and_right (may_break t.class to) _ e in
      let b = and_left (is_box (numbers t) to) _ (and_left _ _ e) in
      ap₂ ◌++◌
      (set_same from to b (and_right (is_box (numbers t) to) _ (and_left _ _ e)) _ _
      (both_sent t h from (box_of from kf) _ _ (linked es m from kf) to place b))
      (same_seen es m))
      (λ e. same_seen es m)
  same_seen (forge from to bytes lent ∷ es) u = same_seen es (before (forge from to bytes lent) es u)
  same_seen (command_at at lent ∷ es) u = same_seen es (before (command_at at lent) es u)

  -- ---- and what the others hold

  pub alike : (script : List Event) → Uncommanded t.class (first script) → Alike t.class (first script) (second script)
  alike script u =
      record {
        bytes = same_seen script u;
        told = λ i k. (linked script u i k).told;
        matrix = λ i s k l. sym (ap matrix_of (slot i s k) ∙ matrix_moved t i (slot_at (record_of t.class (first script) i) s));
        e = λ i s k l. sym (ap count_e (slot i s k) ∙ e_moved t i (slot_at (record_of t.class (first script) i) s));
        r = λ i s k l. sym (ap count_r (slot i s k) ∙ r_moved t i (slot_at (record_of t.class (first script) i) s));
        completed = λ i k. sym (ap (λ (y : Record). y.progress.completion) (linked script u i k).same);
      }
    where
      slot : (i s : ℕ) → keeps t.class i ≡ true
          → slot_at (record_of t.class (second script) i) s ≡ moved_slot t i (slot_at (record_of t.class (first script) i) s)
      slot i s k = ap (λ (y : Record). slot_at y s) (linked script u i k).same ∙ slot_moved t i (record_of t.class (first script) i) s

-- ---- the statement

-- any class whose numbers keep their rules, any set of at most k - 1 boxes without the dealer, any two secrets below q, any
-- coins for the one, and the matching coins for the other
module _ (c : Class) (group : group_keeps c.numbers ≡ true) (numbers : numbers_keep (own c.numbers c.numbers.d) ≡ true)
    (few : Few c.numbers c.breaks) (dealer : c.breaks c.numbers.d ≡ false)
    (s s' : ℕ) (low : s < order c.numbers) (low' : s' < order c.numbers)
    (coins : List ℕ) (keep : coins_keep c.numbers s coins ≡ true) where
  abbrev coins* : List ℕ
  coins* = matching c.numbers c.breaks s s' coins

  abbrev run : List Event → List Event
  run = played c.numbers s coins

  abbrev run* : List Event → List Event
  run* = played c.numbers s' coins*

  -- every script that leaves no box commanded looks the same
  pub hides : (script : List Event) → Uncommanded c (run script) → Alike c (run script) (run* script)
  hides =
      alike (record { class = c; s = s; s' = s'; coins = coins })
      (record { group_keeps_lem = group; numbers_keep_lem = numbers; few = few; dealer = dealer; low = low; low' = low'; coins_keep_lem = keep })

  -- ---- a set that answers to what it has seen

  -- it sees the same in both runs, so it makes the same script,
  same_script : (strategy : Strategy) (n : ℕ) → Uncommanded c (run (script_by c strategy s coins n))
      → script_by c strategy s coins n ≡ script_by c strategy s' coins* n
  unfolding script_by played
  same_script strategy zero u = refl
  same_script strategy (suc n) u =
      let script = script_by c strategy s coins n in
      let before = earlier c group numbers _ (run script) u in
      let same = same_script strategy n before in
      ap₂ (λ (saw : List (List ℕ)) (es : List Event). strategy n saw ∷ es)
      ((hides script before).bytes ∙ ap (λ (es : List Event). seen c (run* es)) same) same

  -- and both runs look the same
  pub hides_adaptively : (strategy : Strategy) (n : ℕ) → Uncommanded c (run (script_by c strategy s coins n))
      → Alike c (run (script_by c strategy s coins n)) (run* (script_by c strategy s' coins* n))
  hides_adaptively strategy n u =
      subst (λ (script : List Event). Alike c (run (script_by c strategy s coins n)) (run* script)) (same_script strategy n u)
      (hides (script_by c strategy s coins n) u)

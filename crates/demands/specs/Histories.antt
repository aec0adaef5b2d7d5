-- What an event adds to the calls at a box, and what a delivery of a box that keeps the rules carries.
--
-- In order: what an event adds, and that it is one call at most; the past of a life or of a history; what was sent stays sent; what a
-- call came by; a delivery carries one of its sender's earlier messages.
-- Assumes nothing.
use Rattle.std.specs.Prelude.{◌≡◌, refl, true, false, not, ◌⊎◌, List, [], ◌∷◌, ◌++◌, ℕ, ◌<◌, eqb, ltb, length, get_or}
use Rattle.std.proofs.Common.{sym, ap, ◌∙◌, subst, inl, inr, ⊎_elim, append_assoc, arith, length-append, eqb-true, ltb-true}
use Rattle.std.proofs.Math.ListN.{get_or-append}
use Rattle.std.proofs.lemmas.Bool.{not-true}
use Rattle.folds.specs.Tests.{◌and◌, and_left, and_right, pick-either, true≢false}
use Rattle.rules.specs.declared.SetUp.{SetUp}
use Rattle.demands.specs.Terms.Honest.{Past}
use Rattle.demands.specs.Terms.Histories.{Call, deals, gets, commanded, sendings, message_to, Class, keeps, own, Event, deal_at, hand_on, forge, command_at, message_at, handed, calls}

-- ---- what an event adds

-- what box i has sent, in the order of sending
abbrev pub sent_by : Class → List Event → ℕ → List (List ℕ)
sent_by c es i = sendings (own c.numbers i) (calls c es i)

-- the calls at box i after one event more: those before it, or one in front of them, at a box that keeps the rules
pub data Adds (c : Class) (es : List Event) (i : ℕ) (now : List Call) : Type 0 where
  no_call : now ≡ calls c es i → Adds c es i now
  told_to_deal : (secret : ℕ) (coins : List ℕ) (lent : ℕ) → keeps c i ≡ true → now ≡ deals secret coins lent ∷ calls c es i → Adds c es i now
  told_to_recover : (lent : ℕ) → keeps c i ≡ true → now ≡ commanded lent ∷ calls c es i → Adds c es i now
  -- any bytes, of one that need not keep them
  made_up : (from : ℕ) (bytes : List ℕ) (lent : ℕ) → keeps c i ≡ true → keeps c from ≡ false
      → now ≡ gets from bytes lent ∷ calls c es i → Adds c es i now
  -- a message that its sender, which keeps them, has sent before
  passed_on : (from place lent : ℕ) → keeps c i ≡ true → keeps c from ≡ true → place < length (sent_by c es from)
      → now ≡ gets from (message_to c.numbers.n (get_or (sent_by c es from) place []) i) lent ∷ calls c es i → Adds c es i now

pub added : (c : Class) (es : List Event) (i : ℕ) (e : Event) → Adds c es i (calls c (e ∷ es) i)
unfolding calls message_at
added c es i (deal_at at secret coins lent) =
    pick-either (Adds c es i) (eqb at i and keeps c i) _ _ (λ e. told_to_deal secret coins lent (and_right (eqb at i) _ e) refl) (λ e. no_call refl)
added c es i (hand_on from to place lent) =
    pick-either (Adds c es i) (eqb to i and keeps c i and keeps c from) _ _
    (λ e.
    let both = and_right (eqb to i) _ e in
    pick-either (λ (l : List (List ℕ)). Adds c es i (handed from lent l ++ calls c es i)) (ltb place (length (sent_by c es from))) _ _
    (λ l. passed_on from place lent (and_left _ _ both) (and_right (keeps c i) _ both) (ltb-true _ _ l)
    (ap (λ (j : ℕ). gets from (message_to c.numbers.n (get_or (sent_by c es from) place []) j) lent ∷ calls c es i)
    (eqb-true to i (and_left _ _ e))))
    (λ l. no_call refl))
    (λ e. no_call refl)
added c es i (forge from to bytes lent) =
    pick-either (Adds c es i) (eqb to i and keeps c i and not (keeps c from)) _ _
    (λ e.
    let both = and_right (eqb to i) _ e in
    made_up from bytes lent (and_left _ _ both) (not-true _ (and_right (keeps c i) _ both)) refl)
    (λ e. no_call refl)
added c es i (command_at at lent) =
    pick-either (Adds c es i) (eqb at i and keeps c i) _ _ (λ e. told_to_recover lent (and_right (eqb at i) _ e) refl) (λ e. no_call refl)

-- the calls stay, or one call is added
abbrev pub OneAtMost : List Call → List Call → Type 0
OneAtMost before now = (now ≡ before) ⊎ ((call : Call) × (now ≡ call ∷ before))

-- An event adds at most one call at a box.
pub one_call_at_most : (c : Class) (es : List Event) (i : ℕ) (e : Event) → OneAtMost (calls c es i) (calls c (e ∷ es) i)
one_call_at_most c es i e = go (added c es i e)
  where
    go : Adds c es i (calls c (e ∷ es) i) → OneAtMost (calls c es i) (calls c (e ∷ es) i)
    go (no_call q) = inl q
    go (told_to_deal secret coins lent k q) = inr (deals secret coins lent, q)
    go (told_to_recover lent k q) = inr (commanded lent, q)
    go (made_up from bytes lent k b q) = inr (gets from bytes lent, q)
    go (passed_on from place lent k b l q) = inr (gets from _ lent, q)

-- ---- the past of a life or of a history

module _ {A : Type 0} where
  pub past_self : (l : List A) → Past l l
  past_self l = ([], refl)

  pub past_more : (a : A) (past now : List A) → Past past now → Past past (a ∷ now)
  past_more a past now p = (a ∷ p.0, ap (λ (l : List A). a ∷ l) p.1)

  pub past_trans : (first past now : List A) → Past first past → Past past now → Past first now
  past_trans first past now p q =
      (q.0 ++ p.0, q.1 ∙ ap (λ (l : List A). q.0 ++ l) p.1 ∙ sym (append_assoc q.0 p.0 first))

  -- nothing has happened yet
  pub past_none : (a : A) (past : List A) → Past (a ∷ past) [] → ⊥
  past_none a past ([], e) = let z : length (a ∷ past) ≡ 0 = ap length (sym e) in absurd (omega arith)
  past_none a past (b ∷ since, e) = let z : length (b ∷ (since ++ a ∷ past)) ≡ 0 = ap length (sym e) in absurd (omega arith)

  -- it was the last, or before the last
  pub past_cases : (a b : A) (past now : List A) → Past (a ∷ past) (b ∷ now) → ((a ≡ b) × (past ≡ now)) ⊎ Past (a ∷ past) now
  past_cases a b past now ([], e) = inl (cc, cc)
  past_cases a b past now (d ∷ since, e) = inr (since, cc)

-- the calls at a box in the past of a history are in the past of its life
pub calls_past : (c : Class) (past now : List Event) (i : ℕ) → Past past now → Past (calls c past i) (calls c now i)
calls_past c past now i (since, e) = subst (λ (es : List Event). Past (calls c past i) (calls c es i)) (sym e) (go since)
  where
    go : (since : List Event) → Past (calls c past i) (calls c (since ++ past) i)
    go [] = past_self (calls c past i)
    go (e ∷ since) =
        ⊎_elim
        (λ q. subst (Past (calls c past i)) (sym q) (go since))
        (λ w. subst (Past (calls c past i)) (sym w.1) (past_more w.0 _ _ (go since)))
        (one_call_at_most c (since ++ past) i e)

-- ---- what was sent stays sent

-- a place among what was sent holds the same ever after
abbrev pub StaysSent : List (List ℕ) → List (List ℕ) → ℕ → Type 0
StaysSent past now place = (place < length now) × (get_or now place [] ≡ get_or past place [])

pub sent_stays : (u : SetUp) (past now : List Call) → Past past now → (place : ℕ) → place < length (sendings u past)
    → StaysSent (sendings u past) (sendings u now) place
unfolding sendings
sent_stays u past now (since, e) place l =
    subst (λ (cs : List Call). StaysSent (sendings u past) (sendings u cs) place) (sym e) (go since)
  where
    behind : (sent new : List (List ℕ)) → StaysSent (sendings u past) sent place → StaysSent (sendings u past) (sent ++ new) place
    behind sent new w =
        let n = length-append sent new in
        let low = w.0 in
        (omega arith, get_or-append sent new [] place low ∙ w.1)

    go : (since : List Call) → StaysSent (sendings u past) (sendings u (since ++ past)) place
    go [] = (l, refl)
    go (call ∷ since) = behind (sendings u (since ++ past)) _ (go since)

-- ---- what a call came by

-- the event that added the call to the life that was before it
pub record Came (c : Class) (es : List Event) (i : ℕ) (call : Call) (before : List Call) : Type 0 where
  pub event : Event
  pub then : List Event
  pub earlier : Past (event ∷ then) es
  pub life : before ≡ calls c then i
  pub adds : Adds c then i (call ∷ before)

pub came : (c : Class) (es : List Event) (i : ℕ) (call : Call) (before : List Call) → Past (call ∷ before) (calls c es i)
    → Came c es i call before
unfolding calls
came c [] i call before p = absurd (past_none call before p)
came c (e ∷ es) i call before p =
    go (calls c (e ∷ es) i) (one_call_at_most c es i e) (added c es i e) (came c es i call before) p
  where
    longer : Came c es i call before → Came c (e ∷ es) i call before
    longer w =
        record {
          event = w.event;
          then = w.then;
          earlier = past_more e (w.event ∷ w.then) es w.earlier;
          life = w.life;
          adds = w.adds;
        }

    go : (now : List Call) → OneAtMost (calls c es i) now → Adds c es i now
        → (Past (call ∷ before) (calls c es i) → Came c es i call before)
        → Past (call ∷ before) now → Came c (e ∷ es) i call before
    go now (inl q) a ih p = longer (ih (subst (Past (call ∷ before)) q p))
    go now (inr (last, q)) a ih p =
        ⊎_elim
        (λ w. record {
          event = e;
          then = es;
          earlier = past_self (e ∷ es);
          life = w.1;
          adds = subst (Adds c es i) (q ∙ sym (λ j. w.0 j ∷ w.1 j)) a;
        })
        (λ w. longer (ih w))
        (past_cases call last before (calls c es i) (subst (Past (call ∷ before)) q p))

-- ---- a delivery carries an earlier message

-- when the bytes came to box i, `from` had sent them to it: at this place among what it had sent till then
pub record Carries (c : Class) (es : List Event) (i from : ℕ) (bytes : List ℕ) (before : List Call) : Type 0 where
  pub event : Event
  pub then : List Event
  pub earlier : Past (event ∷ then) es
  pub life : before ≡ calls c then i
  pub place : ℕ
  pub sent : place < length (sent_by c then from)
  pub bytes_are : bytes ≡ message_to c.numbers.n (get_or (sent_by c then from) place []) i

-- Every delivery of a box that keeps the rules carries one of its earlier messages to the addressee.
pub carries_earlier : (c : Class) (es : List Event) (i from : ℕ) (bytes : List ℕ) (lent : ℕ) (before : List Call) → keeps c from ≡ true
    → Past (gets from bytes lent ∷ before) (calls c es i) → Carries c es i from bytes before
carries_earlier c es i from bytes lent before k p = go (came c es i (gets from bytes lent) before p)
  where
    go : Came c es i (gets from bytes lent) before → Carries c es i from bytes before
    go w = by w.adds
      where
        then : List Event
        then = w.then

        by : Adds c then i (gets from bytes lent ∷ before) → Carries c es i from bytes before
        by (no_call q) =
            let n : length (gets from bytes lent ∷ before) ≡ length before = ap length q ∙ ap length (sym w.life) in absurd (omega arith)
        by (told_to_deal secret coins lent' b q) = let n : ◌≡◌ {A = ℕ} 0 1 = cc in absurd (omega arith)
        by (told_to_recover lent' b q) = let n : ◌≡◌ {A = ℕ} 0 1 = cc in absurd (omega arith)
        by (made_up from' bytes' lent' b n q) = let same : from ≡ from' = cc in absurd (true≢false (sym k ∙ ap (keeps c) same ∙ n))
        by (passed_on from' place lent' b m l q) =
            let same : from' ≡ from = cc in
            let carried : bytes ≡ message_to c.numbers.n (get_or (sent_by c then from') place []) i = cc in
            record {
              event = w.event;
              then = then;
              earlier = w.earlier;
              life = w.life;
              place = place;
              sent = subst (λ (m : ℕ). place < length (sent_by c then m)) same l;
              bytes_are = subst (λ (m : ℕ). bytes ≡ message_to c.numbers.n (get_or (sent_by c then m) place []) i) same carried;
            }

-- And it is among what the sender has sent to the end.
pub carries_sent : (c : Class) (es : List Event) (i from : ℕ) (bytes : List ℕ) (before : List Call) → Carries c es i from bytes before
    → (place : ℕ) × (place < length (sent_by c es from)) × (bytes ≡ message_to c.numbers.n (get_or (sent_by c es from) place []) i)
carries_sent c es i from bytes before w =
    let then-past = past_trans _ _ es (past_more w.event _ _ (past_self w.then)) w.earlier in
    let stays = sent_stays (own c.numbers from) _ _ (calls_past c w.then es from then-past) w.place w.sent in
    (w.place, stays.0, w.bytes_are ∙ ap (λ (run : List ℕ). message_to c.numbers.n run i) (sym stays.1))

-- A history computed event by event: `calls`, `after` and `sendings` go over the earlier calls anew for each later one, which a
-- run that keeps what it has found does once. For the histories of this crate.
--
-- In order: what is kept of one box, and of a class; that it is what Histories says, for any calls and any events.
-- Assumes nothing.
use Rattle.std.specs.Prelude.{◌≡◌, Bool, true, false, ℕ, ◌+◌, ◌-◌, ◌≤◌, leb, ltb, length, get_or}
use Rattle.std.proofs.Math.Path.{refl, ap}
use Rattle.std.proofs.Common.{sym, ◌∙◌}
use Rattle.std.proofs.Math.Bool.{not}
use mathlib.Core.List.{List, [], ◌∷◌, ◌++◌}
use native.Mathlib.Omega.{arith}
use Rattle.std.proofs.Math.Dec.{eqb}
use borrow.Author.Tests.{leb-true}
use Rattle.folds.specs.Tests.{◌and◌, pick, and_left, and_right}
use Rattle.folds.specs.Runs.{gather}
use Rattle.rules.specs.declared.Answer.{Answer}
use Rattle.rules.specs.declared.Element.{Element}
use Rattle.rules.specs.declared.Record.{Record}
use Rattle.rules.specs.declared.SetUp.{SetUp}
use Rattle.rules.specs.Numbers.{is_box}
use Rattle.rules.specs.Record.{zero_record}
use Rattle.rules.specs.Answers.{Done, set_up}
use Rattle.folds.specs.Runs.{get_or_singles}
use Rattle.demands.specs.Terms.Histories.{Call, deals, gets, commanded, doing, after, answers, wrote, sendings, message_to, Class, keeps, may_break, own, Event, deal_at, hand_on, forge, command_at, message_at, handed, calls, seen}
use Rattle.demands.specs.Terms.Lives.{is_ready, takes_now, sender_of, readies_sent}

-- ---- one box

pub record Past : Type 0 where
  -- its calls, and its record, answers and sendings after them
  pub made : List Call
  -- the record that each call came to, and the one that the last left
  pub came : List Record
  pub left : Record
  pub told : List Answer
  pub sent : List (List ℕ)

unfoldable pub takes : Call → Past → Past
takes c b =
    let d : Done = doing b.left c in
    record {
      made = c ∷ b.made;
      came = b.left ∷ b.came;
      left = d.outcome.next;
      told = d.outcome.answer ∷ b.told;
      sent = b.sent ++ pick (eqb d.outcome.answer.bytes 0) [] (wrote d ∷ []);
    }

unfoldable pub life : SetUp → List Call → Past
life u [] = record { made = []; came = []; left = (set_up u).next; told = []; sent = [] }
life u (c ∷ cs) = takes c (life u cs)

-- what Histories says that it is
unfoldable pub came_to : SetUp → List Call → List Record
came_to u [] = []
came_to u (c ∷ cs) = after u cs ∷ came_to u cs

abbrev pub lived : SetUp → List Call → Past
lived u cs = record { made = cs; came = came_to u cs; left = after u cs; told = answers u cs; sent = sendings u cs }

pub life_lived : (u : SetUp) (cs : List Call) → life u cs ≡ lived u cs
unfolding life takes after came_to answers sendings
life_lived u [] = refl
life_lived u (c ∷ cs) = ap (takes c) (life_lived u cs)

-- how often ready was sent for a matrix, by calls that came to these records and got these answers
unfoldable pub readies_at : List (List Element) → List Call → List Record → List Answer → ℕ
readies_at C [] xs ys = 0
readies_at C (c ∷ cs) [] ys = 0
readies_at C (c ∷ cs) (x ∷ xs) [] = 0
readies_at C (c ∷ cs) (x ∷ xs) (y ∷ ys) = pick (is_ready y.sent and takes_now x c (sender_of c) C) 1 0 + readies_at C cs xs ys

pub readies_sent_lem : (u : SetUp) (C : List (List Element)) (cs : List Call)
    → readies_at C cs (came_to u cs) (answers u cs) ≡ readies_sent u cs C
unfolding readies_at came_to answers readies_sent
readies_sent_lem u C [] = refl
readies_sent_lem u C (c ∷ cs) =
    let x = after u cs in
    ap (λ n. pick (is_ready (doing x c).outcome.answer.sent and takes_now x c (sender_of c) C) 1 0 + n) (readies_sent_lem u C cs)

-- ---- a class

pub record Run : Type 0 where
  -- boxes 1 to n, and what the set has seen
  pub boxes : List Past
  pub saw : List (List ℕ)

abbrev nobody : Past
nobody = record { made = []; came = []; left = zero_record; told = []; sent = [] }

abbrev pub box_in : Run → ℕ → Past
box_in r i = get_or r.boxes (i - 1) nobody

-- the message at a place among what a box has sent
unfoldable pub found : ℕ → Past → ℕ → ℕ → List (List ℕ)
found n b to place = pick (ltb place (length b.sent)) (message_to n (get_or b.sent place []) to ∷ []) []

abbrev takes_any : List Call → Past → Past
takes_any [] b = b
takes_any (c ∷ cs) b = takes c b

-- box i after one event more
unfoldable pub box_next : Class → Event → Run → ℕ → Past
box_next c (deal_at at secret coins lent) r i = pick (eqb at i and keeps c i) (takes (deals secret coins lent) (box_in r i)) (box_in r i)
box_next c (hand_on from to place lent) r i =
    pick (eqb to i and keeps c i and keeps c from)
    (takes_any (handed from lent (found c.numbers.n (box_in r from) to place)) (box_in r i))
    (box_in r i)
box_next c (forge from to bytes lent) r i =
    pick (eqb to i and keeps c i and not (keeps c from)) (takes (gets from bytes lent) (box_in r i)) (box_in r i)
box_next c (command_at at lent) r i = pick (eqb at i and keeps c i) (takes (commanded lent) (box_in r i)) (box_in r i)

-- and what the set has seen
unfoldable pub seen_next : Class → Event → Run → List (List ℕ)
seen_next c (deal_at at secret coins lent) r = r.saw
seen_next c (hand_on from to place lent) r =
    pick (may_break c to and keeps c from) (found c.numbers.n (box_in r from) to place ++ r.saw) r.saw
seen_next c (forge from to bytes lent) r = r.saw
seen_next c (command_at at lent) r = r.saw

unfoldable pub next : Class → Event → Run → Run
next c e r = record { boxes = gather c.numbers.n (λ i. box_next c e r (i + 1) ∷ []); saw = seen_next c e r }

unfoldable pub replay : Class → List Event → Run
replay c [] = record { boxes = gather c.numbers.n (λ i. life (own c.numbers (i + 1)) [] ∷ []); saw = [] }
replay c (e ∷ es) = next c e (replay c es)

-- ---- it is what Histories says

-- one thing is picked for another where they are equal
pick_same : {A : Type 0} (b : Bool) (x y z : A) → (b ≡ true → x ≡ y) → pick b x z ≡ pick b y z
pick_same true x y z h = h refl
pick_same false x y z h = refl

module _ (c : Class) where
  -- box i after these events
  abbrev pub told_of : List Event → ℕ → Past
  told_of es i = lived (own c.numbers i) (calls c es i)

  -- reading one of n boxes
  box_in-gather : (f : ℕ → Past) (saw : List (List ℕ)) (i : ℕ) → is_box c.numbers i ≡ true
      → box_in (record { boxes = gather c.numbers.n (λ m. f (m + 1) ∷ []); saw = saw }) i ≡ f i
  unfolding is_box
  box_in-gather f saw i h =
      let n = c.numbers.n in
      let low : 1 ≤ i = leb-true 1 i (and_left (leb 1 i) _ h) in
      let high : i ≤ n = leb-true i n (and_right (leb 1 i) _ h) in
      let whole : i - 1 + 1 ≡ i = omega arith in
      get_or_singles n (λ m. f (m + 1)) (i - 1) nobody (omega arith) ∙ ap f whole

  keeps_box : (i : ℕ) → keeps c i ≡ true → is_box c.numbers i ≡ true
  unfolding keeps
  keeps_box i h = and_left (is_box c.numbers i) _ h

  module _ (u : SetUp) where
    -- what is kept of one of two lists of calls
    pick_lived : (b : Bool) (cs ds : List Call) (k : Past) → (b ≡ true → k ≡ lived u cs)
        → pick b k (lived u ds) ≡ lived u (pick b cs ds)
    pick_lived true cs ds k h = h refl
    pick_lived false cs ds k h = refl

    takes_lived : (call : Call) (cs : List Call) → takes call (lived u cs) ≡ lived u (call ∷ cs)
    unfolding takes after came_to answers sendings
    takes_lived call cs = refl

    any_lived : (from lent : ℕ) (ms : List (List ℕ)) (cs : List Call)
        → takes_any (handed from lent ms) (lived u cs) ≡ lived u (handed from lent ms ++ cs)
    any_lived from lent [] cs = refl
    any_lived from lent (m ∷ ms) cs = takes_lived (gets from m lent) cs

  module _ (es : List Event) (r : Run) (h : (i : ℕ) → is_box c.numbers i ≡ true → box_in r i ≡ told_of es i) where
    found_there : (from to place : ℕ) → keeps c from ≡ true
        → found c.numbers.n (box_in r from) to place ≡ message_at (own c.numbers from) (calls c es from) to place
    unfolding found message_at
    found_there from to place k = ap (λ b. found c.numbers.n b to place) (h from (keeps_box from k))

    box_next_lem : (e : Event) (i : ℕ) → is_box c.numbers i ≡ true → box_next c e r i ≡ told_of (e ∷ es) i
    unfolding box_next calls
    box_next_lem (deal_at at secret coins lent) i b =
        let u = own c.numbers i in
        ap (λ k. pick (eqb at i and keeps c i) (takes (deals secret coins lent) k) k) (h i b)
        ∙ pick_lived u (eqb at i and keeps c i) _ _ _ (λ _. takes_lived u (deals secret coins lent) _)
    box_next_lem (hand_on from to place lent) i b =
        let u = own c.numbers i in
        let n = c.numbers.n in
        let test = eqb to i and keeps c i and keeps c from in
        ap (λ k. pick test (takes_any (handed from lent (found n (box_in r from) to place)) k) k) (h i b)
        ∙ pick_lived u test _ _ _
        (λ t.
        ap (λ ms. takes_any (handed from lent ms) (lived u (calls c es i)))
        (found_there from to place (and_right (keeps c i) _ (and_right (eqb to i) _ t)))
        ∙ any_lived u from lent (message_at (own c.numbers from) (calls c es from) to place) (calls c es i))
    box_next_lem (forge from to bytes lent) i b =
        let u = own c.numbers i in
        let test = eqb to i and keeps c i and not (keeps c from) in
        ap (λ k. pick test (takes (gets from bytes lent) k) k) (h i b)
        ∙ pick_lived u test _ _ _ (λ _. takes_lived u (gets from bytes lent) _)
    box_next_lem (command_at at lent) i b =
        let u = own c.numbers i in
        ap (λ k. pick (eqb at i and keeps c i) (takes (commanded lent) k) k) (h i b)
        ∙ pick_lived u (eqb at i and keeps c i) _ _ _ (λ _. takes_lived u (commanded lent) _)

    seen_next_lem : r.saw ≡ seen c es → (e : Event) → seen_next c e r ≡ seen c (e ∷ es)
    unfolding seen_next seen
    seen_next_lem s (deal_at at secret coins lent) = s
    seen_next_lem s (hand_on from to place lent) =
        let test = may_break c to and keeps c from in
        ap (λ l. pick test (found c.numbers.n (box_in r from) to place ++ l) l) s
        ∙ pick_same test _ _ _ (λ t. ap (λ ms. ms ++ seen c es) (found_there from to place (and_right (may_break c to) _ t)))
    seen_next_lem s (forge from to bytes lent) = s
    seen_next_lem s (command_at at lent) = s

  pub replay_boxes : (es : List Event) (i : ℕ) → is_box c.numbers i ≡ true → box_in (replay c es) i ≡ told_of es i
  unfolding replay next calls
  replay_boxes [] i b = box_in-gather (λ m. life (own c.numbers m) []) [] i b ∙ life_lived (own c.numbers i) []
  replay_boxes (e ∷ es) i b =
      box_in-gather (box_next c e (replay c es)) (seen_next c e (replay c es)) i b
      ∙ box_next_lem es (replay c es) (replay_boxes es) e i b

  pub replay_seen : (es : List Event) → (replay c es).saw ≡ seen c es
  unfolding replay next seen
  replay_seen [] = refl
  replay_seen (e ∷ es) = seen_next_lem es (replay c es) (replay_boxes es) (replay_seen es) e

  -- so is whatever is looked at of what the set has seen and of three boxes
  pub replayed : {A : Type 0} (look : List (List ℕ) → Past → Past → Past → A) (es : List Event) (i j k : ℕ)
      → is_box c.numbers i ≡ true → is_box c.numbers j ≡ true → is_box c.numbers k ≡ true
      → look (seen c es) (told_of es i) (told_of es j) (told_of es k)
      ≡ look (replay c es).saw (box_in (replay c es) i) (box_in (replay c es) j) (box_in (replay c es) k)
  replayed look es i j k bi bj bk =
      let run = replay c es in
      ap (λ saw. look saw (told_of es i) (told_of es j) (told_of es k)) (sym (replay_seen es))
      ∙ ap (λ b. look run.saw b (told_of es j) (told_of es k)) (sym (replay_boxes es i bi))
      ∙ ap (λ b. look run.saw (box_in run i) b (told_of es k)) (sym (replay_boxes es j bj))
      ∙ ap (λ b. look run.saw (box_in run i) (box_in run j) b) (sym (replay_boxes es k bk))

-- DEMANDS 2 AND 3, AND WHAT DEMAND 1 IS OVER A LIFE. Open this file first: each theorem has its sentence above it and its
-- statement in full; the proofs are in the modules named on its `=` line. What a statement names stands in `rules` and in `Terms`,
-- where nothing is proved.
--
-- In order: demand 2: sharing, completeness, the life of a box, a box of any make, a class in which all keep the rules, the recovery
-- sheet; demand 3. The crate `instances` has a computed instance for each theorem.
-- Assumes nothing.
use Rattle.std.specs.Prelude.{◌≡◌, Bool, true, false, List, ◌∷◌, ◌++◌, ◌⊎◌, ◌≢◌, ℕ, ◌+◌, ◌*◌, ◌-◌, ◌<◌, ◌≤◌, eqb, get_or, take}
use Rattle.folds.specs.Below.{count_below}
use Rattle.rules.specs.declared.Answer.{Answer}
use Rattle.std.specs.Prelude.{Some, None, is_some}
use Rattle.rules.specs.declared.Element.{Element}
use Rattle.rules.specs.declared.Four.{Four}
use Rattle.rules.specs.declared.Pair.{Pair}
use Rattle.rules.specs.declared.Point.TheVariants.{Held}
use Rattle.rules.specs.declared.Sent.TheVariants.{Send, Echo, Ready, Recovery}
use Rattle.rules.specs.declared.SetUp.{SetUp}
use Rattle.rules.specs.Numbers.{group_of, group_keeps, is_box, numbers_keep}
use Rattle.rules.specs.Matrices.{entry, zero_four}
use Rattle.rules.specs.declared.Message.TheVariants.{Echo as echo, Recovery as recovery}
use Rattle.rules.specs.Messages.{tag_in, matrix_in, polynomials_in, to_each}
use Rattle.rules.specs.Dealing.{coins_keep, committed, matrix_passes, share_check}
use Rattle.rules.specs.Record.{slot_at, place_at, share_at, matrix_of, sound, same_matrix, heard_for}
use Rattle.rules.specs.Steps.{Said, share_points, pair_from, echo_four, recovered_from}
use Rattle.rules.specs.Answers.{no_pair, set_up}
use Rattle.rules.specs.Sheet.{box_lines, secret_line, printed}
use Rattle.rules.proofs.UselessBoxes.{Station, Keeps}
use Rattle.rules.specs.Laws.Shape.{Shaped}
use Rattle.rules.proofs.Laws.DemandOne.{Heard}
use Rattle.rules.proofs.Laws.Heard.{NowHeard, OneMark}
use Rattle.demands.specs.Terms.Histories.{Call, deals, gets, commanded, doing, after, answers, wrote, Class, own, Event, record_of}
use Rattle.demands.specs.Terms.Dealing.{group, order, Sound, dealt_point, dealt_share, sends_of, Different}
use Rattle.demands.specs.Terms.Lives.{checked, said, share_said, e_of, r_of, kept_for, lowest_for, is_send, is_echo, is_recovery, how_many, readies_sent, Writes, answer_to, Sends}
use Rattle.demands.specs.Terms.Stations.{after_by, checked_by, AllSayable}
use Rattle.demands.specs.Terms.Honest.{AllKeep, DealsOnly}
use Rattle.demands.specs.Terms.Sheet.{Opens, numbers, matrix, says, verified, secret}
use Rattle.demands.specs.Terms.Secrets.{Few, matching, played, Uncommanded, Alike, Strategy, script_by}
use Rattle.demands.specs.Sharing as Sharing
use Rattle.demands.specs.Completeness as Completeness
use Rattle.demands.specs.Lives as Lives
use Rattle.demands.specs.Lives.Bytes as Bytes
use Rattle.demands.specs.Stations as Stations
use Rattle.demands.specs.Honest as Honest
use Rattle.demands.specs.SheetOpens as SheetOpens
use Rattle.demands.specs.Matching as Matching
use Rattle.demands.specs.Hiding as Hiding

-- ==== DEMAND 2

-- ---- sharing, whoever sends what

module _ (u : SetUp) (s : Sound u) where
  -- "From an honest deal (any secret below q, any coins), any k of the dealt shares, from k different boxes, give back the dealt
  -- pair f(0, 0), f'(0, 0), its first part the secret."
  pub dealt_shares_give_the_secret : (secret : ℕ) (coins : List ℕ) → coins_keep u secret coins ≡ true → (ps : List (Said Pair))
      → Different u no_pair ps (λ m x. x ≡ dealt_share u secret coins m)
      → ((recovered_from (order u) ps).first.0 ≡ secret) × ((recovered_from (order u) ps).second.0 ≡ get_or coins (u.k * u.k - 1) 0)
  dealt_shares_give_the_secret = Sharing.shares_give u s

  -- "Any k verified shares from k different boxes give a pair that opens the first entry of the commitment, whoever dealt and
  -- whoever lied." More cannot be said: in P8 the pair (0, 1) of box 2 is verified too, and with box 1's share gives (3, 4), which
  -- opens the same entry as the dealt (5, 1) (`instances`, in `Boxes`).
  pub verified_shares_open : (C : List (List Element)) → matrix_passes (group u) u.k C ≡ true → (ps : List (Said Pair))
      → Different u no_pair ps (λ m x. share_check (group u) u.k C m x ≡ true)
      → committed (group u) (recovered_from (order u) ps).first.0 (recovered_from (order u) ps).second.0 ≡ entry C 0 0
  verified_shares_open = Sharing.shares_open u s

-- ---- completeness: "A checker that accepts nothing would make the rest empty."

-- boxes i and j of one class, each after any calls of its own. Box i's next call sends, and what it sends to j is delivered
-- there, with a buffer that is long enough, by a sender not yet heard for the tag: it is accepted.
module _ (u : SetUp) (i j : ℕ) (taken : (set_up (own u i)).answer.no ≡ 0) (taken' : (set_up (own u j)).answer.no ≡ 0)
    (cs cs' : List Call) (c : Call) (lent : ℕ) (long : 2048 ≤ lent) where
  -- "an honest deal's sends pass the polynomial check at each box,
  pub sends_are_accepted : (doing (after (own u i) cs) c).outcome.answer.sent ≡ Send → heard_for (after (own u j) cs') 1 (i - 1) ≡ false
      → answer_to u i j cs cs' c lent ≡ 0
  sends_are_accepted = Completeness.send_accepted u i j taken taken' cs cs' c lent long

  -- the echoes and readies of boxes that keep the rules pass the point check,
  pub echoes_are_accepted : (doing (after (own u i) cs) c).outcome.answer.sent ≡ Echo → heard_for (after (own u j) cs') 2 (i - 1) ≡ false
      → answer_to u i j cs cs' c lent ≡ 0
  echoes_are_accepted = Completeness.echo_accepted u i j taken taken' cs cs' c lent long

  pub readies_are_accepted : (doing (after (own u i) cs) c).outcome.answer.sent ≡ Ready → heard_for (after (own u j) cs') 3 (i - 1) ≡ false
      → answer_to u i j cs cs' c lent ≡ 0
  readies_are_accepted = Completeness.ready_accepted u i j taken taken' cs cs' c lent long

  -- their shares the share check": at a box that completed with the same matrix, was commanded and has not recovered
  pub shares_are_accepted : (s s' : ℕ) → (doing (after (own u i) cs) c).outcome.answer.sent ≡ Recovery
      → (after (own u i) cs).progress.completion ≡ Some s → (after (own u j) cs').progress.completion ≡ Some s'
      → same_matrix u.k (matrix_of (slot_at (after (own u i) cs) s)) (matrix_of (slot_at (after (own u j) cs') s')) ≡ true
      → (after (own u j) cs').progress.commanded ≡ true → (after (own u j) cs').recovered ≡ None
      → heard_for (after (own u j) cs') 4 (i - 1) ≡ false
      → answer_to u i j cs cs' c lent ≡ 0
  shares_are_accepted = Completeness.share_accepted u i j taken taken' cs cs' c lent long

-- "where all points used came from such messages, the completed share is f(i, 0), f'(i, 0)": the k lowest points held when ready
-- is sent are dealt ones; the pair that is then kept, for good, is the dealt share
pub honest_points_give_the_dealt_share : (u : SetUp) → (set_up u).answer.no ≡ 0 → (cs : List Call) (c : Call) (C : List (List Element))
    → readies_sent u (c ∷ cs) C ≡ readies_sent u cs C + 1
    → (secret : ℕ) (coins : List ℕ) → coins_keep u secret coins ≡ true
    → Different u zero_four (lowest_for u (after u (c ∷ cs)) C)
    (λ m f. f ≡ dealt_point u secret coins m u.i)
    → kept_for (after u (c ∷ cs)) C ≡ Some (dealt_share u secret coins u.i)
honest_points_give_the_dealt_share = Completeness.dealt_share_kept

-- ---- the life of a box: set up once and accepted, then any calls, each on the record that the last one left

module _ (u : SetUp) (taken : (set_up u).answer.no ≡ 0) (cs : List Call) where
  -- "an honest deal": the dealer's first, of coins in range and with buffer enough, is taken, and writes byte for byte the n sends of
  -- this secret and these coins. "A dealer that ignores its coins or secret would meet demand 3 alone": it does not meet this
  pub deal_writes_the_sends : u.i ≡ u.d → how_many (λ (a : Answer). is_send a.sent) (answers u cs) ≡ 0
      → (secret : ℕ) (coins : List ℕ) → coins_keep u secret coins ≡ true → (lent : ℕ) → 2048 ≤ lent
      → Writes (doing (after u cs) (deals secret coins lent)) Send (sends_of u secret coins)
  deal_writes_the_sends = Lives.deal_writes u taken cs

  -- "Recovery command: send the share to each j.": a completed box's first, with buffer enough
  pub command_writes_the_share : (s : ℕ) (p : Pair) → (after u cs).progress.completion ≡ Some s → (slot_at (after u cs) s).pair ≡ Some p
      → how_many (λ (a : Answer). is_recovery a.sent) (answers u cs) ≡ 0 → (lent : ℕ) → 2048 ≤ lent
      → Writes (doing (after u cs) (commanded lent)) Recovery (to_each u (λ j. recovery p))
  command_writes_the_share = Lives.command_writes u taken cs

  -- "AVSS as document 01 states it, to each byte": what any call sends, whole; nothing, or n messages of one kind
  pub every_byte_sent : (c : Call) → Sends u cs c (doing (after u cs) c).outcome.answer.sent (wrote (doing (after u cs) c))
  every_byte_sent = Bytes.every_byte u taken cs

  -- its record is sound, and has the numbers of its set-up: the box never meets 12
  pub stays_sound : (sound (after u cs) ≡ true) × Shaped (after u cs) × ((after u cs).setup ≡ u)
  stays_sound = Lives.life_sound u taken cs

  -- "e and r of a matrix equal the number of different senders whose message of that tag and that matrix was checked"
  pub e_counts_senders : (C : List (List Element)) → e_of (after u cs) C ≡ count_below 10 (λ m. checked u cs 2 (m + 1) C)
  e_counts_senders = Lives.e_counts u taken cs

  pub r_counts_senders : (C : List (List Element)) → r_of (after u cs) C ≡ count_below 10 (λ m. checked u cs 3 (m + 1) C)
  r_counts_senders = Lives.r_counts u taken cs

  -- "An accepted message marks its sender heard for its tag.", and nobody else
  pub accepted_is_heard : (sender lent : ℕ) (bytes : List ℕ) → (doing (after u cs) (gets sender bytes lent)).outcome.answer.no ≡ 0
      → NowHeard (after u cs) (after u (gets sender bytes lent ∷ cs)) (tag_in bytes) (sender - 1)
  accepted_is_heard = Lives.accepted_heard u taken cs

  -- "All refusals leave the record as it came, except that 8, 9 and 10 on tags 1, 2, 3 mark that sender heard for that tag"
  pub refusal_marks_one_at_most : (sender lent : ℕ) (bytes : List ℕ) → (doing (after u cs) (gets sender bytes lent)).outcome.answer.no ≢ 0
      → ((Heard (doing (after u cs) (gets sender bytes lent)).outcome.answer.no (tag_in bytes) → ⊥)
      × (after u (gets sender bytes lent ∷ cs) ≡ after u cs))
      ⊎ (Heard (doing (after u cs) (gets sender bytes lent)).outcome.answer.no (tag_in bytes)
      × OneMark (after u cs) (after u (gets sender bytes lent ∷ cs)) (tag_in bytes) (sender - 1))
  refusal_marks_one_at_most = Lives.refused_leaves u taken cs

  -- "deal .. a second time", "recovery command .. a second time" get 13
  pub deals_once : how_many (λ (a : Answer). is_send a.sent) (answers u cs) ≤ 1
  deals_once = Lives.one_deal u taken cs

  pub commanded_once : how_many (λ (a : Answer). is_recovery a.sent) (answers u cs) ≤ 1
  commanded_once = Lives.one_command u taken cs

  -- "a box sends echo at most once, ready at most once for each matrix, and completes at most once"
  pub sends_echo_once : how_many (λ (a : Answer). is_echo a.sent) (answers u cs) ≤ 1
  sends_echo_once = Lives.one_echo u taken cs

  pub sends_ready_once : (C : List (List Element)) → readies_sent u cs C ≤ 1
  sends_ready_once = Lives.one_ready u taken cs

  pub completes_once : how_many (λ (a : Answer). a.completed) (answers u cs) ≤ 1
  completes_once = Lives.one_completion u taken cs

  -- "A checked send has exactly its echo: the n messages, each byte, that any observer can compute from the send."
  pub send_has_its_echo : (sender lent : ℕ) (bytes : List ℕ) → tag_in bytes ≡ 1
      → (doing (after u cs) (gets sender bytes lent)).outcome.answer.no ≡ 0
      → ((doing (after u cs) (gets sender bytes lent)).outcome.answer.sent ≡ Echo)
      × (wrote (doing (after u cs) (gets sender bytes lent))
      ≡ to_each u (λ j. echo (matrix_in u bytes) (echo_four (order u) u.k (polynomials_in u bytes) j)))
  send_has_its_echo = Lives.exact_echo u taken cs

  -- "the kept pair is the interpolation at the moment ready was sent": there is one once ready was sent,
  pub pair_kept_by_ready : (C : List (List Element)) → is_some (kept_for (after u cs) C) ≡ eqb (readies_sent u cs C) 1
  pair_kept_by_ready = Lives.kept_when_ready u taken cs

  -- it is that of the k lowest points then held,
  pub pair_of_that_moment : (c : Call) (C : List (List Element)) → readies_sent u (c ∷ cs) C ≡ readies_sent u cs C + 1
      → kept_for (after u (c ∷ cs)) C
      ≡ Some (pair_from (order u) (lowest_for u (after u (c ∷ cs)) C))
  pair_of_that_moment = Lives.kept_then u taken cs

  -- "and never changes"
  pub pair_never_changes : (C : List (List Element)) (p : Pair) (later : List Call) → kept_for (after u cs) C ≡ Some p
      → kept_for (after u (later ++ cs)) C ≡ Some p
  pair_never_changes = Lives.kept_ever u taken cs

  -- "else if r = k + t, complete with this C": enough readies for one matrix mean completion
  pub enough_readies_complete : (C : List (List Element)) → u.k + u.t ≤ r_of (after u cs) C
      → is_some (after u cs).progress.completion ≡ true
  enough_readies_complete = Lives.completion_forced u taken cs

  -- "Only the first completion counts; later readies for another C are counted and change neither C nor share."
  pub completion_never_changes : (s : ℕ) (later : List Call) → (after u cs).progress.completion ≡ Some s
      → ((after u (later ++ cs)).progress.completion ≡ Some s)
      × (matrix_of (slot_at (after u (later ++ cs)) s) ≡ matrix_of (slot_at (after u cs) s))
      × ((slot_at (after u (later ++ cs)) s).pair ≡ (slot_at (after u cs) s).pair)
  completion_never_changes = Lives.completion_stays u taken cs

  -- "complete with this C and share (a(0), a'(0)), taken from the polynomials interpolated when this box sent ready for this C": the
  -- share is the pair kept for the completed matrix
  pub completed_share_is_the_kept_pair : (s : ℕ) → (after u cs).progress.completion ≡ Some s
      → (slot_at (after u cs) s).pair ≡ kept_for (after u cs) (matrix_of (slot_at (after u cs) s))
  completed_share_is_the_kept_pair = Lives.share_kept_for u taken cs

  -- "the completed share passes the share check": a completed box has a kept pair in the place of its matrix, and it passes
  pub completed_has_its_share : (s : ℕ) → (after u cs).progress.completion ≡ Some s
      → (s < 20) × (is_some (slot_at (after u cs) s).pair ≡ true)
  completed_has_its_share = Lives.completed_kept u taken cs

  pub kept_share_passes : (s : ℕ) (p : Pair) → s < 20 → (slot_at (after u cs) s).pair ≡ Some p
      → share_check (group u) u.k (matrix_of (slot_at (after u cs) s)) u.i p ≡ true
  kept_share_passes = Lives.kept_passes u taken cs

  -- "The pair that a box grown from set-up reports .. open[s] the first entry of the matrix completed with"
  pub reported_pair_opens : (s : ℕ) (p : Pair) → (after u cs).progress.completion ≡ Some s → (after u cs).recovered ≡ Some p
      → committed (group u) p.first.0 p.second.0 ≡ entry (matrix_of (slot_at (after u cs) s)) 0 0
  reported_pair_opens = Lives.report_opens u taken cs

  -- "A silent box adds no point: the recovered pair is a function of the held places alone,
  pub recovered_of_held_alone : (p : Pair) → (after u cs).recovered ≡ Some p → p ≡ recovered_from (order u) (share_points (after u cs).shares)
  recovered_of_held_alone = Lives.recovered_from_lem u taken cs

  -- and a place is held only by a checked message of its sender": it holds what the sender's first checked one said, and without
  -- one it is silent; a recovery share likewise
  pub place_holds_what_was_said : (s m : ℕ) → s < 20 → m < 10 → (slot_at (after u cs) s).used ≡ true
      → (place_at (slot_at (after u cs) s) m).point ≡ said u cs (m + 1) (matrix_of (slot_at (after u cs) s))
  place_holds_what_was_said = Lives.places_say u taken cs

  pub share_kept_as_said : (m : ℕ) → m < 10 → share_at (after u cs).shares m ≡ share_said u cs (m + 1)
  share_kept_as_said = Lives.shares_say u taken cs

-- ---- a box of any make: its deliveries are taken by a station that keeps the promise of a delivery

-- "One that makes up e or r breaks it too: each equals the number of different senders whose message of that tag and C was checked."
-- The station is one that keeps the promise where code has to, and the calls are such as code can be given; what counts as checked
-- is what the station itself accepted. The other useless boxes are shut out in `UselessBoxes` of `rules`.
module _ (station : Station) (keeps : Keeps station) (u : SetUp) (taken : (set_up u).answer.no ≡ 0)
    (cs : List Call) (given : AllSayable cs) (C : List (List Element)) where
  pub no_e_is_made_up : e_of (after_by station u cs) C ≡ count_below 10 (λ m. checked_by station u cs 2 (m + 1) C)
  no_e_is_made_up = Stations.e_by_station station keeps u taken cs given C

  pub no_r_is_made_up : r_of (after_by station u cs) C ≡ count_below 10 (λ m. checked_by station u cs 3 (m + 1) C)
  no_r_is_made_up = Stations.r_by_station station keeps u taken cs given C

-- ---- a class in which all boxes keep the rules, in any history with one deal

module _ (c : Class) (secret : ℕ) (coins : List ℕ) (h : AllKeep c secret coins) (es : List Event) (only : DealsOnly c secret coins es)
    (i : ℕ) (box-i : is_box c.numbers i ≡ true) where
  -- "where all points used came from such messages": every held point is a dealt one,
  pub held_points_are_dealt : (s m : ℕ) (f : Four) → s < 20 → m < 10 → (place_at (slot_at (record_of c es i) s) m).point ≡ Held f
      → f ≡ dealt_point c.numbers secret coins (m + 1) i
  held_points_are_dealt = Honest.point_is_dealt c secret coins h es only i box-i

  -- "the completed share is f(i, 0), f'(i, 0)",
  pub completed_share_is_dealt : (s : ℕ) → (record_of c es i).progress.completion ≡ Some s
      → (slot_at (record_of c es i) s).pair ≡ Some (dealt_share c.numbers secret coins i)
  completed_share_is_dealt = Honest.completed_share_is_dealt c secret coins h es only i box-i

  -- and what is recovered is the secret
  pub recovered_is_the_secret : (p : Pair) → (record_of c es i).recovered ≡ Some p
      → (p.first.0 ≡ secret) × (p.second.0 ≡ get_or coins (c.numbers.k * c.numbers.k - 1) 0)
  recovered_is_the_secret = Honest.recovered_is_the_secret c secret coins h es only i box-i

-- ---- the recovery sheet

module _ (b : List ℕ) where
  -- a sheet on which every test passes and k boxes are verified prints a line for each box and the secret of the k lowest,
  pub sheet_prints_its_secret : Opens b
      → printed b
      ≡ box_lines (group_of (numbers b).group) (numbers b).k (matrix b) (numbers b).n (says b)
      ++ secret_line (secret b) (take (numbers b).k (share_points (verified b)))
  sheet_prints_its_secret = SheetOpens.sheet_prints b

  -- "and the pair that the sheet prints, open[s] the first entry of the matrix .. printed on the sheet",
  pub sheet_secret_opens : Opens b → committed (group_of (numbers b).group) (secret b).first.0 (secret b).second.0 ≡ entry (matrix b) 0 0
  sheet_secret_opens = SheetOpens.sheet_opens b

  -- "the sheet's secret is that of the verified boxes alone": a box is verified by its own pair, which passes the share check,
  pub sheet_verifies_what_is_said : (m : ℕ) (p : Pair) → m < 10 → share_at (verified b) m ≡ Some p
      → (share_at (says b) m ≡ Some p) × (share_check (group_of (numbers b).group) (numbers b).k (matrix b) (m + 1) p ≡ true)
  sheet_verifies_what_is_said = SheetOpens.sheet_verified b

  -- and a silent one never is
  pub silent_box_is_not_verified : (m : ℕ) → m < 10 → share_at (says b) m ≡ None → share_at (verified b) m ≡ None
  silent_box_is_not_verified = SheetOpens.sheet_silent b

-- ==== DEMAND 3

-- "A map of the dealer's coins for the one to coins for the other, shown one to one and onto (with its way back)": it gives
-- coins that a deal takes, and its way back is itself with the secrets exchanged. It is made of the numbers of the class, the
-- set and the two secrets; it knows no history.
module _ (u : SetUp) (s : Sound u) (A : ℕ → Bool) (few : Few u A) (secret secret' : ℕ) (low : secret < order u) (low' : secret' < order u)
    (coins : List ℕ) (keep : coins_keep u secret coins ≡ true) where
  pub matching_coins_keep : coins_keep u secret' (matching u A secret secret' coins) ≡ true
  matching_coins_keep = Matching.matching_keeps u s A few secret secret' low low' coins keep

  pub matching_coins_go_back : matching u A secret' secret (matching u A secret secret' coins) ≡ coins
  matching_coins_go_back = Matching.matching_back u s A few secret secret' low low' coins keep

-- "take any set of at most k - 1 boxes without the dealer and any two secrets below q": with the matching coins, every script
-- looks the same: every byte delivered to the set, and every answer, count and completed matrix of the other boxes. The script is
-- any list of events in which "no recovery has been commanded": no box that keeps the rules has its mark at the end of the first
-- run, where a command that was refused left none. What the script has the dealer deal is this secret with these coins (a second
-- deal gets 13); a deal of coins that are out of range, which gets 14, is left as it is. That a deal is of its secret and its coins
-- is `deal_writes_the_sends`.
module _ (c : Class) (group : group_keeps c.numbers ≡ true) (numbers : numbers_keep (own c.numbers c.numbers.d) ≡ true)
    (few : Few c.numbers c.breaks) (dealer : c.breaks c.numbers.d ≡ false)
    (secret secret' : ℕ) (low : secret < order c.numbers) (low' : secret' < order c.numbers)
    (coins : List ℕ) (keep : coins_keep c.numbers secret coins ≡ true) where
  abbrev pub coins* : List ℕ
  coins* = matching c.numbers c.breaks secret secret' coins

  pub two_secrets_look_the_same : (script : List Event) → Uncommanded c (played c.numbers secret coins script)
      → Alike c (played c.numbers secret coins script) (played c.numbers secret' coins* script)
  two_secrets_look_the_same = Hiding.hides c group numbers few dealer secret secret' low low' coins keep

  -- and so it is for a set that answers to what it sees: its strategy says what happens next, by all that it has seen so far
  pub two_secrets_look_the_same_to_any_strategy : (strategy : Strategy) (n : ℕ)
      → Uncommanded c (played c.numbers secret coins (script_by c strategy secret coins n))
      → Alike c (played c.numbers secret coins (script_by c strategy secret coins n))
      (played c.numbers secret' coins* (script_by c strategy secret' coins* n))
  two_secrets_look_the_same_to_any_strategy = Hiding.hides_adaptively c group numbers few dealer secret secret' low low' coins keep

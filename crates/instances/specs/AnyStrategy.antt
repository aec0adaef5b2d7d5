-- Demand 3 for a set that answers to what it has seen: in the class of Script boxes 2 and 4 echo by what they read in the messages that
-- they got. Lists have the latest first.
--
-- In order: a run by a strategy, computed event by event; the strategy, and that it goes by what is seen; what is computed of both
-- runs; what it comes to; what the theorem says of it.
-- Assumes nothing.
use Rattle.std.specs.Prelude.{◌≡◌, Bool, true, false, List, [], ◌∷◌, get_or}
use Rattle.std.proofs.Math.Path.{refl, ap}
use Rattle.std.proofs.Common.{sym, subst, ◌∙◌}
use Prim.Native.Nat.{ℕ, zero, suc}
use Rattle.std.specs.Prelude.{Some, None}
use Rattle.rules.specs.declared.Four.{Four}
use Rattle.rules.specs.declared.Pair.{Pair}
use Rattle.rules.specs.Numbers.{is_box}
use Rattle.rules.specs.Matrices.{α, α', β, β'}
use Rattle.rules.specs.declared.Message.{Message}
use Rattle.rules.specs.declared.Message.TheVariants.{Send as send, Echo as echo, Ready as ready}
use Rattle.rules.specs.Messages.{bytes_of, matrix_in, polynomials_in, four_in}
use Rattle.rules.specs.Steps.{echo_four}
use Rattle.rules.specs.Computed.{computed}
use Rattle.rules.specs.HandSums.{four, pair}
use Rattle.demands.specs.Terms.Histories.{doing, message_to, Class, keeps, may_break, Event, deal_at, record_of, seen}
use Rattle.demands.specs.Terms.Dealing.{order, dealt_to, dealt_point}
use Rattle.demands.specs.Terms.Secrets.{matching, dealing, played, Uncommanded, Alike, Strategy, script_by}
use Rattle.demands.specs.Demands.{two_secrets_look_the_same_to_any_strategy}
use Rattle.instances.specs.Replay.{Past, takes, life, Run, box_in, found, box_next, seen_next, next, replay, told_of, replay_seen, replayed}
use Rattle.instances.specs.SameLists.{same_list, same_lists, same_lists_lem}
use Rattle.instances.specs.Script.{numbers, set, room, few, coins, coins_keep_lem, D, point, low_5, low_0, coins*, matches, rival_coins, rival, handed, forges}
use Rattle.instances.specs.Hidden.{Sight, sight_of, the_others, group_keeps_lem, numbers_keep_lem}

-- ---- a run by a strategy

-- the script so far, and the run of it
record Play : Type 0 where
  script : List Event
  run : Run

module _ (c : Class) (strategy : Strategy) (secret : ℕ) (coins : List ℕ) where
  -- one event more, by what is seen
  abbrev more : ℕ → List (List ℕ) → Play → Play
  more n saw p =
      record { script = strategy n saw ∷ p.script; run = next c (dealing c.numbers secret coins (strategy n saw)) p.run }

  unfoldable plays : ℕ → Play
  plays zero = record { script = []; run = replay c [] }
  plays (suc n) =
      let p : Play = plays n in
      more n p.run.saw p

  abbrev script : ℕ → List Event
  script n = script_by c strategy secret coins n

  abbrev events : ℕ → List Event
  events n = played c.numbers secret coins (script n)

  -- it is the script that Secrets says, and the run of it
  plays_script : (n : ℕ) → plays n ≡ record { script = script n; run = replay c (events n) }
  unfolding plays script_by played replay
  plays_script zero = refl
  plays_script (suc n) =
      ap (λ (p : Play). more n p.run.saw p) (plays_script n)
      ∙ ap (λ saw. more n saw (record { script = script n; run = replay c (events n) })) (replay_seen c (events n))

-- ---- the strategy

-- what box 2 would echo to box 3, by the send that it got
abbrev echoes : List ℕ → Message
echoes bytes = echo (matrix_in numbers bytes) (echo_four (order numbers) 3 (polynomials_in numbers bytes) 3)

-- what box 4 would echo to a box, by the echo that it got of it: the same numbers, the other way round
abbrev turned : Four → Four
turned f = four (β f) (β' f) (α f) (α' f)

abbrev returns : List ℕ → Message
returns bytes = echo (matrix_in numbers bytes) (turned (four_in numbers bytes))

-- box 1 deals; boxes 2 and 3 get their sends, and box 4 the echo of box 3. Boxes 2 and 4 echo to box 3 by what the set has seen; at the
-- echoes of boxes 3 and 5 it sends ready, which goes to box 2
abbrev plan : List (List ℕ) → List Event
plan saw =
    deal_at 1 5 coins 2048
    ∷ handed 1 2 0
    ∷ handed 1 3 0
    ∷ handed 3 4 0
    ∷ forges 2 3 (echoes (get_or saw 1 []))
    ∷ forges 4 3 (returns (get_or saw 0 []))
    ∷ handed 3 3 0
    ∷ handed 1 5 0
    ∷ handed 5 3 0
    ∷ handed 3 2 1
    ∷ []

abbrev pub strategy : Strategy
strategy n saw = get_or (plan saw) n (handed 1 2 0)

-- what box 4 says in the sixth event, after the echo of a deal and after that of another
pub record Depends : Type 0 where
  pub on_this : strategy 5 (bytes_of numbers (echo D (point 3 4)) ∷ []) ≡ forges 4 3 (echo D (point 4 3))
  pub on_that : strategy 5 (bytes_of numbers (echo rival (dealt_point numbers 5 rival_coins 3 4)) ∷ [])
      ≡ forges 4 3 (echo rival (dealt_point numbers 5 rival_coins 4 3))

pub depends : Depends
unfolding computed
depends = record { on_this = refl; on_that = refl }

-- ---- what is computed of both runs

-- the script that it makes, and what the set has seen in the end
abbrev made : List Event
made =
    handed 3 2 1
    ∷ handed 5 3 0
    ∷ handed 1 5 0
    ∷ handed 3 3 0
    ∷ forges 4 3 (echo D (point 4 3))
    ∷ forges 2 3 (echo D (point 2 3))
    ∷ handed 3 4 0
    ∷ handed 1 3 0
    ∷ handed 1 2 0
    ∷ deal_at 1 5 coins 2048
    ∷ []

abbrev to_set : List (List ℕ)
to_set =
    bytes_of numbers (ready D (point 3 2))
    ∷ bytes_of numbers (echo D (point 3 4))
    ∷ bytes_of numbers (send D (dealt_to numbers 5 coins 2))
    ∷ []

-- what is looked at, computed at once
record Looks : Type 0 where
  script : List Event
  saw : Bool
  box_3 : Sight
  commanded_1 : Bool
  commanded_5 : Bool

abbrev look : List Event → List (List ℕ) → Past → Past → Past → Looks
look script saw b c d =
    record {
      script = script;
      saw = same_lists saw to_set;
      box_3 = sight_of c 0;
      commanded_1 = b.left.progress.commanded;
      commanded_5 = d.left.progress.commanded;
    }

abbrev look_at : Play → Looks
look_at p = look p.script p.run.saw (box_in p.run 1) (box_in p.run 3) (box_in p.run 5)

abbrev sight_3 : Pair → Sight
sight_3 p =
    record { told = 0 ∷ 0 ∷ 0 ∷ 0 ∷ 0 ∷ []; completed = None; matrix = D; e = 4; r = 0; kept = Some p; commanded = false }

abbrev looks_so : Pair → Looks
looks_so p = record { script = made; saw = true; box_3 = sight_3 p; commanded_1 = false; commanded_5 = false }

looks : look_at (plays room strategy 5 coins 10) ≡ looks_so (pair 10 1)
unfolding computed doing message_to keeps may_break takes life found box_next seen_next next replay same_list same_lists plays
looks = refl

looks* : look_at (plays room strategy 0 coins* 10) ≡ looks_so (pair 1 9)
unfolding computed doing message_to keeps may_break takes life found box_next seen_next next replay same_list same_lists plays
looks* = refl

-- ---- what it comes to

pub record Happens (secret : ℕ) (coins : List ℕ) (p : Pair) : Type 0 where
  pub script : script_by room strategy secret coins 10 ≡ made
  pub saw : seen room (events room strategy secret coins 10) ≡ to_set
  -- box 3 accepts its send and all four echoes, sends ready, and keeps this pair
  pub box_3 : sight_of (told_of room (events room strategy secret coins 10) 3) 0 ≡ sight_3 p
  pub uncommanded : Uncommanded room (events room strategy secret coins 10)

as_computed : (secret : ℕ) (coins : List ℕ) (p : Pair) → look_at (plays room strategy secret coins 10) ≡ looks_so p → Happens secret coins p
unfolding is_box
as_computed secret coins p h =
    let es = events room strategy secret coins 10 in
    let all =
    replayed room (look (script_by room strategy secret coins 10)) es 1 3 5 refl refl refl
    ∙ ap look_at (sym (plays_script room strategy secret coins 10))
    ∙ h in
    record {
      script = ap (λ l. l.script) all;
      saw = same_lists_lem (seen room es) to_set (ap (λ l. l.saw) all);
      box_3 = ap (λ l. l.box_3) all;
      uncommanded =
          the_others (λ i. (record_of room es i).progress.commanded ≡ false)
          (ap (λ l. l.commanded_1) all) (ap (λ l. l.box_3.commanded) all) (ap (λ l. l.commanded_5) all);
    }

pub with_5 : Happens 5 coins (pair 10 1)
with_5 = as_computed 5 coins (pair 10 1) looks

-- the pair that box 3 keeps is another, and nothing else
pub with_0 : Happens 0 (matching numbers set 5 0 coins) (pair 1 9)
with_0 = subst (λ (cs : List ℕ). Happens 0 cs (pair 1 9)) (sym matches) (as_computed 0 coins* (pair 1 9) looks*)

-- ---- what the theorem says of it

pub hidden : Alike room (events room strategy 5 coins 10) (events room strategy 0 (matching numbers set 5 0 coins) 10)
hidden =
    two_secrets_look_the_same_to_any_strategy room group_keeps_lem numbers_keep_lem few refl 5 0 low_5 low_0 coins coins_keep_lem strategy 10
    with_5.uncommanded

-- A class in which all boxes keep the rules: that of document 01's hand sums, from the deal of the secret 5 to its recovery. Lists have
-- the latest first.
--
-- In order: the class and its history; what is computed of it; what it comes to; that there is one deal; what the theorems say of it.
-- Assumes nothing.
use Rattle.std.specs.Prelude.{◌≡◌, refl, true, false, List, [], ◌∷◌, ◌++◌, map, ℕ}
use Rattle.std.proofs.Common.{ap, ◌∙◌, arith}
use Rattle.rules.specs.declared.Answer.{Answer}
use Rattle.std.specs.Prelude.{Option, Some, None}
use Rattle.rules.specs.declared.Four.{Four}
use Rattle.rules.specs.declared.Pair.{Pair}
use Rattle.rules.specs.declared.Point.{Point}
use Rattle.rules.specs.declared.Point.TheVariants.{Held}
use Rattle.rules.specs.declared.Record.{Record}
use Rattle.rules.specs.Numbers.{is_box, numbers_keep}
use Rattle.rules.specs.Record.{slot_at, place_at}
use Rattle.rules.specs.Computed.{computed}
use Rattle.rules.specs.HandSums.{class, coins, four, pair}
use Rattle.demands.specs.Terms.Histories.{deals, doing, after, message_to, Class, keeps, may_break, Event, deal_at, command_at, calls, record_of}
use Rattle.demands.specs.Terms.Dealing.{dealt_point, dealt_share}
use Rattle.demands.specs.Terms.Honest.{Past, AllKeep, DealsOnly}
use Rattle.demands.specs.Histories.{calls_past}
use Rattle.demands.specs.Honest.{dealt_once, dealt_keeps_lem}
use Rattle.demands.specs.Demands.{held_points_are_dealt, completed_share_is_dealt, recovered_is_the_secret}
use Rattle.instances.specs.Boxes.{class_sound}
use Rattle.instances.specs.Script.{handed}
use Rattle.instances.specs.Replay as Replay
use Rattle.instances.specs.Replay.{takes, life, Run, box_in, found, box_next, seen_next, next, replay, told_of, replayed}

-- ---- the history

abbrev room : Class
room = record { numbers = class; breaks = λ _. false }

-- the dealer is lent too short a buffer, and deals
abbrev early : List Event
early = deal_at 1 5 coins 2047 ∷ []

abbrev dealt : List Event
dealt = deal_at 1 5 coins 2048 ∷ early

-- it is to deal another secret; each box gets its send, box 3 twice
abbrev sends : List Event
sends =
    handed 1 3 0
    ∷ handed 1 4 0
    ∷ handed 1 3 0
    ∷ handed 1 2 0
    ∷ handed 1 1 0
    ∷ deal_at 1 6 coins 2048
    ∷ []

-- boxes 2 and 3 get three echoes each, and send ready
abbrev echoes : List Event
echoes =
    handed 4 3 0
    ∷ handed 2 3 0
    ∷ handed 1 3 1
    ∷ handed 4 2 0
    ∷ handed 3 2 0
    ∷ handed 1 2 1
    ∷ []

-- box 1 gets both readies, and sends ready; boxes 2 and 3 complete by those of 1, 2, 3
abbrev readies : List Event
readies =
    handed 3 3 1
    ∷ handed 2 3 1
    ∷ handed 1 3 2
    ∷ handed 3 2 1
    ∷ handed 2 2 1
    ∷ handed 1 2 2
    ∷ handed 3 1 1
    ∷ handed 2 1 1
    ∷ []

-- boxes 2 and 3 are told to recover, and box 2 does
abbrev shares : List Event
shares = handed 3 2 2 ∷ handed 2 2 2 ∷ command_at 3 2048 ∷ command_at 2 2048 ∷ []

abbrev since : List Event
since = shares ++ (readies ++ (echoes ++ sends))

abbrev pub history : List Event
history = since ++ dealt

-- ---- what is computed of it

-- of one box: the numbers that it answers, the place that it completed with, the pair that it keeps there and the one recovered, and
-- what it holds of box 3
pub record Sight : Type 0 where
  pub told : List ℕ
  pub completed : Option ℕ
  pub kept : Option Pair
  pub recovered : Option Pair
  pub held : Point

abbrev sight_of : Replay.Past → Sight
sight_of b =
    record {
      told = map (λ (a : Answer). a.no) b.told;
      completed = b.left.progress.completion;
      kept = (slot_at b.left 0).pair;
      recovered = b.left.recovered;
      held = (place_at (slot_at b.left 0) 2).point;
    }

-- what is looked at, computed at once
record Looks : Type 0 where
  box_1 : Sight
  box_2 : Sight
  box_3 : Sight

abbrev look : List (List ℕ) → Replay.Past → Replay.Past → Replay.Past → Looks
look saw b c d = record { box_1 = sight_of b; box_2 = sight_of c; box_3 = sight_of d }

abbrev sight_1 : Sight
sight_1 =
    record {
      told = 0 ∷ 0 ∷ 0 ∷ 13 ∷ 0 ∷ 15 ∷ [];
      completed = None;
      kept = Some (pair 7 8);
      recovered = None;
      held = Held (four 4 0 6 9);
    }

abbrev sight_2 : Sight
sight_2 =
    record {
      told = 0 ∷ 0 ∷ 0 ∷ 0 ∷ 0 ∷ 0 ∷ 0 ∷ 0 ∷ 0 ∷ 0 ∷ [];
      completed = Some 0;
      kept = Some (pair 9 4);
      recovered = Some (pair 5 1);
      held = Held (four 8 0 9 10);
    }

abbrev sight_3 : Sight
sight_3 =
    record {
      told = 0 ∷ 0 ∷ 0 ∷ 0 ∷ 0 ∷ 0 ∷ 0 ∷ 7 ∷ 0 ∷ [];
      completed = Some 0;
      kept = Some (pair 0 0);
      recovered = None;
      held = Held (four 1 0 1 0);
    }

abbrev look_at : Run → Looks
look_at run = look run.saw (box_in run 1) (box_in run 2) (box_in run 3)

looks : look_at (replay room history)
    ≡ record { box_1 = sight_1; box_2 = sight_2; box_3 = sight_3 }
unfolding computed doing message_to keeps may_break takes life found box_next seen_next next replay
looks = refl

-- ---- what it comes to

-- of box i after the history, as Histories says
abbrev at : ℕ → Sight
at i = sight_of (told_of room history i)

pub record Happens : Type 0 where
  -- box 1 sends ready, and is too short of readies to complete
  pub box_1 : at 1 ≡ sight_1
  -- box 2 completes and recovers, and box 3 completes
  pub box_2 : at 2 ≡ sight_2
  pub box_3 : at 3 ≡ sight_3

pub happens : Happens
unfolding is_box
happens =
    let all = replayed room look history 1 2 3 refl refl refl ∙ looks in
    record { box_1 = ap (λ l. l.box_1) all; box_2 = ap (λ l. l.box_2) all; box_3 = ap (λ l. l.box_3) all }

-- ---- there is one deal

numbers_keep_lem : numbers_keep class ≡ true
unfolding computed
numbers_keep_lem = refl

accepted : (doing (after class (calls room early 1)) (deals 5 coins 2048)).outcome.answer.no ≡ 0
unfolding computed doing after keeps calls
accepted = refl

in_history : Past (deals 5 coins 2048 ∷ calls room early 1) (calls room history 1)
unfolding calls keeps is_box
in_history = calls_past room dealt history 1 (since, refl)

all_keep : AllKeep room 5 coins
all_keep =
    record {
      deal = dealt_keeps_lem room class_sound.group_keeps_lem numbers_keep_lem history 5 coins 2048 (calls room early 1) in_history accepted;
      boxes = λ i b. refl;
    }

pub one_deal : DealsOnly room 5 coins history
one_deal = dealt_once room class_sound.group_keeps_lem numbers_keep_lem history 5 coins 2048 (calls room early 1) in_history accepted

-- ---- what the theorems say of it

abbrev end : ℕ → Record
end i = record_of room history i

pub record Dealt : Type 0 where
  -- what boxes 1 and 2 hold of box 3, and what that is
  pub held_1 : (f : Four) → (place_at (slot_at (end 1) 0) 2).point ≡ Held f → f ≡ dealt_point class 5 coins 3 1
  pub held_2 : (f : Four) → (place_at (slot_at (end 2) 0) 2).point ≡ Held f → f ≡ dealt_point class 5 coins 3 2
  pub points : (dealt_point class 5 coins 3 1 ≡ four 4 0 6 9) × (dealt_point class 5 coins 3 2 ≡ four 8 0 9 10)
  -- the shares of boxes 2 and 3, and P2
  pub share_2 : (slot_at (end 2) 0).pair ≡ Some (dealt_share class 5 coins 2)
  pub share_3 : (slot_at (end 3) 0).pair ≡ Some (dealt_share class 5 coins 3)
  pub P2 : (dealt_share class 5 coins 2 ≡ pair 9 4) × (dealt_share class 5 coins 3 ≡ pair 0 0)
  -- what box 2 recovers
  pub recovered : (p : Pair) → (end 2).recovered ≡ Some p → (p.first.0 ≡ 5) × (p.second.0 ≡ 1)

as_by_hand : (dealt_point class 5 coins 3 1 ≡ four 4 0 6 9)
    × (dealt_point class 5 coins 3 2 ≡ four 8 0 9 10)
    × (dealt_share class 5 coins 2 ≡ pair 9 4)
    × (dealt_share class 5 coins 3 ≡ pair 0 0)
unfolding computed
as_by_hand = (refl, refl, refl, refl)

pub all_dealt : Dealt
unfolding is_box
all_dealt =
    record {
      held_1 = λ f. held_points_are_dealt room 5 coins all_keep history one_deal 1 refl 0 2 f (omega arith) (omega arith);
      held_2 = λ f. held_points_are_dealt room 5 coins all_keep history one_deal 2 refl 0 2 f (omega arith) (omega arith);
      points = (as_by_hand.0, as_by_hand.1);
      share_2 = completed_share_is_dealt room 5 coins all_keep history one_deal 2 refl 0 (ap (λ s. s.completed) happens.box_2);
      share_3 = completed_share_is_dealt room 5 coins all_keep history one_deal 3 refl 0 (ap (λ s. s.completed) happens.box_3);
      P2 = (as_by_hand.2, as_by_hand.3);
      recovered = recovered_is_the_secret room 5 coins all_keep history one_deal 2 refl;
    }

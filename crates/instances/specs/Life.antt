-- The life of the calls of Calls. Lists have the latest first.
--
-- In order: what is computed of it; what it comes to. What the theorems of `Demands` say of it stands in `LifeSays`, `Sent`, `Heard`
-- and `AnyMake`.
-- Assumes nothing.
use Rattle.rules.specs.declared.Pair.{Pair}
use Rattle.std.specs.Prelude.{◌≡◌, refl, Bool, true, false, List, [], ◌∷◌, map, ℕ, ◌+◌, length, get_or, take, drop}
use Rattle.std.proofs.Common.{sym, ap, ◌∙◌}
use Rattle.rules.specs.declared.Answer.{Answer}
use Rattle.std.specs.Prelude.{Option, Some}
use Rattle.rules.specs.declared.Element.{Element}
use Rattle.rules.specs.declared.Four.{Four}
use Rattle.rules.specs.declared.Point.{Point}
use Rattle.rules.specs.declared.Point.TheVariants.{Held}
use Rattle.rules.specs.declared.Record.{Record}
use Rattle.rules.specs.declared.Sent.{Sent}
use Rattle.rules.specs.declared.Sent.TheVariants.{Nothing, Send, Echo, Ready, Recovery}
use Rattle.rules.specs.Messages.{tag_in}
use Rattle.rules.specs.Record.{slot_at, place_at, share_at, heard_for, matrix_of, zero_record}
use Rattle.rules.specs.Steps.{Said, points, own_slot}
use Rattle.rules.specs.Answers.{set_up}
use Rattle.rules.specs.Computed.{computed}
use Rattle.rules.specs.HandSums.{class, pair, point}
use Rattle.demands.specs.Terms.Histories.{doing, after, answers, sendings}
use Rattle.demands.specs.Terms.Lives.{checks_now, e_of, r_of, kept_for, is_send, is_echo, is_recovery, how_many, readies_sent}
use Rattle.instances.specs.Replay.{Past, takes, life, came_to, life_lived, readies_at, readies_sent_lem}
use Rattle.instances.specs.Calls.{D, early, first, twice, hearing, before, moment, finished, play}

-- ---- what is computed of it

-- the numbers that the calls get, and what they send
abbrev pub answered : List ℕ
answered = 0 ∷ 7 ∷ 0 ∷ 10 ∷ 13 ∷ 0 ∷ 15 ∷ 0 ∷ 7 ∷ 0 ∷ 0 ∷ 0 ∷ 10 ∷ 0 ∷ 13 ∷ 7 ∷ 0 ∷ 0 ∷ 14 ∷ 15 ∷ []

abbrev pub kinds : List Sent
kinds =
    Nothing ∷ Nothing ∷ Nothing ∷ Nothing ∷ Nothing ∷ Recovery ∷ Nothing ∷ Nothing ∷ Nothing ∷ Ready
    ∷ Nothing ∷ Nothing ∷ Nothing ∷ Nothing ∷ Nothing ∷ Nothing ∷ Echo ∷ Send ∷ Nothing ∷ Nothing ∷ []

begins : ((set_up class).answer.no ≡ 0) × (tag_in first ≡ 1)
unfolding computed
begins = (refl, refl)

-- what is looked at, computed at once
record Looks : Type 0 where
  numbers : List ℕ
  kinds : List Sent
  sent : List ℕ
  completed : Option ℕ
  used : Bool
  matrix : List (List Element)
  e : ℕ
  r : ℕ
  held : Point
  pair_kept : Option Pair
  kept : Option Pair
  share : Option Pair
  recovered : Option Pair
  -- how often it has dealt, before its deal and in all; echoed; completed; sent its share, before it was told to and in all
  sends_early : ℕ
  sends : ℕ
  echoes : ℕ
  completions : ℕ
  shares_early : ℕ
  shares : ℕ
  -- how often ready was sent: in all, up to the second ready, and before it
  readies : ℕ
  readies_then : ℕ
  readies_before : ℕ
  -- the lowest points held at the second ready, and the pair kept
  lowest_then : List (Said Four)
  pair_then : Option Pair
  -- what it had completed with when it was told to recover
  completed_then : Option ℕ
  share_then : Option Pair
  -- whether box 2, and 3, were heard before their echoes
  heard_2 : Bool
  heard_3 : Bool

-- the k lowest points that are held for the matrix
abbrev pub lowest : Record → List (Said Four)
lowest x = take 2 (points (slot_at x (own_slot x D)).places)

-- the record that the call with so many since came to
abbrev came : Past → ℕ → Record
came b since = get_or b.came since zero_record

abbrev look : Past → Looks
look b =
    record {
      numbers = map (λ (a : Answer). a.no) b.told;
      kinds = map (λ (a : Answer). a.sent) b.told;
      sent = map length b.sent;
      completed = b.left.progress.completion;
      used = (slot_at b.left 0).used;
      matrix = matrix_of (slot_at b.left 0);
      e = e_of b.left D;
      r = r_of b.left D;
      held = (place_at (slot_at b.left 0) 2).point;
      pair_kept = (slot_at b.left 0).pair;
      kept = kept_for b.left D;
      share = share_at b.left.shares 2;
      recovered = b.left.recovered;
      sends_early = how_many (λ (a : Answer). is_send a.sent) (drop 18 b.told);
      sends = how_many (λ (a : Answer). is_send a.sent) b.told;
      echoes = how_many (λ (a : Answer). is_echo a.sent) b.told;
      completions = how_many (λ (a : Answer). a.completed) b.told;
      shares_early = how_many (λ (a : Answer). is_recovery a.sent) (drop 6 b.told);
      shares = how_many (λ (a : Answer). is_recovery a.sent) b.told;
      readies = readies_at D b.made b.came b.told;
      readies_then = readies_at D (drop 9 b.made) (drop 9 b.came) (drop 9 b.told);
      readies_before = readies_at D (drop 10 b.made) (drop 10 b.came) (drop 10 b.told);
      lowest_then = lowest (came b 8);
      pair_then = kept_for (came b 8) D;
      completed_then = (came b 5).progress.completion;
      share_then = (slot_at (came b 5) 0).pair;
      heard_2 = heard_for (came b 13) 2 1;
      heard_3 = heard_for (came b 12) 2 2;
    }

looks : look (life class play)
    ≡ record {
      numbers = answered;
      kinds = kinds;
      sent = 124 ∷ 92 ∷ 92 ∷ 40 ∷ [];
      completed = Some 0;
      used = true;
      matrix = D;
      e = 2;
      r = 3;
      held = Held (point 3);
      pair_kept = Some (pair 7 8);
      kept = Some (pair 7 8);
      share = Some (pair 0 0);
      recovered = Some (pair 5 1);
      sends_early = 0;
      sends = 1;
      echoes = 1;
      completions = 1;
      shares_early = 0;
      shares = 1;
      readies = 1;
      readies_then = 1;
      readies_before = 0;
      lowest_then = record { box = 1; says = point 1 } ∷ record { box = 2; says = point 2 } ∷ [];
      pair_then = Some (pair 7 8);
      completed_then = Some 0;
      share_then = Some (pair 7 8);
      heard_2 = false;
      heard_3 = false;
    }
unfolding computed doing life takes e_of r_of kept_for how_many checks_now readies_at
looks = refl

-- ---- what it comes to

abbrev pub then : Record
then = after class (moment ∷ before)

abbrev pub end : Record
end = after class play

pub record Life : Type 0 where
  pub taken : (set_up class).answer.no ≡ 0
  -- the send is checked
  pub tag : tag_in first ≡ 1
  pub numbers : map (λ (a : Answer). a.no) (answers class play) ≡ answered
  pub kinds : map (λ (a : Answer). a.sent) (answers class play) ≡ kinds
  -- four sends, four echoes, four readies, four recovery shares
  pub sent : map length (sendings class play) ≡ 124 ∷ 92 ∷ 92 ∷ 40 ∷ []
  pub completed : end.progress.completion ≡ Some 0
  pub used : (slot_at end 0).used ≡ true
  pub matrix : matrix_of (slot_at end 0) ≡ D
  -- echoes of 2 and 4, readies of 1, 2, 3
  pub e : e_of end D ≡ 2
  pub r : r_of end D ≡ 3
  pub held : (place_at (slot_at end 0) 2).point ≡ Held (point 3)
  pub pair_kept : (slot_at end 0).pair ≡ Some (pair 7 8)
  -- the share of box 3 is truly 0, 0
  pub shared : share_at end.shares 2 ≡ Some (pair 0 0)
  pub recovered : end.recovered ≡ Some (pair 5 1)
  pub sends_early : how_many (λ (a : Answer). is_send a.sent) (answers class early) ≡ 0
  pub sends : how_many (λ (a : Answer). is_send a.sent) (answers class play) ≡ 1
  pub echoes : how_many (λ (a : Answer). is_echo a.sent) (answers class play) ≡ 1
  pub readies : readies_sent class play D ≡ 1
  pub completions : how_many (λ (a : Answer). a.completed) (answers class play) ≡ 1
  pub shares_early : how_many (λ (a : Answer). is_recovery a.sent) (answers class finished) ≡ 0
  pub shares : how_many (λ (a : Answer). is_recovery a.sent) (answers class play) ≡ 1
  -- the pair was kept when ready was sent, out of the points of 1 and 2, and stays
  pub sends_ready : readies_sent class (moment ∷ before) D ≡ readies_sent class before D + 1
  pub lowest : lowest then ≡ record { box = 1; says = point 1 } ∷ record { box = 2; says = point 2 } ∷ []
  pub kept : kept_for then D ≡ Some (pair 7 8)
  pub stays : kept_for end D ≡ Some (pair 7 8)
  -- it has completed when it is told to recover
  pub completed_then : (after class finished).progress.completion ≡ Some 0
  pub share_then : (slot_at (after class finished) 0).pair ≡ Some (pair 7 8)
  -- nobody is heard before its echo
  pub heard_2 : heard_for (after class twice) 2 1 ≡ false
  pub heard_3 : heard_for (after class hearing) 2 2 ≡ false

pub one_life : Life
unfolding came_to answers
one_life =
    let all = ap look (sym (life_lived class play)) ∙ looks in
    record {
      taken = begins.0;
      tag = begins.1;
      numbers = ap (λ l. l.numbers) all;
      kinds = ap (λ l. l.kinds) all;
      sent = ap (λ l. l.sent) all;
      completed = ap (λ l. l.completed) all;
      used = ap (λ l. l.used) all;
      matrix = ap (λ l. l.matrix) all;
      e = ap (λ l. l.e) all;
      r = ap (λ l. l.r) all;
      held = ap (λ l. l.held) all;
      pair_kept = ap (λ l. l.pair_kept) all;
      shared = ap (λ l. l.share) all;
      recovered = ap (λ l. l.recovered) all;
      sends_early = ap (λ l. l.sends_early) all;
      sends = ap (λ l. l.sends) all;
      echoes = ap (λ l. l.echoes) all;
      readies = sym (readies_sent_lem class D play) ∙ ap (λ l. l.readies) all;
      completions = ap (λ l. l.completions) all;
      shares_early = ap (λ l. l.shares_early) all;
      shares = ap (λ l. l.shares) all;
      sends_ready =
          sym (readies_sent_lem class D (moment ∷ before))
          ∙ ap (λ l. l.readies_then) all
          ∙ ap (λ n. n + 1) (sym (ap (λ l. l.readies_before) all) ∙ readies_sent_lem class D before);
      lowest = ap (λ l. l.lowest_then) all;
      kept = ap (λ l. l.pair_then) all;
      stays = ap (λ l. l.kept) all;
      completed_then = ap (λ l. l.completed_then) all;
      share_then = ap (λ l. l.share_then) all;
      heard_2 = ap (λ l. l.heard_2) all;
      heard_3 = ap (λ l. l.heard_3) all;
    }

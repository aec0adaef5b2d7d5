-- What the theorems of `Demands` say of the life of Life.
--
-- In order: what is sent once; what is counted, held, kept, completed and recovered. Its bytes stand in `Sent`, who is heard in
-- `Heard`.
-- Assumes nothing.
use Rattle.std.specs.Prelude.{◌≡◌, refl, true, ◌∷◌, ◌+◌, ◌≤◌, eqb, get_or}
use Rattle.std.proofs.Common.{sym, ap, subst, ◌∙◌, arith}
use Rattle.folds.specs.Below.{count_below}
use Rattle.rules.specs.declared.Answer.{Answer}
use Rattle.std.specs.Prelude.{Some, is_some}
use Rattle.rules.specs.declared.Point.TheVariants.{Held}
use Rattle.rules.specs.Matrices.{entry}
use Rattle.rules.specs.declared.Message.TheVariants.{Echo as echo}
use Rattle.rules.specs.Messages.{matrix_in, polynomials_in, to_each}
use Rattle.rules.specs.Dealing.{coins_keep, committed, share_check}
use Rattle.rules.specs.Record.{slot_at, matrix_of, sound}
use Rattle.rules.specs.Steps.{share_points, pair_from, echo_four, recovered_from}
use Rattle.rules.specs.Computed.{computed}
use Rattle.rules.specs.HandSums.{class, coins, pair, point}
use Rattle.demands.specs.Terms.Histories.{deals, gets, commanded, doing, after, answers, wrote}
use Rattle.demands.specs.Terms.Dealing.{group, order}
use Rattle.demands.specs.Terms.Lives.{checked, said, share_said, kept_for, is_send, is_echo, is_recovery, how_many, readies_sent}
use Rattle.demands.specs.Demands.{
  stays_sound,
  e_counts_senders,
  r_counts_senders,
  deals_once,
  commanded_once,
  sends_echo_once,
  sends_ready_once,
  completes_once,
  send_has_its_echo,
  pair_kept_by_ready,
  pair_of_that_moment,
  pair_never_changes,
  enough_readies_complete,
  completed_share_is_the_kept_pair,
  completed_has_its_share,
  kept_share_passes,
  reported_pair_opens,
  recovered_of_held_alone,
  place_holds_what_was_said,
  share_kept_as_said,
}
use Rattle.instances.specs.Calls.{D, start, first, echoed, before, moment, finished, later, play}
use Rattle.instances.specs.Life.{lowest, then, end, one_life}

-- ---- once

-- at most once; that it happens stands in Life
pub record Once : Type 0 where
  pub deals_once : how_many (λ (a : Answer). is_send a.sent) (answers class play) ≤ 1
  pub echoes_once : how_many (λ (a : Answer). is_echo a.sent) (answers class play) ≤ 1
  pub readies_once : readies_sent class play D ≤ 1
  pub completes_once : how_many (λ (a : Answer). a.completed) (answers class play) ≤ 1
  pub commanded_once : how_many (λ (a : Answer). is_recovery a.sent) (answers class play) ≤ 1
  -- a second deal, of coins that a deal takes, gets 13, and so does a second command
  pub second_coins : coins_keep class 6 coins ≡ true
  pub second_deal : (doing (after class (gets 1 first 2048 ∷ echoed)) (deals 6 coins 2048)).outcome.answer.no ≡ 13
  pub second_command : (doing (after class (commanded 2048 ∷ finished)) (commanded 2048)).outcome.answer.no ≡ 13

keeps_6 : coins_keep class 6 coins ≡ true
unfolding computed
keeps_6 = refl

pub once : Once
unfolding answers
once =
    let l = one_life in
    record {
      deals_once = deals_once class l.taken play;
      echoes_once = sends_echo_once class l.taken play;
      readies_once = sends_ready_once class l.taken play D;
      completes_once = completes_once class l.taken play;
      commanded_once = commanded_once class l.taken play;
      second_coins = keeps_6;
      second_deal = ap (λ ns. get_or ns 14 0) l.numbers;
      second_command = ap (λ ns. get_or ns 4 0) l.numbers;
    }

-- ---- all else

pub record Says : Type 0 where
  pub is_sound : sound end ≡ true
  pub e : count_below 10 (λ m. checked class play 2 (m + 1) D) ≡ 2
  pub r : count_below 10 (λ m. checked class play 3 (m + 1) D) ≡ 3
  pub echoes : wrote (doing (after class start) (gets 1 first 2048))
      ≡ to_each class (λ j. echo (matrix_in class first) (echo_four (order class) 2 (polynomials_in class first) j))
  pub there : is_some (kept_for end D) ≡ eqb (readies_sent class play D) 1
  pub kept : Some (pair 7 8) ≡ Some (pair_from (order class) (lowest then))
  pub stays : kept_for end D ≡ Some (pair 7 8)
  -- r is 3, which is k + t
  pub done : is_some end.progress.completion ≡ true
  pub completed : is_some (slot_at end 0).pair ≡ true
  pub share : Some (pair 7 8) ≡ kept_for end D
  pub passes : share_check (group class) 2 (matrix_of (slot_at end 0)) 1 (pair 7 8) ≡ true
  pub opens : committed (group class) 5 1 ≡ entry (matrix_of (slot_at end 0)) 0 0
  pub recovered : pair 5 1 ≡ recovered_from (order class) (share_points end.shares)
  -- of box 3, which said both
  pub point_said : said class play 3 (matrix_of (slot_at end 0)) ≡ Held (point 3)
  pub share_said_lem : share_said class play 3 ≡ Some (pair 0 0)

pub life_says : Says
unfolding answers
life_says =
    let l = one_life in
    record {
      is_sound = (stays_sound class l.taken play).0;
      e = sym (e_counts_senders class l.taken play D) ∙ l.e;
      r = sym (r_counts_senders class l.taken play D) ∙ l.r;
      echoes = (send_has_its_echo class l.taken start 1 2048 first l.tag (ap (λ ns. get_or ns 16 1) l.numbers)).1;
      there = pair_kept_by_ready class l.taken play D;
      kept = sym l.kept ∙ pair_of_that_moment class l.taken before moment D l.sends_ready;
      stays = pair_never_changes class l.taken (moment ∷ before) D (pair 7 8) later l.kept;
      done = enough_readies_complete class l.taken play D (subst (λ r. 3 ≤ r) (sym l.r) (omega arith));
      completed = (completed_has_its_share class l.taken play 0 l.completed).1;
      share = sym l.pair_kept ∙ completed_share_is_the_kept_pair class l.taken play 0 l.completed ∙ ap (kept_for end) l.matrix;
      passes = kept_share_passes class l.taken play 0 (pair 7 8) (omega arith) l.pair_kept;
      opens = reported_pair_opens class l.taken play 0 (pair 5 1) l.completed l.recovered;
      recovered = recovered_of_held_alone class l.taken play (pair 5 1) l.recovered;
      point_said = sym (place_holds_what_was_said class l.taken play 0 2 (omega arith) (omega arith) l.used) ∙ l.held;
      share_said_lem = sym (share_kept_as_said class l.taken play 2 (omega arith)) ∙ l.shared;
    }

-- Every byte that the box of Life sends, as numbers: its deal, its echo, its ready and its recovery share, each to boxes 1 to 4.
--
-- In order: the bytes; that the messages of document 01 are these; what the theorems say of the deal and of the command; what they
-- say of any call, for each of the five kinds.
-- Assumes nothing.
use Rattle.std.specs.Prelude.{◌≡◌, refl, List, [], ◌∷◌, ◌++◌, ℕ, get_or}
use Rattle.std.proofs.Common.{sym, ap, subst, ◌∙◌, arith}
use Rattle.std.specs.Prelude.{Option, Some, None}
use Rattle.rules.specs.declared.Four.{Four}
use Rattle.rules.specs.declared.Sent.{Sent}
use Rattle.rules.specs.declared.Sent.TheVariants.{Nothing, Send, Echo, Ready, Recovery}
use Rattle.rules.specs.declared.Message.TheVariants.{Echo as echo, Ready as ready, Recovery as recovery}
use Rattle.rules.specs.Messages.{matrix_in, polynomials_in, to_each}
use Rattle.rules.specs.Record.{slot_at}
use Rattle.rules.specs.Steps.{Said, echo_four, ready_four}
use Rattle.rules.specs.Answers.{pair_told}
use Rattle.rules.specs.Computed.{computed}
use Rattle.rules.specs.HandSums.{class, coins, pair, point}
use Rattle.demands.specs.Terms.Histories.{Call, deals, gets, commanded, doing, after, answers, wrote}
use Rattle.demands.specs.Terms.Dealing.{order, sends_of}
use Rattle.demands.specs.Terms.Lives.{lowest_for, Writes, Sends}
use Rattle.demands.specs.Demands.{deal_writes_the_sends, command_writes_the_share, every_byte_sent}
use Rattle.instances.specs.Calls.{D, early, start, first, echoed, twice, said_2, before, ready_of_2, moment, finished}
use Rattle.instances.specs.Life.{then, one_life}
use Rattle.instances.specs.Boxes.{coins_keep_lem}

-- ---- the bytes

-- of each message: tag, size, dealer, session; in the first three k and the matrix 4, 13, 8, 12; at the end the numbers of its kind.
-- Sends, with a, a', b, b':
abbrev pub send_1 : List ℕ
send_1 =
    1 ∷ 0 ∷ 28 ∷ 1 ∷ 0 ∷ 7 ∷ 2 ∷ 0 ∷ 4 ∷ 0 ∷ 13 ∷ 0 ∷ 8 ∷ 0 ∷ 12
    ∷ 0 ∷ 7 ∷ 0 ∷ 7 ∷ 0 ∷ 8 ∷ 0 ∷ 4 ∷ 0 ∷ 8 ∷ 0 ∷ 6 ∷ 0 ∷ 7 ∷ 0 ∷ 5 ∷ []

abbrev pub send_2 : List ℕ
send_2 =
    1 ∷ 0 ∷ 28 ∷ 1 ∷ 0 ∷ 7 ∷ 2 ∷ 0 ∷ 4 ∷ 0 ∷ 13 ∷ 0 ∷ 8 ∷ 0 ∷ 12
    ∷ 0 ∷ 9 ∷ 0 ∷ 0 ∷ 0 ∷ 4 ∷ 0 ∷ 2 ∷ 0 ∷ 0 ∷ 0 ∷ 10 ∷ 0 ∷ 2 ∷ 0 ∷ 3 ∷ []

abbrev pub send_3 : List ℕ
send_3 =
    1 ∷ 0 ∷ 28 ∷ 1 ∷ 0 ∷ 7 ∷ 2 ∷ 0 ∷ 4 ∷ 0 ∷ 13 ∷ 0 ∷ 8 ∷ 0 ∷ 12
    ∷ 0 ∷ 0 ∷ 0 ∷ 4 ∷ 0 ∷ 0 ∷ 0 ∷ 0 ∷ 0 ∷ 3 ∷ 0 ∷ 3 ∷ 0 ∷ 8 ∷ 0 ∷ 1 ∷ []

abbrev pub send_4 : List ℕ
send_4 =
    1 ∷ 0 ∷ 28 ∷ 1 ∷ 0 ∷ 7 ∷ 2 ∷ 0 ∷ 4 ∷ 0 ∷ 13 ∷ 0 ∷ 8 ∷ 0 ∷ 12
    ∷ 0 ∷ 2 ∷ 0 ∷ 8 ∷ 0 ∷ 7 ∷ 0 ∷ 9 ∷ 0 ∷ 6 ∷ 0 ∷ 7 ∷ 0 ∷ 3 ∷ 0 ∷ 10 ∷ []

abbrev pub sends : List ℕ
sends = send_1 ++ send_2 ++ send_3 ++ send_4

-- echoes, with α, α', β, β'
abbrev pub echo_1 : List ℕ
echo_1 =
    2 ∷ 0 ∷ 20 ∷ 1 ∷ 0 ∷ 7 ∷ 2 ∷ 0 ∷ 4 ∷ 0 ∷ 13 ∷ 0 ∷ 8 ∷ 0 ∷ 12
    ∷ 0 ∷ 3 ∷ 0 ∷ 1 ∷ 0 ∷ 3 ∷ 0 ∷ 1 ∷ []

abbrev pub echo_2 : List ℕ
echo_2 =
    2 ∷ 0 ∷ 20 ∷ 1 ∷ 0 ∷ 7 ∷ 2 ∷ 0 ∷ 4 ∷ 0 ∷ 13 ∷ 0 ∷ 8 ∷ 0 ∷ 12
    ∷ 0 ∷ 10 ∷ 0 ∷ 5 ∷ 0 ∷ 9 ∷ 0 ∷ 6 ∷ []

abbrev pub echo_3 : List ℕ
echo_3 =
    2 ∷ 0 ∷ 20 ∷ 1 ∷ 0 ∷ 7 ∷ 2 ∷ 0 ∷ 4 ∷ 0 ∷ 13 ∷ 0 ∷ 8 ∷ 0 ∷ 12
    ∷ 0 ∷ 6 ∷ 0 ∷ 9 ∷ 0 ∷ 4 ∷ 0 ∷ 0 ∷ []

abbrev pub echo_4 : List ℕ
echo_4 =
    2 ∷ 0 ∷ 20 ∷ 1 ∷ 0 ∷ 7 ∷ 2 ∷ 0 ∷ 4 ∷ 0 ∷ 13 ∷ 0 ∷ 8 ∷ 0 ∷ 12
    ∷ 0 ∷ 2 ∷ 0 ∷ 2 ∷ 0 ∷ 10 ∷ 0 ∷ 5 ∷ []

abbrev pub echoes : List ℕ
echoes = echo_1 ++ echo_2 ++ echo_3 ++ echo_4

-- readies, with the same
abbrev pub ready_1 : List ℕ
ready_1 =
    3 ∷ 0 ∷ 20 ∷ 1 ∷ 0 ∷ 7 ∷ 2 ∷ 0 ∷ 4 ∷ 0 ∷ 13 ∷ 0 ∷ 8 ∷ 0 ∷ 12
    ∷ 0 ∷ 3 ∷ 0 ∷ 1 ∷ 0 ∷ 3 ∷ 0 ∷ 1 ∷ []

abbrev pub ready_2 : List ℕ
ready_2 =
    3 ∷ 0 ∷ 20 ∷ 1 ∷ 0 ∷ 7 ∷ 2 ∷ 0 ∷ 4 ∷ 0 ∷ 13 ∷ 0 ∷ 8 ∷ 0 ∷ 12
    ∷ 0 ∷ 10 ∷ 0 ∷ 5 ∷ 0 ∷ 9 ∷ 0 ∷ 6 ∷ []

abbrev pub ready_3 : List ℕ
ready_3 =
    3 ∷ 0 ∷ 20 ∷ 1 ∷ 0 ∷ 7 ∷ 2 ∷ 0 ∷ 4 ∷ 0 ∷ 13 ∷ 0 ∷ 8 ∷ 0 ∷ 12
    ∷ 0 ∷ 6 ∷ 0 ∷ 9 ∷ 0 ∷ 4 ∷ 0 ∷ 0 ∷ []

abbrev pub ready_4 : List ℕ
ready_4 =
    3 ∷ 0 ∷ 20 ∷ 1 ∷ 0 ∷ 7 ∷ 2 ∷ 0 ∷ 4 ∷ 0 ∷ 13 ∷ 0 ∷ 8 ∷ 0 ∷ 12
    ∷ 0 ∷ 2 ∷ 0 ∷ 2 ∷ 0 ∷ 10 ∷ 0 ∷ 5 ∷ []

abbrev pub readies : List ℕ
readies = ready_1 ++ ready_2 ++ ready_3 ++ ready_4

-- recovery shares, with σ, σ'; the same to each
abbrev pub share : List ℕ
share = 4 ∷ 0 ∷ 7 ∷ 1 ∷ 0 ∷ 7 ∷ 0 ∷ 7 ∷ 0 ∷ 8 ∷ []

abbrev pub shares : List ℕ
shares = share ++ share ++ share ++ share

-- ---- they are those of document 01

sends_are : sends_of class 5 coins ≡ sends
unfolding computed
sends_are = refl

echoes_are : to_each class (λ j. echo (matrix_in class first) (echo_four (order class) 2 (polynomials_in class first) j)) ≡ echoes
unfolding computed
echoes_are = refl

-- the ready of the points of boxes 1 and 2
abbrev readies_of : List (Said Four) → List ℕ
readies_of ps = to_each class (λ j. ready D (ready_four (order class) ps j))

readies_are : readies_of (record { box = 1; says = point 1 } ∷ record { box = 2; says = point 2 } ∷ []) ≡ readies
unfolding computed
readies_are = refl

matrix_is : matrix_in class ready_of_2 ≡ D
unfolding computed
matrix_is = refl

shares_are : to_each class (λ j. recovery (pair 7 8)) ≡ shares
unfolding computed
shares_are = refl

-- ---- the deal and the command

-- after two deals that were refused
pub first_deal : Writes (doing (after class early) (deals 5 coins 2048)) Send sends
first_deal =
    subst (Writes (doing (after class early) (deals 5 coins 2048)) Send) sends_are
    (deal_writes_the_sends class one_life.taken early refl one_life.sends_early 5 coins coins_keep_lem 2048 (omega arith))

-- after one command that was refused
pub first_command : Writes (doing (after class finished) (commanded 2048)) Recovery shares
first_command =
    subst (Writes (doing (after class finished) (commanded 2048)) Recovery) shares_are
    (command_writes_the_share class one_life.taken finished 0 (pair 7 8) one_life.completed_then one_life.share_then
    one_life.shares_early 2048 (omega arith))

-- ---- any call

-- what is known of a call whose kind is computed
by_kind : (cs : List Call) (c : Call) (what : Sent) → (doing (after class cs) c).outcome.answer.sent ≡ what
    → Sends class cs c what (wrote (doing (after class cs) c))
by_kind cs c what e =
    subst (λ (w : Sent). Sends class cs c w (wrote (doing (after class cs) c))) e (every_byte_sent class one_life.taken cs c)

-- the sends of a deal, and the bytes of a delivery
abbrev sends_in : Call → List ℕ
sends_in (deals secret coins lent) = sends_of class secret coins
sends_in (gets sender bytes lent) = []
sends_in (commanded lent) = []

abbrev bytes_in : Call → List ℕ
bytes_in (deals secret coins lent) = []
bytes_in (gets sender bytes lent) = bytes
bytes_in (commanded lent) = []

abbrev place_in : Option ℕ → ℕ
place_in None = 20
place_in (Some s) = s

pub record EveryByte : Type 0 where
  pub of_the_deal : wrote (doing (after class early) (deals 5 coins 2048)) ≡ sends
  pub of_the_send : wrote (doing (after class start) (gets 1 first 2048)) ≡ echoes
  pub of_the_ready : wrote (doing (after class before) moment) ≡ readies
  -- an echo, which is counted, and a send that is refused send nothing
  pub of_the_echo : wrote (doing (after class twice) (gets 2 said_2 2048)) ≡ []
  pub of_the_second_send : wrote (doing (after class echoed) (gets 1 first 2048)) ≡ []
  pub of_the_command : wrote (doing (after class finished) (commanded 2048)) ≡ shares

pub every_byte : EveryByte
unfolding answers
every_byte =
    let kinds = one_life.kinds in
    let deal = by_kind early (deals 5 coins 2048) Send (ap (λ ks. get_or ks 17 Nothing) kinds) in
    let its_send = by_kind start (gets 1 first 2048) Echo (ap (λ ks. get_or ks 16 Nothing) kinds) in
    let its-ready = by_kind before moment Ready (ap (λ ks. get_or ks 9 Nothing) kinds) in
    let command = by_kind finished (commanded 2048) Recovery (ap (λ ks. get_or ks 5 Nothing) kinds) in
    record {
      of_the_deal = deal.4 ∙ ap sends_in (sym deal.3) ∙ sends_are;
      of_the_send =
          its_send.5
          ∙ ap (λ c. to_each class (λ j. echo (matrix_in class (bytes_in c)) (echo_four (order class) 2 (polynomials_in class (bytes_in c)) j)))
          (sym its_send.3)
          ∙ echoes_are;
      of_the_ready =
          its-ready.4
          ∙ ap (λ C. to_each class (λ j. ready C (ready_four (order class) (lowest_for class then C) j)))
          (ap (λ c. matrix_in class (bytes_in c)) (sym its-ready.3) ∙ matrix_is)
          ∙ ap readies_of one_life.lowest
          ∙ readies_are;
      of_the_echo = by_kind twice (gets 2 said_2 2048) Nothing (ap (λ ks. get_or ks 13 Nothing) kinds);
      of_the_second_send = by_kind echoed (gets 1 first 2048) Nothing (ap (λ ks. get_or ks 15 Nothing) kinds);
      of_the_command =
          command.6
          ∙ ap (λ p. to_each class (λ j. recovery p))
          (ap pair_told
          (sym command.5
          ∙ ap (λ s. (slot_at (after class finished) (place_in s)).pair) (sym command.4 ∙ one_life.completed_then)
          ∙ one_life.share_then))
          ∙ shares_are;
    }

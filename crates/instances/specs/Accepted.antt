-- Completeness in a class: what the dealer and box 2 of document 01's hand sums send is accepted at a box that has made calls of
-- its own. Lists have the latest first.
--
-- In order: the calls of boxes 1, 2 and 3; what is computed of them; what it comes to; what the theorems of `Demands`
-- say of it.
-- Assumes nothing.
use Rattle.rules.specs.declared.Pair.{Pair}
use Rattle.std.specs.Prelude.{◌≡◌, refl, Bool, true, false, List, [], ◌∷◌, ℕ, length, get_or}
use Rattle.std.proofs.Common.{sym, ap, ap₂, ◌∙◌, arith}
use Rattle.std.specs.Prelude.{Option, Some, None}
use Rattle.rules.specs.declared.Record.{Record}
use Rattle.rules.specs.declared.Sent.{Sent}
use Rattle.rules.specs.declared.Sent.TheVariants.{Send, Echo, Ready, Recovery}
use Rattle.rules.specs.declared.Message.TheVariants.{Send as send, Echo as echo, Ready as ready}
use Rattle.rules.specs.Record.{slot_at, matrix_of, same_matrix, heard_for, zero_record}
use Rattle.rules.specs.Answers.{Done, set_up}
use Rattle.rules.specs.Computed.{computed}
use Rattle.rules.specs.HandSums.{class, coins}
use Rattle.demands.specs.Terms.Histories.{Call, deals, commanded, doing, after, wrote, message_to, own}
use Rattle.demands.specs.Terms.Dealing.{dealt_to, dealt_point}
use Rattle.demands.specs.Terms.Lives.{answer_to}
use Rattle.demands.specs.Demands.{sends_are_accepted, echoes_are_accepted, readies_are_accepted, shares_are_accepted}
use Rattle.instances.specs.Replay.{Past, takes, life, came_to, life_lived}
use Rattle.instances.specs.Calls.{D, says}

-- ---- the calls

-- what box j gets of the dealer, and of box m
abbrev gets_send : ℕ → Call
gets_send j = says 1 (send D (dealt_to class 5 coins j))

abbrev gets_echo : ℕ → ℕ → Call
gets_echo m j = says m (echo D (dealt_point class 5 coins m j))

abbrev gets_ready : ℕ → ℕ → Call
gets_ready m j = says m (ready D (dealt_point class 5 coins m j))

-- box 1 was lent too short a buffer the first time
abbrev dealer : List Call
dealer = deals 5 coins 2047 ∷ []

-- box 2 hears box 3 before it gets its send, sends ready at the third echo, and completes by the readies of 1, 3, 4
abbrev early : List Call
early = gets_echo 3 2 ∷ []

abbrev echoed : List Call
echoed = gets_echo 1 2 ∷ gets_send 2 ∷ early

abbrev completed : List Call
completed = gets_ready 4 2 ∷ gets_ready 3 2 ∷ gets_ready 1 2 ∷ gets_echo 4 2 ∷ echoed

-- box 3 gets its send, echoes and readies of 2, 1, 4, and is told to recover
abbrev begun : List Call
begun = gets_send 3 ∷ []

abbrev readied : List Call
readied = gets_echo 4 3 ∷ gets_echo 1 3 ∷ gets_echo 2 3 ∷ begun

abbrev recovering : List Call
recovering = commanded 2048 ∷ gets_ready 4 3 ∷ gets_ready 1 3 ∷ gets_ready 2 3 ∷ readied

-- ---- what is computed of them

-- what a call sends, and how many bytes of it go to box j
record Sending : Type 0 where
  what : Sent
  bytes : ℕ

abbrev sending : Done → ℕ → Sending
sending d j = record { what = d.outcome.answer.sent; bytes = length (message_to 4 (wrote d) j) }

-- what is looked at, computed at once
record Looks : Type 0 where
  sends : Sending
  send_heard : Bool
  echoes : Sending
  echo_heard : Bool
  readies : Sending
  ready_heard : Bool
  shares : Sending
  share_heard : Bool
  completion_2 : Option ℕ
  completion_3 : Option ℕ
  same : Bool
  told : Bool
  recovered : Option Pair

abbrev at : ℕ → List Call → Record
at i cs = after (own class i) cs

-- the record that the call with so many behind it came to
abbrev came : Past → ℕ → Record
came b later = get_or b.came later zero_record

abbrev look : Past → Past → Looks
look b c =
    record {
      sends = sending (doing (at 1 dealer) (deals 5 coins 2048)) 2;
      send_heard = heard_for (came b 5) 1 0;
      echoes = sending (doing (came b 5) (gets_send 2)) 3;
      echo_heard = heard_for (came c 6) 2 1;
      readies = sending (doing (came b 3) (gets_echo 4 2)) 3;
      ready_heard = heard_for (came c 3) 3 1;
      shares = sending (doing b.left (commanded 2048)) 3;
      share_heard = heard_for c.left 4 1;
      completion_2 = b.left.progress.completion;
      completion_3 = c.left.progress.completion;
      same = same_matrix 2 (matrix_of (slot_at b.left 0)) (matrix_of (slot_at c.left 0));
      told = c.left.progress.commanded;
      recovered = c.left.recovered;
    }

looks : look (life (own class 2) completed) (life (own class 3) recovering)
    ≡ record {
      sends = record { what = Send; bytes = 31 };
      send_heard = false;
      echoes = record { what = Echo; bytes = 23 };
      echo_heard = false;
      readies = record { what = Ready; bytes = 23 };
      ready_heard = false;
      shares = record { what = Recovery; bytes = 10 };
      share_heard = false;
      completion_2 = Some 0;
      completion_3 = Some 0;
      same = true;
      told = true;
      recovered = None;
    }
unfolding computed doing after message_to life takes
looks = refl

pub taken : ((set_up (own class 1)).answer.no ≡ 0) × ((set_up (own class 2)).answer.no ≡ 0) × ((set_up (own class 3)).answer.no ≡ 0)
unfolding computed
taken = (refl, refl, refl)

-- ---- what it comes to

-- what a call of box i sends, and how many bytes of it go to box j
abbrev sent : ℕ → List Call → Call → Sent
sent i cs c = (doing (at i cs) c).outcome.answer.sent

abbrev bytes : ℕ → List Call → Call → ℕ → ℕ
bytes i cs c j = length (message_to 4 (wrote (doing (at i cs) c)) j)

pub record Sends : Type 0 where
  -- box 1 deals; its send is for box 2, which has not heard one
  pub sends : sent 1 dealer (deals 5 coins 2048) ≡ Send
  pub send_bytes : bytes 1 dealer (deals 5 coins 2048) 2 ≡ 31
  pub send_new : heard_for (at 2 early) 1 0 ≡ false
  -- box 2 echoes, sends ready, and its share, for box 3
  pub echoes : sent 2 early (gets_send 2) ≡ Echo
  pub echo_bytes : bytes 2 early (gets_send 2) 3 ≡ 23
  pub echo_new : heard_for (at 3 begun) 2 1 ≡ false
  pub readies : sent 2 echoed (gets_echo 4 2) ≡ Ready
  pub ready_bytes : bytes 2 echoed (gets_echo 4 2) 3 ≡ 23
  pub ready_new : heard_for (at 3 readied) 3 1 ≡ false
  pub shares : sent 2 completed (commanded 2048) ≡ Recovery
  pub share_bytes_lem : bytes 2 completed (commanded 2048) 3 ≡ 10
  pub share_new : heard_for (at 3 recovering) 4 1 ≡ false
  -- both have completed with the same matrix, and box 3 was told to recover and has not yet
  pub completion_2 : (at 2 completed).progress.completion ≡ Some 0
  pub completion_3 : (at 3 recovering).progress.completion ≡ Some 0
  pub same : same_matrix 2 (matrix_of (slot_at (at 2 completed) 0)) (matrix_of (slot_at (at 3 recovering) 0)) ≡ true
  pub told : (at 3 recovering).progress.commanded ≡ true
  pub recovered : (at 3 recovering).recovered ≡ None

pub sends : Sends
unfolding came_to
sends =
    let all = ap₂ look (sym (life_lived (own class 2) completed)) (sym (life_lived (own class 3) recovering)) ∙ looks in
    record {
      sends = ap (λ l. l.sends.what) all;
      send_bytes = ap (λ l. l.sends.bytes) all;
      send_new = ap (λ l. l.send_heard) all;
      echoes = ap (λ l. l.echoes.what) all;
      echo_bytes = ap (λ l. l.echoes.bytes) all;
      echo_new = ap (λ l. l.echo_heard) all;
      readies = ap (λ l. l.readies.what) all;
      ready_bytes = ap (λ l. l.readies.bytes) all;
      ready_new = ap (λ l. l.ready_heard) all;
      shares = ap (λ l. l.shares.what) all;
      share_bytes_lem = ap (λ l. l.shares.bytes) all;
      share_new = ap (λ l. l.share_heard) all;
      completion_2 = ap (λ l. l.completion_2) all;
      completion_3 = ap (λ l. l.completion_3) all;
      same = ap (λ l. l.same) all;
      told = ap (λ l. l.told) all;
      recovered = ap (λ l. l.recovered) all;
    }

-- ---- what the theorems say of it

-- the answer of box j to what a call of box i sends it
abbrev answer : ℕ → ℕ → List Call → Call → List Call → ℕ
answer i j cs c cs' = answer_to class i j cs cs' c 2048

pub record Accepted : Type 0 where
  pub send : answer 1 2 dealer (deals 5 coins 2048) early ≡ 0
  pub echo : answer 2 3 early (gets_send 2) begun ≡ 0
  pub ready : answer 2 3 echoed (gets_echo 4 2) readied ≡ 0
  pub share : answer 2 3 completed (commanded 2048) recovering ≡ 0

pub accepted : Accepted
accepted =
    let s = sends in
    record {
      send =
          sends_are_accepted class 1 2 taken.0 taken.1 dealer early (deals 5 coins 2048) 2048 (omega arith)
          s.sends s.send_new;
      echo =
          echoes_are_accepted class 2 3 taken.1 taken.2 early begun (gets_send 2) 2048 (omega arith)
          s.echoes s.echo_new;
      ready =
          readies_are_accepted class 2 3 taken.1 taken.2 echoed readied (gets_echo 4 2) 2048 (omega arith)
          s.readies s.ready_new;
      share =
          shares_are_accepted class 2 3 taken.1 taken.2 completed recovering (commanded 2048) 2048 (omega arith) 0 0
          s.shares s.completion_2 s.completion_3 s.same s.told s.recovered s.share_new;
    }

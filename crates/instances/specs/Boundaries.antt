-- Document 01, "Answer numbers": each row of the table on its boundary, and which of two rows that hold is given.
--
-- In order: calls on a new box of the class of the hand sums; rows 15 and 12, commands; rows 1 to 4; rows 8 to 10; whom a refusal marks
-- heard. Rows 5 to 7 are met in `WholePlay`.
-- Assumes nothing.
use Rattle.std.specs.Prelude.{◌≡◌, refl, Bool, true, false, List, [], ◌∷◌, ◌++◌, map, ℕ, length, set, take, drop, replicate}
use Rattle.rules.specs.declared.Answer.{Answer}
use Rattle.rules.specs.declared.Marks.{Marks}
use Rattle.rules.specs.declared.Record.{Record}
use Rattle.rules.specs.declared.Message.TheVariants.{Send as send, Echo as echo, Ready as ready, Recovery as recovery}
use Rattle.rules.specs.Messages.{bytes_of}
use Rattle.rules.specs.Record.{new_record, zero_record}
use Rattle.rules.specs.Answers.{deliver}
use Rattle.rules.specs.Computed.{computed}
use Rattle.rules.specs.HandSums.{class, coins, four, pair, C, dealt}
use Rattle.demands.specs.Terms.Histories.{Call, deals, gets, commanded, doing}
use Rattle.instances.specs.SameLists.{same_list}
use Rattle.instances.specs.Plays.{Played, plays}

-- ---- calls

-- the answer number of one call
abbrev number : Record → Call → ℕ
number x c = (doing x c).outcome.answer.no

abbrev new : Record
new = new_record class

-- of a box in group 2, and of box 2, in a class that box 3 deals
abbrev numbers : ℕ → ℕ → ℕ → Record
numbers group i d = new_record (record { group = group; n = 4; t = 1; k = 2; i = i; d = d; session = 7 })

-- the send to box 1; echo, ready and recovery share of box 2
abbrev sends : List ℕ
sends = bytes_of class (send (C 5 coins) (dealt 5 coins 1))

abbrev echoes : List ℕ
echoes = bytes_of class (echo (C 5 coins) (four 9 6 10 5))

abbrev readies : List ℕ
readies = bytes_of class (ready (C 5 coins) (four 9 6 10 5))

abbrev shares : List ℕ
shares = bytes_of class (recovery (pair 9 4))

-- what a new box answers to bytes of a sender
abbrev says : ℕ → List ℕ → ℕ
says m bytes = number new (gets m bytes 2048)

-- ---- rows 15 and 12, commands

pub record Commands : Type 0 where
  -- "Every call that can send wants at least 2,048 lent bytes"; "Delivery 15, 12, then 1 to 10", "Commands 15, 12, 13, 14": the
  -- all-zero record meets "12 (or first 15) ever after"
  pub bytes_2047 : map (number zero_record) (gets 0 [] 2047 ∷ deals 11 [] 2047 ∷ commanded 2047 ∷ []) ≡ 15 ∷ 15 ∷ 15 ∷ []
  pub bytes_2048 : map (number zero_record) (gets 0 [] 2048 ∷ deals 11 [] 2048 ∷ commanded 2048 ∷ []) ≡ 12 ∷ 12 ∷ 12 ∷ []
  pub delivery : map (λ lent. number new (gets 1 sends lent)) (0 ∷ 2047 ∷ 2048 ∷ 2049 ∷ []) ≡ 15 ∷ 15 ∷ 0 ∷ 0 ∷ []
  -- "deal by another box than d", before 14
  pub another_box : (number (numbers 1 2 1) (deals 5 coins 2048) ≡ 13) × (number (numbers 1 2 1) (deals 11 [] 2048) ≡ 13)
      × (number (numbers 1 2 2) (deals 5 coins 2048) ≡ 0)
  -- "secret ≥ q, coins not 2k² - 1 in number, or a coin ≥ q"
  pub secret : map (λ secret. number new (deals secret coins 2048)) (0 ∷ 10 ∷ 11 ∷ []) ≡ 0 ∷ 0 ∷ 14 ∷ []
  pub secret_2 : map (λ secret. number (numbers 2 1 1) (deals secret (replicate 7 1018) 2048)) (1018 ∷ 1019 ∷ []) ≡ 0 ∷ 14 ∷ []
  pub coins_in_number : map (λ many. number new (deals 5 (replicate many 10) 2048)) (6 ∷ 7 ∷ 8 ∷ []) ≡ 14 ∷ 0 ∷ 14 ∷ []
  pub coin : map (λ at. number new (deals 5 (set coins at 11) 2048)) (0 ∷ 3 ∷ 6 ∷ []) ≡ 14 ∷ 14 ∷ 14 ∷ []

pub commands : Commands
unfolding doing computed
commands =
    record {
      bytes_2047 = refl;
      bytes_2048 = refl;
      delivery = refl;
      another_box = (refl, refl, refl);
      secret = refl;
      secret_2 = refl;
      coins_in_number = refl;
      coin = refl;
    }

-- ---- rows 1 to 4

pub record Forms : Type 0 where
  -- "sender is 0 or above n", before 2
  pub row_1 : (map (λ m. says m echoes) (0 ∷ 2 ∷ 4 ∷ 5 ∷ 10 ∷ []) ≡ 1 ∷ 0 ∷ 10 ∷ 1 ∷ 1 ∷ []) × (says 0 [] ≡ 1) × (says 5 [] ≡ 1)
  -- "shorter than 3 bytes"; three bytes whose size field keeps
  pub short : map (says 2) ([] ∷ (4 ∷ []) ∷ (4 ∷ 0 ∷ []) ∷ (4 ∷ 0 ∷ 0 ∷ []) ∷ []) ≡ 2 ∷ 2 ∷ 2 ∷ 2 ∷ []
  -- "tag not 1..4"; the tag of a message of another length
  pub tag : map (λ tag. says 2 (set echoes 0 tag)) (0 ∷ 1 ∷ 2 ∷ 3 ∷ 4 ∷ 5 ∷ 255 ∷ []) ≡ 2 ∷ 2 ∷ 0 ∷ 0 ∷ 2 ∷ 2 ∷ 2 ∷ []
  -- "size field not the bytes that follow"
  pub size : map (says 2) (set echoes 2 19 ∷ set echoes 2 21 ∷ set echoes 2 23 ∷ set echoes 1 1 ∷ []) ≡ 2 ∷ 2 ∷ 2 ∷ 2 ∷ []
  -- "whole length not that of the tag at this k": a byte more, a byte less, and the size field with it
  pub whole : map (says 2)
      ((set echoes 2 21 ++ 0 ∷ []) ∷ take 22 (set echoes 2 19) ∷ (set shares 2 8 ++ 0 ∷ []) ∷ take 9 (set shares 2 6) ∷ [])
      ≡ 2 ∷ 2 ∷ 2 ∷ 2 ∷ []
  -- "or k byte not k", before 3; a recovery share "has no k": it gets 5
  pub k_byte_lem : (map (says 2) (set echoes 6 1 ∷ set echoes 6 3 ∷ set (set echoes 6 3) 3 2 ∷ shares ∷ []) ≡ 2 ∷ 2 ∷ 2 ∷ 5 ∷ [])
      × (map (says 1) (set sends 6 1 ∷ set sends 6 3 ∷ []) ≡ 2 ∷ 2 ∷ [])
  -- "dealer or session is another": either byte of the session; before 4, before 5
  pub row_3 : map (says 2) (set echoes 3 0 ∷ set echoes 3 2 ∷ set echoes 4 1 ∷ set echoes 5 8 ∷ set sends 3 2 ∷ set shares 5 6 ∷ [])
      ≡ 3 ∷ 3 ∷ 3 ∷ 3 ∷ 3 ∷ 3 ∷ []
  -- "a send from a box other than d", before 8: in this class, and in one that box 3 deals
  pub row_4 : (map (λ m. says m sends) (1 ∷ 2 ∷ 3 ∷ 4 ∷ []) ≡ 0 ∷ 4 ∷ 4 ∷ 4 ∷ []) × (says 2 (set sends 8 0) ≡ 4)
      × (map (λ m. number (numbers 1 1 3) (gets m (set sends 3 3) 2048)) (1 ∷ 2 ∷ 3 ∷ 4 ∷ []) ≡ 4 ∷ 4 ∷ 0 ∷ 4 ∷ [])
  -- "recovery share before this box has completed", before 9
  pub row_5 : says 2 (set shares 7 11) ≡ 5

pub forms : Forms
unfolding doing computed
forms =
    record {
      row_1 = (refl, refl, refl);
      short = refl;
      tag = refl;
      size = refl;
      whole = refl;
      k_byte_lem = (refl, refl);
      row_3 = refl;
      row_4 = (refl, refl, refl);
      row_5 = refl;
    }

-- ---- rows 8 to 10

pub record Hearings : Type 0 where
  -- "a matrix entry e is 0, ≥ p, or e^q is not 1": 0 in each entry of a send and of an echo; 5, 22, p, p + 1, the high byte in one
  pub row_8 : (map (λ at. says 1 (set sends at 0)) (8 ∷ 10 ∷ 12 ∷ 14 ∷ []) ≡ 8 ∷ 8 ∷ 8 ∷ 8 ∷ [])
      × (map (λ at. says 2 (set echoes at 0)) (8 ∷ 10 ∷ 12 ∷ 14 ∷ []) ≡ 8 ∷ 8 ∷ 8 ∷ 8 ∷ [])
      × (map (λ e. says 2 (set readies 14 e)) (0 ∷ 1 ∷ 5 ∷ 18 ∷ 22 ∷ 23 ∷ 24 ∷ []) ≡ 8 ∷ 10 ∷ 8 ∷ 10 ∷ 8 ∷ 8 ∷ 8 ∷ [])
      × (says 2 (set echoes 7 1) ≡ 8)
  -- "an exponent ≥ q": each coefficient of a, a', b, b', each of α, α', β, β'; after 8
  pub row_9 : (map (λ at. says 1 (set sends at 11)) (16 ∷ 18 ∷ 20 ∷ 22 ∷ 24 ∷ 26 ∷ 28 ∷ 30 ∷ []) ≡ 9 ∷ 9 ∷ 9 ∷ 9 ∷ 9 ∷ 9 ∷ 9 ∷ 9 ∷ [])
      × (map (λ at. says 2 (set echoes at 11)) (16 ∷ 18 ∷ 20 ∷ 22 ∷ []) ≡ 9 ∷ 9 ∷ 9 ∷ 9 ∷ [])
      × (map (λ at. says 2 (set readies at 1)) (15 ∷ 17 ∷ 19 ∷ 21 ∷ []) ≡ 9 ∷ 9 ∷ 9 ∷ 9 ∷ [])
      × (says 2 (set (set echoes 14 0) 16 11) ≡ 8)
  -- "the check of its kind fails": the same with q - 1, or with 0
  pub row_10 : (map (λ at. says 1 (set sends at 10)) (16 ∷ 18 ∷ 20 ∷ 22 ∷ 24 ∷ 26 ∷ 28 ∷ 30 ∷ []) ≡ 10 ∷ 10 ∷ 10 ∷ 10 ∷ 10 ∷ 10 ∷ 10 ∷ 10 ∷ [])
      × (map (λ at. says 2 (set readies at 0)) (16 ∷ 18 ∷ 20 ∷ 22 ∷ []) ≡ 10 ∷ 10 ∷ 10 ∷ 10 ∷ [])

pub hearings : Hearings
unfolding doing computed
hearings = record { row_8 = (refl, refl, refl, refl); row_9 = (refl, refl, refl, refl); row_10 = (refl, refl) }

-- ---- whom a refusal marks heard

-- "8, 9 and 10 on tags 1, 2, 3 mark that sender heard for that tag: only the first one gets a hearing"; 2, 3 and 4 mark nobody
abbrev play : List Call
play =
    gets 1 (set sends 16 11) 2048
    ∷ gets 1 sends 2048
    ∷ gets 2 (set echoes 8 0) 2048
    ∷ gets 2 echoes 2048
    ∷ gets 2 readies 2048
    ∷ gets 3 (set readies 16 11) 2048
    ∷ gets 3 (set readies 8 0) 2048
    ∷ gets 3 echoes 2048
    ∷ gets 3 echoes 2048
    ∷ gets 4 [] 2048
    ∷ gets 4 (set echoes 3 2) 2048
    ∷ gets 4 sends 2048
    ∷ []

record Ears : Type 0 where
  numbers : List ℕ
  heard : List Marks

abbrev ears : Played → Ears
ears p = record { numbers = map (λ (a : Answer). a.no) p.told; heard = p.left.heard }

-- of boxes 1 to 4
abbrev marks : Bool → Bool → Bool → Bool → Marks
marks a b c d = record { at = a ∷ b ∷ c ∷ d ∷ replicate 6 false }

-- the lent buffer at exit, of nines
abbrev exit : ℕ → List ℕ → List ℕ
exit m bytes = (deliver new m bytes (replicate 2048 9)).buffer

pub record Marked : Type 0 where
  pub heard : ears (plays new play)
      ≡ record {
        numbers = 9 ∷ 7 ∷ 8 ∷ 7 ∷ 0 ∷ 9 ∷ 7 ∷ 10 ∷ 7 ∷ 2 ∷ 3 ∷ 4 ∷ [];
        heard = marks true false false false ∷ marks false true true false ∷ marks false true true false ∷ marks false false false false ∷ [];
      }
  -- "No refusal writes to the outgoing buffer."; "Bytes behind the last keep their values.": four echoes are 92 bytes
  pub writes_nothing : same_list (exit 2 (set echoes 16 0)) (replicate 2048 9) ≡ true
  pub behind_the_last : (same_list (drop 92 (exit 1 sends)) (replicate 1956 9) ≡ true) × (length (take 92 (exit 1 sends)) ≡ 92)

pub marked : Marked
unfolding plays doing computed same_list
marked = record { heard = refl; writes_nothing = refl; behind_the_last = (refl, refl) }

-- Document 01, "Steps of a box" and "Answer numbers": one play at box 1 of the class of the hand sums, from its first message to
-- its deal, which it makes last. Each answer, each byte sent and the record at the end stand as literals.
--
-- In order: the calls; what they are answered; what is sent; the record at the end; the statement.
-- Assumes nothing.
use Rattle.std.specs.Prelude.{◌≡◌, refl, Bool, true, false, List, [], ◌∷◌, ◌++◌, ℕ, replicate}
use Rattle.rules.specs.declared.Answer.{Answer}
use Rattle.std.specs.Prelude.{Some}
use Rattle.rules.specs.declared.Element.{Element}
use Rattle.rules.specs.declared.Marks.{Marks}
use Rattle.rules.specs.declared.Record.{Record}
use Rattle.rules.specs.declared.Sent.TheVariants.{Send, Echo, Ready, Recovery}
use Rattle.rules.specs.declared.Slot.{Slot}
use Rattle.rules.specs.Numbers.{element}
use Rattle.rules.specs.declared.Message.{Message}
use Rattle.rules.specs.declared.Message.TheVariants.{Send as send, Echo as echo, Ready as ready, Recovery as recovery}
use Rattle.rules.specs.Record.{silent, nothing, zero_slot, new_record}
use Rattle.rules.specs.Computed.{computed}
use Rattle.rules.specs.HandSums.{class, coins, four, pair, C, dealt}
use Rattle.demands.specs.Terms.Histories.{Call, deals, commanded, doing}
use Rattle.instances.specs.RecordParts.{holds, keeps, slot}
use Rattle.instances.specs.Plays.{plays, refused, quiet, sends, completes, recovers, from}

-- ---- the calls

abbrev D : List (List Element)
D = C 5 coins

abbrev says : ℕ → Message → Call
says = from class

abbrev play : List Call
play =
    -- "recovery command before completion"; "recovery share before this box has completed and been commanded"
    commanded 2048
    ∷ says 1 (recovery (pair 7 8))
    -- "Send, checked: echo to each j"; "sender already heard for this tag"
    ∷ says 1 (send D (dealt 5 coins 1))
    ∷ says 1 (send D (dealt 5 coins 1))
    -- "If now e = E and r < k, interpolate and send ready": E is 3. Box 4 says a point that was not dealt and passes
    ∷ says 4 (echo D (four 4 3 7 0))
    ∷ says 3 (echo D (four 4 0 6 9))
    ∷ says 2 (echo D (four 9 6 10 5))
    -- "If now r = k and e < E": it is not; "else if r = k + t, complete"
    ∷ says 4 (ready D (four 10 5 2 2))
    ∷ says 1 (ready D (four 3 1 3 1))
    ∷ says 3 (ready D (four 4 0 6 9))
    -- completed and not commanded; 2,047 bytes and 2,048; "or a second time"
    ∷ says 1 (recovery (pair 7 8))
    ∷ commanded 2047
    ∷ commanded 2048
    ∷ commanded 2048
    -- "A failed recovery share marks nothing": 9, then 10, then the right one, and it once more
    ∷ says 1 (recovery (pair 11 8))
    ∷ says 1 (recovery (pair 8 8))
    ∷ says 1 (recovery (pair 7 8))
    ∷ says 1 (recovery (pair 7 8))
    -- "At the k-th, give the pair interpolated at 0."; "recovery share after the pair was given", which comes before 7
    ∷ says 3 (recovery (pair 0 0))
    ∷ says 1 (recovery (pair 7 8))
    -- "Once recovered, tags 1 to 3 go on as before."
    ∷ says 2 (ready D (four 9 6 10 5))
    -- the deal; "a second time", which comes before 14
    ∷ deals 5 coins 2048
    ∷ deals 5 coins 2048
    ∷ deals 11 [] 2048
    ∷ []

-- ---- what they are answered

abbrev answers : List Answer
answers =
    refused 13
    ∷ refused 5
    ∷ sends Echo 92
    ∷ refused 7
    ∷ quiet
    ∷ quiet
    ∷ sends Ready 92
    ∷ quiet
    ∷ quiet
    ∷ completes
    ∷ refused 5
    ∷ refused 15
    ∷ sends Recovery 40
    ∷ refused 13
    ∷ refused 9
    ∷ refused 10
    ∷ quiet
    ∷ refused 7
    ∷ recovers 5 1
    ∷ refused 6
    ∷ quiet
    ∷ sends Send 124
    ∷ refused 13
    ∷ refused 13
    ∷ []

-- ---- what is sent

-- tag, size, dealer, session, k and C
abbrev begins : ℕ → ℕ → List ℕ → List ℕ
begins tag size end = tag ∷ 0 ∷ size ∷ 1 ∷ 0 ∷ 7 ∷ 2 ∷ 0 ∷ 4 ∷ 0 ∷ 13 ∷ 0 ∷ 8 ∷ 0 ∷ 12 ∷ end

-- "echo to each j with a(j), a'(j), b(j), b'(j)"; the ready has the same, interpolated from "the k lowest-numbered senders held",
-- boxes 2 and 3 of the three
abbrev points : ℕ → List ℕ
points tag =
    begins tag 20 (0 ∷ 3 ∷ 0 ∷ 1 ∷ 0 ∷ 3 ∷ 0 ∷ 1 ∷ [])
    ++ begins tag 20 (0 ∷ 10 ∷ 0 ∷ 5 ∷ 0 ∷ 9 ∷ 0 ∷ 6 ∷ [])
    ++ begins tag 20 (0 ∷ 6 ∷ 0 ∷ 9 ∷ 0 ∷ 4 ∷ 0 ∷ 0 ∷ [])
    ++ begins tag 20 (0 ∷ 2 ∷ 0 ∷ 2 ∷ 0 ∷ 10 ∷ 0 ∷ 5 ∷ [])

-- "send the share to each j"
abbrev share : List ℕ
share = 4 ∷ 0 ∷ 7 ∷ 1 ∷ 0 ∷ 7 ∷ 0 ∷ 7 ∷ 0 ∷ 8 ∷ []

-- "Box i gets a(y) = f(i, y), b(x) = f(x, i), and likewise from f'."
abbrev sent : List (List ℕ)
sent =
    points 2
    ∷ points 3
    ∷ (share ++ share ++ share ++ share)
    ∷ (begins 1 28 (0 ∷ 7 ∷ 0 ∷ 7 ∷ 0 ∷ 8 ∷ 0 ∷ 4 ∷ 0 ∷ 8 ∷ 0 ∷ 6 ∷ 0 ∷ 7 ∷ 0 ∷ 5 ∷ [])
    ++ begins 1 28 (0 ∷ 9 ∷ 0 ∷ 0 ∷ 0 ∷ 4 ∷ 0 ∷ 2 ∷ 0 ∷ 0 ∷ 0 ∷ 10 ∷ 0 ∷ 2 ∷ 0 ∷ 3 ∷ [])
    ++ begins 1 28 (0 ∷ 0 ∷ 0 ∷ 4 ∷ 0 ∷ 0 ∷ 0 ∷ 0 ∷ 0 ∷ 3 ∷ 0 ∷ 3 ∷ 0 ∷ 8 ∷ 0 ∷ 1 ∷ [])
    ++ begins 1 28 (0 ∷ 2 ∷ 0 ∷ 8 ∷ 0 ∷ 7 ∷ 0 ∷ 9 ∷ 0 ∷ 6 ∷ 0 ∷ 7 ∷ 0 ∷ 3 ∷ 0 ∷ 10 ∷ []))
    ∷ []

-- ---- the record at the end

-- marks of boxes 1 to 4
abbrev marks : Bool → Bool → Bool → Bool → Marks
marks a b c d = record { at = a ∷ b ∷ c ∷ d ∷ replicate 6 false }

abbrev row_of : ℕ → ℕ → List Element
row_of e e' = element e ∷ element e' ∷ replicate 6 (element 0)

-- "A sender has one point per C, its first checked one, be it in echo or ready; it may count once in e and once in r."; "The record
-- keeps that pair from then on"
abbrev its_slot : Slot
its_slot =
    slot true
    (row_of 4 13 ∷ row_of 8 12 ∷ replicate 6 (row_of 0 0))
    (holds 3 1 3 1 ∷ holds 9 6 10 5 ∷ holds 4 0 6 9 ∷ holds 4 3 7 0 ∷ replicate 6 silent)
    (marks false true true true)
    (marks true true true true)
    (keeps 7 8)

-- "An accepted message marks its sender heard for its tag."
abbrev end : Record
end =
    record {
      setup = class;
      slots = its_slot ∷ replicate 19 zero_slot;
      heard = marks true false false false ∷ marks false true true true ∷ marks true true true true ∷ marks true false true false ∷ [];
      progress = record { dealt = true; completion = Some 0; commanded = true };
      shares = keeps 7 8 ∷ nothing ∷ keeps 0 0 ∷ replicate 7 nothing;
      recovered = keeps 5 1;
    }

-- ---- the statement

pub whole_play : plays (new_record class) play ≡ record { told = answers; sent = sent; left = end }
unfolding plays doing computed
whole_play = refl

-- Document 01, "A record is sound when ..": for each clause, records that break it and no other where that can be, and sound ones that
-- a stricter clause would refuse.
--
-- In order: parts of a record; records of the class of the hand sums (E is 3, k is 2, k + t is 3); the clauses, up to the kept pair
-- and from completion on.
-- Assumes nothing.
use Rattle.rules.specs.declared.Pair.{Pair}
use Rattle.rules.specs.declared.Element.{Element}
use Rattle.std.specs.Prelude.{refl, Bool, true, false, List, [], ◌∷◌, map, ℕ, replicate}
use Rattle.std.specs.Prelude.{Option, Some, None}
use Rattle.rules.specs.declared.Marks.{Marks}
use Rattle.rules.specs.declared.Place.{Place}
use Rattle.rules.specs.declared.Record.{Record}
use Rattle.rules.specs.declared.SetUp.{SetUp}
use Rattle.rules.specs.declared.Slot.{Slot}
use Rattle.rules.specs.Numbers.{element}
use Rattle.rules.specs.Record.{silent, nothing, zero_slot}
use Rattle.rules.specs.Computed.{computed}
use Rattle.rules.specs.HandSums.{class, sized}
use Rattle.instances.specs.RecordParts.{holds, keeps, slot, Sound}

-- ---- parts

-- of boxes 1 to 5
abbrev marks : Bool → Bool → Bool → Bool → Bool → Marks
marks a b c d e = record { at = a ∷ b ∷ c ∷ d ∷ e ∷ replicate 5 false }

abbrev nobody : Marks
nobody = marks false false false false false

abbrev first : Marks
first = marks true false false false false

abbrev two : Marks
two = marks true true false false false

abbrev three : Marks
three = marks true true true false false

abbrev all : Marks
all = marks true true true true false

abbrev row_of : ℕ → ℕ → ℕ → List Element
row_of e e' e'' = element e ∷ element e' ∷ element e'' ∷ replicate 5 (element 0)

-- entry (0, 0), and what stands in column and in row k
abbrev rows : ℕ → ℕ → ℕ → List (List Element)
rows e column row = row_of e 13 column ∷ row_of 8 12 0 ∷ row_of row 0 0 ∷ replicate 5 (row_of 0 0 0)

-- places of boxes 1 to 5
abbrev places : Place → Place → Place → Place → Place → List Place
places a b c d e = a ∷ b ∷ c ∷ d ∷ e ∷ replicate 5 silent

-- one point, of box 1, and all four
abbrev one : Place → List Place
one p = places p silent silent silent silent

abbrev four_held : List Place
four_held = places (holds 10 5 9 6) (holds 0 1 2 3) (holds 4 5 6 7) (holds 8 9 10 0) silent

abbrev three_held : List Place
three_held = places (holds 10 5 9 6) (holds 0 1 2 3) (holds 4 5 6 7) silent silent

-- places 0 and 1 for matrices, who is heard for tags 1 to 4, and the rest
abbrev holding : SetUp → Slot → Slot → List Marks → Bool → Option ℕ → Bool → List (Option Pair) → Option Pair → Record
holding u a b heard dealt completion commanded shares recovered =
    record {
      setup = u;
      slots = a ∷ b ∷ replicate 18 zero_slot;
      heard = heard;
      progress = record { dealt = dealt; completion = completion; commanded = commanded };
      shares = shares;
      recovered = recovered;
    }

-- ---- records

abbrev box_2 : SetUp
box_2 = record { group = 1; n = 4; t = 1; k = 2; i = 2; d = 1; session = 7 }

-- nothing but these set-up numbers, and these heard for tag 1
abbrev new : SetUp → Marks → Record
new u ears = holding u zero_slot zero_slot (ears ∷ nobody ∷ nobody ∷ nobody ∷ []) false None false (replicate 10 nothing) nothing

-- not completed, with these matrices and these heard for tags 2 and 3
abbrev begun : Slot → Slot → Marks → Marks → Record
begun a b echoes readies = holding box_2 a b (nobody ∷ echoes ∷ readies ∷ nobody ∷ []) false None false (replicate 10 nothing) nothing

-- the echo of box 1, with this point and entry
abbrev one_echo : ℕ → Place → Slot
one_echo e p = slot true (rows e 0 0) (one p) first nobody nothing

abbrev its_echo : Slot
its_echo = one_echo 4 (holds 10 5 9 6)

abbrev one_ready : ℕ → Slot
one_ready e = slot true (rows e 0 0) (one (holds 0 0 0 0)) nobody first nothing

-- points of boxes 1 and 2
abbrev two_held_lem : Marks → Marks → Option Pair → Slot
two_held_lem = slot true (rows 4 0 0) (places (holds 1 1 1 1) (holds 1 1 1 1) silent silent silent)

-- all echoes, readies of these, and this pair kept
abbrev echoed : Marks → Option Pair → Slot
echoed readied kept = slot true (rows 4 0 0) four_held all readied kept

-- completed with a place
abbrev completed : Slot → Bool → ℕ → Record
completed a dealt place =
    holding box_2 a zero_slot (nobody ∷ all ∷ all ∷ nobody ∷ []) dealt (Some place) false (replicate 10 nothing) nothing

-- shares of boxes 1 to 3, who is heard for tag 4, and the recovered pair
abbrev recovering : Option ℕ → Bool → Option Pair → Option Pair → Option Pair → Marks → Option Pair → Record
recovering completion commanded a b c ears recovered =
    holding class (echoed all (keeps 7 8)) zero_slot (first ∷ all ∷ all ∷ ears ∷ []) true completion commanded
    (a ∷ b ∷ c ∷ replicate 7 nothing) recovered

abbrev recovered : Option Pair → Option Pair → Option Pair → Marks → Option Pair → Record
recovered = recovering (Some 0) true

-- box 5 of four
abbrev fifth : Marks
fifth = marks false false false false true

-- ---- the clauses

pub record SoundRecords : Type 0 where
  -- "its group and set-up numbers keep their rules"
  pub numbers : Sound (new class nobody ∷ new (sized 11 1 2) nobody ∷ new (sized 4 1 3) nobody
      ∷ new (record { group = 3; n = 4; t = 1; k = 2; i = 1; d = 1; session = 7 }) nobody
      ∷ new (record { group = 1; n = 4; t = 1; k = 2; i = 5; d = 1; session = 7 }) nobody
      ∷ new (record { group = 1; n = 4; t = 1; k = 2; i = 1; d = 0; session = 7 }) nobody
      ∷ new (record { group = 1; n = 4; t = 1; k = 2; i = 1; d = 1; session = 65536 }) nobody ∷ [])
      (true ∷ false ∷ false ∷ false ∷ false ∷ false ∷ false ∷ [])
  -- "stored exponents are below q": in a point (which may fail its check), a kept pair, a recovery share, the recovered pair
  pub points_below : Sound (map (λ p. begun (one_echo 4 p) zero_slot first nobody)
      (holds 10 10 10 10 ∷ holds 11 5 9 6 ∷ holds 10 11 9 6 ∷ holds 10 5 11 6 ∷ holds 10 5 9 11 ∷ []))
      (true ∷ false ∷ false ∷ false ∷ false ∷ [])
  pub pairs_below : Sound (map (λ p. completed (echoed all p) false 0) (keeps 10 10 ∷ keeps 11 4 ∷ keeps 9 11 ∷ []))
      (true ∷ false ∷ false ∷ [])
  pub shares_below : Sound (map (λ p. recovered p (keeps 9 4) nothing two (keeps 5 1)) (keeps 10 10 ∷ keeps 11 8 ∷ keeps 7 11 ∷ []))
      (true ∷ false ∷ false ∷ [])
  pub recovered_below : Sound (map (recovered (keeps 7 8) (keeps 9 4) nothing two) (keeps 10 10 ∷ keeps 11 1 ∷ keeps 5 11 ∷ []))
      (true ∷ false ∷ false ∷ [])
  -- "matrices in use are different and would pass refusal 8": the same twice; 0, 5 and 25 as an entry
  pub different : Sound (map (λ e. begun its_echo (one_ready e) first first) (8 ∷ 4 ∷ [])) (true ∷ false ∷ [])
  pub pass : Sound (map (λ e. begun (one_echo e (holds 10 5 9 6)) zero_slot first nobody) (18 ∷ 0 ∷ 5 ∷ 25 ∷ []))
      (true ∷ false ∷ false ∷ false ∷ [])
  -- "a sender is marked for echo or ready under at most one matrix each, and then is heard for that tag"
  pub one_each : Sound (begun its_echo (one_echo 8 (holds 0 0 0 0)) first nobody ∷ begun (one_ready 4) (one_ready 8) nobody first ∷ [])
      (false ∷ false ∷ [])
  pub heard : Sound (begun its_echo zero_slot first nobody ∷ begun its_echo zero_slot nobody nobody ∷ begun its_echo zero_slot nobody first
      ∷ begun (one_ready 4) zero_slot first nobody ∷ begun zero_slot zero_slot all all ∷ new class all ∷ [])
      (true ∷ false ∷ false ∷ false ∷ true ∷ true ∷ [])
  -- "a place is held exactly if its sender is marked for either"; "a matrix is in use exactly if some place of it is held"; a place in
  -- use above one that is not
  pub held : Sound (begun (slot true (rows 4 0 0) (places (holds 1 1 1 1) silent (holds 0 0 0 0) silent silent) first nobody nothing) zero_slot first nobody
      ∷ begun (slot true (rows 4 0 0) (one (holds 1 1 1 1)) two nobody nothing) zero_slot two nobody
      ∷ begun (slot true (rows 4 0 0) (one (holds 1 1 1 1)) nobody two nothing) zero_slot nobody two ∷ [])
      (false ∷ false ∷ false ∷ [])
  pub in_use_lem : Sound (begun zero_slot its_echo first nobody
      ∷ begun (slot true (rows 4 0 0) (one silent) nobody nobody nothing) zero_slot first nobody
      ∷ begun (slot false zero_slot.rows (one (holds 1 1 1 1)) first nobody nothing) zero_slot first nobody ∷ [])
      (true ∷ false ∷ false ∷ [])
  -- "a kept pair is there exactly if e ≥ E or r ≥ k": e 4 and r 0; e 3 and r 0; e 0 and r 2; e 2 and r 1
  pub pair_there : Sound (map (λ p. begun (echoed nobody p) zero_slot all nobody) (keeps 0 0 ∷ nothing ∷ [])) (true ∷ false ∷ [])
  pub pair_at_E : Sound (map (λ p. begun (slot true (rows 4 0 0) three_held three nobody p) zero_slot all nobody) (keeps 0 0 ∷ nothing ∷ []))
      (true ∷ false ∷ [])
  pub pair_by_readies : Sound (map (λ p. begun (two_held_lem nobody two p) zero_slot nobody two) (keeps 0 0 ∷ nothing ∷ [])) (true ∷ false ∷ [])
  pub no_pair_lem : Sound (map (λ p. begun (two_held_lem two first p) zero_slot two first) (keeps 0 0 ∷ nothing ∷ [])) (false ∷ true ∷ [])

pub sound_records : SoundRecords
unfolding computed
sound_records =
    record {
      numbers = refl;
      points_below = refl;
      pairs_below = refl;
      shares_below = refl;
      recovered_below = refl;
      different = refl;
      pass = refl;
      one_each = refl;
      heard = refl;
      held = refl;
      in_use_lem = refl;
      pair_there = refl;
      pair_at_E = refl;
      pair_by_readies = refl;
      no_pair_lem = refl;
    }

pub record SoundEnds : Type 0 where
  -- "a completed box has one completed matrix in use, with r ≥ k + t": r 3 and r 2; a place not in use; no place. Readies of k + t
  -- and no completion are sound
  pub completion : Sound (completed (echoed three (keeps 9 4)) false 0
      ∷ completed (echoed two (keeps 9 4)) false 0
      ∷ completed (echoed all (keeps 9 4)) false 1
      ∷ completed (echoed all (keeps 9 4)) false 20
      ∷ begun (echoed all (keeps 9 4)) zero_slot all all ∷ [])
      (true ∷ false ∷ false ∷ false ∷ true ∷ [])
  -- "a command needs completion, kept recovery shares a command, at most k are kept, their senders alone are heard for tag 4, and the
  -- recovered pair is there exactly if k are kept"
  pub command : Sound (recovering (Some 0) true nothing nothing nothing nobody nothing
      ∷ recovering None true nothing nothing nothing nobody nothing
      ∷ recovering (Some 0) true (keeps 7 8) nothing nothing first nothing
      ∷ recovering (Some 0) false (keeps 7 8) nothing nothing first nothing ∷ [])
      (true ∷ false ∷ true ∷ false ∷ [])
  pub at_most_k : Sound (recovered (keeps 7 8) (keeps 9 4) nothing two (keeps 5 1)
      ∷ recovered (keeps 7 8) (keeps 9 4) (keeps 0 0) three (keeps 5 1)
      ∷ recovered (keeps 7 8) (keeps 9 4) (keeps 0 0) three nothing ∷ [])
      (true ∷ false ∷ false ∷ [])
  pub senders_alone : Sound (map (λ ears. recovered (keeps 7 8) (keeps 9 4) nothing ears (keeps 5 1)) (first ∷ three ∷ []))
      (false ∷ false ∷ [])
  pub recovered_there : Sound (recovered (keeps 7 8) (keeps 9 4) nothing two nothing ∷ recovered (keeps 7 8) nothing nothing first (keeps 5 1) ∷ [])
      (false ∷ false ∷ [])
  -- "only box d has dealt"
  pub dealt : Sound (map (λ b. completed (echoed all (keeps 9 4)) b 0) (false ∷ true ∷ [])) (true ∷ false ∷ [])
  -- "unused places are zero": column k, row k, a matrix not in use; a sender above n
  pub entries : Sound (begun (slot true (rows 4 1 0) (one (holds 1 1 1 1)) first nobody nothing) zero_slot first nobody
      ∷ begun (slot true (rows 4 0 1) (one (holds 1 1 1 1)) first nobody nothing) zero_slot first nobody
      ∷ begun zero_slot (slot false (rows 4 0 0) (one silent) nobody nobody nothing) nobody nobody ∷ [])
      (false ∷ false ∷ false ∷ [])
  pub senders : Sound (new class fifth
      ∷ begun (slot true (rows 4 0 0) (places silent silent silent silent (holds 1 1 1 1)) fifth nobody nothing) zero_slot fifth nobody
      ∷ begun (slot true (rows 4 0 0) (places silent silent silent silent (holds 1 1 1 1)) nobody fifth nothing) zero_slot nobody fifth
      ∷ begun zero_slot zero_slot fifth nobody ∷ begun zero_slot zero_slot nobody fifth
      ∷ recovered (keeps 7 8) nothing nothing (marks true false false false true) nothing ∷ [])
      (false ∷ false ∷ false ∷ false ∷ false ∷ false ∷ [])

pub sound_ends : SoundEnds
unfolding computed
sound_ends =
    record {
      completion = refl;
      command = refl;
      at_most_k = refl;
      senders_alone = refl;
      recovered_there = refl;
      dealt = refl;
      entries = refl;
      senders = refl;
    }

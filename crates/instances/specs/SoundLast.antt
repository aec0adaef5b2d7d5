-- Document 01, "A record is sound when ..": the clauses at the last of the 20 numbered places, at the last of ten boxes, and in the
-- last row and column of a matrix.
--
-- In order: records of a class of ten boxes (E is 6, k is 2, k + t is 3), box 1 of which deals; the clauses.
-- Assumes nothing.
use Rattle.rules.specs.declared.Pair.{Pair}
use Rattle.rules.specs.declared.Element.{Element}
use Rattle.std.specs.Prelude.{refl, Bool, true, false, List, [], ◌∷◌, ◌++◌, map, ℕ, replicate}
use Rattle.std.specs.Prelude.{Option, Some, None}
use Rattle.rules.specs.declared.Marks.{Marks}
use Rattle.rules.specs.declared.Place.{Place}
use Rattle.rules.specs.declared.Record.{Record}
use Rattle.rules.specs.declared.Slot.{Slot}
use Rattle.rules.specs.Numbers.{element}
use Rattle.rules.specs.Record.{silent, nothing, zero_slot}
use Rattle.rules.specs.Computed.{computed}
use Rattle.rules.specs.HandSums.{class, sized}
use Rattle.instances.specs.RecordParts.{holds, keeps, slot, Sound}

-- ---- records

-- of box 9 and box 10
abbrev marks : Bool → Bool → Marks
marks ninth tenth = record { at = replicate 8 false ++ ninth ∷ tenth ∷ [] }

abbrev nobody : Marks
nobody = marks false false

abbrev tenth : Marks
tenth = marks false true

abbrev both : Marks
both = marks true true

abbrev point : ℕ → ℕ → Place
point x y = holds x y x y

abbrev places : Place → Place → List Place
places a b = replicate 8 silent ++ a ∷ b ∷ []

-- a matrix, and what stands at the end of its first row and of its last column
abbrev row_of : ℕ → ℕ → ℕ → List Element
row_of e e' last = element e ∷ element e' ∷ replicate 5 (element 0) ++ element last ∷ []

abbrev rows : ℕ → ℕ → ℕ → ℕ → ℕ → ℕ → List (List Element)
rows a b c d last corner = row_of a b last ∷ row_of c d 0 ∷ replicate 5 (row_of 0 0 0) ++ row_of 0 0 corner ∷ []

-- the echo of box 10 with this point, and its ready, for a matrix
abbrev echo_of : List (List Element) → Place → Slot
echo_of C p = slot true C (places silent p) tenth nobody nothing

abbrev ready_of_lem : List (List Element) → Slot
ready_of_lem C = slot true C (places silent (point 0 0)) nobody tenth nothing

abbrev D : List (List Element)
D = rows 4 13 8 12 0 0

-- places 0 and 19, and who is heard for tags 2 and 3
abbrev begun : Slot → Slot → Marks → Marks → Record
begun a b echoes readies =
    record {
      setup = sized 10 1 2;
      slots = a ∷ replicate 18 zero_slot ++ b ∷ [];
      heard = nobody ∷ echoes ∷ readies ∷ nobody ∷ [];
      progress = record { dealt = false; completion = None; commanded = false };
      shares = replicate 10 nothing;
      recovered = nothing;
    }

-- place 19 alone
abbrev last : Slot → Marks → Marks → Record
last b echoes readies = begun zero_slot b echoes readies

abbrev three : Marks
three = record { at = replicate 7 false ++ true ∷ true ∷ true ∷ [] }

-- completed with place 19 by boxes 8, 9 and 10, and commanded: shares of boxes 9 and 10, who is heard for tag 4, the recovered pair
abbrev recovered : Marks → Option Pair → Option Pair → Marks → Option Pair → Record
recovered readied a b ears pair =
    record {
      setup = sized 10 1 2;
      slots = replicate 19 zero_slot
          ++ slot true D (replicate 7 silent ++ point 0 0 ∷ point 1 1 ∷ point 2 2 ∷ []) three readied (keeps 7 8)
          ∷ [];
      heard = nobody ∷ three ∷ three ∷ ears ∷ [];
      progress = record { dealt = true; completion = Some 19; commanded = true };
      shares = replicate 8 nothing ++ a ∷ b ∷ [];
      recovered = pair;
    }

-- a new box of a class of four, with these heard
abbrev ten_of_four : List Marks → Record
ten_of_four heard =
    record {
      setup = class;
      slots = replicate 20 zero_slot;
      heard = heard;
      progress = record { dealt = false; completion = None; commanded = false };
      shares = replicate 10 nothing;
      recovered = nothing;
    }

-- ---- the clauses

pub record SoundLast : Type 0 where
  -- "stored exponents are below q"
  pub below : Sound (map (λ p. last (echo_of D p) tenth nobody) (point 10 10 ∷ point 11 0 ∷ [])) (true ∷ false ∷ [])
  pub pair_below_lem : Sound (map (λ p. last (slot true D (places (point 0 0) (point 0 0)) nobody both p) nobody both) (keeps 10 10 ∷ keeps 11 0 ∷ []))
      (true ∷ false ∷ [])
  -- "matrices in use are different": in one entry each
  pub different : Sound (map (λ C. begun (echo_of D (point 0 0)) (ready_of_lem C) tenth tenth)
      (rows 8 13 8 12 0 0 ∷ rows 4 8 8 12 0 0 ∷ rows 4 13 4 12 0 0 ∷ rows 4 13 8 8 0 0 ∷ D ∷ []))
      (true ∷ true ∷ true ∷ true ∷ false ∷ [])
  -- "and would pass refusal 8"
  pub pass : Sound (map (λ e. last (ready_of_lem (rows 4 13 8 e 0 0)) nobody tenth) (18 ∷ 0 ∷ 22 ∷ [])) (true ∷ false ∷ false ∷ [])
  -- "a sender is marked for echo or ready under at most one matrix each, and then is heard for that tag"
  pub one_each : Sound (begun (echo_of D (point 0 0)) (echo_of (rows 8 13 8 12 0 0) (point 0 0)) tenth nobody
      ∷ begun (ready_of_lem D) (ready_of_lem (rows 8 13 8 12 0 0)) nobody tenth
      ∷ last (echo_of D (point 0 0)) nobody tenth ∷ last (ready_of_lem D) tenth nobody ∷ [])
      (false ∷ false ∷ false ∷ false ∷ [])
  -- "a place is held exactly if its sender is marked for either; a matrix is in use exactly if some place of it is held"
  pub held : Sound (last (slot true D (places (point 0 0) (point 0 0)) (marks true false) nobody nothing) both both
      ∷ last (slot true D (places (point 0 0) silent) both nobody nothing) both both
      ∷ last (slot true D (places silent silent) nobody nobody nothing) both both ∷ [])
      (false ∷ false ∷ false ∷ [])
  -- "a kept pair is there exactly if e ≥ E or r ≥ k"
  pub pair_there : Sound (last (slot true D (places (point 0 0) (point 0 0)) nobody both nothing) nobody both
      ∷ last (slot true D (places silent (point 0 0)) nobody tenth (keeps 0 0)) nobody tenth ∷ [])
      (false ∷ false ∷ [])
  -- "a completed box has one completed matrix in use, with r ≥ k + t"; "kept recovery shares .. at most k are kept, their senders alone
  -- are heard for tag 4, and the recovered pair is there exactly if k are kept"
  pub completed : Sound (recovered three (keeps 10 10) (keeps 10 10) both (keeps 10 10)
      ∷ recovered both (keeps 1 1) (keeps 1 1) both (keeps 1 1)
      ∷ recovered three (keeps 1 1) (keeps 11 1) both (keeps 1 1)
      ∷ recovered three (keeps 1 1) (keeps 1 1) both nothing
      ∷ recovered three (keeps 1 1) (keeps 1 1) (marks true false) (keeps 1 1)
      ∷ recovered three (keeps 1 1) nothing both nothing
      ∷ recovered three (keeps 1 1) nothing (marks true false) nothing ∷ [])
      (true ∷ false ∷ false ∷ false ∷ false ∷ false ∷ true ∷ [])
  -- "unused places are zero": the last column, the corner; a matrix not in use; box 10 of four, heard for each tag
  pub zero : Sound (last (ready_of_lem (rows 4 13 8 12 1 0)) nobody tenth ∷ last (ready_of_lem (rows 4 13 8 12 0 1)) nobody tenth
      ∷ last (slot false D (places silent silent) nobody nobody nothing) nobody nobody ∷ [])
      (false ∷ false ∷ false ∷ [])
  pub box_10 : Sound (map ten_of_four ((tenth ∷ nobody ∷ nobody ∷ nobody ∷ []) ∷ (nobody ∷ tenth ∷ nobody ∷ nobody ∷ [])
      ∷ (nobody ∷ nobody ∷ tenth ∷ nobody ∷ []) ∷ (nobody ∷ nobody ∷ nobody ∷ tenth ∷ []) ∷ (nobody ∷ nobody ∷ nobody ∷ nobody ∷ []) ∷ []))
      (false ∷ false ∷ false ∷ false ∷ true ∷ [])

pub sound_last : SoundLast
unfolding computed
sound_last =
    record {
      below = refl;
      pair_below_lem = refl;
      different = refl;
      pass = refl;
      one_each = refl;
      held = refl;
      pair_there = refl;
      completed = refl;
      zero = refl;
      box_10 = refl;
    }

-- Document 01: "A refused set-up gives the all-zero record", and a new box starts from nothing: both records by literal zeros.
--
-- In order: the parts of a record, zero by zero; what a set-up answers and leaves.
-- Assumes nothing.
use Rattle.rules.specs.declared.Pair.{Pair}
use Rattle.rules.specs.declared.Element.{Element}
use Rattle.std.specs.Prelude.{◌≡◌, refl, false, List, [], ◌∷◌, ℕ}
use Rattle.rules.specs.declared.SetUp.{SetUp}
use Rattle.rules.specs.declared.Point.TheVariants.{Silent}
use Rattle.rules.specs.declared.Place.{Place}
use Rattle.std.specs.Prelude.{Option, None}
use Rattle.rules.specs.declared.Marks.{Marks}
use Rattle.rules.specs.declared.Slot.{Slot}
use Rattle.rules.specs.declared.Record.{Record}
use Rattle.rules.specs.declared.Sent.TheVariants.{Nothing}
use Rattle.rules.specs.declared.Outcome.{Outcome}
use Rattle.rules.specs.Numbers.{element}
use Rattle.rules.specs.Record.{zero_record}
use Rattle.rules.specs.Answers.{set_up}
use Rattle.rules.specs.Computed.{computed}
use Rattle.rules.specs.HandSums.{class, sized, pair}

-- ---- the parts of a record

abbrev four_of_lem : {A : Type 0} → A → List A → List A
four_of_lem a l = a ∷ a ∷ a ∷ a ∷ l

abbrev eight : {A : Type 0} → A → List A
eight a = four_of_lem a (four_of_lem a [])

abbrev ten : {A : Type 0} → A → List A
ten a = four_of_lem a (four_of_lem a (a ∷ a ∷ []))

abbrev twenty : {A : Type 0} → A → List A
twenty a = four_of_lem a (four_of_lem a (four_of_lem a (four_of_lem a (four_of_lem a []))))

abbrev no_marks_lem : Marks
no_marks_lem = record { at = ten false }

abbrev no_pair_lem : Option Pair
no_pair_lem = None

abbrev zero_row : List Element
zero_row = eight (element 0)

abbrev is_silent_lem : Place
is_silent_lem = record { point = Silent }

abbrev zeros : Slot
zeros = record { used = false; rows = eight zero_row; places = ten is_silent_lem; echoed = no_marks_lem; readied = no_marks_lem; pair = no_pair_lem }

-- nothing but these set-up numbers
abbrev nothing_but : SetUp → Record
nothing_but u =
    record {
      setup = u;
      slots = twenty zeros;
      heard = four_of_lem no_marks_lem [];
      progress = record { dealt = false; completion = None; commanded = false };
      shares = ten no_pair_lem;
      recovered = no_pair_lem;
    }

abbrev no_numbers : SetUp
no_numbers = record { group = 0; n = 0; t = 0; k = 0; i = 0; d = 0; session = 0 }

-- ---- what a set-up answers and leaves

-- a number, and otherwise zeros
abbrev answers : ℕ → Record → Outcome
answers number x =
    record { answer = record { no = number; sent = Nothing; bytes = 0; completed = false; recovered = false; pair = pair 0 0 }; next = x }

pub record ZeroRecord : Type 0 where
  pub all-zero : zero_record ≡ nothing_but no_numbers
  -- "A refused set-up gives the all-zero record": group 0, n 11
  pub refused_11 : set_up (record { group = 0; n = 4; t = 1; k = 2; i = 1; d = 1; session = 7 }) ≡ answers 11 (nothing_but no_numbers)
  pub refused_12 : set_up (sized 11 1 2) ≡ answers 12 (nothing_but no_numbers)
  -- a set-up that is taken keeps its numbers and holds nothing else
  pub new_box : set_up class ≡ answers 0 (nothing_but class)

pub zero_record_lem : ZeroRecord
unfolding computed
zero_record_lem = record { all-zero = refl; refused_11 = refl; refused_12 = refl; new_box = refl }

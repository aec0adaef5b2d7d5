-- Document 01's sheet: it opens, and what the theorems of `Demands` say of it.
--
-- In order: the sheet; what is computed of it; what the theorems say.
-- Assumes nothing.
use Rattle.std.specs.Prelude.{◌≡◌, refl, true, List, ◌++◌, ℕ, take}
use Rattle.std.proofs.Common.{sym, ap, ap₂, ◌∙◌, arith}
use Rattle.rules.specs.declared.Element.{Element}
use Rattle.rules.specs.declared.Group.{Group}
use Rattle.std.specs.Prelude.{Some, None}
use Rattle.rules.specs.declared.Pair.{Pair}
use Rattle.rules.specs.Numbers.{group_of}
use Rattle.rules.specs.Matrices.{entry}
use Rattle.rules.specs.Dealing.{committed, share_check}
use Rattle.rules.specs.Record.{share_at}
use Rattle.rules.specs.Steps.{share_points}
use Rattle.rules.specs.Sheet.{box_lines, secret_line, printed}
use Rattle.rules.specs.Text.{text}
use Rattle.rules.specs.Computed.{computed}
use Rattle.rules.specs.HandSums.{pair}
use Rattle.demands.specs.Terms.Sheet.{Opens, numbers, matrix, says, verified, secret}
use Rattle.demands.specs.Demands.{sheet_prints_its_secret, sheet_secret_opens, sheet_verifies_what_is_said, silent_box_is_not_verified}
use Rattle.instances.specs.Calls.{D}

-- ---- the sheet

abbrev sheet : List ℕ
sheet = text "sheet 1 4 1 2\n4 13 8 12\n1 7 8\n2 silent\n3 0 0\n4 2 1\n"

abbrev G : Group
G = group_of (numbers sheet).group

abbrev k : ℕ
k = (numbers sheet).k

abbrev C : List (List Element)
C = matrix sheet

-- ---- what is computed of it

pub opens : Opens sheet
unfolding computed
opens = record { first = refl; group = refl; sizes = refl; rest = refl; passes = refl; enough = omega arith }

pub record Reads : Type 0 where
  -- the dealt matrix
  pub dealt : C ≡ D
  -- box 2 is silent; box 3 truly says 0, 0, and is verified; box 4 says another pair than its own, and is not
  pub says_2 : share_at (says sheet) 1 ≡ None
  pub verified_3 : share_at (verified sheet) 2 ≡ Some (pair 0 0)
  pub says_4 : share_at (says sheet) 3 ≡ Some (pair 2 1)
  pub verified_4 : share_at (verified sheet) 3 ≡ None
  pub gives : secret sheet ≡ pair 5 1
  pub boxes : box_lines G k C (numbers sheet).n (says sheet) ≡ text "1 verified\n2 silent\n3 verified\n4 refused 10\n"
  pub last : secret_line (secret sheet) (take k (share_points (verified sheet))) ≡ text "secret 5 1 from 1 3\n"
  pub first_entry : entry C 0 0 ≡ 4

pub reads : Reads
unfolding computed
reads =
    record {
      dealt = refl;
      says_2 = refl;
      verified_3 = refl;
      says_4 = refl;
      verified_4 = refl;
      gives = refl;
      boxes = refl;
      last = refl;
      first_entry = refl;
    }

-- ---- what the theorems say

pub record Says : Type 0 where
  pub prints : printed sheet ≡ text "1 verified\n2 silent\n3 verified\n4 refused 10\n" ++ text "secret 5 1 from 1 3\n"
  pub opens : committed G 5 1 ≡ 4
  -- box 3 said the pair that it is verified by, which passes; box 2, silent, is not verified
  pub says_3 : share_at (says sheet) 2 ≡ Some (pair 0 0)
  pub passes_3 : share_check G k C 3 (pair 0 0) ≡ true
  pub verified_2 : share_at (verified sheet) 1 ≡ None

pub sheet_says : Says
sheet_says =
    let r = reads in
    let box_3 = sheet_verifies_what_is_said sheet 2 (pair 0 0) (omega arith) r.verified_3 in
    record {
      prints = sheet_prints_its_secret sheet opens ∙ ap₂ ◌++◌ r.boxes r.last;
      opens =
          ap (λ (p : Pair). committed G p.first.0 p.second.0) (sym r.gives)
          ∙ sheet_secret_opens sheet opens
          ∙ r.first_entry;
      says_3 = box_3.0;
      passes_3 = box_3.1;
      verified_2 = silent_box_is_not_verified sheet 1 (omega arith) r.says_2;
    }

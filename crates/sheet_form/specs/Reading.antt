-- What the readers ask of a sheet, a line of it, and a row of its matrix.
-- Assumes nothing.
use Rattle.std.specs.Prelude.{true, List, ◌≡◌, ℕ, ◌+◌, ◌*◌, ◌≤◌, Option, Some, None}
use Rattle.folds.specs.Tests.{pick}
use Rattle.rules.specs.declared.Element.{Element}
use Rattle.rules.specs.Numbers.{element}
use Rattle.rules.specs.Matrices.{row}
use Rattle.rules.specs.Text.{number_at, numbers_at}
use Rattle.rules.specs.Sheet.{matrix_place, next_line, said_at, first_line_keeps, box_line_keeps, rest_keeps}
use Rattle.sheet_form.specs.declared.Line.{Line}

-- the first line has passed, and so have its n and k
pub record FirstLine (b : List ℕ) (n k : ℕ) : Type 0 where
  pub keeps : first_line_keeps b ≡ true
  pub boxes : n ≤ 10
  pub high : k ≤ 8

-- and behind it stand the entries of the matrix
pub record Entries (b : List ℕ) (k : ℕ) : Type 0 where
  pub first : first_line_keeps b ≡ true
  pub high : k ≤ 8
  pub stand : numbers_at b (matrix_place b) (k * k) ≡ true

-- the whole sheet has passed
pub record Whole (b : List ℕ) (n k : ℕ) : Type 0 where
  pub line : FirstLine b n k
  pub rest : rest_keeps b n k ≡ true

-- the line from i on; and if it stands there as that of box m + 1
abbrev pub line_of : List ℕ → ℕ → Line
line_of b i = record { said = said_at b i; next = next_line b i }

unfoldable pub line_in : List ℕ → ℕ → ℕ → Option Line
line_in b i m = pick (box_line_keeps b i m) (Some (line_of b i)) None

unfoldable pub sheet_row : List ℕ → ℕ → ℕ → List Element
sheet_row b k j = row k (element 0) (λ l. element (number_at b (matrix_place b) (j * k + l)))

-- The first place from one on where a byte stands.
-- Assumes nothing.
use Rattle.std.specs.Prelude.{List, ℕ, ◌-◌, eqb, length, get_or}
use Rattle.folds.specs.Below.{first_from}

-- else where the text ends
unfoldable pub byte_from : List ℕ → ℕ → ℕ → ℕ
byte_from b i c = first_from (length b - i) i (λ j. eqb (get_or b j 0) c)

-- Points as an array with a count, and the list that they say.
-- Assumes nothing.
use Rattle.std.specs.Prelude.{List, [], ◌∷◌, map, ℕ, get_or}
use Rattle.folds.specs.Runs.{gather}
use Rattle.rules.specs.declared.Exponent.{Exponent}
use Rattle.rules.specs.declared.Pair.{Pair}
use Rattle.rules.specs.Numbers.{exponent}
use Rattle.rules.specs.Steps.{Said}
use Rattle.interpolation.specs.declared.Points.{Points}
use Rattle.interpolation.specs.declared.Numbered.{Numbered}

-- what stands beyond the points, and beyond a list of them
abbrev pub nothing : Numbered
nothing = record { number = 0; pair = record { first = exponent 0; second = exponent 0 } }

abbrev pub nobody : Said Pair
nobody = record { box = 0; says = record { first = exponent 0; second = exponent 0 } }

-- the numbers of the boxes, and each number of the pairs
abbrev pub boxes_of : Points → List ℕ
boxes_of p = map (λ s. s.number) p.said

abbrev pub firsts_of : Points → List Exponent
firsts_of p = map (λ s. s.pair.first) p.said

abbrev pub seconds_of : Points → List Exponent
seconds_of p = map (λ s. s.pair.second) p.said

abbrev pub box_at : List ℕ → ℕ → ℕ
box_at boxes j = get_or boxes j 0

-- what box and pair stand at i
abbrev pub said_at : Points → ℕ → Said Pair
said_at p i =
    record {
      box = box_at (boxes_of p) i;
      says = record { first = get_or (firsts_of p) i (exponent 0); second = get_or (seconds_of p) i (exponent 0) };
    }

unfoldable pub said_by : Points → List (Said Pair)
said_by p = gather p.count (λ i. said_at p i ∷ [])

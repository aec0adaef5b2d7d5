-- Lagrange's weights in an array, the sums that they weigh, the values of the polynomials through points, and what the functions
-- ask of their points.
-- Assumes nothing.
use Rattle.std.specs.Prelude.{List, ◌≡◌, ℕ, ◌*◌, ◌%◌, ◌<◌, ◌≤◌}
use Rattle.folds.specs.Below.{sum_below}
use Rattle.algebra.specs.Residues.{inverse}
use Rattle.algebra.specs.Interpolation.{others, weight}
use Rattle.rules.specs.declared.Exponent.{Exponent}
use Rattle.rules.specs.declared.Four.{Four}
use Rattle.rules.specs.declared.Pair.{Pair}
use Rattle.rules.specs.Numbers.{exponent}
use Rattle.rules.specs.Matrices.{row, coefficient}
use Rattle.rules.specs.Steps.{Said, through}
use Rattle.interpolation.specs.declared.Points.{Points}
use Rattle.interpolation.specs.Points.{boxes_of, firsts_of, seconds_of, box_at}

abbrev pub inverse_at : ℕ → ℕ → List ℕ → ℕ → Exponent
inverse_at q count boxes i = exponent (inverse q (others q count (box_at boxes) i (box_at boxes i)))

unfoldable pub inverse_row : ℕ → ℕ → List ℕ → List Exponent
inverse_row q count boxes = row count (exponent 0) (inverse_at q count boxes)

abbrev pub weight_at : ℕ → ℕ → List ℕ → ℕ → ℕ → Exponent
weight_at q count boxes x i = exponent (weight q count (box_at boxes) x i % q)

unfoldable pub weight_row : ℕ → ℕ → List ℕ → ℕ → List Exponent
weight_row q count boxes x = row count (exponent 0) (weight_at q count boxes x)

unfoldable pub weighted_sum : ℕ → ℕ → List Exponent → List Exponent → ℕ
weighted_sum q count w y = sum_below count (λ i. coefficient w i * coefficient y i) % q

unfoldable pub weighted_pair : ℕ → List Exponent → Points → Pair
weighted_pair q w p =
    record { first = exponent (weighted_sum q p.count w (firsts_of p)); second = exponent (weighted_sum q p.count w (seconds_of p)) }

-- ---- values at x

unfoldable pub pair_through : ℕ → List (Said Pair) → ℕ → Pair
pair_through q ps x =
    record { first = exponent (through q ps (λ s. s.first.0) x); second = exponent (through q ps (λ s. s.second.0) x) }

unfoldable pub four_through : ℕ → List (Said Pair) → List (Said Pair) → ℕ → Four
four_through q rows columns x =
    record {
      alpha = (pair_through q rows x).first;
      alpha2 = (pair_through q rows x).second;
      beta = (pair_through q columns x).first;
      beta2 = (pair_through q columns x).second;
    }

-- ---- what the functions ask

-- at most eight boxes, and no difference x - x_j goes wrong
pub record Fit (q : ℕ) (p : Points) : Type 0 where
  pub some : 0 < q
  pub few : p.count ≤ 8
  pub low : (j : ℕ) → j < p.count → box_at (boxes_of p) j ≤ q

pub record Based (q : ℕ) (p : Points) (under : List Exponent) : Type 0 where
  pub fit : Fit q p
  pub inverses : under ≡ inverse_row q p.count (boxes_of p)

-- two lots of points at the same boxes
pub record Sides (q : ℕ) (one other : Points) (under : List Exponent) : Type 0 where
  pub based : Based q one under
  pub fit : Fit q other
  pub count : other.count ≡ one.count
  pub boxes : boxes_of other ≡ boxes_of one

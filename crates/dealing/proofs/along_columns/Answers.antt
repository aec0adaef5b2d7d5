use Rattle.std.specs.Prelude.{◌≡◌, List, ℕ, ◌*◌, ◌%◌, ◌^◌, ◌≤◌}
use Rattle.std.proofs.Common.{rules, ap}
use Rattle.matrices.specs.Filled.{filled_is}
use Rattle.folds.specs.Below.{sum_below, sum_below_same}
use Rattle.rules.specs.declared.Exponent.{Exponent}
use Rattle.rules.specs.Numbers.{exponent}
use Rattle.rules.specs.Matrices.{row, coefficient₂}
use Rattle.rules.specs.Dealing.{value_at, along_y}
use Rattle.rules.proofs.Laws.Matrices.{coefficient_at}
use Rattle.dealing.proofs.along_columns.Goals as goal

-- the value of a column, by its coefficients in the matrix
column-value : (q k : ℕ) (f : List (List Exponent)) (l i : ℕ) → k ≤ 8
    → value_at q k (row k (exponent 0) (λ j. exponent (coefficient₂ f j l))) i ≡ sum_below k (λ j. coefficient₂ f j l * i ^ j) % q
unfolding value_at
column-value q k f l i small =
    ap (λ t. t % q)
    (sum_below_same _ _ k (λ j h. ap (λ t. t * i ^ j) (coefficient_at k (λ n. coefficient₂ f n l) small j h)))

pub returns : goal.returns
unfolding along_y row
returns c =
    filled_is (λ l. exponent (sum_below c.args.k (λ j. coefficient₂ c.args.f j l * c.args.i ^ j) % c.args.q)) c.requires.1 (search rules)
    (λ i l. let made = c.filled.ensures.made i l in let value = column-value c.args.q c.args.k c.args.f i c.args.i c.requires.1 in search (rules, value))
    c.filled.ensures.rest

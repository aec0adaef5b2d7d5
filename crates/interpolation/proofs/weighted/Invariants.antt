use Rattle.std.specs.Prelude.{◌≡◌, ◌*◌, ◌%◌}
use Rattle.folds.specs.Below.{sum_below}
use Rattle.rules.specs.Matrices.{coefficient}
use Rattle.interpolation.proofs.weighted.Given as goal

-- the sum of the first i values, each times its weight
abbrev pub invariant-loop-i : goal.invariant-loop-i
invariant-loop-i l = l.sum.0 ≡ sum_below l.i (λ n. coefficient l.weight n * coefficient l.value n) % l.q

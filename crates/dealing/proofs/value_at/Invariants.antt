use Rattle.std.specs.Prelude.{◌≡◌, ◌*◌, ◌%◌, ◌^◌}
use Rattle.folds.specs.Below.{sum_below}
use Rattle.rules.specs.Matrices.{coefficient}
use Rattle.dealing.proofs.value_at.Given as goal

-- the sum of the terms before l, and x^l, each modulo q
abbrev pub invariant-loop-l : goal.invariant-loop-l
invariant-loop-l l = (l.sum.0 ≡ sum_below l.l (λ n. coefficient l.a n * l.x ^ n) % l.q) × (l.power.0 ≡ l.x ^ l.l % l.q)

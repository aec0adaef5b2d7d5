use Rattle.std.specs.Prelude.{◌∷◌, ◌+◌, ◌*◌, get_or}
use Rattle.folds.specs.Loops.{Filling}
use Rattle.rules.specs.Numbers.{exponent}
use Rattle.rules.specs.Matrices.{row}
use Rattle.coins.proofs.from_coins.Given as goal

abbrev pub invariant-loop-j : goal.invariant-loop-j
invariant-loop-j l =
    Filling (λ n. row l.k (exponent 0) (λ i. exponent (get_or (l.secret ∷ l.coins) (l.from + (n * l.k + i)) 0))) l.initial.made l.k l.j l.made

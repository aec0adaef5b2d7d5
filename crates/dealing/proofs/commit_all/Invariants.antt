use Rattle.folds.specs.Loops.{Filling}
use Rattle.rules.specs.Numbers.{element}
use Rattle.rules.specs.Matrices.{row, coefficient₂}
use Rattle.rules.specs.Dealing.{committed}
use Rattle.dealing.proofs.commit_all.Given as goal

abbrev pub invariant-loop-j : goal.invariant-loop-j
invariant-loop-j l =
    Filling (λ n. row l.k (element 0) (λ i. element (committed l.group (coefficient₂ l.f n i) (coefficient₂ l.f2 n i)))) l.initial.made l.k l.j l.made

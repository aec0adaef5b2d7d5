use Rattle.folds.specs.Loops.{Filling}
use Rattle.sheet_verdicts.specs.Verdicts.{verified_on}
use Rattle.sheet_verdicts.proofs.Judged.verified_shares.Given as goal

abbrev pub invariant-loop-m : goal.invariant-loop-m
invariant-loop-m l = Filling (verified_on l.self) l.initial.made l.self.n l.m l.made

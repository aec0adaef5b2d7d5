use Rattle.folds.specs.Loops.{Filling}
use Rattle.sheet_form.specs.Reading.{sheet_row}
use Rattle.sheet_form.proofs.matrix.Given as goal

abbrev pub invariant-loop-j : goal.invariant-loop-j
invariant-loop-j l = Filling (sheet_row l.b l.k) l.initial.c l.k l.j l.c

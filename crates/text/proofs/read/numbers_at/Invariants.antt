use Rattle.std.proofs.Common.{◌≡◌, true}
use Rattle.folds.specs.Below.{all_below}
use Rattle.rules.specs.Text.{number_place}
use Rattle.text.specs.Lines.{number_stands}
use Rattle.text.proofs.read.numbers_at.Given as goal

-- the numbers before j stand, each with what has to stand behind it
abbrev pub invariant-loop-j : goal.invariant-loop-j
invariant-loop-j l = (l.place ≡ number_place l.b l.i l.j) × (all_below l.j (number_stands l.b l.i l.m) ≡ true)

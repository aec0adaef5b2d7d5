use Rattle.std.proofs.Common.{◌≡◌}
use Rattle.rules.specs.Text.{number_place}
use Rattle.text.proofs.read.number_place.Given as goal

abbrev pub invariant-loop-l : goal.invariant-loop-l
invariant-loop-l l = l.place ≡ number_place l.b l.i l._l

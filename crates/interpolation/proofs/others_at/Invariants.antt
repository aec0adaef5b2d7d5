use Rattle.std.specs.Prelude.{◌≡◌, ◌%◌}
use Rattle.folds.specs.Below.{prod_below}
use Rattle.interpolation.specs.Points.{boxes_of, box_at}
use Rattle.interpolation.proofs.Values.{factor}
use Rattle.interpolation.proofs.others_at.Given as goal

-- it is made of the factors below j
abbrev pub invariant-loop-j : goal.invariant-loop-j
invariant-loop-j l = l.made.0 ≡ prod_below l.j (factor l.q (box_at (boxes_of l.all)) l.i l.x) % l.q

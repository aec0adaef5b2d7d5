use Rattle.std.proofs.Common.{◌≡◌, ◌*◌, ◌%◌, ◌^◌, ◌<◌}
use Rattle.arithmetic.proofs.power.Given as goal

-- what is made, which is below p, times what the base still gives is the whole power
abbrev pub invariant-loop-left : goal.invariant-loop-left
invariant-loop-left l = (l.made.0 < l.p) × ((l.made.0 * l.base.0 ^ l.left) % l.p ≡ l.fn.e.0 ^ l.fn.x.0 % l.p)

abbrev pub decreases-loop-left : goal.decreases-loop-left
decreases-loop-left l = l.left

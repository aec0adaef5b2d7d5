use Rattle.std.specs.Prelude.{◌%◌}
use Rattle.std.proofs.Common.{sym, ap, ◌∙◌}
use native.Mathlib.Nat.{zero-mod}
use Rattle.folds.specs.Below.{sum_below-zero}
use Rattle.algebra.proofs.Sums.{sum-mod_more_mod}
use Rattle.interpolation.proofs.weighted.Goals as goal

pub loop-i-init : goal.loop-i-init
loop-i-init c = sym (ap (λ t. t % c.args.q) (sum_below-zero _) ∙ zero-mod c.args.q)

pub loop-i-preserved : goal.loop-i-preserved
loop-i-preserved c = rw (c.sum-sum.ensures, c.product.ensures, c.loop-i.invariant) (sum-mod_more_mod _ _ _)

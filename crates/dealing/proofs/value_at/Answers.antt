use Rattle.std.specs.Prelude.{◌≡◌, ℕ, ◌+◌, ◌*◌, ◌%◌, ◌^◌}
use Rattle.std.proofs.Common.{sym, ap, ◌∙◌}
use native.Mathlib.Nat.{zero-mod}
use Rattle.folds.specs.Below.{sum_below, sum_below-zero}
use Rattle.algebra.proofs.Residues.{mul-mod-mod}
use Rattle.algebra.proofs.Sums.{sum-mod_more_mod}
use Rattle.arithmetic.specs.Powers.{first_power, next_power}
use Rattle.dealing.proofs.value_at.Goals as goal

pub loop-l-init : goal.loop-l-init
loop-l-init c = (sym (ap (λ t. t % c.args.q) (sum_below-zero _) ∙ zero-mod c.args.q), first_power _ _)

-- one more term
term-more : (q x : ℕ) (a : ℕ → ℕ) (l : ℕ) {s p : ℕ} → s ≡ sum_below l (λ n. a n * x ^ n) % q → p ≡ x ^ l % q
    → (s + (a l * p) % q) % q ≡ sum_below (l + 1) (λ n. a n * x ^ n) % q
term-more q x a l e h = rw (e, h, mul-mod-mod (a l) (x ^ l) q) (sum-mod_more_mod q (λ n. a n * x ^ n) l)

pub loop-l-preserved : goal.loop-l-preserved
loop-l-preserved c =
    let inv = c.loop-l.invariant in
    rw (c.sum-sum.ensures, c.product.ensures, c.product-power.ensures) (term-more _ _ _ _ inv.0 inv.1, next_power _ _ _ inv.1)

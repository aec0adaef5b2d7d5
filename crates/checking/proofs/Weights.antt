-- A weight that a loop carries on, known modulo q only: w x^0 is w, and behind w x^n comes w x^(n + 1); and the product that it goes
-- into as an exponent.
-- Assumes nothing.
use mathlib.Core.Path.{◌≡◌, refl, sym, ap, ap₂, ◌∙◌}
use Prim.Native.Nat.{ℕ, ◌+◌, ◌*◌, ◌%◌, ◌^◌}
use native.Mathlib.Nat.{mod-mod, mul_assoc, mul-one, pow-suc, pow-zero}
use native.Mathlib.Numerals.{add-one}
use Rattle.folds.specs.Below.{prod_below, prod_below-zero}
use Rattle.algebra.proofs.Powers.{pow-same}
use Rattle.algebra.proofs.Residues.{mul_cong}
use Rattle.algebra.proofs.Sums.{prod_mod_more_mod}

pub weight_none : (q x w : ℕ) → w % q ≡ (w * x ^ 0) % q
weight_none q x w = ap (λ t. t % q) (sym (ap (λ t. w * t) (pow-zero x) ∙ mul-one w))

pub weight_more : (q x n w power : ℕ) → power % q ≡ (w * x ^ n) % q → (power * x) % q % q ≡ (w * x ^ (n + 1)) % q
weight_more q x n w power h =
    mod-mod _ q
    ∙ mul_cong q power (w * x ^ n) x x h refl
    ∙ ap (λ t. t % q) (mul_assoc w (x ^ n) x ∙ ap (λ t. w * t) (sym (pow-suc x n) ∙ ap (λ t. x ^ t) (sym (add-one n))))

-- no factor, and one more, with an exponent that is the right one modulo q
pub factor_none : (p : ℕ) (f : ℕ → ℕ) → 1 % p ≡ prod_below 0 f % p
factor_none p f = ap (λ t. t % p) (sym (prod_below-zero f))

pub factor_more : (q p : ℕ) (c a : ℕ → ℕ) (n : ℕ) {made : ℕ} (power : ℕ) → c n ^ q % p ≡ 1
    → made ≡ prod_below n (λ i. c i ^ a i) % p → power % q ≡ a n % q
    → (made * (c n ^ power % p)) % p ≡ prod_below (n + 1) (λ i. c i ^ a i) % p
factor_more q p c a n power one m h =
    ap₂ (λ s t. (s * t) % p) m (pow-same q p (c n) one power (a n) h) ∙ prod_mod_more_mod p (λ i. c i ^ a i) n

-- The products of Lagrange's interpolation: they depend only on the places, and are polynomials. Assumes nothing.
use Rattle.std.specs.Prelude.{◌≡◌, Bool}
use Rattle.std.proofs.Math.Path.{refl, ap}
use Rattle.std.proofs.Common.{not-suc-le-zero}
use Rattle.std.proofs.Math.Bool.{true, false}
use Prim.Native.Nat.{ℕ, zero, suc, ◌+◌, ◌*◌, ◌-◌, ◌%◌, ◌<◌}
use native.Mathlib.Omega.{arith}
use Rattle.std.proofs.Math.Dec.{eqb}
use borrow.Author.Tests.{eqb-false}
use Rattle.folds.specs.Tests.{pick}
use Rattle.folds.specs.Below.{prod_below, prod_below_same}
use Rattle.algebra.proofs.Polynomials.{Polynomial, constant, polynomial_widen, polynomial_one, polynomial_more}
use Rattle.algebra.specs.Interpolation.{others}

-- x - x_j, or 1 for j = i
abbrev pub factor : ℕ → (ℕ → ℕ) → ℕ → ℕ → ℕ → ℕ
factor q xs i x j = pick (eqb j i) 1 (x + (q - xs j))

module _ (q k : ℕ) where
  pub others_same : (xs us : ℕ → ℕ) → ((i : ℕ) → i < k → xs i ≡ us i) → (i x : ℕ) → others q k xs i x ≡ others q k us i x
  unfolding others
  others_same xs us h i x = ap (λ t. t % q) (prod_below_same _ _ k (λ j l. ap (λ t. pick (eqb j i) 1 (x + (q - t))) (h j l)))

module _ (q : ℕ) (xs : ℕ → ℕ) (i : ℕ) where
  factors : (n : ℕ) → Polynomial (suc n) (λ x. prod_below n (factor q xs i x))
  unfolding prod_below
  factors zero = constant 1
  factors (suc n) = go (factors n) (eqb n i)
    where
      go : Polynomial (suc n) (λ x. prod_below n (factor q xs i x)) → (t : Bool)
          → Polynomial (suc (suc n)) (λ x. prod_below n (factor q xs i x) * pick t 1 (x + (q - xs n)))
      go p true = polynomial_more (polynomial_one p)
      go p false = polynomial_widen p (q - xs n)

  -- one factor is 1: a coefficient less
  pub basis : (n : ℕ) → i < n → Polynomial n (λ x. prod_below n (factor q xs i x))
  unfolding prod_below
  basis zero l = absurd (not-suc-le-zero l)
  basis (suc n) l = go (basis n) (eqb n i) refl
    where
      go : (i < n → Polynomial n (λ x. prod_below n (factor q xs i x))) → (t : Bool) → eqb n i ≡ t
          → Polynomial (suc n) (λ x. prod_below n (factor q xs i x) * pick t 1 (x + (q - xs n)))
      go p true e = polynomial_one (factors n)
      go p false e = polynomial_widen (p (omega (arith, eqb-false n i e))) (q - xs n)

-- Lagrange's interpolation modulo a prime q, through k points at distinct places. Its laws stand in proofs/Interpolation. Assumes nothing.
use Prim.Native.Nat.{ℕ, ◌+◌, ◌*◌, ◌-◌, ◌%◌}
use Rattle.std.proofs.Math.Dec.{eqb}
use Rattle.folds.specs.Tests.{pick}
use Rattle.folds.specs.Below.{sum_below, prod_below}
use Rattle.algebra.specs.Residues.{inverse}

-- the product of x - x_j over all j below k but i, modulo q
unfoldable pub others : ℕ → ℕ → (ℕ → ℕ) → ℕ → ℕ → ℕ
others q k xs i x = prod_below k (λ j. pick (eqb j i) 1 (x + (q - xs j))) % q

-- the value at x of the polynomial through the k points (x_i, y_i), modulo q: the sum over i of
-- y_i times the product over all other j of (x - x_j) / (x_i - x_j)
unfoldable pub interpolate : ℕ → ℕ → (ℕ → ℕ) → (ℕ → ℕ) → ℕ → ℕ
interpolate q k xs ys x = sum_below k (λ i. others q k xs i x * inverse q (others q k xs i (xs i)) * ys i) % q

-- what y_i counts at x
abbrev pub weight : ℕ → ℕ → (ℕ → ℕ) → ℕ → ℕ → ℕ
weight q k xs x i = others q k xs i x * inverse q (others q k xs i (xs i))

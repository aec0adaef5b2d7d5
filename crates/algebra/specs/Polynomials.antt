-- Polynomials with plain numbers for coefficients, lowest first, and places for them. Their laws stand in proofs/Polynomials. Assumes nothing.
use Rattle.std.specs.Prelude.{◌≢◌}
use mathlib.Core.List.{[], List, ◌∷◌}
use Prim.Native.Nat.{ℕ, zero, suc, ◌+◌, ◌*◌, ◌<◌}

-- c_0 + c_1 x + c_2 x² + ..
unfoldable pub value : List ℕ → ℕ → ℕ
value [] x = 0
value (c ∷ cs) x = c + x * value cs x

-- c 0, c 1, .. c (k - 1)
unfoldable pub coefficients : ℕ → (ℕ → ℕ) → List ℕ
coefficients zero c = []
coefficients (suc k) c = c 0 ∷ coefficients k (λ j. c (suc j))

-- k distinct numbers below q
pub record Places (q k : ℕ) (xs : ℕ → ℕ) : Type 0 where
  pub below : (i : ℕ) → i < k → xs i < q
  pub apart : (i j : ℕ) → i < j → j < k → xs i ≢ xs j

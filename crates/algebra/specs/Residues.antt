-- Primes by trial division, and the inverse modulo a prime. The laws of remainders, primes and inverses stand in proofs/.
-- Assumes nothing.
use Rattle.std.specs.Prelude.{◌≡◌, ◌≢◌, Bool, true, not, ltb, eqb}
use Rattle.std.proofs.Math.Path.{ap}
use Rattle.std.proofs.Common.{◌∙◌, arith, ltb-true}
use Prim.Native.Nat.{ℕ, zero, suc, ◌+◌, ◌*◌, ◌-◌, ◌/◌, ◌%◌, ◌<◌}
use Rattle.std.proofs.lemmas.Bool.{eqb-false, not-true}
use Rattle.folds.specs.Tests.{◌and◌, pick, and_left, and_right}
use Rattle.folds.specs.Below.{all_below, all_below_at}

-- q is above 1, and no number from 2 to q - 1 divides it
unfoldable pub primeb : ℕ → Bool
primeb q = ltb 1 q and all_below (q - 2) (λ d. not (eqb (q % (d + 2)) 0))

-- the inverse of x modulo q, with fuel f: from q = d x + r, x (q - d) is r modulo q, and r is less than x
unfoldable pub inverse_by : ℕ → ℕ → ℕ → ℕ
inverse_by q zero x = 1
inverse_by q (suc f) x = let r = (q - q / x) * inverse_by q f (q % x) % q in pick (ltb 1 x) r 1

unfoldable pub inverse : ℕ → ℕ → ℕ
inverse q x = inverse_by q x x

pub record Prime (q : ℕ) : Type 0 where
  pub big : 1 < q
  pub no_divisor : (d : ℕ) → 1 < d → d < q → q % d ≢ 0

-- What passes the test is prime.
pub prime : (q : ℕ) → primeb q ≡ true → Prime q
unfolding primeb
prime q t =
    let none : Bool = all_below (q - 2) (λ d. not (eqb (q % (d + 2)) 0)) in
    let big : 1 < q = ltb-true 1 q (and_left (ltb 1 q) none t) in
    record {
      big = big;
      no_divisor = λ d h l z.
          let at = all_below_at (λ d. not (eqb (q % (d + 2)) 0)) (q - 2) (d - 2) (and_right (ltb 1 q) none t) (omega arith) in
          let e : d - 2 + 2 ≡ d = omega arith in
          eqb-false (q % (d - 2 + 2)) 0 (not-true _ at) (ap (λ t. q % t) e ∙ z);
    }

-- A step of the inverse modulo a prime: from q = d x + r, with i the inverse of r. Assumes nothing.
use Rattle.std.specs.Prelude.{◌≡◌, Bool, true, false, ltb}
use Rattle.std.proofs.Math.Path.{ap}
use Rattle.std.proofs.Common.{◌∙◌, div-le_self, mod-eq_of_lt, arith, ltb-true, ltb-false}
use Prim.Native.Nat.{ℕ, ◌+◌, ◌*◌, ◌-◌, ◌/◌, ◌%◌, ◌≤◌, ◌<◌}
use Rattle.std.proofs.Math.Nat.{div-add-mod}
use Rattle.folds.specs.Tests.{pick}
use Rattle.algebra.specs.Residues.{Prime}
use Rattle.algebra.proofs.Residues.{mul-mod-mod, same-mod}

step : (x q k r m i : ℕ) → x * k + r ≡ q → m + k ≡ q → x * (m * i) + i * q ≡ r * i + x * i * q
step x q k r m i e h = omega (arith, ap (λ t. t * i) e, ap (λ t. t * (x * i)) h)

module _ (q : ℕ) (P : Prime q) where
  pub next : (x i : ℕ) → 0 < x → x < q → (1 < x → (q % x * i) % q ≡ 1) → (b : Bool) → ltb 1 x ≡ b
      → (x * pick b ((q - q / x) * i % q) 1) % q ≡ 1
  next x i h l ih true e =
      let k : q / x ≤ q = div-le_self q x in
      mul-mod-mod x ((q - q / x) * i) q
      ∙ same-mod q _ _ _ _ (step x q (q / x) (q % x) (q - q / x) i (div-add-mod q x) (omega arith))
      ∙ ih (ltb-true 1 x e)
  next x i h l ih false e =
      let one : x ≡ 1 = omega (arith, ltb-false 1 x e) in
      let lt : x * 1 < q = omega arith in
      mod-eq_of_lt lt ∙ omega arith

-- The power of a number that a loop carries on. Assumes nothing.
use Rattle.std.specs.Prelude.{◌≡◌, ℕ, ◌+◌, ◌*◌, ◌%◌, ◌^◌}
use Rattle.std.proofs.Common.{sym, ap, ◌∙◌, pow-suc, add-one}
use Rattle.std.proofs.Math.Nat.{pow-zero}
use Rattle.algebra.proofs.Residues.{mod-mul-mod}

-- x^0 and, behind x^n, x^(n + 1), each modulo q
module _ (q x : ℕ) where
  pub first_power : 1 % q ≡ x ^ 0 % q
  first_power = ap (λ t. t % q) (sym (pow-zero x))

  pub next_power : (n : ℕ) {p : ℕ} → p ≡ x ^ n % q → (p * x) % q ≡ x ^ (n + 1) % q
  next_power n h = rw h (mod-mul-mod (x ^ n) x q ∙ ap (λ t. t % q) (sym (pow-suc x n) ∙ ap (λ t. x ^ t) (sym (add-one n))))

use Rattle.std.proofs.Common.{rules, ◌≡◌, refl, sym, ap, ◌∙◌, ⊎_elim, arith, ℕ, suc, ◌+◌, ◌*◌, ◌/◌, ◌%◌, ◌^◌, ◌<◌}
use Rattle.std.specs.Prelude.{◌≢◌}
use native.Mathlib.Nat.{mod-lt, mod-eq_of_lt, mul_assoc, mul-one, one-mul, pow-zero, pow-succ'}
use lib.Pow.{pow-add}
use Rattle.algebra.proofs.Residues.{mul_cong, mod-mul-mod}
use Rattle.algebra.proofs.Powers.{mul-pow, pow-mod}
use Rattle.rules.specs.Numbers.{element}
use Rattle.arithmetic.proofs.power.Goals as goal
use Rattle.arithmetic.proofs.power.Goals.{then-left-eq1, else-left-eq1}

module _ (p b : ℕ) where
  -- half the power of the square is the whole power of the base, with any m before it
  squared : (m h : ℕ) → (m * (b * b % p) ^ h) % p ≡ (m * b ^ (h + h)) % p
  squared m h =
      mul_cong p m m _ _ refl (pow-mod p (b * b) h) ∙ ap (λ t. (m * t) % p) (mul-pow b b h ∙ sym (pow-add b h h))

  -- an even exponent is left
  even : (m n : ℕ) → n % 2 ≢ 1 → (m * (b * b % p) ^ (n / 2)) % p ≡ (m * b ^ n) % p
  even m n e =
      let twice : n / 2 + n / 2 ≡ n = omega arith in
      squared m (n / 2) ∙ ap (λ t. (m * b ^ t) % p) twice

  -- an odd exponent is left
  odd : (m n : ℕ) → n % 2 ≡ 1 → (m * b % p * (b * b % p) ^ (n / 2)) % p ≡ (m * b ^ n) % p
  odd m n o =
      let h = n / 2 in
      let all : suc (h + h) ≡ n = omega arith in
      mod-mul-mod (m * b) _ p
      ∙ squared (m * b) h
      ∙ ap (λ t. t % p) (mul_assoc m b _ ∙ ap (λ t. m * t) (sym (pow-succ' b (h + h)) ∙ ap (λ t. b ^ t) all))

  -- nothing is left of the exponent
  all_made : (m n e : ℕ) → n ≡ 0 → m < p → (m * b ^ n) % p ≡ e → m ≡ e
  all_made m n e none l h =
      sym (mod-eq_of_lt l)
      ∙ ap (λ t. t % p) (sym (mul-one m) ∙ ap (λ t. m * t) (sym (pow-zero b) ∙ ap (λ t. b ^ t) (sym none)))
      ∙ h

pub loop-left-init : goal.loop-left-init
loop-left-init c = (mod-lt 1 c.requires, mod-mul-mod 1 _ _ ∙ ap (λ t. t % c.args.p) (one-mul _))

pub loop-left-preserved : goal.loop-left-preserved
loop-left-preserved c =
    let inv = c.loop-left.invariant in
    elim c.if-left-eq1.branch [
      | then-left-eq1 w ↦
          rw (w.made-is, w.times-made.ensures, c.times-base.ensures) (mod-lt _ c.requires, odd _ _ _ _ w.if-left-eq1.true ∙ inv.1)
      | else-left-eq1 w ↦ rw (w.made-is, c.times-base.ensures) (inv.0, even _ _ _ _ w.if-left-eq1.false ∙ inv.1)
    ]

pub returns : goal.returns
returns c =
    let none : c.loop-left.left ≡ 0 = omega arith in
    let inv = c.loop-left.invariant in
    ap element (all_made _ _ _ _ _ none inv.0 inv.1)

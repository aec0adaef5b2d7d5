-- The inverse modulo a prime, and that a product is zero only where a factor is; the field that the residues form; the inverse's steps, as code takes
-- them, and 1 - x / x; numbers k to a row. Assumes nothing.
use Rattle.std.proofs.Math.Nat
use Rattle.std.specs.Prelude.{◌≡◌, ◌≢◌, ltb}
use Rattle.std.proofs.Math.Path.{refl, ap}
use Rattle.std.proofs.Common.{sym, ◌∙◌, ⊎_elim, mod-eq_of_lt, zero-add, add_comm, mul_comm, mul_right_comm, one-mul, le_of_lt, add-zero, arith, ltb-true, ltb-false, lt-ltb, le-ltb}
use Prim.Native.Nat.{ℕ, zero, suc, ◌+◌, ◌*◌, ◌-◌, ◌/◌, ◌%◌, ◌≤◌, ◌<◌}
use Rattle.std.proofs.Math.Nat.{mod-lt, mul-mod_right, div-eq_of_lt, mul-add-div_right, mul-add-mod_self_right}
use Rattle.folds.specs.Tests.{decide}
use Rattle.algebra.specs.Residues.{inverse_by, inverse, Prime}
use Rattle.algebra.proofs.Residues.{mod-mul-mod, mul-mod-mod, mods, add_cong, zero-mul-mod, one-mul-mod}
use Rattle.algebra.proofs.Inverses.{next}

module _ (q : ℕ) (P : Prime q) where
  inverse_by_right : (f x : ℕ) → 0 < x → x < q → x ≤ f → (x * inverse_by q f x) % q ≡ 1
  unfolding inverse_by
  inverse_by_right zero x h l s = absurd (omega arith)
  inverse_by_right (suc f) x h l s =
      next q P x (inverse_by q f (q % x)) h l
      (λ big.
      let less : q % x < x = mod-lt q h in
      let some : q % x ≢ 0 = P.no_divisor x big l in
      inverse_by_right f (q % x) (omega arith) (omega arith) (omega arith))
      (ltb 1 x) refl

  -- Each number from 1 to q - 1 times its inverse is 1 modulo the prime q.
  pub inverse_right : (x : ℕ) → 0 < x → x < q → (x * inverse q x) % q ≡ 1
  unfolding inverse
  inverse_right x h l = inverse_by_right x x h l (omega arith)

  -- A number with a remainder has an inverse.
  pub inverse-mod : (x : ℕ) → x % q ≢ 0 → (x * inverse q (x % q)) % q ≡ 1
  inverse-mod x n = sym (mod-mul-mod x (inverse q (x % q)) q) ∙ inverse_right (x % q) (omega arith) (mod-lt x (le_of_lt P.big))

  -- A product is zero modulo a prime only where a factor is.
  pub no_zero_divisor : (d e : ℕ) → d % q ≢ 0 → (d * e) % q ≡ 0 → e % q ≡ 0
  no_zero_divisor d e n h =
      let i = inverse q (d % q) in
      sym (one-mul-mod q (d * i) e (inverse-mod d n)) ∙ ap (λ t. t % q) (mul_right_comm d i e) ∙ zero-mul-mod q (d * e) i h

-- ---- the field

-- the numbers below q, with the sum, the product, the negative and the inverse modulo q, are a field
pub record Field (q : ℕ) : Type 0 where
  pub add_assoc : (x y z : ℕ) → ((x + y) % q + z) % q ≡ (x + (y + z) % q) % q
  pub add_comm : (x y : ℕ) → (x + y) % q ≡ (y + x) % q
  pub add-zero : (x : ℕ) → x < q → (0 + x) % q ≡ x
  pub add_negative : (x : ℕ) → x < q → (x + (q - x)) % q ≡ 0
  pub mul_assoc : (x y z : ℕ) → ((x * y) % q * z) % q ≡ (x * ((y * z) % q)) % q
  pub mul_comm : (x y : ℕ) → (x * y) % q ≡ (y * x) % q
  pub mul-one : (x : ℕ) → x < q → (1 * x) % q ≡ x
  pub distributive : (x y z : ℕ) → (x * ((y + z) % q)) % q ≡ ((x * y) % q + (x * z) % q) % q
  pub one_some : 1 % q ≢ 0
  pub mul-inverse : (x : ℕ) → x ≢ 0 → x < q → (x * (inverse q x % q)) % q ≡ 1

-- The residues modulo a prime form a field.
pub residue_field : (q : ℕ) → Prime q → Field q
residue_field q P =
    record {
      add_assoc = λ x y z. simp (mods, Nat.add_assoc);
      add_comm = λ x y. ap (λ t. t % q) (add_comm x y);
      add-zero = λ x l. ap (λ t. t % q) (zero-add x) ∙ mod-eq_of_lt l;
      add_negative = λ x l. ap (λ t. t % q) (Nat.add-sub_of_le (le_of_lt l)) ∙ Nat.mod_self q;
      mul_assoc = λ x y z. simp (mods, Nat.mul_assoc);
      mul_comm = λ x y. ap (λ t. t % q) (mul_comm x y);
      mul-one = λ x l. ap (λ t. t % q) (one-mul x) ∙ mod-eq_of_lt l;
      distributive = λ x y z. simp (mods, Nat.mul-add);
      one_some = λ e. let one : 1 % q ≡ 1 = mod-eq_of_lt P.big in omega arith;
      mul-inverse = λ x n l. mul-mod-mod x (inverse q x) q ∙ inverse_right q P x (omega arith) l;
    }

-- ---- the steps of the inverse

module _ (q : ℕ) where
  -- up to 1 nothing is left to do
  inverse_by_small : (f x : ℕ) → x ≤ 1 → inverse_by q f x ≡ 1
  unfolding inverse_by
  inverse_by_small zero x l = refl
  inverse_by_small (suc f) x l = rw (le-ltb 1 x l)

  inverse_by_step : (f x : ℕ) → 1 < x → inverse_by q (suc f) x ≡ (q - q / x) * inverse_by q f (q % x) % q
  unfolding inverse_by
  inverse_by_step f x l = rw (lt-ltb 1 x l)

  -- any two amounts of fuel that last are alike
  inverse_by_fuel : (f g x : ℕ) → x ≤ f → x ≤ g → inverse_by q f x ≡ inverse_by q g x
  inverse_by_fuel zero g x l m = inverse_by_small 0 x (omega arith) ∙ sym (inverse_by_small g x (omega arith))
  inverse_by_fuel (suc f) zero x l m = inverse_by_small (suc f) x (omega arith) ∙ sym (inverse_by_small 0 x (omega arith))
  inverse_by_fuel (suc f) (suc g) x l m =
      ⊎_elim
      (λ t.
      let big = ltb-true 1 x t in
      let less : q % x < x = mod-lt q (omega arith) in
      inverse_by_step f x big
      ∙ ap (λ t. (q - q / x) * t % q) (inverse_by_fuel f g (q % x) (omega arith) (omega arith))
      ∙ sym (inverse_by_step g x big))
      (λ t. let small = ltb-false 1 x t in inverse_by_small (suc f) x small ∙ sym (inverse_by_small (suc g) x small))
      (decide (ltb 1 x))

  -- Up to 1 the inverse is 1.
  pub inverse_small : (x : ℕ) → x ≤ 1 → inverse q x ≡ 1
  unfolding inverse
  inverse_small x l = inverse_by_small x x l

  -- Above 1 the inverse of x is made of the inverse of q % x.
  pub inverse_step : (x : ℕ) → 1 < x → inverse q x ≡ (q - q / x) * inverse q (q % x) % q
  unfolding inverse
  inverse_step x l =
      let less : q % x < x = mod-lt q (omega arith) in
      inverse_by_fuel x (suc x) x (omega arith) (omega arith)
      ∙ inverse_by_step x x l
      ∙ ap (λ t. (q - q / x) * t % q) (inverse_by_fuel x (q % x) (q % x) (omega arith) (omega arith))

module _ (q : ℕ) (P : Prime q) where
  -- The inverse is below q.
  pub inverse_below : (x : ℕ) → inverse q x < q
  inverse_below x =
      let big = P.big in
      ⊎_elim
      (λ t. rw (inverse_step q x (ltb-true 1 x t)) (mod-lt _ (omega arith)))
      (λ t. rw (inverse_small q x (ltb-false 1 x t)) big)
      (decide (ltb 1 x))

  -- 1 - x / x is 0.
  pub one_less : (x : ℕ) → 0 < x → x < q → (1 + (q - inverse q x) * x) % q ≡ 0
  one_less x some l =
      let i = inverse q x in
      let e : q - i + i ≡ q = omega (arith, inverse_below x) in
      let all : x * i + (q - i) * x ≡ q * x = omega (arith, ap (λ t. t * x) e) in
      add_cong q 1 (x * i) _ _ (mod-eq_of_lt P.big ∙ sym (inverse_right q P x some l)) refl
      ∙ ap (λ t. t % q) all
      ∙ mul-mod_right q x

-- ---- numbers k to a row

-- Number j k + l is number l of row j.
module _ (k j l : ℕ) (h : l < k) where
  pub row_of : (j * k + l) / k ≡ j
  row_of = mul-add-div_right (omega arith) j l ∙ ap (λ t. j + t) (div-eq_of_lt h) ∙ add-zero j

  pub column_of : (j * k + l) % k ≡ l
  column_of = mul-add-mod_self_right j k l ∙ mod-eq_of_lt h

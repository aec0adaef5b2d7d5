-- Powers of plain numbers and powers modulo p.
--
-- In order: the laws of `^`; powers modulo p; the members, each e with e ^ q % p ≡ 1: their exponents count modulo q, and
-- their products and powers are members; if q is prime, the order of each member but 1 is q.
-- Not here: `pow-zero`, `pow-suc`, `pow-add` (std's `Math.Nat` and `Common`).
-- Assumes nothing.
use Rattle.std.specs.Prelude.{◌≡◌, refl, ◌≢◌, ℕ, zero, suc, ◌+◌, ◌*◌, ◌-◌, ◌/◌, ◌%◌, ◌^◌}
use Rattle.std.proofs.Common.{sym, ap, ◌∙◌, mod-eq_of_lt, one-mul, mul-one, mul_comm, mul-suc, mul-zero, pow-suc, arith, pow-add}
use Rattle.std.proofs.Math.Nat.{mod-mod, mul-mul-mul_comm, pow-zero, div-add-mod}
use Rattle.std.proofs.Math.Decide.{ℕ_discrete}
use Rattle.algebra.proofs.Residues.{mul_cong, one-mul-mod, difference-zero}
use Rattle.algebra.specs.Residues.{Prime, inverse}
use Rattle.algebra.proofs.Fields.{inverse-mod}

-- ---- plain powers

-- The power of a product is the product of the powers.
pub mul-pow : (x y n : ℕ) → (x * y) ^ n ≡ x ^ n * y ^ n
mul-pow x y zero = simp (pow-zero)
mul-pow x y (suc n) = simp (pow-suc, mul-pow x y n, mul-mul-mul_comm)

-- Every power of 1 is 1.
pub one-pow : (n : ℕ) → 1 ^ n ≡ 1
one-pow zero = pow-zero 1
one-pow (suc n) = pow-suc 1 n ∙ mul-one (1 ^ n) ∙ one-pow n

-- The exponents of a power of a power are multiplied.
pub pow-mul : (a m n : ℕ) → a ^ (m * n) ≡ (a ^ m) ^ n
pow-mul a m zero = ap (λ t. a ^ t) (mul-zero m) ∙ pow-zero a ∙ sym (pow-zero (a ^ m))
pow-mul a m (suc n) = ap (λ t. a ^ t) (mul-suc m n) ∙ pow-add a (m * n) m ∙ ap (λ t. t * a ^ m) (pow-mul a m n) ∙ sym (pow-suc (a ^ m) n)

-- The first power is the base.
pub pow-one : (a : ℕ) → a ^ 1 ≡ a
pow-one a = pow-suc a 0 ∙ ap (λ t. t * a) (pow-zero a) ∙ one-mul a

-- ---- modulo p

module _ (p : ℕ) where
  -- The remainder of a base goes.
  pub pow-mod : (x n : ℕ) → (x % p) ^ n % p ≡ x ^ n % p
  pow-mod x zero = ap (λ t. t % p) (pow-zero (x % p) ∙ sym (pow-zero x))
  pow-mod x (suc n) =
      ap (λ t. t % p) (pow-suc (x % p) n)
      ∙ mul_cong p _ _ _ _ (pow-mod x n) (mod-mod x p)
      ∙ ap (λ t. t % p) (sym (pow-suc x n))

  -- Bases with one remainder have powers with one remainder.
  pub pow_cong : (x y n : ℕ) → x % p ≡ y % p → x ^ n % p ≡ y ^ n % p
  pow_cong x y n h = sym (pow-mod x n) ∙ ap (λ t. t ^ n % p) h ∙ pow-mod y n

  pow-of_one : (x n : ℕ) → x % p ≡ 1 % p → x ^ n % p ≡ 1 % p
  pow-of_one x n h = pow_cong x 1 n h ∙ ap (λ t. t % p) (one-pow n)

-- ---- the members: each e with e ^ q % p ≡ 1

module _ (q p e : ℕ) (o : e ^ q % p ≡ 1) where
  one : 1 % p ≡ 1
  one = ap (λ t. t % p) (sym o) ∙ mod-mod (e ^ q) p ∙ o

  -- every power of e ^ q is 1
  ones : (n : ℕ) → (e ^ q) ^ n % p ≡ 1
  ones n = pow-of_one p (e ^ q) n (o ∙ sym one) ∙ one

  -- Exponents count modulo q.
  pub pow-order : (n : ℕ) → e ^ (n % q) % p ≡ e ^ n % p
  pow-order n =
      let k = n / q in
      let r = n % q in
      sym (one-mul-mod p ((e ^ q) ^ k) (e ^ r) (ones k))
      ∙ ap (λ t. t % p) (ap (λ t. t * e ^ r) (sym (pow-mul e q k)) ∙ sym (pow-add e (q * k) r) ∙ ap (λ t. e ^ t) (div-add-mod n q))

  -- Exponents with one remainder modulo q give powers with one remainder modulo p.
  pub pow-same : (a b : ℕ) → a % q ≡ b % q → e ^ a % p ≡ e ^ b % p
  pow-same a b h = sym (pow-order a) ∙ ap (λ t. e ^ t % p) h ∙ pow-order b

  -- The remainder of a member is a member.
  pub member_mod : (e % p) ^ q % p ≡ 1
  member_mod = pow-mod p e q ∙ o

  -- A power of a member is a member.
  pub member_pow : (n : ℕ) → (e ^ n) ^ q % p ≡ 1
  member_pow n = ap (λ t. t % p) (sym (pow-mul e n q) ∙ ap (λ t. e ^ t) (mul_comm n q) ∙ pow-mul e q n) ∙ ones n

  -- A product of two members is a member.
  pub member_mul : (d : ℕ) → d ^ q % p ≡ 1 → (e * d) ^ q % p ≡ 1
  member_mul d h = ap (λ t. t % p) (mul-pow e d q) ∙ one-mul-mod p _ _ o ∙ h

-- ---- q is prime, and g is not 1 modulo p

module _ (q p : ℕ) (P : Prime q) (g : ℕ) (o : g ^ q % p ≡ 1) (n : g % p ≢ 1) where
  -- an exponent that gives 1 is a multiple of q: else it has an inverse i, and g is g ^ (d i), a power of 1
  multiple : (d : ℕ) → g ^ d % p ≡ 1 → d % q ≡ 0
  multiple d h = go (ℕ_discrete (d % q) 0)
    where
      go : Dec (d % q ≡ 0) → d % q ≡ 0
      go (yes z) = z
      go (no z) =
          let i = inverse q (d % q) in
          absurd
          (n
          (ap (λ t. t % p) (sym (pow-one g))
          ∙ pow-same q p g o 1 (d * i) (mod-eq_of_lt P.big ∙ sym (inverse-mod q P d z))
          ∙ ap (λ t. t % p) (pow-mul g d i)
          ∙ pow-of_one p (g ^ d) i (h ∙ sym (one q p g o))
          ∙ one q p g o))

  -- Equal powers of g have exponents that are equal modulo q: the order of g is q.
  pub order_exact : (a b : ℕ) → g ^ a % p ≡ g ^ b % p → a % q ≡ b % q
  order_exact a b h =
      let r = q - 1 in
      let big = P.big in
      let e : r + 1 ≡ q = omega arith in
      let all : b + r * b ≡ q * b = omega (arith, ap (λ t. t * b) e) in
      difference-zero q (omega arith) a b
      (multiple (a + r * b)
      (ap (λ t. t % p) (pow-add g a (r * b))
      ∙ mul_cong p (g ^ a) (g ^ b) (g ^ (r * b)) (g ^ (r * b)) h refl
      ∙ ap (λ t. t % p) (sym (pow-add g b (r * b)) ∙ ap (λ t. g ^ t) all ∙ pow-mul g q b)
      ∙ ones q p g o b))

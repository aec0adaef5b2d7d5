-- Numbers modulo m: the laws of `%`.
--
-- In order: two numbers with one remainder (`same-mod` the way in, `mod_same` the way out); inner remainders go (`mods`);
-- sums and products of numbers with one remainder, and with zero or one; differences.
-- Not here: primes and inverses (`Fields`); `mod-add-mod`, `add-mod-mod`, `mod-mod`, `mod-lt`, `mod-eq_of_lt` (std's `Math.Nat` and `Common`).
-- Assumes nothing.
use Rattle.std.specs.Prelude.{◌≡◌, ◌≢◌}
use Rattle.std.proofs.Math.Path.{refl, ap}
use Rattle.std.proofs.Common.{sym, ap₂, ◌∙◌, mod-eq_of_lt, zero-add, add_comm, mul_comm, one-mul, zero-mul, add-mul, arith}
use Prim.Native.Nat.{ℕ, ◌+◌, ◌*◌, ◌-◌, ◌/◌, ◌%◌, ◌<◌}
use Rattle.std.proofs.Math.Nat.{add-mul-mod_self_right, mod-add-div', mod-add-mod, add-mod-mod, add-mod, add-mod_right, mod-mod, zero-mod, mul-mod_left}

-- ---- remainders

-- Two numbers that differ by multiples of m have one remainder: `omega` proves the premise.
pub same-mod : (m a b u v : ℕ) → a + u * m ≡ b + v * m → a % m ≡ b % m
same-mod m a b u v e = sym (add-mul-mod_self_right a u m) ∙ ap (λ t. t % m) e ∙ add-mul-mod_self_right b v m

-- Two numbers with one remainder differ by multiples of m.
pub mod_same : (m a b : ℕ) → a % m ≡ b % m → a + b / m * m ≡ b + a / m * m
mod_same m a b h = omega (arith, mod-add-div' a m, mod-add-div' b m)

-- The remainder of a left factor goes.
pub mod-mul-mod : (a b m : ℕ) → (a % m * b) % m ≡ (a * b) % m
mod-mul-mod a b m = same-mod m _ _ (a / m * b) 0 (omega (arith, ap (λ t. t * b) (mod-add-div' a m)))

-- The remainder of a right factor goes.
pub mul-mod-mod : (a b m : ℕ) → (a * (b % m)) % m ≡ (a * b) % m
mul-mod-mod a b m = ap (λ t. t % m) (mul_comm a (b % m)) ∙ mod-mul-mod b a m ∙ ap (λ t. t % m) (mul_comm b a)

-- the inner remainders go
pub ruleset mods = (mod-add-mod, add-mod-mod, mod-mul-mod, mul-mod-mod, mod-mod)

module _ (m : ℕ) where
  -- Sums of numbers with one remainder have one remainder.
  pub add_cong : (a b c d : ℕ) → a % m ≡ b % m → c % m ≡ d % m → (a + c) % m ≡ (b + d) % m
  add_cong a b c d h k = add-mod a c m ∙ ap₂ (λ s t. (s + t) % m) h k ∙ sym (add-mod b d m)

  -- Products of numbers with one remainder have one remainder.
  pub mul_cong : (a b c d : ℕ) → a % m ≡ b % m → c % m ≡ d % m → (a * c) % m ≡ (b * d) % m
  mul_cong a b c d h k = sym (mod-mul-mod a c m) ∙ sym (mul-mod-mod (a % m) c m) ∙ ap₂ (λ s t. (s * t) % m) h k ∙ simp mods

  -- A summand that is zero modulo m goes, on the left and on the right.
  pub zero-add-mod : (a b : ℕ) → a % m ≡ 0 → (a + b) % m ≡ b % m
  zero-add-mod a b h = sym (mod-add-mod a m b) ∙ ap (λ t. (t + b) % m) h ∙ ap (λ t. t % m) (zero-add b)

  pub add-zero-mod : (a b : ℕ) → b % m ≡ 0 → (a + b) % m ≡ a % m
  add-zero-mod a b h = ap (λ t. t % m) (add_comm a b) ∙ zero-add-mod b a h

  -- A product with a factor that is zero modulo m is zero modulo m, on the left and on the right.
  pub zero-mul-mod : (a b : ℕ) → a % m ≡ 0 → (a * b) % m ≡ 0
  zero-mul-mod a b h = sym (mod-mul-mod a b m) ∙ ap (λ t. (t * b) % m) h ∙ ap (λ t. t % m) (zero-mul b) ∙ zero-mod m

  pub mul-zero-mod : (a b : ℕ) → b % m ≡ 0 → (a * b) % m ≡ 0
  mul-zero-mod a b h = ap (λ t. t % m) (mul_comm a b) ∙ zero-mul-mod b a h

  -- Multiples of two numbers that are zero together are zero together.
  pub multiples_zero : (a b w : ℕ) → (a + b) % m ≡ 0 → (a * w + b * w) % m ≡ 0
  multiples_zero a b w h = ap (λ t. t % m) (sym (add-mul a b w)) ∙ zero-mul-mod (a + b) w h

  -- A factor that is one modulo m goes.
  pub one-mul-mod : (a b : ℕ) → a % m ≡ 1 → (a * b) % m ≡ b % m
  one-mul-mod a b h = sym (mod-mul-mod a b m) ∙ ap (λ t. (t * b) % m) h ∙ ap (λ t. t % m) (one-mul b)

-- c - d is written c + (m - 1) d

whole : (m c d : ℕ) → 0 < m → c + d * m ≡ d + (c + (m - 1) * d)
whole m c d l =
    let e : m - 1 + 1 ≡ m = omega arith in
    omega (arith, ap (λ t. t * d) e)

module _ (m : ℕ) (l : 0 < m) where
  -- Two numbers whose difference is zero modulo m have one remainder.
  pub difference-zero : (c d : ℕ) → (c + (m - 1) * d) % m ≡ 0 → c % m ≡ d % m
  difference-zero c d h =
      same-mod m c (d + (c + (m - 1) * d)) d 0 (omega (arith, whole m c d l)) ∙ add-zero-mod m d _ h

  -- The difference of two numbers with one remainder is zero modulo m.
  pub zero-difference : (c d : ℕ) → c % m ≡ d % m → (c + (m - 1) * d) % m ≡ 0
  zero-difference c d h =
      add_cong m c d _ _ h refl ∙ same-mod m (d + (m - 1) * d) 0 0 d (omega (arith, whole m 0 d l)) ∙ zero-mod m

-- For s and s' below m, the difference s' - s, here the remainder of s' + (m - s).
module _ (m s s' : ℕ) (low : s < m) (low' : s' < m) where
  -- s and the difference to s' are s'.
  pub difference_reaches : (s + (s' + (m - s)) % m) % m ≡ s'
  difference_reaches =
      let e : s + (s' + (m - s)) ≡ s' + m = omega arith in
      add-mod-mod s (s' + (m - s)) m ∙ ap (λ t. t % m) e ∙ add-mod_right s' m ∙ mod-eq_of_lt low'

  -- There and back is no difference.
  pub difference_back : ((s' + (m - s)) % m + (s + (m - s')) % m) % m ≡ 0
  difference_back =
      let e : s' + (m - s) + (s + (m - s')) ≡ 2 * m = omega arith in
      mod-add-mod (s' + (m - s)) m _ ∙ add-mod-mod (s' + (m - s)) _ m ∙ ap (λ t. t % m) e ∙ mul-mod_left 2 m

-- For x and a below m, x - a, here x + (m - a), is zero modulo m only where x is a.
pub difference_some : (m x a : ℕ) → x < m → a < m → x ≢ a → (x + (m - a)) % m ≢ 0
difference_some m x a l h n e =
    let d = x + (m - a) in
    let r : x + m ≡ a + d = omega arith in
    n
    (sym (mod-eq_of_lt l) ∙ sym (add-mod_right x m) ∙ ap (λ t. t % m) r ∙ add-zero-mod m a d e ∙ mod-eq_of_lt h)

-- ---- primes and inverses

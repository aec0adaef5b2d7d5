-- Hexadecimal: "in small letters, an even number of digits".
--
-- In order: digits; what digits say; bytes as digits; the laws that the proofs share.
-- Assumes nothing.
use Rattle.std.specs.Prelude.{Bool, true, false, List, [], ◌∷◌, ◌⊎◌, ◌≡◌, eqb, leb, length, get_or}
use Rattle.std.proofs.Common.{inl, inr, ◌∙◌}
use Rattle.std.proofs.Math.Path.{sym, ap}
use Prim.Native.Nat.{ℕ, zero, suc, ◌+◌, ◌*◌, ◌-◌, ◌/◌, ◌%◌, ◌<◌, ◌≤◌}
use Rattle.std.proofs.Math.Nat.{div-add-mod, mod-lt}
use native.Mathlib.Omega.{arith}
use Rattle.std.proofs.Math.Dec.{ltb}
use borrow.Author.Tests.{ltb-true, lt-ltb, le-ltb, ne_eqb}
use Rattle.folds.specs.Tests.{◌and◌, ◌or◌, pick, and_left, and_right, or_cases}
use Rattle.folds.specs.Below.{all_below, all_below-zero, all_below_not, all_below_at, all_below_all}
use Rattle.folds.specs.Runs.{gather}
use Rattle.text.specs.Decimals.{between, between_true}

-- `0` to `9`, `a` to `f`
abbrev pub is_hex_digit : ℕ → Bool
is_hex_digit x = between 48 57 x or between 97 102 x

abbrev pub hex_digit : ℕ → ℕ
hex_digit x = pick (leb x 57) (x - 48) (x - 87)

-- a digit stands j behind i
abbrev pub hex_stands : List ℕ → ℕ → ℕ → Bool
hex_stands b i j = ltb (i + j) (length b) and is_hex_digit (get_or b (i + j) 0)

-- the digits of n bytes stand from i on
unfoldable pub hex_at : List ℕ → ℕ → ℕ → Bool
hex_at b i n = all_below (2 * n) (hex_stands b i)

-- the byte that two digits from i on say, and n bytes
abbrev pub hex_said : List ℕ → ℕ → ℕ
hex_said b i = hex_digit (get_or b i 0) * 16 + hex_digit (get_or b (i + 1) 0)

unfoldable pub hex_bytes : List ℕ → ℕ → ℕ → List ℕ
hex_bytes b i n = gather n (λ j. hex_said b (i + 2 * j) ∷ [])

abbrev pub glyph : ℕ → ℕ
glyph x = pick (ltb x 10) (48 + x) (87 + x)

-- a byte as digits, and the n bytes of b from i on
abbrev pub hex_pair : ℕ → List ℕ
hex_pair x = glyph (x / 16) ∷ glyph (x % 16) ∷ []

unfoldable pub hex_of : List ℕ → ℕ → ℕ → List ℕ
hex_of b i n = gather n (λ j. hex_pair (get_or b (i + j) 0))

-- ---- the laws

pub hex_digit_is : (x : ℕ) → is_hex_digit x ≡ true → ((48 ≤ x) × (x ≤ 57)) ⊎ ((97 ≤ x) × (x ≤ 102))
hex_digit_is x h = go (or_cases (between 48 57 x) (between 97 102 x) h)
  where
    go : (between 48 57 x ≡ true) ⊎ (between 97 102 x ≡ true) → ((48 ≤ x) × (x ≤ 57)) ⊎ ((97 ≤ x) × (x ≤ 102))
    go (inl e) = inl (between_true 48 57 x e)
    go (inr e) = inr (between_true 97 102 x e)

module _ (b : List ℕ) (i : ℕ) where
  pub hex_there : (j : ℕ) → i + j < length b → hex_stands b i j ≡ is_hex_digit (get_or b (i + j) 0)
  hex_there j h = ap (λ (t : Bool). t and is_hex_digit (get_or b (i + j) 0)) (lt-ltb (i + j) (length b) h)

  hex_behind : (j : ℕ) → length b ≤ i + j → hex_stands b i j ≡ false
  hex_behind j h = ap (λ (t : Bool). t and is_hex_digit (get_or b (i + j) 0)) (le-ltb (i + j) (length b) h)

  -- behind the text stand no bytes, or none at all; and the text may be too short
  pub hex_none : (n : ℕ) → length b ≤ i → eqb n 0 ≡ hex_at b i n
  unfolding hex_at
  hex_none zero h = sym (all_below-zero (hex_stands b i))
  hex_none (suc n) h =
      ne_eqb (suc n) 0 (λ e. let w : ⊥ = omega arith in w)
      ∙ sym (all_below_not (hex_stands b i) (2 * suc n) 0 (omega arith) (hex_behind 0 (omega arith)))

  pub hex_short : (n : ℕ) → i ≤ length b → (length b - i) / 2 < n → hex_at b i n ≡ false
  unfolding hex_at
  hex_short n g h =
      let whole = div-add-mod (length b - i) 2 in
      let half = mod-lt (length b - i) {m = 2} (omega arith) in
      all_below_not (hex_stands b i) (2 * n) (length b - i) (omega arith) (hex_behind (length b - i) (omega arith))

  -- the digits of one of n bytes
  pub hex_one : (n j : ℕ) → hex_at b i n ≡ true → j < n → hex_at b (i + 2 * j) 1 ≡ true
  unfolding hex_at
  hex_one n j h l =
      all_below_all (hex_stands b (i + 2 * j)) 2
      (λ r lt.
      let on : i + 2 * j + r ≡ i + (2 * j + r) = omega arith in
      ap (λ (p : ℕ). ltb p (length b) and is_hex_digit (get_or b p 0)) on ∙ all_below_at (hex_stands b i) (2 * n) (2 * j + r) h (omega arith))

  module _ (h : hex_at b i 1 ≡ true) (r : ℕ) (l : r < 2) where
    hex_here : hex_stands b i r ≡ true
    unfolding hex_at
    hex_here = all_below_at (hex_stands b i) 2 r h l

    pub hex_within : i + r < length b
    hex_within = ltb-true (i + r) (length b) (and_left (ltb (i + r) (length b)) (is_hex_digit (get_or b (i + r) 0)) hex_here)

    pub hex_digit_at : is_hex_digit (get_or b (i + r) 0) ≡ true
    hex_digit_at = and_right (ltb (i + r) (length b)) (is_hex_digit (get_or b (i + r) 0)) hex_here

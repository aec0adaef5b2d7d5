-- Numbers as text beside `decimal` of `rules`, which is for one below 100,000.
--
-- In order: two numbers; one of any size that code counts with, which is `decimal` below 100,000; a power of ten
-- and the next.
-- Assumes nothing.
use mathlib.Core.List.{List, [], ◌∷◌, ◌++◌}
use Rattle.std.specs.Prelude.{◌≡◌, ltb}
use Rattle.std.proofs.Math.Path.{refl, ap, ap₂}
use Rattle.std.proofs.Common.{◌∙◌, pow-suc, mul-div_cancel, arith, lt-ltb}
use Prim.Native.Nat.{ℕ, zero, suc, ◌+◌, ◌-◌, ◌/◌, ◌^◌, ◌<◌, ◌≤◌}
use Rattle.std.proofs.Math.Nat.{pow-le-pow_right}
use Rattle.folds.specs.Tests.{pick}
use Rattle.folds.specs.Runs.{gather}
use Rattle.rules.specs.Text.{text, digit_of, decimal}

unfoldable pub two_text : ℕ → ℕ → List ℕ
two_text x y = decimal x ++ text " " ++ decimal y

-- what is put for the power of ten that comes in place j, of 19
abbrev pub piece_of : ℕ → ℕ → List ℕ
piece_of x j = pick (ltb x (10 ^ (19 - j))) [] (digit_of x (10 ^ (19 - j)) ∷ [])

-- x as a decimal, for x below 10^20: no digit for a power of ten above x, but one at least
unfoldable pub numeral : ℕ → List ℕ
numeral x = gather 19 (piece_of x) ++ digit_of x 1 ∷ []

module _ (x : ℕ) (small : x < 100000) where
  -- no digit for the 15 powers from 10^19 down to 10^5
  none_above : (j : ℕ) → j ≤ 15 → gather j (piece_of x) ≡ []
  unfolding gather
  none_above zero l = refl
  none_above (suc j) l =
      let power : 10 ^ 5 ≤ 10 ^ (19 - j) = pow-le-pow_right {n = 10} (omega arith) {i = 5} {j = 19 - j} (omega arith) in
      ap₂ (λ (a b : List ℕ). a ++ b) (none_above j (omega arith)) (rw (lt-ltb x (10 ^ (19 - j)) (omega arith)))

  pub numeral_small : numeral x ≡ decimal x
  unfolding gather numeral decimal
  numeral_small =
      ap (λ (t : List ℕ). t ++ piece_of x 15 ++ piece_of x 16 ++ piece_of x 17 ++ piece_of x 18 ++ digit_of x 1 ∷ []) (none_above 15 (omega arith))

-- ---- the powers of ten

-- a tenth of a power of ten is the next
pub power_next : (j : ℕ) {power : ℕ} → j < 19 → power ≡ 10 ^ (19 - j) → power / 10 ≡ 10 ^ (19 - (j + 1))
power_next j h counts =
    let e : 19 - j ≡ suc (19 - (j + 1)) = omega arith in
    ap (λ (n : ℕ). n / 10) (counts ∙ ap (λ (n : ℕ). 10 ^ n) e ∙ pow-suc 10 (19 - (j + 1))) ∙ mul-div_cancel (10 ^ (19 - (j + 1))) (omega arith)

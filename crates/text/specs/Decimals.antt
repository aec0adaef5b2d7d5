-- A decimal: as one value that is read, and as digits that are written.
--
-- In order: the value; what stands in a text; its digits, and the four tests of a decimal; the parts of the value; the digits
-- put one behind the other.
-- Assumes nothing.
use Rattle.std.specs.Prelude.{Bool, true, false, List, [], ◌∷◌, ◌≡◌, ℕ, zero, suc, ◌+◌, ◌-◌, ◌*◌, ◌/◌, ◌%◌, ◌^◌, ◌<◌, ◌≤◌, ltb, length, get_or, set, Result, Ok, Err}
use Rattle.std.proofs.Math.Bool.{not}
use Rattle.std.proofs.Common.{sym, ◌∙◌, pow-suc, mul-div_cancel, div-one, add-one}
use Rattle.std.proofs.Math.Path.{refl, ap}
use Rattle.std.proofs.Math.Nat.{one-le-pow, pow-le-pow_right}
use native.Mathlib.Omega.{arith}
use Rattle.std.proofs.Math.Dec.{eqb, leb}
use borrow.Author.Tests.{ltb-true, leb-true, lt-ltb, le-ltb, le-leb, ne_eqb}
use Rattle.folds.specs.Tests.{◌and◌, ◌or◌, pick, true≢false, and_left, and_right, and_intro, or_none_lem, false_unless}
use Rattle.folds.specs.Below.{first_from_le}
use Rattle.folds.specs.Runs.{gather}
use Rattle.rules.specs.Text.{byte_at, digit_at, digits_end, digits_say, decimal_at, is_decimal, digit_of, decimal}
use Rattle.text.specs.Puts.{Puts, PutRuns, puts_byte, puts_then, runs_all}
use Rattle.text.specs.declared.read.Decimal.{Decimal}

abbrev pub value : ℕ → ℕ → Decimal
value number end = record { number = number; end = end }

-- the number that stands at i and where its digits end; where none does, where the digits end all the same
unfoldable pub decimal_in : List ℕ → ℕ → Result Decimal ℕ
decimal_in b i = pick (is_decimal b i) (Ok (value (decimal_at b i) (digits_end b i))) (Err (digits_end b i))

some_none : {d : Decimal} {e : ℕ} → ◌≡◌ {A = Result Decimal ℕ} (Ok d) (Err e) → ⊥
some_none e = cc

-- ---- what stands in a text

module _ (b : List ℕ) (i : ℕ) where
  pub byte_there : (c : ℕ) → i < length b → byte_at b i c ≡ eqb (get_or b i 0) c
  byte_there c h = ap (λ (t : Bool). t and eqb (get_or b i 0) c) (lt-ltb i (length b) h)

  pub byte_behind : (c : ℕ) → length b ≤ i → byte_at b i c ≡ false
  byte_behind c h = ap (λ (t : Bool). t and eqb (get_or b i 0) c) (le-ltb i (length b) h)

  pub byte_within : (c : ℕ) → byte_at b i c ≡ true → i < length b
  byte_within c h = ltb-true i (length b) (and_left (ltb i (length b)) (eqb (get_or b i 0) c) h)

-- a byte between two others
abbrev pub between : ℕ → ℕ → ℕ → Bool
between low high x = leb low x and leb x high

module _ (low high x : ℕ) where
  pub between_true : between low high x ≡ true → (low ≤ x) × (x ≤ high)
  between_true h = (leb-true low x (and_left (leb low x) (leb x high) h), leb-true x high (and_right (leb low x) (leb x high) h))

  pub true_between : low ≤ x → x ≤ high → between low high x ≡ true
  true_between h g = and_intro (leb low x) (leb x high) (le-leb low x h) (le-leb x high g)

-- ---- its digits, and the four tests of a decimal

module _ (b : List ℕ) (i : ℕ) where
  -- where there are digits they end within the text
  pub digits_end_within : i < digits_end b i → digits_end b i ≤ length b
  unfolding digits_end
  digits_end_within h = let z = first_from_le (λ (j : ℕ). not (digit_at b j)) (length b - i) i in omega arith

  pub digits_say_more : (n : ℕ) → digits_say b i (n + 1) ≡ digits_say b i n * 10 + (get_or b (i + n) 0 - 48)
  unfolding digits_say
  digits_say_more n = rw (add-one n)

  -- the four tests of a decimal
  pub record Tests : Type 0 where
    pub some : i < digits_end b i
    pub few : digits_end b i ≤ i + 5
    pub plain : eqb (digits_end b i) (i + 1) or not (byte_at b i 48) ≡ true
    pub small : decimal_at b i ≤ 65535

  pub decimal_tests : is_decimal b i ≡ true → Tests
  unfolding is_decimal
  decimal_tests h =
      let few = leb (digits_end b i) (i + 5) in
      let plain = eqb (digits_end b i) (i + 1) or not (byte_at b i 48) in
      let small = leb (decimal_at b i) 65535 in
      let h₁ = and_right (ltb i (digits_end b i)) (few and plain and small) h in
      let h₂ = and_right few (plain and small) h₁ in
      record {
        some = ltb-true i (digits_end b i) (and_left (ltb i (digits_end b i)) (few and plain and small) h);
        few = leb-true (digits_end b i) (i + 5) (and_left few (plain and small) h₁);
        plain = and_left plain small h₂;
        small = leb-true (decimal_at b i) 65535 (and_right plain small h₂);
      }

  pub tests_decimal : Tests → is_decimal b i ≡ true
  unfolding is_decimal
  tests_decimal t = rw (lt-ltb i (digits_end b i) t.some, le-leb (digits_end b i) (i + 5) t.few, t.plain, le-leb (decimal_at b i) 65535 t.small)

  -- one that fails: no digit; more than five; a zero before another digit; too large a number
  pub too_few : digits_end b i ≤ i → is_decimal b i ≡ false
  too_few g = false_unless (is_decimal b i) (λ h. let t = (decimal_tests h).some in let w : ⊥ = omega arith in w)

  pub too_many : i + 5 < digits_end b i → is_decimal b i ≡ false
  too_many g = false_unless (is_decimal b i) (λ h. let t = (decimal_tests h).few in let w : ⊥ = omega arith in w)

  pub zero-first : i + 1 < digits_end b i → byte_at b i 48 ≡ true → is_decimal b i ≡ false
  zero-first g z =
      let more : eqb (digits_end b i) (i + 1) ≡ false = ne_eqb (digits_end b i) (i + 1) (λ e. let w : ⊥ = omega arith in w) in
      false_unless (is_decimal b i) (λ h. true≢false (sym (decimal_tests h).plain ∙ or_none_lem _ _ more (ap not z)))

  pub too_large : 65535 < decimal_at b i → is_decimal b i ≡ false
  too_large g = false_unless (is_decimal b i) (λ h. let t = (decimal_tests h).small in let w : ⊥ = omega arith in w)

  -- the value, and what one that was read says
  pub decimal_none : is_decimal b i ≡ false → decimal_in b i ≡ Err (digits_end b i)
  unfolding decimal_in
  decimal_none h = rw h

  pub decimal_some : is_decimal b i ≡ true → decimal_in b i ≡ Ok (value (decimal_at b i) (digits_end b i))
  unfolding decimal_in
  decimal_some h = rw h

  pub record Read (d : Decimal) : Type 0 where
    pub stands : is_decimal b i ≡ true
    pub number : d.number ≡ decimal_at b i
    pub end : d.end ≡ digits_end b i

  pub some_decimal : {d : Decimal} → Ok d ≡ decimal_in b i → Read d
  unfolding decimal_in
  some_decimal {d} = go (is_decimal b i) refl
    where
      go : (t : Bool) → is_decimal b i ≡ t → Ok d ≡ pick t (Ok (value (decimal_at b i) (digits_end b i))) (Err (digits_end b i)) → Read d
      go true h e = record { stands = h; number = cc; end = cc }
      go false h e = absurd (some_none e)

  pub record Unread (e : ℕ) : Type 0 where
    pub stands : is_decimal b i ≡ false
    pub end : e ≡ digits_end b i

  pub none_decimal : {e : ℕ} → Err e ≡ decimal_in b i → Unread e
  unfolding decimal_in
  none_decimal {e} = go (is_decimal b i) refl
    where
      go : (t : Bool) → is_decimal b i ≡ t → Err e ≡ pick t (Ok (value (decimal_at b i) (digits_end b i))) (Err (digits_end b i)) → Unread e
      go true h w = absurd (some_none (sym w))
      go false h w = record { stands = h; end = cc }

-- five digits at most, of 207 each at most: far below what four bytes hold
pub powers_small : (j : ℕ) → j < 5 → 10 ^ j ≤ 10000
powers_small j h = pow-le-pow_right {n = 10} (omega arith) {i = j} {j = 4} (omega arith)

-- ---- the digits put one behind the other

-- what is put for the power of ten that comes in place j, of four
abbrev pub piece_of : ℕ → ℕ → List ℕ
piece_of x j = pick (ltb x (10 ^ (4 - j))) [] (digit_of x (10 ^ (4 - j)) ∷ [])

-- the four powers, from the highest
pub powers : (j : ℕ) → j < 4 → get_or (10000 ∷ 1000 ∷ 100 ∷ 10 ∷ []) j 0 ≡ 10 ^ (4 - j)
powers zero h = refl
powers (suc zero) h = refl
powers (suc (suc zero)) h = refl
powers (suc (suc (suc zero))) h = refl
powers (suc (suc (suc (suc j)))) h = absurd (omega arith)

-- a tenth of a power of ten is the next
pub power_next : (j : ℕ) {power : ℕ} → j < 4 → power ≡ 10 ^ (4 - j) → power / 10 ≡ 10 ^ (4 - (j + 1))
power_next j h counts =
    let e : 4 - j ≡ suc (4 - (j + 1)) = omega arith in
    ap (λ (n : ℕ). n / 10) (counts ∙ ap (λ (n : ℕ). 10 ^ n) e ∙ pow-suc 10 (4 - (j + 1))) ∙ mul-div_cancel (10 ^ (4 - (j + 1))) (omega arith)

pub power_positive : (n : ℕ) → 1 ≤ 10 ^ n
power_positive n = one-le-pow n 10 (omega arith)

-- the power is at most x: a digit; it is above x: none
module _ (x j next : ℕ) (out : List ℕ) {power : ℕ} (counts : power ≡ 10 ^ (4 - j)) where
  pub digit_put : power ≤ x → {next' : ℕ} {out' : List ℕ} → out' ≡ set out next (digit_of x power) → next' ≡ next + 1
      → Puts out next (piece_of x j) 1 next' out'
  digit_put g e n = rw (← counts, le-ltb x power g) (n, omega arith, e)

  pub digit_skip : x < power → {next' : ℕ} {out' : List ℕ} → out' ≡ out → next' ≡ next → Puts out next (piece_of x j) 1 next' out'
  digit_skip g e n = rw (← counts, lt-ltb x power g) (omega arith, omega arith, e)

-- and the last digit
pub digits_all : (x : ℕ) {at next j : ℕ} {out₀ out : List ℕ} → PutRuns (piece_of x) 1 4 at out₀ out next j → 4 ≤ j
    → Puts out₀ at (decimal x) 5 (next + 1) (set out next (48 + x % 10))
unfolding decimal
digits_all x {at} {next} {j} {out₀} {out} h l =
    puts_then out₀ at (gather 4 (piece_of x)) (digit_of x 1 ∷ []) 4 1 (runs_all h l)
    (puts_byte out next (ap (λ (y : ℕ). 48 + y % 10) (sym (div-one x))))

-- The numbers of a line: where each stands, and what stands behind it.
--
-- In order: the test of one of them; where they stand; a turn of the loop that reads them.
-- Assumes nothing.
use Rattle.std.specs.Prelude.{Bool, true, false, List, ◌≡◌, ℕ, ◌+◌, ◌<◌, eqb, length, Ok, Err}
use Rattle.std.proofs.Common.{sym, ap, ap₂, ◌∙◌, add-one, eq-eqb, ne_eqb}
use Rattle.std.proofs.Math.Path.{refl}
use Rattle.folds.specs.Tests.{◌and◌, pick, pick_true, pick-false, and_left, and_right}
use Rattle.folds.specs.Below.{all_below_at}
use Rattle.rules.specs.Text.{space, newline, byte_at, digits_end, is_decimal, number_place, number_at, numbers_at}
use Rattle.text.specs.Decimals.{value, decimal_in, decimal_some, byte_within, some_decimal, none_decimal}
use Rattle.text.specs.declared.read.Decimal.{Decimal}

-- what has to stand behind number j of m; and it does; number j stands, and behind it what has to
abbrev pub behind : ℕ → ℕ → ℕ
behind m j = pick (eqb (j + 1) m) newline space

abbrev pub ends_well : List ℕ → ℕ → ℕ → ℕ → Bool
ends_well b i m j = byte_at b (digits_end b (number_place b i j)) (behind m j)

abbrev pub number_stands : List ℕ → ℕ → ℕ → ℕ → Bool
number_stands b i m j = is_decimal b (number_place b i j) and ends_well b i m j

module _ (b : List ℕ) (i : ℕ) where
  pub number_place-zero : number_place b i 0 ≡ i
  unfolding number_place
  number_place-zero = refl

  pub number_place_more : (j : ℕ) → number_place b i (j + 1) ≡ digits_end b (number_place b i j) + 1
  unfolding number_place
  number_place_more j = rw (add-one j)

  module _ (m j : ℕ) (h : numbers_at b i m ≡ true) (l : j < m) where
    number_stands_lem : number_stands b i m j ≡ true
    unfolding numbers_at
    number_stands_lem = all_below_at (number_stands b i m) m j h l

    pub number_decimal : is_decimal b (number_place b i j) ≡ true
    number_decimal = and_left (is_decimal b (number_place b i j)) (ends_well b i m j) number_stands_lem

    pub number_in : {place : ℕ} → place ≡ number_place b i j → decimal_in b place ≡ Ok (value (number_at b i j) (digits_end b (number_place b i j)))
    number_in e = ap (decimal_in b) e ∙ decimal_some b (number_place b i j) number_decimal

    pub number_within : digits_end b (number_place b i j) < length b
    number_within =
        byte_within b (digits_end b (number_place b i j)) (behind m j) (and_right (is_decimal b (number_place b i j)) (ends_well b i m j) number_stands_lem)

pub behind_last : (j m : ℕ) → j + 1 ≡ m → newline ≡ behind m j
behind_last j m h = sym (pick_true (eqb (j + 1) m) newline space (eq-eqb (j + 1) m h))

pub behind_more : (j m : ℕ) → (j + 1 ≡ m → ⊥) → space ≡ behind m j
behind_more j m h = sym (pick-false (eqb (j + 1) m) newline space (ne_eqb (j + 1) m h))

-- a turn of the loop that reads them: none is read at the place of number j, or d is
module _ (b : List ℕ) (i m j : ℕ) {place : ℕ} (e : place ≡ number_place b i j) where
  pub number_none : {end : ℕ} → Err end ≡ decimal_in b place → number_stands b i m j ≡ false
  number_none h = ap (λ (t : Bool). t and ends_well b i m j) (ap (is_decimal b) (sym e) ∙ (none_decimal b place h).stands)

  module _ {d : Decimal} (h : Ok d ≡ decimal_in b place) where
    pub number_behind : {c : ℕ} → c ≡ behind m j → number_stands b i m j ≡ byte_at b d.end c
    number_behind k =
        let r = some_decimal b place h in
        ap (λ (t : Bool). t and ends_well b i m j) (ap (is_decimal b) (sym e) ∙ r.stands)
        ∙ ap₂ (byte_at b) (ap (digits_end b) (sym e) ∙ sym r.end) (sym k)

    pub number_next : d.end + 1 ≡ number_place b i (j + 1)
    number_next = ap (λ (n : ℕ). n + 1) ((some_decimal b place h).end ∙ ap (digits_end b) e) ∙ sym (number_place_more b i j)

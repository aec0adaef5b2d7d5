-- Document 01, "The recovery sheet": how text is read and written: "One space between items, one newline after each line,
-- decimals up to 65,535 without leading zeros."
--
-- In order: texts as bytes; what stands in a text; a decimal; the numbers of a line; a number as text.
-- Assumes nothing.
use Rattle.std.specs.Prelude.{Bool, not, List, [], ◌∷◌, ◌++◌, ℕ, zero, suc, ◌+◌, ◌*◌, ◌-◌, ◌/◌, ◌%◌, ◌^◌, eqb, leb, ltb, length, get_or}
use Prim.Native.Char.{code}
use Prim.Native.String.{String, [] as empty, ◌∷◌ as ◌then◌}
use Rattle.folds.specs.Tests.{◌and◌, ◌or◌, pick}
use Rattle.folds.specs.Below.{all_below, first_from}
use Rattle.folds.specs.Runs.{gather}

-- ---- texts as bytes

unfoldable pub text : String → List ℕ
text empty = []
text (c then s) = code c ∷ text s

abbrev pub space : ℕ
space = 32

abbrev pub newline : ℕ
newline = 10

-- ---- what stands in a text

-- this byte stands at i
abbrev pub byte_at : List ℕ → ℕ → ℕ → Bool
byte_at b i c = ltb i (length b) and eqb (get_or b i 0) c

abbrev pub digit_at : List ℕ → ℕ → Bool
digit_at b i = ltb i (length b) and leb 48 (get_or b i 0) and leb (get_or b i 0) 57

-- these bytes stand from i on
unfoldable pub word_at : List ℕ → ℕ → List ℕ → Bool
word_at b i w = all_below (length w) (λ j. byte_at b (i + j) (get_or w j 0))

-- ---- a decimal

-- where the digits that start at i end
unfoldable pub digits_end : List ℕ → ℕ → ℕ
digits_end b i = first_from (length b - i) i (λ j. not (digit_at b j))

-- what n digits from i on say
unfoldable pub digits_say : List ℕ → ℕ → ℕ → ℕ
digits_say b i zero = 0
digits_say b i (suc n) = digits_say b i n * 10 + (get_or b (i + n) 0 - 48)

abbrev pub decimal_at : List ℕ → ℕ → ℕ
decimal_at b i = digits_say b i (digits_end b i - i)

-- "decimals up to 65,535 without leading zeros": one starts at i
unfoldable pub is_decimal : List ℕ → ℕ → Bool
is_decimal b i =
    ltb i (digits_end b i)
    and leb (digits_end b i) (i + 5)
    and (eqb (digits_end b i) (i + 1) or not (byte_at b i 48))
    and leb (decimal_at b i) 65535

-- ---- the numbers of a line

-- where number j of those that start at i stands: behind the one before it and one byte more
unfoldable pub number_place : List ℕ → ℕ → ℕ → ℕ
number_place b i zero = i
number_place b i (suc j) = digits_end b (number_place b i j) + 1

abbrev pub number_at : List ℕ → ℕ → ℕ → ℕ
number_at b i j = decimal_at b (number_place b i j)

-- "One space between items, one newline after each line": m numbers from i on end their line
unfoldable pub numbers_at : List ℕ → ℕ → ℕ → Bool
numbers_at b i m =
    all_below m (λ j.
    is_decimal b (number_place b i j) and byte_at b (digits_end b (number_place b i j)) (pick (eqb (j + 1) m) newline space))

-- ---- a number as text

-- the digit of x that counts this power of ten
abbrev pub digit_of : ℕ → ℕ → ℕ
digit_of x power = 48 + x / power % 10

-- x as a decimal, for x below 100,000: no digit for a power of ten above x, but one at least
unfoldable pub decimal : ℕ → List ℕ
decimal x = gather 4 (λ j. pick (ltb x (10 ^ (4 - j))) [] (digit_of x (10 ^ (4 - j)) ∷ [])) ++ (digit_of x 1 ∷ [])

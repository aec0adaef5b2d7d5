-- Rows of 8 and matrices of 8 by 8, of which the first k rows and columns are in use and the rest is zero; and how a number
-- is read out of a matrix, a polynomial, a point.
-- Assumes nothing.
use Rattle.std.specs.Prelude.{List, [], ℕ, ◌+◌, get_or, replicate}
use Rattle.folds.specs.Stores.{stores}
use Rattle.rules.specs.declared.Exponent.{Exponent}
use Rattle.rules.specs.declared.Element.{Element}
use Rattle.rules.specs.declared.Four.{Four}
use Rattle.rules.specs.Numbers.{exponent, element}

-- f 0, .. f (k - 1), and zeros behind
unfoldable pub row : {A : Type 0} → ℕ → A → (ℕ → A) → List A
row k zero f = stores k f (replicate 8 zero)

-- row j, column l is f j l for j and l below k
unfoldable pub matrix : {A : Type 0} → ℕ → A → (ℕ → ℕ → A) → List (List A)
matrix k zero f = stores k (λ j. row k zero (f j)) (replicate 8 (replicate 8 zero))

-- entry (j, l) of C
abbrev pub entry : List (List Element) → ℕ → ℕ → ℕ
entry C j l = (get_or (get_or C j []) l (element 0)).0

-- coefficient l of a polynomial, and the one of x^j y^l
abbrev pub coefficient : List Exponent → ℕ → ℕ
coefficient a l = (get_or a l (exponent 0)).0

abbrev pub coefficient₂ : List (List Exponent) → ℕ → ℕ → ℕ
coefficient₂ f j l = coefficient (get_or f j []) l

-- the four numbers of a point
abbrev pub α : Four → ℕ
α f = f.alpha.0

abbrev pub α' : Four → ℕ
α' f = f.alpha2.0

abbrev pub β : Four → ℕ
β f = f.beta.0

abbrev pub β' : Four → ℕ
β' f = f.beta2.0

abbrev pub zero_four : Four
zero_four = record { alpha = exponent 0; alpha2 = exponent 0; beta = exponent 0; beta2 = exponent 0 }

-- ten places, of which the first n hold what goes to boxes 1 to n
unfoldable pub to_boxes : {A : Type 0} → ℕ → A → (ℕ → A) → List A
to_boxes n zero f = stores n (λ j. f (j + 1)) (replicate 10 zero)

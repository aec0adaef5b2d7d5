-- Document 01, "Dealing and checking": from the coins to C and each box's polynomials, and the three checks.
--
-- C(j,l) is `entry C j l`; a product or sum over j below k is `prod_below k (λ j. ..)`, `sum_below k (λ j. ..)`, whole
-- numbers all, and the remainder is taken at the end.
-- Assumes nothing.
use Rattle.std.specs.Prelude.{Bool, not, List, ◌∷◌, ℕ, ◌+◌, ◌*◌, ◌-◌, ◌%◌, ◌^◌, eqb, ltb, length, get_or}
use Rattle.folds.specs.Tests.{◌and◌}
use Rattle.folds.specs.Below.{all_below, sum_below, prod_below}
use Rattle.rules.specs.declared.Exponent.{Exponent}
use Rattle.rules.specs.declared.Element.{Element}
use Rattle.rules.specs.declared.Group.{Group}
use Rattle.rules.specs.declared.Four.{Four}
use Rattle.rules.specs.declared.Pair.{Pair}
use Rattle.rules.specs.declared.Polynomials.{Polynomials}
use Rattle.rules.specs.declared.SetUp.{SetUp}
use Rattle.rules.specs.Numbers.{exponent, element, group_of}
use Rattle.rules.specs.Matrices.{row, matrix, entry, coefficient, coefficient₂, α, α', β, β'}

-- ---- dealing

-- k by k coefficients, row by row, from number `from` on of the secret and the coins behind it
unfoldable pub from_coins : SetUp → ℕ → List ℕ → ℕ → List (List Exponent)
from_coins u secret coins from = matrix u.k (exponent 0) (λ j l. exponent (get_or (secret ∷ coins) (from + (j * u.k + l)) 0))

-- "The coins are 2k² - 1 numbers below q: the coefficients of f row by row without the first (which is the secret)"
unfoldable pub f_of : SetUp → ℕ → List ℕ → List (List Exponent)
f_of u secret coins = from_coins u secret coins 0

-- "then all of f'"
unfoldable pub f'_of : SetUp → ℕ → List ℕ → List (List Exponent)
f'_of u secret coins = from_coins u secret coins (u.k * u.k)

-- refusal 14: "secret ≥ q, coins not 2k² - 1 in number, or a coin ≥ q"
unfoldable pub coins_keep : SetUp → ℕ → List ℕ → Bool
coins_keep u secret coins =
    ltb secret (group_of u.group).q
    and eqb (length coins) (2 * (u.k * u.k) - 1)
    and all_below (length coins) (λ c. ltb (get_or coins c 0) (group_of u.group).q)

-- g to the one times h to the other
unfoldable pub committed : Group → ℕ → ℕ → ℕ
committed G x y = (G.g.0 ^ x * G.h.0 ^ y) % G.p

-- "Entry (j, l) of C is g to the f coefficient of x^j y^l times h to the f' one."
unfoldable pub commitment : Group → ℕ → List (List Exponent) → List (List Exponent) → List (List Element)
commitment G k f f' = matrix k (element 0) (λ j l. element (committed G (coefficient₂ f j l) (coefficient₂ f' j l)))

-- "a(y) = f(i, y)": its coefficient of y^l
unfoldable pub along_y : ℕ → ℕ → List (List Exponent) → ℕ → List Exponent
along_y q k f i = row k (exponent 0) (λ l. exponent (sum_below k (λ j. coefficient₂ f j l * i ^ j) % q))

-- "b(x) = f(x, i)": its coefficient of x^j
unfoldable pub along_x : ℕ → ℕ → List (List Exponent) → ℕ → List Exponent
along_x q k f i = row k (exponent 0) (λ j. exponent (sum_below k (λ l. coefficient₂ f j l * i ^ l) % q))

-- "Box i gets a(y) = f(i, y), b(x) = f(x, i), and likewise from f'."
unfoldable pub polynomials_of : ℕ → ℕ → List (List Exponent) → List (List Exponent) → ℕ → Polynomials
polynomials_of q k f f' i =
    record { a = along_y q k f i; a2 = along_y q k f' i; b = along_x q k f i; b2 = along_x q k f' i }

-- a(x), for the coefficients of a
unfoldable pub value_at : ℕ → ℕ → List Exponent → ℕ → ℕ
value_at q k a x = sum_below k (λ l. coefficient a l * x ^ l) % q

-- ---- checking

-- refusal 8 does not hold: no entry "e is 0, ≥ p, or e^q is not 1"
unfoldable pub in_group : Group → ℕ → Bool
in_group G e = not (eqb e 0) and ltb e G.p and eqb (e ^ G.q % G.p) 1

unfoldable pub matrix_passes : Group → ℕ → List (List Element) → Bool
matrix_passes G k C = all_below k (λ j. all_below k (λ l. in_group G (entry C j l)))

-- refusal 9 does not hold: no "exponent ≥ q"
unfoldable pub coefficients_below : ℕ → ℕ → List Exponent → Bool
coefficients_below q k a = all_below k (λ l. ltb (coefficient a l) q)

unfoldable pub polynomials_below : ℕ → ℕ → Polynomials → Bool
polynomials_below q k P =
    coefficients_below q k P.a and coefficients_below q k P.a2 and coefficients_below q k P.b and coefficients_below q k P.b2

unfoldable pub four_below : ℕ → Four → Bool
four_below q f = ltb (α f) q and ltb (α' f) q and ltb (β f) q and ltb (β' f) q

unfoldable pub pair_below : ℕ → Pair → Bool
pair_below q s = ltb s.first.0 q and ltb s.second.0 q

-- an equation of a check: g to the one times h to the other is this element
unfoldable pub opens : Group → ℕ → ℕ → ℕ → Bool
opens G x y e = eqb (committed G x y) e

-- the product over j of C(j,l)^(i^j), and the product over l of C(j,l)^(i^l)
abbrev pub along_column : ℕ → List (List Element) → ℕ → ℕ → ℕ
along_column k C i l = prod_below k (λ j. entry C j l ^ (i ^ j))

abbrev pub along_row : ℕ → List (List Element) → ℕ → ℕ → ℕ
along_row k C i j = prod_below k (λ l. entry C j l ^ (i ^ l))

-- "Polynomial check for box i: for each l, g^(a_l) h^(a'_l) is the product over j of C(j,l)^(i^j);
unfoldable pub l_equation : Group → ℕ → List (List Element) → ℕ → Polynomials → ℕ → Bool
l_equation G k C i P l = opens G (coefficient P.a l) (coefficient P.a2 l) (along_column k C i l % G.p)

-- for each j, g^(b_j) h^(b'_j) is the product over l of C(j,l)^(i^l)."
unfoldable pub j_equation : Group → ℕ → List (List Element) → ℕ → Polynomials → ℕ → Bool
j_equation G k C i P j = opens G (coefficient P.b j) (coefficient P.b2 j) (along_row k C i j % G.p)

unfoldable pub polynomial_check : Group → ℕ → List (List Element) → ℕ → Polynomials → Bool
polynomial_check G k C i P = all_below k (l_equation G k C i P) and all_below k (j_equation G k C i P)

-- the product over j and l of C(j,l)^(x^j y^l)
unfoldable pub opened_at : Group → ℕ → List (List Element) → ℕ → ℕ → ℕ
opened_at G k C x y = prod_below k (λ j. prod_below k (λ l. entry C j l ^ (x ^ j * y ^ l))) % G.p

-- "Point check at i, from m: g^α h^α' is the product of C(j,l)^(m^j i^l),
unfoldable pub α_equation : Group → ℕ → List (List Element) → ℕ → ℕ → Four → Bool
α_equation G k C i m f = opens G (α f) (α' f) (opened_at G k C m i)

-- and g^β h^β' that of C(j,l)^(i^j m^l)."
unfoldable pub β_equation : Group → ℕ → List (List Element) → ℕ → ℕ → Four → Bool
β_equation G k C i m f = opens G (β f) (β' f) (opened_at G k C i m)

unfoldable pub point_check : Group → ℕ → List (List Element) → ℕ → ℕ → Four → Bool
point_check G k C i m f = α_equation G k C i m f and β_equation G k C i m f

-- "Share check for m: g^σ h^σ' is the product over j of C(j,0)^(m^j)."
unfoldable pub σ_equation : Group → ℕ → List (List Element) → ℕ → Pair → Bool
σ_equation G k C m s = opens G s.first.0 s.second.0 (along_column k C m 0 % G.p)

unfoldable pub share_check : Group → ℕ → List (List Element) → ℕ → Pair → Bool
share_check G k C m s = σ_equation G k C m s

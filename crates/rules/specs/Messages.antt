-- Document 01, "Messages": the exact bytes of each message, and what a run of bytes says.
--
-- In order: numbers as bytes; the four messages; the n messages of a call, and the buffer behind them; reading.
-- Assumes nothing.
use Rattle.std.specs.Prelude.{Bool, not, List, [], ◌∷◌, ◌++◌, ℕ, ◌+◌, ◌*◌, ◌-◌, ◌/◌, ◌%◌, eqb, leb, ltb, length, get_or, drop}
use Rattle.folds.specs.Tests.{◌and◌, ◌or◌, pick}
use Rattle.folds.specs.Runs.{gather}
use Rattle.rules.specs.declared.Exponent.{Exponent}
use Rattle.rules.specs.declared.Element.{Element}
use Rattle.rules.specs.declared.Four.{Four}
use Rattle.rules.specs.declared.Pair.{Pair}
use Rattle.rules.specs.declared.Polynomials.{Polynomials}
use Rattle.rules.specs.declared.SetUp.{SetUp}
use Rattle.rules.specs.declared.Message.{Message}
use Rattle.rules.specs.declared.Message.TheVariants.{Send as send, Echo as echo, Ready as ready, Recovery as recovery}
use Rattle.rules.specs.declared.Side.{Side}
use Rattle.rules.specs.declared.Side.TheVariants.{ByEcho, ByReady}
use Rattle.rules.specs.Numbers.{exponent, element}
use Rattle.rules.specs.Matrices.{row, matrix, entry, coefficient, α, α', β, β'}

-- an echo or a ready, and its tag
abbrev pub saying : Side → List (List Element) → Four → Message
saying ByEcho C f = echo C f
saying ByReady C f = ready C f

abbrev pub side_tag : Side → ℕ
side_tag ByEcho = 2
side_tag ByReady = 3

-- ---- writing

-- "All two-byte numbers are high byte first."
unfoldable pub two_bytes : ℕ → List ℕ
two_bytes x = x / 256 % 256 ∷ x % 256 ∷ []

-- "the matrix C, k by k, row j then column l, two bytes an entry"
unfoldable pub matrix_bytes : ℕ → List (List Element) → List ℕ
matrix_bytes k C = gather k (λ j. gather k (λ l. two_bytes (entry C j l)))

-- "the coefficients of a, a', b, b', lowest first, k numbers each"
unfoldable pub coefficient_bytes : ℕ → List Exponent → List ℕ
coefficient_bytes k a = gather k (λ l. two_bytes (coefficient a l))

unfoldable pub polynomial_bytes : SetUp → Polynomials → List ℕ
polynomial_bytes u P =
    coefficient_bytes u.k P.a ++ coefficient_bytes u.k P.a2 ++ coefficient_bytes u.k P.b ++ coefficient_bytes u.k P.b2

-- "An echo or ready ends with α, α', β, β'."
unfoldable pub four_bytes : Four → List ℕ
four_bytes f = two_bytes (α f) ++ two_bytes (α' f) ++ two_bytes (β f) ++ two_bytes (β' f)

-- "Tag 4, a recovery share, ends with σ, σ'"
unfoldable pub pair_bytes : Pair → List ℕ
pair_bytes s = two_bytes s.first.0 ++ two_bytes s.second.0

-- "Tags 1 send, 2 echo, 3 ready"; 4 a recovery share
unfoldable pub tag_of : Message → ℕ
tag_of (send C P) = 1
tag_of (echo C f) = 2
tag_of (ready C f) = 3
tag_of (recovery s) = 4

-- "Tags 1 send, 2 echo, 3 ready go on with k (1) and the matrix"; a recovery share "has no k and no matrix"
unfoldable pub body_of : SetUp → Message → List ℕ
body_of u (send C P) = u.k ∷ matrix_bytes u.k C ++ polynomial_bytes u P
body_of u (echo C f) = u.k ∷ matrix_bytes u.k C ++ four_bytes f
body_of u (ready C f) = u.k ∷ matrix_bytes u.k C ++ four_bytes f
body_of u (recovery s) = pair_bytes s

-- "Header: tag (1 byte), size of the rest (2 bytes)."
unfoldable pub framed : ℕ → List ℕ → List ℕ
framed tag rest = tag ∷ two_bytes (length rest) ++ rest

-- "Then dealer (1), session (2)."
unfoldable pub bytes_of : SetUp → Message → List ℕ
bytes_of u m = framed (tag_of m) (u.d ∷ two_bytes u.session ++ body_of u m)

-- "Whole lengths: send 7 + 2k² + 8k; echo and ready 15 + 2k²; recovery share 10."
unfoldable pub whole_length : SetUp → ℕ → ℕ
whole_length u tag =
    pick (eqb tag 1) (7 + 2 * (u.k * u.k) + 8 * u.k) (pick (eqb tag 4) 10 (15 + 2 * (u.k * u.k)))

-- "A call that sends writes n messages, to box 1 first, each directly behind the one before"
unfoldable pub to_each : SetUp → (ℕ → Message) → List ℕ
to_each u f = gather u.n (λ j. bytes_of u (f (j + 1)))

-- "Bytes behind the last keep their values."
unfoldable pub written : List ℕ → List ℕ → List ℕ
written bytes buffer = bytes ++ drop (length bytes) buffer

-- ---- reading

-- the two-byte number at p
unfoldable pub word : List ℕ → ℕ → ℕ
word s p = get_or s p 0 * 256 + get_or s (p + 1) 0

abbrev pub tag_in : List ℕ → ℕ
tag_in s = get_or s 0 0

unfoldable pub has_matrix : ℕ → Bool
has_matrix tag = leb tag 3

-- refusal 2: "shorter than 3 bytes, tag not 1..4, size field not the bytes that follow,
-- whole length not that of the tag at this k, or k byte not k"
unfoldable pub malformed : SetUp → List ℕ → Bool
malformed u s =
    ltb (length s) 3
    or not (leb 1 (tag_in s) and leb (tag_in s) 4)
    or not (eqb (word s 1) (length s - 3))
    or not (eqb (length s) (whole_length u (tag_in s)))
    or has_matrix (tag_in s) and not (eqb (get_or s 6 0) u.k)

-- refusal 3: "dealer or session is another"
unfoldable pub foreign : SetUp → List ℕ → Bool
foreign u s = not (eqb (get_or s 3 0) u.d) or not (eqb (word s 4) u.session)

-- what stands where in a message that is not malformed
unfoldable pub matrix_in : SetUp → List ℕ → List (List Element)
matrix_in u s = matrix u.k (element 0) (λ j l. element (word s (7 + 2 * (j * u.k + l))))

unfoldable pub coefficients_in : ℕ → List ℕ → ℕ → List Exponent
coefficients_in k s p = row k (exponent 0) (λ l. exponent (word s (p + 2 * l)))

-- where what a send, an echo or a ready ends with begins: behind the header, k and the matrix
abbrev pub end_place : SetUp → ℕ
end_place u = 7 + 2 * (u.k * u.k)

unfoldable pub polynomials_in : SetUp → List ℕ → Polynomials
polynomials_in u s =
    record {
      a = coefficients_in u.k s (end_place u);
      a2 = coefficients_in u.k s (end_place u + 2 * u.k);
      b = coefficients_in u.k s (end_place u + 4 * u.k);
      b2 = coefficients_in u.k s (end_place u + 6 * u.k);
    }

unfoldable pub four_in : SetUp → List ℕ → Four
four_in u s =
    record {
      alpha = exponent (word s (end_place u));
      alpha2 = exponent (word s (end_place u + 2));
      beta = exponent (word s (end_place u + 4));
      beta2 = exponent (word s (end_place u + 6));
    }

unfoldable pub pair_in : List ℕ → Pair
pair_in s = record { first = exponent (word s 6); second = exponent (word s 8) }

unfoldable pub message_in : SetUp → List ℕ → Message
message_in u s =
    pick (eqb (tag_in s) 1) (send (matrix_in u s) (polynomials_in u s))
    (pick (eqb (tag_in s) 2) (echo (matrix_in u s) (four_in u s))
    (pick (eqb (tag_in s) 3) (ready (matrix_in u s) (four_in u s)) (recovery (pair_in s))))

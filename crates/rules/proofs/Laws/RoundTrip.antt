-- Reading and writing undo one another: "reading the bytes of any message in range gives that message, and whatever is read
-- back is written as the same bytes".
--
-- In order: numbers in a run of bytes; messages in range (`Fits`); the parts of a message; a message by its tag; refusals 2
-- and 3, clause by clause; a whole message; the round trip there, and back.
-- Where a part stands in the bytes is said by `Stands` of `Runs`, the same for reading and for writing.
-- Assumes nothing.
use Rattle.std.specs.Prelude.{true, false, not, ◌≡◌, eqb, leb, ltb}
use mathlib.Core.List.{List, [], ◌∷◌, ◌++◌, append-nil}
use Rattle.std.proofs.Math.Path.{refl, sym, ap}
use Rattle.std.proofs.Common.{ap₂, subst, ◌∙◌}
use Prim.Native.Nat.{ℕ, zero, suc, ◌+◌, ◌-◌, ◌*◌, ◌/◌, ◌%◌, ◌<◌, ◌≤◌}
use Rattle.std.proofs.Math.Nat.{mul-le-mul_right}
use Rattle.std.proofs.Math.Decide.{dec_lt, ℕ_discrete}
use native.Mathlib.Omega.{arith}
use Rattle.std.proofs.Math.ListN.{length, get_or, get_or-eq_default}
use borrow.Author.Tests.{ne_eqb, ltb-false, leb-true, eqb-true, le-ltb, le-leb, eq-eqb, not-false}
use Rattle.folds.specs.Tests.{◌and◌, and_left, and_right, and_intro, or_false, or_none_lem, and_rest, and_not}
use Rattle.folds.specs.Runs.{gather, Stands, stands_at, stands_left, stands_right, stands_both, stands_piece, stands_gather, stands_reads, stands_element, stands_is, stands_apart, stands_together, every_nil, every_cons, every_append, every_gather}
use Rattle.rules.specs.declared.Exponent.{Exponent}
use Rattle.rules.specs.declared.Element.{Element}
use Rattle.rules.specs.declared.Four.{Four}
use Rattle.rules.specs.declared.Pair.{Pair}
use Rattle.rules.specs.declared.Polynomials.{Polynomials}
use Rattle.rules.specs.declared.SetUp.{SetUp}
use Rattle.rules.specs.Numbers.{exponent, element, numbers_keep}
use Rattle.rules.specs.Matrices.{row, matrix, entry, coefficient, α, α', β, β'}
use Rattle.rules.specs.declared.Message.{Message}
use Rattle.rules.specs.declared.Message.TheVariants.{Send as send, Echo as echo, Ready as ready, Recovery as recovery}
use Rattle.rules.specs.Messages.{end_place, two_bytes, matrix_bytes, coefficient_bytes, polynomial_bytes, four_bytes, pair_bytes, tag_of, body_of, framed, bytes_of, whole_length, word, tag_in, has_matrix, malformed, foreign, matrix_in, coefficients_in, polynomials_in, four_in, pair_in, message_in}
use Rattle.rules.proofs.Laws.Numbers.{bounds}
use Rattle.rules.proofs.Laws.Matrices.{row_same, matrix_same, entry_at, coefficient_at}
use Rattle.rules.proofs.Laws.Lengths.{whole_length_least, length-numbers, length-matrix, length-coefficients, length_header, length_message, length_message_le}
use Rattle.rules.specs.Laws.RoundTrip.{SetUpFits, Formed}

-- ---- numbers in a run of bytes

abbrev Byte : ℕ → Type 0
Byte x = x < 256

-- every element is a byte
abbrev pub Bytes : List ℕ → Type 0
Bytes s = (i : ℕ) → i < length s → get_or s i 0 < 256

bytes_two : (x : ℕ) → Bytes (two_bytes x)
unfolding two_bytes
bytes_two x = every_cons Byte 0 (x / 256 % 256) (x % 256 ∷ []) (omega arith) (every_cons Byte 0 (x % 256) [] (omega arith) (every_nil Byte 0))

bytes_numbers : (v : ℕ → ℕ) (n : ℕ) → Bytes (gather n (λ l. two_bytes (v l)))
bytes_numbers v n = every_gather Byte 0 (λ l. two_bytes (v l)) (λ l. bytes_two (v l)) n

module _ (s : List ℕ) where
  -- a two-byte number is read where it stands
  word_reads : (p x : ℕ) → x < 65536 → Stands s p (two_bytes x) → word s p ≡ x
  unfolding word two_bytes
  word_reads p x h g =
      let high : get_or s p 0 ≡ x / 256 % 256 = stands_reads s p (x / 256 % 256) 0 (x % 256 ∷ []) g in
      let low : get_or s (p + 1) 0 ≡ x % 256 = stands_reads s (p + 1) (x % 256) 0 [] (stands_right s p 1 (x / 256 % 256 ∷ []) (x % 256 ∷ []) refl g) in
      omega arith

  -- so for a run of n numbers from p on, and for the k by k numbers of a matrix
  numbers_read : (p n : ℕ) (v : ℕ → ℕ) → Stands s p (gather n (λ l. two_bytes (v l))) → (l : ℕ) → l < n → v l < 65536 → word s (p + 2 * l) ≡ v l
  unfolding two_bytes
  numbers_read p n v g l h small =
      word_reads (p + 2 * l) (v l) small
      (stands_at s (p + l * 2) (p + 2 * l) (two_bytes (v l)) (omega arith) (stands_piece s (λ i. two_bytes (v i)) 2 (λ i. refl) p n l h g))

  matrix_reads : (p k : ℕ) (C : List (List Element)) → Stands s p (matrix_bytes k C) → (j l : ℕ) → j < k → l < k → entry C j l < 65536
      → word s (p + 2 * (j * k + l)) ≡ entry C j l
  unfolding matrix_bytes
  matrix_reads p k C g j l hj hl small =
      let e : p + 2 * (j * k + l) ≡ p + j * (k * 2) + 2 * l = omega arith in
      ap (word s) e
      ∙ numbers_read (p + j * (k * 2)) k (entry C j)
      (stands_piece s (λ i. gather k (λ n. two_bytes (entry C i n))) (k * 2) (λ i. length-numbers (entry C i) k) p k j hj g) l hl small

  -- and what is read stands there
  module _ (b : Bytes s) where
    byte_at_lem : (i : ℕ) → get_or s i 0 < 256
    byte_at_lem i = go (dec_lt i (length s))
      where
        go : Dec (i < length s) → get_or s i 0 < 256
        go (yes l) = b i l
        go (no n) = rw (get_or-eq_default s 0 {n = i} (omega arith)) (omega arith)

    word_small : (p : ℕ) → word s p < 65536
    unfolding word
    word_small p = omega (arith, byte_at_lem p, byte_at_lem (p + 1))

    word_stands : (p : ℕ) → p + 1 < length s → Stands s p (two_bytes (word s p))
    unfolding word two_bytes
    word_stands p l =
        let high : (get_or s p 0 * 256 + get_or s (p + 1) 0) / 256 % 256 ≡ get_or s p 0 = omega (arith, byte_at_lem p, byte_at_lem (p + 1)) in
        let low : (get_or s p 0 * 256 + get_or s (p + 1) 0) % 256 ≡ get_or s (p + 1) 0 = omega (arith, byte_at_lem p, byte_at_lem (p + 1)) in
        rw (high, low)
        (stands_both s p 1 (get_or s p 0 ∷ []) (get_or s (p + 1) 0 ∷ []) refl (stands_element s p 0 (omega arith)) (stands_element s (p + 1) 0 l))

    numbers_stand : (p n : ℕ) (v : ℕ → ℕ) → p + 2 * n ≤ length s → ((l : ℕ) → l < n → v l ≡ word s (p + 2 * l)) → Stands s p (gather n (λ l. two_bytes (v l)))
    unfolding two_bytes
    numbers_stand p n v room h =
        stands_gather s (λ i. two_bytes (v i)) 2 (λ i. refl) p n (λ l lt.
        stands_at s (p + 2 * l) (p + l * 2) (two_bytes (v l)) (omega arith)
        (subst (λ (x : ℕ). Stands s (p + 2 * l) (two_bytes x)) (sym (h l lt)) (word_stands (p + 2 * l) (omega arith))))

    matrix_stands : (p k : ℕ) (C : List (List Element)) → p + 2 * (k * k) ≤ length s
        → ((j l : ℕ) → j < k → l < k → entry C j l ≡ word s (p + 2 * (j * k + l))) → Stands s p (matrix_bytes k C)
    unfolding matrix_bytes
    matrix_stands p k C room h =
        stands_gather s (λ i. gather k (λ n. two_bytes (entry C i n))) (k * 2) (λ i. length-numbers (entry C i) k) p k (λ j hj.
        let within : suc j * (k * 2) ≤ k * (k * 2) = mul-le-mul_right (k * 2) hj in
        numbers_stand (p + j * (k * 2)) k (entry C j) (omega arith) (λ l hl.
        let e : p + 2 * (j * k + l) ≡ p + j * (k * 2) + 2 * l = omega arith in
        h j l hj hl ∙ ap (word s) e))

    -- a byte and a number behind it
    byte_word_stand : (p x y : ℕ) → p + 2 < length s → get_or s p 0 ≡ x → word s (p + 1) ≡ y → Stands s p (x ∷ two_bytes y)
    byte_word_stand p x y l e f =
        stands_both s p 1 (x ∷ []) (two_bytes y) refl
        (subst (λ (v : ℕ). Stands s p (v ∷ [])) e (stands_element s p 0 (omega arith)))
        (subst (λ (v : ℕ). Stands s (p + 1) (two_bytes v)) f (word_stands (p + 1) (omega arith)))

-- ---- messages in range

-- Set-up numbers that keep their rules have room in a message.
pub setup_fits : (u : SetUp) → numbers_keep u ≡ true → SetUpFits u
setup_fits u h =
    let b = bounds u h in
    record { k = b.sizes.high; d = omega (arith, b.sizes.boxes, b.dealer.1); session = omega (arith, b.session) }

-- two-byte numbers, k by k of them, in a matrix of the crate: 8 by 8, with zeros from k on
pub record MatrixFits (k : ℕ) (C : List (List Element)) : Type 0 where
  pub small : (j l : ℕ) → j < k → l < k → entry C j l < 65536
  pub form : C ≡ matrix k (element 0) (λ j l. element (entry C j l))

-- so for a polynomial
pub record PolynomialFits (k : ℕ) (a : List Exponent) : Type 0 where
  pub small : (l : ℕ) → l < k → coefficient a l < 65536
  pub form : a ≡ row k (exponent 0) (λ l. exponent (coefficient a l))

pub record PolynomialsFit (k : ℕ) (P : Polynomials) : Type 0 where
  pub a : PolynomialFits k P.a
  pub a2 : PolynomialFits k P.a2
  pub b : PolynomialFits k P.b
  pub b2 : PolynomialFits k P.b2

pub record FourFits (f : Four) : Type 0 where
  pub alpha : α f < 65536
  pub alpha2 : α' f < 65536
  pub beta : β f < 65536
  pub beta2 : β' f < 65536

pub record PairFits (s : Pair) : Type 0 where
  pub first : s.first.0 < 65536
  pub second : s.second.0 < 65536

-- every number in the message is a two-byte number, and its matrix and polynomials have the form of the crate
abbrev pub Fits : SetUp → Message → Type 0
Fits u (send C P) = MatrixFits u.k C × PolynomialsFit u.k P
Fits u (echo C f) = MatrixFits u.k C × FourFits f
Fits u (ready C f) = MatrixFits u.k C × FourFits f
Fits u (recovery s) = PairFits s

-- A matrix made of two-byte numbers is in range.
pub matrix_fits : (k : ℕ) (f : ℕ → ℕ → ℕ) → k ≤ 8 → ((j l : ℕ) → j < k → l < k → f j l < 65536) → MatrixFits k (matrix k (element 0) (λ j l. element (f j l)))
matrix_fits k f h small =
    record {
      small = λ j l hj hl. rw (entry_at k f h j l hj hl) (small j l hj hl);
      form = matrix_same k (element 0) (λ j l. element (f j l)) _ (λ j l hj hl. ap element (sym (entry_at k f h j l hj hl)));
    }

-- A polynomial made of two-byte numbers is in range.
pub polynomial_fits : (k : ℕ) (f : ℕ → ℕ) → k ≤ 8 → ((l : ℕ) → l < k → f l < 65536) → PolynomialFits k (row k (exponent 0) (λ l. exponent (f l)))
polynomial_fits k f h small =
    record {
      small = λ l hl. rw (coefficient_at k f h l hl) (small l hl);
      form = row_same k (exponent 0) (λ l. exponent (f l)) _ (λ l hl. ap exponent (sym (coefficient_at k f h l hl)));
    }

-- ---- the parts of a message

module _ (u : SetUp) (s : List ℕ) where
  abbrev k : ℕ
  k = u.k

  -- what stands is read

  matrix_in_is : (C : List (List Element)) → MatrixFits k C → Stands s 7 (matrix_bytes k C) → matrix_in u s ≡ C
  unfolding matrix_in
  matrix_in_is C c g =
      matrix_same k (element 0) (λ j l. element (word s (7 + 2 * (j * k + l)))) (λ j l. element (entry C j l))
      (λ j l hj hl. ap element (matrix_reads s 7 k C g j l hj hl (c.small j l hj hl)))
      ∙ sym c.form

  coefficients_in_is : (p : ℕ) (a : List Exponent) → PolynomialFits k a → Stands s p (coefficient_bytes k a) → coefficients_in k s p ≡ a
  unfolding coefficients_in coefficient_bytes
  coefficients_in_is p a c g =
      row_same k (exponent 0) (λ l. exponent (word s (p + 2 * l))) (λ l. exponent (coefficient a l))
      (λ l hl. ap exponent (numbers_read s p k (coefficient a) g l hl (c.small l hl)))
      ∙ sym c.form

  polynomials_in_is : (P : Polynomials) → PolynomialsFit k P → Stands s (7 + 2 * (k * k)) (polynomial_bytes u P) → polynomials_in u s ≡ P
  unfolding polynomials_in polynomial_bytes
  polynomials_in_is P c g =
      let e : ℕ = 7 + 2 * (k * k) in
      let g₄ = stands_apart s e (e + 2 * k) (e + 4 * k) (e + 6 * k) (2 * k) refl (omega arith) (omega arith)
      (coefficient_bytes k P.a) (coefficient_bytes k P.a2) (coefficient_bytes k P.b) (coefficient_bytes k P.b2)
      (length-coefficients k P.a) (length-coefficients k P.a2) (length-coefficients k P.b) g in
      λ i. record {
        a = coefficients_in_is e P.a c.a g₄.0 i;
        a2 = coefficients_in_is (e + 2 * k) P.a2 c.a2 g₄.1 i;
        b = coefficients_in_is (e + 4 * k) P.b c.b g₄.2 i;
        b2 = coefficients_in_is (e + 6 * k) P.b2 c.b2 g₄.3 i;
      }

  four_in_is : (f : Four) → FourFits f → Stands s (7 + 2 * (k * k)) (four_bytes f) → four_in u s ≡ f
  unfolding four_in four_bytes two_bytes
  four_in_is f c g =
      let e : ℕ = 7 + 2 * (k * k) in
      let g₄ = stands_apart s e (e + 2) (e + 4) (e + 6) 2 (omega arith) (omega arith) (omega arith)
      (two_bytes (α f)) (two_bytes (α' f)) (two_bytes (β f)) (two_bytes (β' f)) refl refl refl g in
      λ i. record {
        alpha = exponent (word_reads s e (α f) c.alpha g₄.0 i);
        alpha2 = exponent (word_reads s (e + 2) (α' f) c.alpha2 g₄.1 i);
        beta = exponent (word_reads s (e + 4) (β f) c.beta g₄.2 i);
        beta2 = exponent (word_reads s (e + 6) (β' f) c.beta2 g₄.3 i);
      }

  pair_in_is : (x : Pair) → PairFits x → Stands s 6 (pair_bytes x) → pair_in s ≡ x
  unfolding pair_in pair_bytes two_bytes
  pair_in_is x c g =
      let σ : List ℕ = two_bytes x.first.0 in
      let σ' : List ℕ = two_bytes x.second.0 in
      λ i. record {
        first = exponent (word_reads s 6 x.first.0 c.first (stands_left s 6 σ σ' g) i);
        second = exponent (word_reads s 8 x.second.0 c.second (stands_right s 6 2 σ σ' refl g) i);
      }

  -- what is read is in range, and stands

  module _ (b : Bytes s) (h : k ≤ 8) where
    matrix_in_fits : MatrixFits k (matrix_in u s)
    unfolding matrix_in
    matrix_in_fits = matrix_fits k (λ j l. word s (7 + 2 * (j * k + l))) h (λ j l hj hl. word_small s b _)

    matrix_in_stands : 7 + 2 * (k * k) ≤ length s → Stands s 7 (matrix_bytes k (matrix_in u s))
    unfolding matrix_in
    matrix_in_stands room = matrix_stands s b 7 k (matrix_in u s) room (entry_at k (λ j l. word s (7 + 2 * (j * k + l))) h)

    coefficients_in_fit : (p : ℕ) → PolynomialFits k (coefficients_in k s p)
    unfolding coefficients_in
    coefficients_in_fit p = polynomial_fits k (λ l. word s (p + 2 * l)) h (λ l hl. word_small s b _)

    coefficients_in_stand : (p : ℕ) → p + 2 * k ≤ length s → Stands s p (coefficient_bytes k (coefficients_in k s p))
    unfolding coefficient_bytes coefficients_in
    coefficients_in_stand p room = numbers_stand s b p k (coefficient (coefficients_in k s p)) room (coefficient_at k (λ l. word s (p + 2 * l)) h)

    polynomials_in_fit : PolynomialsFit k (polynomials_in u s)
    unfolding polynomials_in
    polynomials_in_fit = record { a = coefficients_in_fit _; a2 = coefficients_in_fit _; b = coefficients_in_fit _; b2 = coefficients_in_fit _ }

    polynomials_in_stand : 7 + 2 * (k * k) + 8 * k ≤ length s → Stands s (7 + 2 * (k * k)) (polynomial_bytes u (polynomials_in u s))
    unfolding polynomials_in polynomial_bytes
    polynomials_in_stand room =
        let e : ℕ = 7 + 2 * (k * k) in
        stands_together s e (e + 2 * k) (e + 4 * k) (e + 6 * k) (2 * k) refl (omega arith) (omega arith)
        (coefficient_bytes k (coefficients_in k s e)) (coefficient_bytes k (coefficients_in k s (e + 2 * k)))
        (coefficient_bytes k (coefficients_in k s (e + 4 * k))) (coefficient_bytes k (coefficients_in k s (e + 6 * k)))
        (length-coefficients k _) (length-coefficients k _) (length-coefficients k _)
        (coefficients_in_stand e (omega arith)) (coefficients_in_stand (e + 2 * k) (omega arith))
        (coefficients_in_stand (e + 4 * k) (omega arith)) (coefficients_in_stand (e + 6 * k) (omega arith))

    four_in_fits : FourFits (four_in u s)
    unfolding four_in
    four_in_fits = record { alpha = word_small s b _; alpha2 = word_small s b _; beta = word_small s b _; beta2 = word_small s b _ }

    four_in_stands : 15 + 2 * (k * k) ≤ length s → Stands s (7 + 2 * (k * k)) (four_bytes (four_in u s))
    unfolding four_in four_bytes two_bytes
    four_in_stands room =
        let e : ℕ = 7 + 2 * (k * k) in
        stands_together s e (e + 2) (e + 4) (e + 6) 2 (omega arith) (omega arith) (omega arith)
        (two_bytes (word s e)) (two_bytes (word s (e + 2))) (two_bytes (word s (e + 4))) (two_bytes (word s (e + 6))) refl refl refl
        (word_stands s b e (omega arith)) (word_stands s b (e + 2) (omega arith))
        (word_stands s b (e + 4) (omega arith)) (word_stands s b (e + 6) (omega arith))

    pair_in_fits : PairFits (pair_in s)
    unfolding pair_in
    pair_in_fits = record { first = word_small s b _; second = word_small s b _ }

    pair_in_stands : 10 ≤ length s → Stands s 6 (pair_bytes (pair_in s))
    unfolding pair_in pair_bytes two_bytes
    pair_in_stands room =
        stands_both s 6 2 (two_bytes (word s 6)) (two_bytes (word s 8)) refl (word_stands s b 6 (omega arith)) (word_stands s b 8 (omega arith))

-- ---- a message by its tag

module _ (u : SetUp) (s : List ℕ) where
  pub is_send_lem : tag_in s ≡ 1 → message_in u s ≡ send (matrix_in u s) (polynomials_in u s)
  unfolding message_in
  is_send_lem e = rw e

  pub is_echo_lem : tag_in s ≡ 2 → message_in u s ≡ echo (matrix_in u s) (four_in u s)
  unfolding message_in
  is_echo_lem e = rw e

  pub is_ready_lem : tag_in s ≡ 3 → message_in u s ≡ ready (matrix_in u s) (four_in u s)
  unfolding message_in
  is_ready_lem e = rw e

  pub is_recovery_lem : tag_in s ≡ 4 → message_in u s ≡ recovery (pair_in s)
  unfolding message_in
  is_recovery_lem e = rw e

-- ---- refusals 2 and 3, clause by clause

pub formed : (u : SetUp) (s : List ℕ) → malformed u s ≡ false → Formed u s
unfolding malformed has_matrix
formed u s z =
    let z₁ = or_false (ltb (length s) 3) _ z in
    let z₂ = or_false (not (leb 1 (tag_in s) and leb (tag_in s) 4)) _ z₁.1 in
    let z₃ = or_false (not (eqb (word s 1) (length s - 3))) _ z₂.1 in
    let z₄ = or_false (not (eqb (length s) (whole_length u (tag_in s)))) _ z₃.1 in
    let tag = not-false (leb 1 (tag_in s) and leb (tag_in s) 4) z₂.0 in
    record {
      long = ltb-false (length s) 3 z₁.0;
      low = leb-true 1 (tag_in s) (and_left (leb 1 (tag_in s)) (leb (tag_in s) 4) tag);
      high = leb-true (tag_in s) 4 (and_right (leb 1 (tag_in s)) (leb (tag_in s) 4) tag);
      size = eqb-true (word s 1) (length s - 3) (not-false _ z₃.0);
      whole = eqb-true (length s) (whole_length u (tag_in s)) (not-false _ z₄.0);
      k_byte = λ l. eqb-true (get_or s 6 0) u.k (not-false _ (and_rest (leb (tag_in s) 3) _ z₄.1 (le-leb (tag_in s) 3 l)));
    }

-- It has one of the four tags.
pub by_tag : {A : Type 0} (u : SetUp) (s : List ℕ) → Formed u s → (tag_in s ≡ 1 → A) → (tag_in s ≡ 2 → A) → (tag_in s ≡ 3 → A) → (tag_in s ≡ 4 → A) → A
by_tag {A} u s c one two three four = go (tag_in s) refl c.low c.high
  where
    go : (t : ℕ) → tag_in s ≡ t → 1 ≤ t → t ≤ 4 → A
    go zero e l h = absurd (omega arith)
    go (suc zero) e l h = one e
    go (suc (suc zero)) e l h = two e
    go (suc (suc (suc zero))) e l h = three e
    go (suc (suc (suc (suc zero)))) e l h = four e
    go (suc (suc (suc (suc (suc t))))) e l h = absurd (omega arith)

not_malformed : (u : SetUp) (s : List ℕ) → Formed u s → malformed u s ≡ false
unfolding malformed has_matrix
not_malformed u s c =
    or_none_lem _ _ (le-ltb (length s) 3 c.long)
    (or_none_lem _ _ (ap not (and_intro (leb 1 (tag_in s)) (leb (tag_in s) 4) (le-leb 1 (tag_in s) c.low) (le-leb (tag_in s) 4 c.high)))
    (or_none_lem _ _ (ap not (eq-eqb (word s 1) (length s - 3) c.size))
    (or_none_lem _ _ (ap not (eq-eqb (length s) (whole_length u (tag_in s)) c.whole))
    (and_not (leb (tag_in s) 3) (eqb (get_or s 6 0) u.k) (λ e. eq-eqb (get_or s 6 0) u.k (c.k_byte (leb-true (tag_in s) 3 e)))))))

-- it has the six bytes of its header
pub header : (u : SetUp) (s : List ℕ) → malformed u s ≡ false → 6 ≤ length s
header u s z = omega (arith, (formed u s z).whole, whole_length_least u (tag_in s))

-- and how many by its tag
module _ {u : SetUp} {s : List ℕ} (r : Formed u s) where
  pub send_long : tag_in s ≡ 1 → end_place u + 8 * u.k ≤ length s
  unfolding whole_length
  send_long e = omega (arith, r.whole ∙ ap (whole_length u) e)

  pub share_long : tag_in s ≡ 4 → 10 ≤ length s
  unfolding whole_length
  share_long e = omega (arith, r.whole ∙ ap (whole_length u) e)

  pub point_long : (tag_in s ≡ 1 → ⊥) → (tag_in s ≡ 4 → ⊥) → end_place u + 8 ≤ length s
  unfolding whole_length
  point_long n₁ n₄ =
      let exact : length s ≡ 15 + 2 * (u.k * u.k) = r.whole ∙ (rw (ne_eqb (tag_in s) 1 n₁, ne_eqb (tag_in s) 4 n₄)) in
      omega (arith, exact)

  pub matrix_long : (tag_in s ≡ 4 → ⊥) → end_place u ≤ length s
  matrix_long n₄ = go (ℕ_discrete (tag_in s) 1)
    where
      go : Dec (tag_in s ≡ 1) → end_place u ≤ length s
      go (yes e) = omega (arith, send_long e)
      go (no n₁) = omega (arith, point_long n₁ n₄)

-- s names the dealer and the session
pub ours : (u : SetUp) (s : List ℕ) → foreign u s ≡ false → (get_or s 3 0 ≡ u.d) × (word s 4 ≡ u.session)
unfolding foreign
ours u s z =
    let z₁ = or_false (not (eqb (get_or s 3 0) u.d)) _ z in
    (eqb-true (get_or s 3 0) u.d (not-false _ z₁.0), eqb-true (word s 4) u.session (not-false _ z₁.1))

not_foreign : (u : SetUp) (s : List ℕ) → get_or s 3 0 ≡ u.d → word s 4 ≡ u.session → foreign u s ≡ false
unfolding foreign
not_foreign u s d e = or_none_lem _ _ (ap not (eq-eqb (get_or s 3 0) u.d d)) (ap not (eq-eqb (word s 4) u.session e))

-- ---- a whole message

-- s has the tag of m, and behind the header what m says
record Says (u : SetUp) (s : List ℕ) (m : Message) : Type 0 where
  tag : tag_in s ≡ tag_of m
  body : Stands s 6 (body_of u m)
  fits : Fits u m

-- k, the matrix and the end of a message, each at its place
module _ (k : ℕ) (s : List ℕ) (C : List (List Element)) (end : List ℕ) where
  behind_k : Stands s 6 (k ∷ matrix_bytes k C ++ end) → Stands s 7 (matrix_bytes k C ++ end)
  behind_k g = stands_right s 6 1 (k ∷ []) (matrix_bytes k C ++ end) refl g

  matrix_part_lem : Stands s 6 (k ∷ matrix_bytes k C ++ end) → Stands s 7 (matrix_bytes k C)
  matrix_part_lem g = stands_left s 7 (matrix_bytes k C) end (behind_k g)

  end_part : Stands s 6 (k ∷ matrix_bytes k C ++ end) → Stands s (7 + 2 * (k * k)) end
  end_part g = stands_right s 7 (2 * (k * k)) (matrix_bytes k C) end (length-matrix k C) (behind_k g)

  body_stands : get_or s 6 0 ≡ k → 7 ≤ length s → Stands s 7 (matrix_bytes k C) → Stands s (7 + 2 * (k * k)) end → Stands s 6 (k ∷ matrix_bytes k C ++ end)
  body_stands e l g g' =
      stands_both s 6 1 (k ∷ []) (matrix_bytes k C ++ end) refl
      (subst (λ (x : ℕ). Stands s 6 (x ∷ [])) e (stands_element s 6 0 l))
      (stands_both s 7 (2 * (k * k)) (matrix_bytes k C) end (length-matrix k C) g g')

-- an echo and a ready say a matrix and a point
point_is : (u : SetUp) (s : List ℕ) (C : List (List Element)) (f : Four) → MatrixFits u.k C × FourFits f
    → Stands s 6 (u.k ∷ matrix_bytes u.k C ++ four_bytes f)
    → (make : List (List Element) → Four → Message) → make (matrix_in u s) (four_in u s) ≡ make C f
point_is u s C f c g make =
    ap₂ make (matrix_in_is u s C c.0 (matrix_part_lem u.k s C (four_bytes f) g)) (four_in_is u s f c.1 (end_part u.k s C (four_bytes f) g))

point_stands : (u : SetUp) (s : List ℕ) → Bytes s → u.k ≤ 8 → get_or s 6 0 ≡ u.k → length s ≡ 15 + 2 * (u.k * u.k)
    → Stands s 6 (u.k ∷ matrix_bytes u.k (matrix_in u s) ++ four_bytes (four_in u s))
point_stands u s b h e n =
    body_stands u.k s (matrix_in u s) (four_bytes (four_in u s)) e (omega arith)
    (matrix_in_stands u s b h (omega arith)) (four_in_stands u s b h (omega arith))

-- what s says is read
message_read : (u : SetUp) (s : List ℕ) (m : Message) → Says u s m → message_in u s ≡ m
unfolding message_in tag_of body_of
message_read u s (send C P) c =
    rw c.tag
    (ap₂ send (matrix_in_is u s C c.fits.0 (matrix_part_lem u.k s C (polynomial_bytes u P) c.body))
    (polynomials_in_is u s P c.fits.1 (end_part u.k s C (polynomial_bytes u P) c.body)))
message_read u s (echo C f) c = rw c.tag (point_is u s C f c.fits c.body echo)
message_read u s (ready C f) c = rw c.tag (point_is u s C f c.fits c.body ready)
message_read u s (recovery x) c = rw c.tag (ap recovery (pair_in_is u s x c.fits c.body))

-- what is read is what s says
message_says : (u : SetUp) (s : List ℕ) → Bytes s → u.k ≤ 8 → Formed u s → Says u s (message_in u s)
unfolding message_in tag_of body_of whole_length
message_says u s b h c = go (tag_in s) refl c.low c.high c.whole
  where
    go : (t : ℕ) → tag_in s ≡ t → 1 ≤ t → t ≤ 4 → length s ≡ whole_length u t → Says u s (message_in u s)
    go zero e low high n = absurd (omega arith)
    go (suc zero) e low high n =
        rw e (record {
          tag = e;
          body = body_stands u.k s (matrix_in u s) (polynomial_bytes u (polynomials_in u s)) (c.k_byte (omega arith)) (omega arith)
              (matrix_in_stands u s b h (omega arith)) (polynomials_in_stand u s b h (omega arith));
          fits = (matrix_in_fits u s b h, polynomials_in_fit u s b h);
        })
    go (suc (suc zero)) e low high n =
        rw e (record { tag = e; body = point_stands u s b h (c.k_byte (omega arith)) n; fits = (matrix_in_fits u s b h, four_in_fits u s b h) })
    go (suc (suc (suc zero))) e low high n =
        rw e (record { tag = e; body = point_stands u s b h (c.k_byte (omega arith)) n; fits = (matrix_in_fits u s b h, four_in_fits u s b h) })
    go (suc (suc (suc (suc zero)))) e low high n =
        rw e (record { tag = e; body = pair_in_stands u s b h (omega arith); fits = pair_in_fits u s b h })
    go (suc (suc (suc (suc (suc t))))) e low high n = absurd (omega arith)

-- ---- the round trip, there

tag_bounds : (m : Message) → (1 ≤ tag_of m) × (tag_of m ≤ 4)
unfolding tag_of
tag_bounds (send C P) = omega arith
tag_bounds (echo C f) = omega arith
tag_bounds (ready C f) = omega arith
tag_bounds (recovery s) = omega arith

k_byte_lem : (u : SetUp) (m : Message) → tag_of m ≤ 3 → get_or (bytes_of u m) 6 0 ≡ u.k
unfolding bytes_of framed two_bytes tag_of body_of
k_byte_lem u (send C P) l = refl
k_byte_lem u (echo C f) l = refl
k_byte_lem u (ready C f) l = refl
k_byte_lem u (recovery s) l = absurd (omega arith)

size_bytes : (u : SetUp) (m : Message) → u.k ≤ 8 → word (bytes_of u m) 1 ≡ length (bytes_of u m) - 3
unfolding bytes_of framed two_bytes word
size_bytes u m h = omega (arith, length_message_le u m h)

session_bytes : (u : SetUp) (m : Message) → u.session < 65536 → word (bytes_of u m) 4 ≡ u.session
unfolding bytes_of framed two_bytes word
session_bytes u m h = omega arith

-- No message that is written is malformed.
pub message_formed : (u : SetUp) (m : Message) → SetUpFits u → malformed u (bytes_of u m) ≡ false
unfolding bytes_of framed
message_formed u m c =
    not_malformed u (bytes_of u m)
    (record {
      long = omega (arith, length_header u m);
      low = (tag_bounds m).0;
      high = (tag_bounds m).1;
      size = size_bytes u m c.k;
      whole = length_message u m;
      k_byte = k_byte_lem u m;
    })

-- No message that is written is foreign.
pub message_ours : (u : SetUp) (m : Message) → SetUpFits u → foreign u (bytes_of u m) ≡ false
unfolding bytes_of framed two_bytes
message_ours u m c = not_foreign u (bytes_of u m) refl (session_bytes u m c.session)

-- A message in range is read as it was written.
pub message_there : (u : SetUp) (m : Message) → Fits u m → message_in u (bytes_of u m) ≡ m
unfolding bytes_of framed two_bytes
message_there u m c =
    message_read u (bytes_of u m) m (record { tag = refl; body = ([], sym (append-nil (body_of u m))); fits = c })

bytes_four : (a b c d : List ℕ) → Bytes a → Bytes b → Bytes c → Bytes d → Bytes (a ++ b ++ c ++ d)
bytes_four a b c d ha hb hc hd =
    every_append Byte 0 (a ++ b ++ c) d (every_append Byte 0 (a ++ b) c (every_append Byte 0 a b ha hb) hc) hd

bytes_coefficients : (k : ℕ) (a : List Exponent) → Bytes (coefficient_bytes k a)
unfolding coefficient_bytes
bytes_coefficients k a = bytes_numbers (coefficient a) k

bytes_point : (f : Four) → Bytes (four_bytes f)
unfolding four_bytes
bytes_point f =
    bytes_four (two_bytes (α f)) (two_bytes (α' f)) (two_bytes (β f)) (two_bytes (β' f))
    (bytes_two (α f)) (bytes_two (α' f)) (bytes_two (β f)) (bytes_two (β' f))

bytes_behind : (k : ℕ) → k ≤ 8 → (C : List (List Element)) (end : List ℕ) → Bytes end → Bytes (k ∷ matrix_bytes k C ++ end)
unfolding matrix_bytes
bytes_behind k h C end g =
    every_append Byte 0 (k ∷ matrix_bytes k C) end
    (every_cons Byte 0 k (matrix_bytes k C) (omega arith)
    (every_gather Byte 0 (λ j. gather k (λ l. two_bytes (entry C j l))) (λ j. bytes_numbers (entry C j) k) k))
    g

bytes_body : (u : SetUp) → u.k ≤ 8 → (m : Message) → Bytes (body_of u m)
unfolding body_of polynomial_bytes pair_bytes
bytes_body u h (send C P) =
    bytes_behind u.k h C (polynomial_bytes u P)
    (bytes_four (coefficient_bytes u.k P.a) (coefficient_bytes u.k P.a2) (coefficient_bytes u.k P.b) (coefficient_bytes u.k P.b2)
    (bytes_coefficients u.k P.a) (bytes_coefficients u.k P.a2) (bytes_coefficients u.k P.b) (bytes_coefficients u.k P.b2))
bytes_body u h (echo C f) = bytes_behind u.k h C (four_bytes f) (bytes_point f)
bytes_body u h (ready C f) = bytes_behind u.k h C (four_bytes f) (bytes_point f)
bytes_body u h (recovery s) =
    every_append Byte 0 (two_bytes s.first.0) (two_bytes s.second.0) (bytes_two s.first.0) (bytes_two s.second.0)

-- the matrix of a message
abbrev pub matrix_part : Message → List (List Element)
matrix_part (send C P) = C
matrix_part (echo C f) = C
matrix_part (ready C f) = C
matrix_part (recovery s) = []

-- Its matrix is read as it was written.
pub matrix_there : (u : SetUp) (m : Message) → tag_of m ≤ 3 → Fits u m → matrix_in u (bytes_of u m) ≡ matrix_part m
unfolding message_in bytes_of framed tag_of
matrix_there u (send C P) l c = ap matrix_part (message_there u (send C P) c)
matrix_there u (echo C f) l c = ap matrix_part (message_there u (echo C f) c)
matrix_there u (ready C f) l c = ap matrix_part (message_there u (ready C f) c)
matrix_there u (recovery s) l c = absurd (omega arith)

-- Whatever is written is bytes.
pub message_bytes : (u : SetUp) (m : Message) → SetUpFits u → Bytes (bytes_of u m)
unfolding bytes_of framed
message_bytes u m c =
    let rest : List ℕ = u.d ∷ two_bytes u.session ++ body_of u m in
    every_append Byte 0 (tag_of m ∷ two_bytes (length rest)) rest
    (every_cons Byte 0 (tag_of m) (two_bytes (length rest)) (omega (arith, tag_bounds m)) (bytes_two (length rest)))
    (every_append Byte 0 (u.d ∷ two_bytes u.session) (body_of u m)
    (every_cons Byte 0 u.d (two_bytes u.session) c.d (bytes_two u.session)) (bytes_body u c.k m))

-- ---- and back

-- header and body together are the whole
whole_stands : (u : SetUp) (s : List ℕ) (m : Message) → Bytes s → length s ≡ 6 + length (body_of u m) → tag_in s ≡ tag_of m → word s 1 ≡ length s - 3
    → (get_or s 3 0 ≡ u.d) × (word s 4 ≡ u.session) → Stands s 6 (body_of u m) → Stands s 0 (bytes_of u m)
unfolding bytes_of framed two_bytes
whole_stands u s m b n tag size head body =
    let rest : List ℕ = u.d ∷ two_bytes u.session ++ body_of u m in
    stands_both s 0 3 (tag_of m ∷ two_bytes (length rest)) rest refl
    (byte_word_stand s b 0 (tag_of m) (length rest) (omega arith) tag (omega arith))
    (stands_both s 3 3 (u.d ∷ two_bytes u.session) (body_of u m) refl
    (byte_word_stand s b 3 u.d u.session (omega arith) head.0 head.1) body)

-- Whatever is read is in range.
pub message_fits : (u : SetUp) (s : List ℕ) → Bytes s → u.k ≤ 8 → malformed u s ≡ false → Fits u (message_in u s)
message_fits u s b h z = (message_says u s b h (formed u s z)).fits

-- Whatever is read is written as the same bytes.
pub message_back : (u : SetUp) (s : List ℕ) → Bytes s → u.k ≤ 8 → malformed u s ≡ false → foreign u s ≡ false → bytes_of u (message_in u s) ≡ s
message_back u s b h z y =
    let m = message_in u s in
    let c = formed u s z in
    let w = message_says u s b h c in
    let n : length (bytes_of u m) ≡ length s = length_message u m ∙ ap (λ (t : ℕ). whole_length u t) (sym w.tag) ∙ sym c.whole in
    stands_is s (bytes_of u m) n (whole_stands u s m b (sym n ∙ length_header u m) w.tag c.size (ours u s y) w.body)

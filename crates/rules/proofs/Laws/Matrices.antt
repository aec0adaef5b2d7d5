-- Rows and matrices: what counts of the function that they are made of, where it stands, and the zeros from k on; and room for k
-- by k numbers.
--
-- In order: rows and matrices of anything; of elements and of exponents; room.
-- Assumes nothing.
use mathlib.Core.List.{List, []}
use Rattle.std.specs.Prelude.{◌≡◌, ℕ, suc, ◌+◌, ◌*◌, ◌<◌, ◌≤◌, replicate, length}
use Rattle.std.proofs.Math.Path.{ap}
use Rattle.std.proofs.Common.{◌∙◌, mul-le-mul, mul-le-mul_right, arith}
use Rattle.std.proofs.Math.ListN.{get_or, get_or-replicate}
use Rattle.folds.specs.Stores.{stores_same, get_or-stores, length-stores, get_or-stores_behind}
use Rattle.rules.specs.declared.Exponent.{Exponent}
use Rattle.rules.specs.declared.Element.{Element}
use Rattle.rules.specs.Numbers.{exponent, element}
use Rattle.rules.specs.Matrices.{row, matrix, entry, coefficient}

module _ {A : Type 0} (k : ℕ) (z : A) where
  -- only what stands below k counts
  pub row_same : (f g : ℕ → A) → ((l : ℕ) → l < k → f l ≡ g l) → row k z f ≡ row k z g
  unfolding row
  row_same f g h = stores_same f (replicate 8 z) g k h

  pub matrix_same : (f g : ℕ → ℕ → A) → ((j l : ℕ) → j < k → l < k → f j l ≡ g j l) → matrix k z f ≡ matrix k z g
  unfolding matrix
  matrix_same f g h =
      stores_same (λ j. row k z (f j)) (replicate 8 (replicate 8 z)) (λ j. row k z (g j)) k (λ j hj. row_same (f j) (g j) (λ l hl. h j l hj hl))

  -- and it stands where it should
  pub row_at_lem : (f : ℕ → A) → k ≤ 8 → (l : ℕ) → l < k → get_or (row k z f) l z ≡ f l
  unfolding row
  row_at_lem f h l hl = get_or-stores f (replicate 8 z) k l z hl (omega arith)

  pub matrix_at : (f : ℕ → ℕ → A) → k ≤ 8 → (j l : ℕ) → j < k → l < k → get_or (get_or (matrix k z f) j []) l z ≡ f j l
  unfolding matrix
  matrix_at f h j l hj hl =
      ap (λ (r : List A). get_or r l z) (get_or-stores (λ i. row k z (f i)) (replicate 8 (replicate 8 z)) k j [] hj (omega arith))
      ∙ row_at_lem (f j) h l hl

  -- 8 by 8, with zeros from k on
  pub row-length : (f : ℕ → A) → length (row k z f) ≡ 8
  unfolding row
  row-length f = length-stores f (replicate 8 z) k

  pub row_zero : (f : ℕ → A) (l : ℕ) → l < 8 → k ≤ l → get_or (row k z f) l z ≡ z
  unfolding row
  row_zero f l h b = get_or-stores_behind f (replicate 8 z) k l z b ∙ get_or-replicate 8 l z z h

  pub matrix_height : (f : ℕ → ℕ → A) → length (matrix k z f) ≡ 8
  unfolding matrix
  matrix_height f = length-stores (λ j. row k z (f j)) (replicate 8 (replicate 8 z)) k

  pub matrix_filled : (f : ℕ → ℕ → A) (j : ℕ) → j < 8 → j < k → get_or (matrix k z f) j [] ≡ row k z (f j)
  unfolding matrix
  matrix_filled f j l h = get_or-stores (λ j. row k z (f j)) (replicate 8 (replicate 8 z)) k j [] h l

  pub matrix_empty : (f : ℕ → ℕ → A) (j : ℕ) → j < 8 → k ≤ j → get_or (matrix k z f) j [] ≡ replicate 8 z
  unfolding matrix
  matrix_empty f j l h =
      get_or-stores_behind (λ j. row k z (f j)) (replicate 8 (replicate 8 z)) k j [] h ∙ get_or-replicate 8 j (replicate 8 z) [] l

pub entry_at : (k : ℕ) (f : ℕ → ℕ → ℕ) → k ≤ 8 → (j l : ℕ) → j < k → l < k → entry (matrix k (element 0) (λ i n. element (f i n))) j l ≡ f j l
entry_at k f h j l hj hl = ap (λ (x : Element). x.0) (matrix_at k (element 0) (λ i n. element (f i n)) h j l hj hl)

pub coefficient_at : (k : ℕ) (f : ℕ → ℕ) → k ≤ 8 → (l : ℕ) → l < k → coefficient (row k (exponent 0) (λ n. exponent (f n))) l ≡ f l
coefficient_at k f h l hl = ap (λ (x : Exponent). x.0) (row_at_lem k (exponent 0) (λ n. exponent (f n)) h l hl)

-- ---- room

pub square_some : (k : ℕ) → 1 ≤ k → 1 ≤ k * k
square_some k h = mul-le-mul h h

pub square_small : (k : ℕ) → k ≤ 8 → k * k ≤ 64
square_small k h = mul-le-mul h h

-- row j of k rows is within
pub row_within : (j k : ℕ) → j < k → j * k + k ≤ k * k
row_within j k h =
    let e : suc j * k ≤ k * k = mul-le-mul_right k h in
    omega arith

-- Products of powers over vectors and matrices, and commitments g ^ s * h ^ t modulo p in them.
--
-- In order: a matrix's product of powers by rows and by columns, and a matrix's sum likewise; exponents modulo q,
-- where every entry's q-th power is 1; products of powers of commitments are commitments to the sums, for a vector and for
-- a matrix, with exponents as they are or modulo q; a commitment as a power of g, where h is one.
-- The exponents are any a j and b l: with a j = x ^ j and b l = y ^ l these are the values of polynomials at x and y.
-- Assumes nothing.
use Rattle.std.specs.Prelude.{◌≡◌, refl, ℕ, ◌*◌, ◌%◌, ◌^◌, ◌<◌, ◌+◌}
use Rattle.std.proofs.Common.{sym, ap, ap₂, ◌∙◌, mod-eq_of_lt, mul_comm, arith, pow-add}
use Rattle.std.proofs.Math.Nat.{mod-mod}
use Rattle.folds.specs.Below.{sum_below, prod_below, sum_below_same, prod_below_same}
use Rattle.algebra.proofs.Residues.{mul_cong}
use Rattle.algebra.proofs.Powers.{mul-pow, pow-mul, pow_cong, pow-same, member_mod, member_mul, member_pow}
use Rattle.algebra.proofs.Sums.{sum_scale, sum_swap, prod_one, prod_mul, prod_pow, prod_swap, pow-sum, prod_cong}

-- ---- matrices

module _ (k n : ℕ) (a b : ℕ → ℕ) where
  -- The product over j and l of C j l to the power a j b l, row by row.
  pub prod_rows : (C : ℕ → ℕ → ℕ)
      → prod_below k (λ j. prod_below n (λ l. C j l ^ (a j * b l))) ≡ prod_below k (λ j. prod_below n (λ l. C j l ^ b l) ^ a j)
  prod_rows C =
      prod_below_same _ _ k
      (λ j h.
      prod_below_same _ _ n (λ l h. ap (λ t. C j l ^ t) (mul_comm (a j) (b l)) ∙ pow-mul (C j l) (b l) (a j))
      ∙ sym (prod_pow n (a j) (λ l. C j l ^ b l)))

  -- The sum over j and l of f j l times a j b l, row by row.
  pub sum_rows : (f : ℕ → ℕ → ℕ)
      → sum_below k (λ j. sum_below n (λ l. f j l * (a j * b l))) ≡ sum_below k (λ j. sum_below n (λ l. f j l * b l) * a j)
  sum_rows f =
      sum_below_same _ _ k
      (λ j h.
      let e : (l : ℕ) → l < n → f j l * (a j * b l) ≡ a j * (f j l * b l) = λ l h. omega arith in
      sum_below_same _ _ n e ∙ sym (sum_scale n (a j) (λ l. f j l * b l)) ∙ mul_comm (a j) _)

module _ (k n : ℕ) (a b : ℕ → ℕ) where
  -- The product over j and l of C j l to the power a j b l, column by column.
  pub prod_columns : (C : ℕ → ℕ → ℕ)
      → prod_below k (λ j. prod_below n (λ l. C j l ^ (a j * b l))) ≡ prod_below n (λ l. prod_below k (λ j. C j l ^ a j) ^ b l)
  prod_columns C =
      prod_swap k n (λ j l. C j l ^ (a j * b l))
      ∙ prod_below_same _ _ n (λ l h. prod_below_same _ _ k (λ j h. ap (λ t. C j l ^ t) (mul_comm (a j) (b l))))
      ∙ prod_rows n k b a (λ l j. C j l)

  -- The sum over j and l of f j l times a j b l, column by column.
  pub sum_columns : (f : ℕ → ℕ → ℕ)
      → sum_below k (λ j. sum_below n (λ l. f j l * (a j * b l))) ≡ sum_below n (λ l. sum_below k (λ j. f j l * a j) * b l)
  sum_columns f =
      sum_swap k n (λ j l. f j l * (a j * b l))
      ∙ sum_below_same _ _ n (λ l h. sum_below_same _ _ k (λ j h. ap (λ t. f j l * t) (mul_comm (a j) (b l))))
      ∙ sum_rows n k b a (λ l j. f j l)

-- ---- exponents modulo q

module _ (q p k : ℕ) (c : ℕ → ℕ) (o : (j : ℕ) → j < k → c j ^ q % p ≡ 1) where
  -- Exponents with one remainder modulo q give products with one remainder modulo p.
  pub prod_same : (a b : ℕ → ℕ) → ((j : ℕ) → j < k → a j % q ≡ b j % q)
      → prod_below k (λ j. c j ^ a j) % p ≡ prod_below k (λ j. c j ^ b j) % p
  prod_same a b h = prod_cong p k _ _ (λ j l. pow-same q p (c j) (o j l) (a j) (b j) (h j l))

  -- The remainder of each exponent goes.
  pub prod_order : (a : ℕ → ℕ) → prod_below k (λ j. c j ^ (a j % q)) % p ≡ prod_below k (λ j. c j ^ a j) % p
  prod_order a = prod_same (λ j. a j % q) a (λ j l. mod-mod (a j) q)

  -- A product of powers has q-th power 1.
  pub prod_member : 1 < p → (a : ℕ → ℕ) → prod_below k (λ j. c j ^ a j) ^ q % p ≡ 1
  prod_member pp a =
      ap (λ t. t % p) (prod_pow k q (λ j. c j ^ a j))
      ∙ prod_cong p k _ (λ j. 1) (λ j l. member_pow q p (c j) (o j l) (a j) ∙ sym (mod-eq_of_lt pp))
      ∙ ap (λ t. t % p) (prod_one k)
      ∙ mod-eq_of_lt pp

-- ---- commitments

module _ (p g h : ℕ) where
  -- A power of a commitment is a commitment.
  pub commit_pow : (c s t a : ℕ) → c % p ≡ (g ^ s * h ^ t) % p → c ^ a % p ≡ (g ^ (s * a) * h ^ (t * a)) % p
  commit_pow c s t a e =
      pow_cong p c (g ^ s * h ^ t) a e
      ∙ ap (λ u. u % p) (mul-pow (g ^ s) (h ^ t) a ∙ ap₂ ◌*◌ (sym (pow-mul g s a)) (sym (pow-mul h t a)))

  -- A product of commitments is a commitment.
  pub commit_prod : (k : ℕ) (c s t : ℕ → ℕ) → ((j : ℕ) → j < k → c j % p ≡ (g ^ s j * h ^ t j) % p)
      → prod_below k c % p ≡ (g ^ sum_below k s * h ^ sum_below k t) % p
  commit_prod k c s t e =
      prod_cong p k c (λ j. g ^ s j * h ^ t j) e
      ∙ ap (λ u. u % p) (prod_mul k (λ j. g ^ s j) (λ j. h ^ t j) ∙ ap₂ ◌*◌ (sym (pow-sum k g s)) (sym (pow-sum k h t)))

  -- The product of powers of a vector of commitments.
  pub commit_vector : (k : ℕ) (a c s t : ℕ → ℕ) → ((j : ℕ) → j < k → c j % p ≡ (g ^ s j * h ^ t j) % p)
      → prod_below k (λ j. c j ^ a j) % p ≡ (g ^ sum_below k (λ j. s j * a j) * h ^ sum_below k (λ j. t j * a j)) % p
  commit_vector k a c s t e = commit_prod k _ _ _ (λ j l. commit_pow (c j) (s j) (t j) (a j) (e j l))

  -- The product of powers of a matrix of commitments.
  pub commit_matrix : (k n : ℕ) (a b : ℕ → ℕ) (C S T : ℕ → ℕ → ℕ)
      → ((j l : ℕ) → j < k → l < n → C j l % p ≡ (g ^ S j l * h ^ T j l) % p)
      → prod_below k (λ j. prod_below n (λ l. C j l ^ (a j * b l))) % p
      ≡ (g ^ sum_below k (λ j. sum_below n (λ l. S j l * (a j * b l))) * h ^ sum_below k (λ j. sum_below n (λ l. T j l * (a j * b l)))) % p
  commit_matrix k n a b C S T e = commit_prod k _ _ _ (λ j i. commit_vector n (λ l. a j * b l) (C j) (S j) (T j) (λ l m. e j l i m))

  module _ (q : ℕ) (og : g ^ q % p ≡ 1) (oh : h ^ q % p ≡ 1) where
    -- Exponents with one remainder modulo q give one commitment.
    pub commit_same : (s t u v : ℕ) → s % q ≡ u % q → t % q ≡ v % q → (g ^ s * h ^ t) % p ≡ (g ^ u * h ^ v) % p
    commit_same s t u v d e = mul_cong p _ _ _ _ (pow-same q p g og s u d) (pow-same q p h oh t v e)

    -- The remainders of the exponents go.
    pub commit_mod : (s t : ℕ) → (g ^ (s % q) * h ^ (t % q)) % p ≡ (g ^ s * h ^ t) % p
    commit_mod s t = commit_same (s % q) (t % q) s t (mod-mod s q) (mod-mod t q)

    -- A commitment has q-th power 1.
    pub commit_member : (s t : ℕ) → ((g ^ s * h ^ t) % p) ^ q % p ≡ 1
    commit_member s t = member_mod q p _ (member_mul q p (g ^ s) (member_pow q p g og s) (h ^ t) (member_pow q p h oh t))

    -- The product of powers of a vector of commitments, with exponents modulo q.
    pub commit_vector_mod : (k : ℕ) (a c s t : ℕ → ℕ) → ((j : ℕ) → j < k → c j % p ≡ (g ^ s j * h ^ t j) % p)
        → prod_below k (λ j. c j ^ a j) % p ≡ (g ^ (sum_below k (λ j. s j * a j) % q) * h ^ (sum_below k (λ j. t j * a j) % q)) % p
    commit_vector_mod k a c s t e = commit_vector k a c s t e ∙ sym (commit_mod _ _)

    -- The product of powers of a matrix of commitments, with exponents modulo q.
    pub commit_matrix_mod : (k n : ℕ) (a b : ℕ → ℕ) (C S T : ℕ → ℕ → ℕ)
        → ((j l : ℕ) → j < k → l < n → C j l % p ≡ (g ^ S j l * h ^ T j l) % p)
        → prod_below k (λ j. prod_below n (λ l. C j l ^ (a j * b l))) % p
        ≡ (g ^ (sum_below k (λ j. sum_below n (λ l. S j l * (a j * b l))) % q) * h ^ (sum_below k (λ j. sum_below n (λ l. T j l * (a j * b l))) % q)) % p
    commit_matrix_mod k n a b C S T e = commit_matrix k n a b C S T e ∙ sym (commit_mod _ _)

-- With h the w-th power of g, a commitment is a power of g.
pub commit_base : (p g h w : ℕ) → h % p ≡ g ^ w % p → (s t : ℕ) → (g ^ s * h ^ t) % p ≡ g ^ (s + w * t) % p
commit_base p g h w e s t =
    mul_cong p (g ^ s) (g ^ s) (h ^ t) ((g ^ w) ^ t) refl (pow_cong p h (g ^ w) t e)
    ∙ ap (λ u. u % p) (ap (λ u. g ^ s * u) (sym (pow-mul g w t)) ∙ sym (pow-add g s (w * t)))

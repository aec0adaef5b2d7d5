-- Shares that fit commitments open them, and two openings of one commitment differ by a multiple of the logarithm of h to g.
--
-- In order: lemmas on exponents; k shares that fit c 0, .. c (k - 1) open what these give at any place, and at 0 this is c 0;
-- two openings.
-- Assumes nothing.
use Rattle.std.specs.Prelude.{◌≡◌, ◌≢◌, ℕ, zero, suc, ◌+◌, ◌*◌, ◌%◌, ◌^◌, ◌<◌}
use Rattle.std.proofs.Math.Path.{sym, ap}
use Rattle.std.proofs.Common.{ap₂, ◌∙◌, mul_comm, mul-one, mul-zero, pow-suc, not-suc-le-zero}
use Rattle.std.proofs.Math.Nat.{mod-mod, pow-zero}
use Rattle.folds.specs.Below.{sum_below, prod_below, sum_below_same, prod_below_same}
use Rattle.algebra.specs.Residues.{Prime}
use Rattle.algebra.proofs.Powers.{pow-mul, pow-one, order_exact}
use Rattle.algebra.proofs.Sums.{prod_one, prod_pow, prod_swap, prod_first, pow-sum}
use Rattle.algebra.specs.Polynomials.{Places}
use Rattle.algebra.specs.Interpolation.{interpolate, weight}
use Rattle.algebra.proofs.Interpolation.{interpolate_power}
use Rattle.algebra.proofs.Commitments.{prod_same, commit_vector, commit_same, commit_base}

-- products over j, each to a power w i and multiplied: the exponents of each c j add up
collect : (k n : ℕ) (w c : ℕ → ℕ) (e : ℕ → ℕ → ℕ)
    → prod_below k (λ i. prod_below n (λ j. c j ^ e i j) ^ w i) ≡ prod_below n (λ j. c j ^ sum_below k (λ i. w i * e i j))
collect k n w c e =
    prod_below_same _ _ k
    (λ i h.
    prod_pow n (w i) (λ j. c j ^ e i j)
    ∙ prod_below_same _ _ n (λ j l. sym (pow-mul (c j) (e i j) (w i)) ∙ ap (λ t. c j ^ t) (mul_comm (e i j) (w i))))
    ∙ prod_swap k n (λ i j. c j ^ (w i * e i j))
    ∙ prod_below_same _ _ n (λ j l. sym (pow-sum k (c j) (λ i. w i * e i j)))

-- of the powers of 0 only the first counts
at_zero : (k : ℕ) (c : ℕ → ℕ) → 0 < k → prod_below k (λ j. c j ^ (0 ^ j)) ≡ c 0
at_zero zero c l = absurd (not-suc-le-zero l)
at_zero (suc k) c l =
    prod_first k (λ j. c j ^ (0 ^ j))
    ∙ ap₂ ◌*◌
    (ap (λ t. c 0 ^ t) (pow-zero 0) ∙ pow-one (c 0))
    (prod_below_same _ _ k (λ j h. ap (λ t. c (suc j) ^ t) (pow-suc 0 j ∙ mul-zero (0 ^ j)) ∙ pow-zero (c (suc j))) ∙ prod_one k)
    ∙ mul-one (c 0)

-- an interpolation as an exponent is the sum with Lagrange's weights
weighted : (q k : ℕ) (m y : ℕ → ℕ) (x : ℕ) → interpolate q k m y x % q ≡ sum_below k (λ i. y i * weight q k m x i) % q
unfolding interpolate
weighted q k m y x = mod-mod _ q ∙ ap (λ u. u % q) (sum_below_same _ _ k (λ i l. mul_comm _ (y i)))

-- ---- shares

module _ (q p : ℕ) (P : Prime q) (g h : ℕ) (og : g ^ q % p ≡ 1) (oh : h ^ q % p ≡ 1)
    (k : ℕ) (c : ℕ → ℕ) (oc : (j : ℕ) → j < k → c j ^ q % p ≡ 1) (m : ℕ → ℕ) (A : Places q k m) (s t : ℕ → ℕ)
    (fits : (i : ℕ) → i < k → (g ^ s i * h ^ t i) % p ≡ prod_below k (λ j. c j ^ (m i ^ j)) % p)
  where
    -- k shares that fit the commitments c 0, .. c (k - 1) open what these give at any x.
    pub shares_open_at : (x : ℕ) → (g ^ interpolate q k m s x * h ^ interpolate q k m t x) % p ≡ prod_below k (λ j. c j ^ (x ^ j)) % p
    unfolding interpolate
    shares_open_at x =
        let w = weight q k m x in
        commit_same p g h q og oh _ _ _ _ (weighted q k m s x) (weighted q k m t x)
        ∙ sym (commit_vector p g h k w (λ i. prod_below k (λ j. c j ^ (m i ^ j))) s t (λ i l. sym (fits i l)))
        ∙ ap (λ u. u % p) (collect k k w c (λ i j. m i ^ j))
        ∙ prod_same q p k c oc (λ j. sum_below k (λ i. w i * m i ^ j)) (λ j. x ^ j) (λ j l. interpolate_power q P k m A j l x)

    -- k shares that fit the commitments c 0, .. c (k - 1) open c 0.
    pub shares_open : 0 < k → (g ^ interpolate q k m s 0 * h ^ interpolate q k m t 0) % p ≡ c 0 % p
    shares_open l = shares_open_at 0 ∙ ap (λ t. t % p) (at_zero k c l)

-- ---- two openings

module _ (q p : ℕ) (P : Prime q) (g h : ℕ) (og : g ^ q % p ≡ 1) (n : g % p ≢ 1) (w : ℕ) (e : h % p ≡ g ^ w % p) where
  -- With h the w-th power of g, two openings of one commitment differ by a multiple of w.
  pub openings_differ : (s t s' t' : ℕ) → (g ^ s * h ^ t) % p ≡ (g ^ s' * h ^ t') % p → (s + w * t) % q ≡ (s' + w * t') % q
  openings_differ s t s' t' o = order_exact q p P g og n (s + w * t) (s' + w * t') (sym (commit_base p g h w e s t) ∙ o ∙ commit_base p g h w e s' t')

-- Lagrange's interpolation modulo a prime q, through k points at distinct places.
--
-- In order: it is below q, depends only on the points and is linear in the values; it is a polynomial with
-- k coefficients; it goes through its points, so it gives every polynomial with at most k coefficients back from its values,
-- and moves as the values do that move by those of a polynomial; the polynomial through k points (`Through`).
-- Not here: that a polynomial with too many roots is zero, and that two that agree at k places are one (`Polynomials`).
-- Assumes nothing.
use Rattle.std.specs.Prelude.{◌≡◌, ◌≢◌, Bool, List, length, get_or}
use Rattle.std.proofs.Math.Path.{refl, sym, ap, ap₂}
use Rattle.std.proofs.Common.{subst, ◌∙◌, one-mul, zero-mul, mul_assoc, mul_comm, le_refl, le_of_lt}
use Rattle.std.proofs.Math.Bool.{true, false}
use Prim.Native.Nat.{ℕ, zero, suc, ◌+◌, ◌*◌, ◌-◌, ◌%◌, ◌^◌, ◌≤◌, ◌<◌}
use Rattle.std.proofs.Math.Nat.{mod-lt, mod-eq_of_lt, mod-mod, mod_self, zero-mod}
use Rattle.std.proofs.Math.Decide.{dec_lt}
use native.Mathlib.Omega.{arith}
use Rattle.std.proofs.Math.Dec.{eqb}
use borrow.Author.Tests.{eqb-false, eq-eqb, ne_eqb}
use Rattle.folds.specs.Tests.{pick, pick_true, pick-false}
use Rattle.folds.specs.Below.{sum_below, prod_below, sum_below_same}
use Rattle.algebra.proofs.Residues.{mod-mul-mod, mul-mod-mod, add_cong, mul_cong, zero-mul-mod, one-mul-mod, difference_some}
use Rattle.algebra.specs.Residues.{Prime, inverse}
use Rattle.algebra.proofs.Fields.{inverse_right}
use Rattle.algebra.proofs.Sums.{sum-add, sum_scale, sum_cong, sum_single, prod_none, prod_some}
use Rattle.algebra.specs.Polynomials.{value, coefficients, Places}
use Rattle.algebra.proofs.Polynomials.{length-coefficients, get_or-coefficients, value-sum, value_reduce, Polynomial, nothing, polynomial_plus, agree, only_one}
use Rattle.algebra.specs.Interpolation.{others, interpolate, weight}
use Rattle.algebra.proofs.Factors.{factor, others_same, basis}

module _ (q k : ℕ) where
  -- The interpolation is a remainder modulo q.
  pub interpolate_below : (xs ys : ℕ → ℕ) (x : ℕ) → 0 < q → interpolate q k xs ys x < q
  unfolding interpolate
  interpolate_below xs ys x l = mod-lt _ l

  -- It depends only on the k places, and on the k values modulo q.
  pub interpolate_cong : (xs us ys vs : ℕ → ℕ) (x : ℕ)
      → ((i : ℕ) → i < k → xs i ≡ us i) → ((i : ℕ) → i < k → ys i % q ≡ vs i % q)
      → interpolate q k xs ys x ≡ interpolate q k us vs x
  unfolding interpolate
  interpolate_cong xs us ys vs x h e =
      sum_cong q k _ _
      (λ i l.
      mul_cong q (weight q k xs x i) (weight q k us x i) (ys i) (vs i)
      (ap₂ (λ s t. (s * inverse q t) % q) (others_same q k xs us h i x) (others_same q k xs us h i (xs i) ∙ ap (others q k us i) (h i l)))
      (e i l))

  combine : (a b s t : ℕ) → (a * s + b * t) % q ≡ (a * (s % q) + b * (t % q)) % q
  combine a b s t = sym (add_cong q _ _ _ _ (mul-mod-mod a s q) (mul-mod-mod b t q))

  -- It is linear in the values.
  pub interpolate_linear : (xs ys zs : ℕ → ℕ) (a b x : ℕ)
      → interpolate q k xs (λ i. a * ys i + b * zs i) x ≡ (a * interpolate q k xs ys x + b * interpolate q k xs zs x) % q
  unfolding interpolate
  interpolate_linear xs ys zs a b x =
      let w = weight q k xs x in
      let f : ℕ → ℕ = λ i. w i * ys i in
      let g : ℕ → ℕ = λ i. w i * zs i in
      let terms : (i : ℕ) → i < k → w i * (a * ys i + b * zs i) ≡ a * f i + b * g i = λ i l. omega arith in
      ap (λ t. t % q)
      (sum_below_same _ _ k terms
      ∙ sum-add k (λ i. a * f i) (λ i. b * g i)
      ∙ ap₂ ◌+◌ (sym (sum_scale k a f)) (sym (sum_scale k b g)))
      ∙ combine a b _ _

-- ---- it is a polynomial

module _ (q k : ℕ) (xs ys : ℕ → ℕ) where
  terms : (n : ℕ) → n ≤ k → (w : ℕ → ℕ) → Polynomial k (λ x. sum_below n (λ i. w i * prod_below k (factor q xs i x)))
  unfolding sum_below
  terms zero l w = nothing k
  terms (suc n) l w = polynomial_plus (terms n (omega arith) w) (w n) (basis q xs n k l)

  scale : ℕ → ℕ
  scale i = inverse q (others q k xs i (xs i)) * ys i

  through_terms : Polynomial k (λ x. sum_below k (λ i. scale i * prod_below k (factor q xs i x)))
  through_terms = terms k (le_refl k) scale

  interpolate_terms : (x : ℕ) → value through_terms.coeffs x % q ≡ interpolate q k xs ys x
  unfolding interpolate others scale
  interpolate_terms x =
      ap (λ t. t % q) (through_terms.meets x)
      ∙ sum_cong q k _ _
      (λ i l.
      let p = prod_below k (factor q xs i x) in
      ap (λ t. t % q) (mul_comm (scale i) p)
      ∙ sym (mod-mul-mod p (scale i) q)
      ∙ ap (λ t. t % q) (sym (mul_assoc (p % q) (inverse q (others q k xs i (xs i))) (ys i))))

-- ---- it goes through its points

module _ (q : ℕ) (P : Prime q) (k : ℕ) (xs : ℕ → ℕ) (A : Places q k xs) where
  distinct : (i j : ℕ) → i < k → j < k → i ≢ j → xs i ≢ xs j
  distinct i j l h n = go (dec_lt i j)
    where
      go : Dec (i < j) → xs i ≢ xs j
      go (yes m) = A.apart i j m h
      go (no m) = λ e. A.apart j i (omega arith) l (sym e)

  -- at x_j the others of i have the factor x_j - x_j
  others-zero : (i j : ℕ) → j < k → i ≢ j → others q k xs i (xs j) % q ≡ 0
  unfolding others
  others-zero i j l n =
      let b = A.below j l in
      let r : xs j + (q - xs j) ≡ q = omega arith in
      mod-mod _ q
      ∙ prod_none q k j (factor q xs i (xs j)) l
      (ap (λ t. t % q) (pick-false (eqb j i) 1 _ (ne_eqb j i (λ e. n (sym e))) ∙ r) ∙ mod_self q)

  others_some : (i : ℕ) → i < k → others q k xs i (xs i) ≢ 0
  unfolding others
  others_some i l = prod_some q P k (factor q xs i (xs i)) (λ j h. go j h (eqb j i) refl)
    where
      go : (j : ℕ) → j < k → (t : Bool) → eqb j i ≡ t → pick t 1 (xs i + (q - xs j)) % q ≢ 0
      go j h true e = let one : 1 % q ≡ 1 = mod-eq_of_lt P.big in omega arith
      go j h false e = difference_some q (xs i) (xs j) (A.below i l) (A.below j h) (distinct i j l h (λ z. eqb-false j i e (sym z)))

  others_below : (i x : ℕ) → others q k xs i x < q
  unfolding others
  others_below i x = mod-lt _ (le_of_lt P.big)

  module _ (ys : ℕ → ℕ) where
    -- The interpolation goes through its points.
    pub interpolate_at : (j : ℕ) → j < k → interpolate q k xs ys (xs j) ≡ ys j % q
    unfolding interpolate
    interpolate_at j l =
        let o = others q k xs j (xs j) in
        let some : o ≢ 0 = others_some j l in
        let one : (o * inverse q o) % q ≡ 1 = inverse_right q P o (omega arith) (others_below j (xs j)) in
        sum_single q k j _ l
        (λ i h n. zero-mul-mod q _ (ys i) (zero-mul-mod q _ _ (others-zero i j l n)))
        ∙ one-mul-mod q (o * inverse q o) (ys j) one

    -- The interpolation of the values of a polynomial with at most k coefficients is that polynomial.
    pub interpolate_polynomial : (cs : List ℕ) → length cs ≤ k → ((i : ℕ) → i < k → ys i % q ≡ value cs (xs i) % q)
        → (x : ℕ) → interpolate q k xs ys x ≡ value cs x % q
    interpolate_polynomial cs l h x =
        let t = through_terms q k xs ys in
        sym (interpolate_terms q k xs ys x)
        ∙ agree q P k xs A t.coeffs cs t.size l (λ i m. interpolate_terms q k xs ys (xs i) ∙ interpolate_at i m ∙ h i m) x

    -- The same, with the polynomial given by c 0, .. c (k - 1).
    pub interpolate-sum : (c : ℕ → ℕ) → ((i : ℕ) → i < k → ys i % q ≡ sum_below k (λ j. c j * xs i ^ j) % q)
        → (x : ℕ) → interpolate q k xs ys x ≡ sum_below k (λ j. c j * x ^ j) % q
    interpolate-sum c h x =
        interpolate_polynomial (coefficients k c) (omega (arith, length-coefficients k c))
        (λ i l. h i l ∙ ap (λ t. t % q) (sym (value-sum k c (xs i)))) x
        ∙ ap (λ t. t % q) (value-sum k c x)

  -- It gives a polynomial with at most k coefficients back from its values.
  pub interpolate_value : (cs : List ℕ) → length cs ≤ k → (x : ℕ) → interpolate q k xs (λ i. value cs (xs i) % q) x ≡ value cs x % q
  interpolate_value cs l = interpolate_polynomial (λ i. value cs (xs i) % q) cs l (λ i h. mod-mod (value cs (xs i)) q)

  -- The interpolation of the j-th powers of the places is the j-th power, for j below k.
  pub interpolate_power : (j : ℕ) → j < k → (x : ℕ) → interpolate q k xs (λ i. xs i ^ j) x ≡ x ^ j % q
  interpolate_power j l x = interpolate-sum (λ i. xs i ^ j) c (λ i h. sym (monomial (xs i))) x ∙ monomial x
    where
      c : ℕ → ℕ
      c l = pick (eqb l j) 1 0

      monomial : (x : ℕ) → sum_below k (λ l. c l * x ^ l) % q ≡ x ^ j % q
      monomial x =
          sum_single q k j (λ l. c l * x ^ l) l
          (λ i h n. ap (λ t. (t * x ^ i) % q) (pick-false (eqb i j) 1 0 (ne_eqb i j n)) ∙ ap (λ t. t % q) (zero-mul (x ^ i)) ∙ zero-mod q)
          ∙ ap (λ t. (t * x ^ j) % q) (pick_true (eqb j j) 1 0 (eq-eqb j j refl))
          ∙ ap (λ t. t % q) (one-mul (x ^ j))

  -- Where each y_i moves by d w c(x_i), the interpolation at x moves by d w c(x).
  pub interpolate_moves : (ys c : ℕ → ℕ) (d w x : ℕ)
      → interpolate q k xs (λ i. (ys i + d * (sum_below k (λ l. c l * xs i ^ l) % q * w)) % q) x
      ≡ (interpolate q k xs ys x + d * (sum_below k (λ l. c l * x ^ l) % q * w)) % q
  interpolate_moves ys c d w x =
      let at : ℕ → ℕ = λ x. sum_below k (λ l. c l * x ^ l) % q in
      let one : (i : ℕ) → ys i + d * (at (xs i) * w) ≡ 1 * ys i + d * w * at (xs i) = λ i. omega arith in
      let last : 1 * interpolate q k xs ys x + d * w * at x ≡ interpolate q k xs ys x + d * (at x * w) = omega arith in
      interpolate_cong q k xs xs _ (λ i. 1 * ys i + d * w * at (xs i)) x (λ i l. refl)
      (λ i l. mod-mod (ys i + d * (at (xs i) * w)) q ∙ ap (λ v. v % q) (one i))
      ∙ interpolate_linear q k xs ys (λ i. at (xs i)) 1 (d * w) x
      ∙ ap (λ v. (1 * interpolate q k xs ys x + d * w * v) % q)
      (interpolate-sum (λ i. at (xs i)) c (λ i l. mod-mod (sum_below k (λ l. c l * xs i ^ l)) q) x)
      ∙ ap (λ v. v % q) last

-- ---- the polynomial through k points

-- the k coefficients below q of the polynomial through the k points, which is the interpolation
pub record Through (q k : ℕ) (xs ys : ℕ → ℕ) : Type 0 where
  pub coeffs : List ℕ
  pub size : length coeffs ≡ k
  pub below : (j : ℕ) → j < k → get_or coeffs j 0 < q
  pub meets : (i : ℕ) → i < k → value coeffs (xs i) % q ≡ ys i % q
  pub everywhere : (x : ℕ) → value coeffs x % q ≡ interpolate q k xs ys x

-- Through k points at distinct places goes a polynomial with k coefficients below q.
pub through : (q : ℕ) → Prime q → (k : ℕ) (xs : ℕ → ℕ) → Places q k xs → (ys : ℕ → ℕ) → Through q k xs ys
through q P k xs A ys =
    let t = through_terms q k xs ys in
    let c : ℕ → ℕ = λ j. get_or t.coeffs j 0 % q in
    let all : (x : ℕ) → value (coefficients k c) x % q ≡ interpolate q k xs ys x =
    λ x. value_reduce q k t.coeffs x t.size ∙ interpolate_terms q k xs ys x in
    record {
      coeffs = coefficients k c;
      size = length-coefficients k c;
      below = λ j l. subst (λ (n : ℕ). n < q) (sym (get_or-coefficients k c j l)) (mod-lt _ (le_of_lt P.big));
      meets = λ i l. all (xs i) ∙ interpolate_at q P k xs A ys i l;
      everywhere = all;
    }

-- It is the only one.
pub through_only : (q : ℕ) → Prime q → (k : ℕ) (xs : ℕ → ℕ) → Places q k xs → (ys : ℕ → ℕ)
    → (s t : Through q k xs ys) → s.coeffs ≡ t.coeffs
through_only q P k xs A ys s t =
    only_one q P k xs A s.coeffs t.coeffs (omega (arith, s.size)) (omega (arith, t.size))
    (λ i l. s.meets i l ∙ sym (t.meets i l)) s.size t.size s.below t.below

-- Sums and products over the indices below k: how they are joined, scaled, exchanged and raised, and their remainders.
--
-- In order: sums, and sums compared; products; powers of products and products of powers; remainders taken at each term or factor, or only
-- once; a turn of a loop that takes the remainder each time; sums and products that are zero modulo m, and one that is not; sums whose
-- terms move.
-- Not here: `-zero`, `_more`, `_same` (`folds`).
-- Assumes nothing.
use Rattle.std.specs.Prelude.{◌≡◌, ◌≢◌, ◌⊎◌}
use Rattle.std.proofs.Math.Path.{refl, ap}
use Rattle.std.proofs.Common.{sym, ◌∙◌, inl, inr, ⊎_elim, mul_comm, mul_assoc, mul-add, mul-zero, zero-mul, suc-mul, mod-eq_of_lt, not-suc-le-zero, le_of_suc-le-suc, eq-or-lt_of_le, arith, pow-add}
use Prim.Native.Nat.{ℕ, zero, suc, ◌+◌, ◌*◌, ◌%◌, ◌^◌, ◌≤◌, ◌<◌}
use Rattle.std.proofs.Math.Nat.{mul-mul-mul_comm, pow-zero, mod-mod, mod-add-mod, add-mod-mod, zero-mod}
use Rattle.folds.specs.Below.{sum_below, prod_below, sum_below_more, prod_below_more}
use Rattle.algebra.proofs.Residues.{mod-mul-mod, mul-mod-mod, add_cong, mul_cong, zero-add-mod, add-zero-mod, zero-mul-mod, mul-zero-mod}
use Rattle.algebra.specs.Residues.{Prime}
use Rattle.algebra.proofs.Fields.{no_zero_divisor}
use Rattle.algebra.proofs.Powers.{mul-pow, one-pow}

-- ---- sums

-- n terms c are n c.
pub sum-constant : (c n : ℕ) → sum_below n (λ i. c) ≡ n * c
unfolding sum_below
sum-constant c zero = sym (zero-mul c)
sum-constant c (suc n) = ap (λ t. t + c) (sum-constant c n) ∙ sym (suc-mul n c)

-- The sum of f i + g i is the sum of the f i and the sum of the g i.
pub sum-add : (k : ℕ) (f g : ℕ → ℕ) → sum_below k (λ i. f i + g i) ≡ sum_below k f + sum_below k g
unfolding sum_below
sum-add zero f g = refl
sum-add (suc k) f g = ap (λ t. t + (f k + g k)) (sum-add k f g) ∙ omega arith

-- A multiple of a sum is the sum of the multiples.
pub sum_scale : (k c : ℕ) (f : ℕ → ℕ) → c * sum_below k f ≡ sum_below k (λ i. c * f i)
unfolding sum_below
sum_scale zero c f = mul-zero c
sum_scale (suc k) c f = mul-add c _ _ ∙ ap (λ t. t + c * f k) (sum_scale k c f)

-- Two sums are exchanged.
pub sum_swap : (k n : ℕ) (f : ℕ → ℕ → ℕ) → sum_below k (λ i. sum_below n (λ j. f i j)) ≡ sum_below n (λ j. sum_below k (λ i. f i j))
unfolding sum_below
sum_swap zero n f = sym (sum-constant 0 n ∙ mul-zero n)
sum_swap (suc k) n f = ap (λ t. t + sum_below n (f k)) (sum_swap k n f) ∙ sym (sum-add n (λ j. sum_below k (λ i. f i j)) (f k))

-- The first term stands before the rest.
pub sum_first : (k : ℕ) (f : ℕ → ℕ) → sum_below (suc k) f ≡ f 0 + sum_below k (λ i. f (suc i))
unfolding sum_below
sum_first zero f = omega arith
sum_first (suc k) f = ap (λ t. t + f (suc k)) (sum_first k f) ∙ omega arith

-- Where no term is larger, the sum is not.
pub sum_le : (f g : ℕ → ℕ) (n : ℕ) → ((i : ℕ) → i < n → f i ≤ g i) → sum_below n f ≤ sum_below n g
unfolding sum_below
sum_le f g zero h = omega arith
sum_le f g (suc n) h =
    let a = sum_le f g n (λ i l. h i (omega arith)) in
    let b = h n (omega arith) in
    omega arith

-- One smaller term makes the sum smaller.
pub sum_lt : (f g : ℕ → ℕ) (n m : ℕ) → m < n → ((i : ℕ) → i < n → f i ≤ g i) → f m < g m → sum_below n f < sum_below n g
unfolding sum_below
sum_lt f g zero m l h e = absurd (not-suc-le-zero l)
sum_lt f g (suc n) m l h e =
    ⊎_elim
    (λ q.
    let a = sum_le f g n (λ i lt. h i (omega arith)) in
    let b : f n < g n = rw q at e in
    let w : sum_below n f + f n < sum_below n g + g n = omega arith in
    w)
    (λ lt.
    let a = sum_lt f g n m lt (λ i z. h i (omega arith)) e in
    let b = h n (omega arith) in
    let w : sum_below n f + f n < sum_below n g + g n = omega arith in
    w)
    (eq-or-lt_of_le (le_of_suc-le-suc l))

-- No term is larger than the sum.
pub sum-at : (f : ℕ → ℕ) (n i : ℕ) → i < n → f i ≤ sum_below n f
unfolding sum_below
sum-at f zero i l = absurd (not-suc-le-zero l)
sum-at f (suc n) i l =
    ⊎_elim
    (λ q. rw q (omega arith))
    (λ lt. let a = sum-at f n i lt in let w : f i ≤ sum_below n f + f n = omega arith in w)
    (eq-or-lt_of_le (le_of_suc-le-suc l))

-- ---- products

-- The product of ones is one.
pub prod_one : (k : ℕ) → prod_below k (λ i. 1) ≡ 1
unfolding prod_below
prod_one zero = refl
prod_one (suc k) = ap (λ t. t * 1) (prod_one k)

-- The product of f i * g i is the product of the f i and the product of the g i.
pub prod_mul : (k : ℕ) (f g : ℕ → ℕ) → prod_below k (λ i. f i * g i) ≡ prod_below k f * prod_below k g
unfolding prod_below
prod_mul zero f g = refl
prod_mul (suc k) f g = ap (λ t. t * (f k * g k)) (prod_mul k f g) ∙ mul-mul-mul_comm _ _ _ _

-- Two products are exchanged.
pub prod_swap : (k n : ℕ) (f : ℕ → ℕ → ℕ) → prod_below k (λ i. prod_below n (λ j. f i j)) ≡ prod_below n (λ j. prod_below k (λ i. f i j))
unfolding prod_below
prod_swap zero n f = sym (prod_one n)
prod_swap (suc k) n f = ap (λ t. t * prod_below n (f k)) (prod_swap k n f) ∙ sym (prod_mul n (λ j. prod_below k (λ i. f i j)) (f k))

-- The first factor stands before the rest.
pub prod_first : (k : ℕ) (f : ℕ → ℕ) → prod_below (suc k) f ≡ f 0 * prod_below k (λ i. f (suc i))
unfolding prod_below
prod_first zero f = mul_comm 1 (f 0)
prod_first (suc k) f = ap (λ t. t * f (suc k)) (prod_first k f) ∙ mul_assoc _ _ _

-- The power of a product is the product of the powers.
pub prod_pow : (k w : ℕ) (f : ℕ → ℕ) → prod_below k f ^ w ≡ prod_below k (λ i. f i ^ w)
unfolding prod_below
prod_pow zero w f = one-pow w
prod_pow (suc k) w f = mul-pow _ _ w ∙ ap (λ t. t * f k ^ w) (prod_pow k w f)

-- A power with a sum for its exponent is the product of the powers.
pub pow-sum : (k c : ℕ) (f : ℕ → ℕ) → c ^ sum_below k f ≡ prod_below k (λ i. c ^ f i)
unfolding sum_below prod_below
pow-sum zero c f = pow-zero c
pow-sum (suc k) c f = pow-add c _ _ ∙ ap (λ t. t * c ^ f k) (pow-sum k c f)

-- ---- remainders

module _ (m : ℕ) where
  -- Sums of terms with one remainder have one remainder.
  pub sum_cong : (k : ℕ) (f g : ℕ → ℕ) → ((i : ℕ) → i < k → f i % m ≡ g i % m) → sum_below k f % m ≡ sum_below k g % m
  unfolding sum_below
  sum_cong zero f g h = refl
  sum_cong (suc k) f g h = add_cong m _ _ _ _ (sum_cong k f g (λ i l. h i (omega arith))) (h k (omega arith))

  -- Products of factors with one remainder have one remainder.
  pub prod_cong : (k : ℕ) (f g : ℕ → ℕ) → ((i : ℕ) → i < k → f i % m ≡ g i % m) → prod_below k f % m ≡ prod_below k g % m
  unfolding prod_below
  prod_cong zero f g h = refl
  prod_cong (suc k) f g h = mul_cong m _ _ _ _ (prod_cong k f g (λ i l. h i (omega arith))) (h k (omega arith))

  -- The remainder may be taken at each term or only once.
  pub sum-mod : (k : ℕ) (f : ℕ → ℕ) → sum_below k (λ i. f i % m) % m ≡ sum_below k f % m
  sum-mod k f = sum_cong k (λ i. f i % m) f (λ i l. mod-mod (f i) m)

  -- The remainder may be taken at each factor or only once.
  pub prod_mod : (k : ℕ) (f : ℕ → ℕ) → prod_below k (λ i. f i % m) % m ≡ prod_below k f % m
  prod_mod k f = prod_cong k (λ i. f i % m) f (λ i l. mod-mod (f i) m)

  -- One more term, with the remainder of the sum so far.
  pub sum-mod_more : (f : ℕ → ℕ) (i : ℕ) → (sum_below i f % m + f i) % m ≡ sum_below (i + 1) f % m
  sum-mod_more f i = mod-add-mod _ m _ ∙ ap (λ t. t % m) (sym (sum_below_more f i))

  -- One more factor, with the remainder of the product so far.
  pub prod_mod_more : (f : ℕ → ℕ) (i : ℕ) → (prod_below i f % m * f i) % m ≡ prod_below (i + 1) f % m
  prod_mod_more f i = mod-mul-mod _ _ m ∙ ap (λ t. t % m) (sym (prod_below_more f i))

  -- One more term, with the remainders of both.
  pub sum-mod_more_mod : (f : ℕ → ℕ) (i : ℕ) → (sum_below i f % m + f i % m) % m ≡ sum_below (i + 1) f % m
  sum-mod_more_mod f i = add-mod-mod _ (f i) m ∙ sum-mod_more f i

  -- One more factor, with the remainders of both.
  pub prod_mod_more_mod : (f : ℕ → ℕ) (i : ℕ) → (prod_below i f % m * (f i % m)) % m ≡ prod_below (i + 1) f % m
  prod_mod_more_mod f i = mul-mod-mod _ (f i) m ∙ prod_mod_more f i

  sum-none : (k : ℕ) (f : ℕ → ℕ) → ((i : ℕ) → i < k → f i % m ≡ 0) → sum_below k f % m ≡ 0
  unfolding sum_below
  sum-none zero f h = zero-mod m
  sum-none (suc k) f h = zero-add-mod m _ (f k) (sum-none k f (λ i l. h i (omega arith))) ∙ h k (omega arith)

  -- A sum whose terms but one are zero modulo m is that one modulo m.
  pub sum_single : (k j : ℕ) (f : ℕ → ℕ) → j < k → ((i : ℕ) → i < k → i ≢ j → f i % m ≡ 0) → sum_below k f % m ≡ f j % m
  unfolding sum_below
  sum_single zero j f l h = absurd (not-suc-le-zero l)
  sum_single (suc k) j f l h = go (eq-or-lt_of_le (le_of_suc-le-suc l)) (λ lt. sum_single k j f lt (λ i l. h i (omega arith)))
    where
      go : (j ≡ k) ⊎ (j < k) → (j < k → sum_below k f % m ≡ f j % m) → (sum_below k f + f k) % m ≡ f j % m
      go (inl e) ih =
          zero-add-mod m _ (f k) (sum-none k f (λ i l. h i (omega arith) (omega arith))) ∙ ap (λ t. f t % m) (sym e)
      go (inr lt) ih = add-zero-mod m _ (f k) (h k (omega arith) (omega arith)) ∙ ih lt

  -- A product with a factor that is zero modulo m is zero modulo m.
  pub prod_none : (k j : ℕ) (f : ℕ → ℕ) → j < k → f j % m ≡ 0 → prod_below k f % m ≡ 0
  unfolding prod_below
  prod_none zero j f l h = absurd (not-suc-le-zero l)
  prod_none (suc k) j f l h = go (eq-or-lt_of_le (le_of_suc-le-suc l)) (λ lt. prod_none k j f lt h)
    where
      go : (j ≡ k) ⊎ (j < k) → (j < k → prod_below k f % m ≡ 0) → (prod_below k f * f k) % m ≡ 0
      go (inl e) ih = mul-zero-mod m _ (f k) (ap (λ t. f t % m) (sym e) ∙ h)
      go (inr lt) ih = zero-mul-mod m _ (f k) (ih lt)

-- A product of factors that are not zero modulo a prime is not zero modulo it.
pub prod_some : (q : ℕ) → Prime q → (k : ℕ) (f : ℕ → ℕ) → ((i : ℕ) → i < k → f i % q ≢ 0) → prod_below k f % q ≢ 0
unfolding prod_below
prod_some q P zero f h e = let one : 1 % q ≡ 1 = mod-eq_of_lt P.big in omega arith
prod_some q P (suc k) f h e = h k (omega arith) (no_zero_divisor q P _ (f k) (prod_some q P k f (λ i l. h i (omega arith))) e)

-- Where each c i moves by d z i w, the value at x moves by d z(x) w.
pub sum_moves : (q k d w x : ℕ) (c c' z : ℕ → ℕ) → ((i : ℕ) → i < k → c' i ≡ (c i + d * (z i * w)) % q)
    → sum_below k (λ i. c' i * x ^ i) % q ≡ (sum_below k (λ i. c i * x ^ i) % q + d * (sum_below k (λ i. z i * x ^ i) % q * w)) % q
sum_moves q k d w x c c' z h =
    let S = sum_below k (λ i. c i * x ^ i) in
    let Z = sum_below k (λ i. z i * x ^ i) in
    let term : (i : ℕ) → i < k → (c' i * x ^ i) % q ≡ (c i * x ^ i + d * w * (z i * x ^ i)) % q =
    λ i l.
    let e : (c i + d * (z i * w)) * x ^ i ≡ c i * x ^ i + d * w * (z i * x ^ i) = omega arith in
    ap (λ t. (t * x ^ i) % q) (h i l) ∙ mod-mul-mod (c i + d * (z i * w)) (x ^ i) q ∙ ap (λ t. t % q) e in
    let turn : d * w * (Z % q) ≡ d * (Z % q * w) = omega arith in
    sum_cong q k _ _ term
    ∙ ap (λ t. t % q) (sum-add k _ _ ∙ ap (λ t. S + t) (sym (sum_scale k (d * w) (λ i. z i * x ^ i))))
    ∙ sym (mod-add-mod S q (d * w * Z))
    ∙ add_cong q (S % q) (S % q) _ _ refl (sym (mul-mod-mod (d * w) Z q))
    ∙ ap (λ t. (S % q + t) % q) turn

-- Polynomials with plain numbers for coefficients, lowest first, and their values modulo a prime.
--
-- In order: the value of c 0, .. c (k - 1) as a sum, at 0 the first; sums, multiples and products with x + b;
-- division by x - a; remainders; a polynomial with as many roots modulo a prime as coefficients has only zeros for these;
-- two polynomials that agree at as many places as they have coefficients agree everywhere, and are one.
-- Assumes nothing.
use Rattle.std.specs.Prelude.{◌≡◌, ◌≢◌, length, get_or}
use Rattle.std.proofs.Math.Path.{refl, sym, ap}
use Rattle.std.proofs.Common.{ap₂, ◌∙◌, mod-eq_of_lt, zero-add, mul-one, mul-zero, pow-suc, mul_comm, le_refl, le_of_lt, not-suc-le-zero, le_of_suc-le-suc, zero-mul, add-zero, ext_get_or}
use mathlib.Core.List.{List, [], ◌∷◌, map}
use Prim.Native.Nat.{ℕ, zero, suc, ◌+◌, ◌*◌, ◌-◌, ◌%◌, ◌^◌, ◌≤◌, ◌<◌, suc-le-suc}
use Rattle.std.proofs.Math.Nat.{mod-mod, zero-mod, add-mod_right, pow-zero}
use native.Mathlib.Omega.{arith}
use Rattle.std.proofs.lemmas.List.{length-map}
use Rattle.folds.specs.Below.{sum_below, sum_below_same}
use Rattle.algebra.proofs.Residues.{add_cong, mul_cong, zero-add-mod, add-zero-mod, mul-zero-mod, difference-zero, zero-difference, difference_some}
use Rattle.algebra.specs.Residues.{Prime}
use Rattle.algebra.proofs.Fields.{no_zero_divisor}
use Rattle.algebra.proofs.Sums.{sum_first, sum_scale}
use Rattle.algebra.specs.Polynomials.{value, coefficients, Places}

-- the coefficients of p + w r
plus : ℕ → List ℕ → List ℕ → List ℕ
plus w [] ds = map (λ d. w * d) ds
plus w (c ∷ cs) [] = c ∷ cs
plus w (c ∷ cs) (d ∷ ds) = (c + w * d) ∷ plus w cs ds

-- the coefficients of c + (x + b) p
widen : ℕ → ℕ → List ℕ → List ℕ
widen b c [] = c ∷ []
widen b c (e ∷ p) = (c + b * e) ∷ widen b e p

-- for p = c + x cs: the coefficients of p - p(a), divided by x - a
quotient : ℕ → List ℕ → List ℕ
quotient a [] = []
quotient a (c ∷ cs) = value (c ∷ cs) a ∷ quotient a cs

-- ---- values as sums

next : (c x j : ℕ) → c * x ^ suc j ≡ x * (c * x ^ j)
next c x j = ap (λ t. c * t) (pow-suc x j) ∙ omega arith

first : (c x : ℕ) → c * x ^ 0 ≡ c
first c x = ap (λ t. c * t) (pow-zero x) ∙ mul-one c

-- The value of c 0, .. c (k - 1) at x is the sum of c j x^j.
pub value-sum : (k : ℕ) (c : ℕ → ℕ) (x : ℕ) → value (coefficients k c) x ≡ sum_below k (λ j. c j * x ^ j)
unfolding value coefficients sum_below
value-sum zero c x = refl
value-sum (suc k) c x =
    ap₂ ◌+◌
    (sym (first (c 0) x))
    (ap (λ t. x * t) (value-sum k (λ j. c (suc j)) x)
    ∙ sum_scale k x (λ j. c (suc j) * x ^ j)
    ∙ sum_below_same _ _ k (λ j l. sym (next (c (suc j)) x j)))
    ∙ sym (sum_first k (λ j. c j * x ^ j))

-- Of the powers of 0 only the first counts.
pub sum_nought : (k : ℕ) (c : ℕ → ℕ) → 0 < k → sum_below k (λ l. c l * 0 ^ l) ≡ c 0
unfolding value coefficients
sum_nought zero c l = absurd (not-suc-le-zero l)
sum_nought (suc k) c l = sym (value-sum (suc k) c 0) ∙ ap (λ t. c 0 + t) (zero-mul _) ∙ add-zero (c 0)

-- There are k of them.
pub length-coefficients : (k : ℕ) (c : ℕ → ℕ) → length (coefficients k c) ≡ k
unfolding coefficients
length-coefficients zero c = refl
length-coefficients (suc k) c = ap suc (length-coefficients k (λ j. c (suc j)))

-- The one at j is c j.
pub get_or-coefficients : (k : ℕ) (c : ℕ → ℕ) (j : ℕ) → j < k → get_or (coefficients k c) j 0 ≡ c j
unfolding coefficients
get_or-coefficients zero c j l = absurd (not-suc-le-zero l)
get_or-coefficients (suc k) c zero l = refl
get_or-coefficients (suc k) c (suc j) l = get_or-coefficients k (λ j. c (suc j)) j (le_of_suc-le-suc l)

elements : (cs : List ℕ) → coefficients (length cs) (λ j. get_or cs j 0) ≡ cs
unfolding coefficients
elements [] = refl
elements (c ∷ cs) = ap (λ (t : List ℕ). c ∷ t) (elements cs)

-- The value of a list at x is the sum of its elements times the powers of x.
pub value_list : (cs : List ℕ) (x : ℕ) → value cs x ≡ sum_below (length cs) (λ j. get_or cs j 0 * x ^ j)
value_list cs x = ap (λ (t : List ℕ). value t x) (sym (elements cs)) ∙ value-sum (length cs) (λ j. get_or cs j 0) x

-- ---- sums and products

value-map : (w : ℕ) (ds : List ℕ) (x : ℕ) → value (map (λ d. w * d) ds) x ≡ w * value ds x
unfolding value
value-map w [] x = sym (mul-zero w)
value-map w (d ∷ ds) x = ap (λ t. w * d + x * t) (value-map w ds x) ∙ omega arith

value_plus : (w : ℕ) (cs ds : List ℕ) (x : ℕ) → value (plus w cs ds) x ≡ value cs x + w * value ds x
unfolding value plus
value_plus w [] ds x = value-map w ds x ∙ sym (zero-add _)
value_plus w (c ∷ cs) [] x = omega (arith, mul-zero w)
value_plus w (c ∷ cs) (d ∷ ds) x = ap (λ t. c + w * d + x * t) (value_plus w cs ds x) ∙ omega arith

get_or-map : (w : ℕ) (ds : List ℕ) (j : ℕ) → get_or (map (λ d. w * d) ds) j 0 ≡ w * get_or ds j 0
get_or-map w [] j = sym (mul-zero w)
get_or-map w (d ∷ ds) zero = refl
get_or-map w (d ∷ ds) (suc j) = get_or-map w ds j

get_or_plus : (w : ℕ) (cs ds : List ℕ) (j : ℕ) → get_or (plus w cs ds) j 0 ≡ get_or cs j 0 + w * get_or ds j 0
unfolding plus
get_or_plus w [] ds j = get_or-map w ds j ∙ sym (zero-add _)
get_or_plus w (c ∷ cs) [] j = omega (arith, mul-zero w)
get_or_plus w (c ∷ cs) (d ∷ ds) zero = refl
get_or_plus w (c ∷ cs) (d ∷ ds) (suc j) = get_or_plus w cs ds j

plus_size : (w k : ℕ) (cs ds : List ℕ) → length cs ≤ k → length ds ≤ k → length (plus w cs ds) ≤ k
unfolding plus
plus_size w k [] ds l h = omega (arith, length-map ds (λ d. w * d))
plus_size w k (c ∷ cs) [] l h = l
plus_size w zero (c ∷ cs) (d ∷ ds) l h = absurd (not-suc-le-zero l)
plus_size w (suc k) (c ∷ cs) (d ∷ ds) l h = suc-le-suc (plus_size w k cs ds (le_of_suc-le-suc l) (le_of_suc-le-suc h))

value_widen : (b c : ℕ) (p : List ℕ) (x : ℕ) → value (widen b c p) x ≡ c + (x + b) * value p x
unfolding value widen
value_widen b c [] x = omega (arith, mul-zero x, mul-zero (x + b))
value_widen b c (e ∷ p) x = ap (λ t. c + b * e + x * t) (value_widen b e p x) ∙ omega arith

widen_size : (b c : ℕ) (p : List ℕ) → length (widen b c p) ≡ suc (length p)
unfolding widen
widen_size b c [] = refl
widen_size b c (e ∷ p) = ap suc (widen_size b e p)

-- f is a polynomial with at most k coefficients
pub record Polynomial (k : ℕ) (f : ℕ → ℕ) : Type 0 where
  pub coeffs : List ℕ
  pub size : length coeffs ≤ k
  pub meets : (x : ℕ) → value coeffs x ≡ f x

-- A constant is a polynomial with one coefficient.
pub constant : (c : ℕ) → Polynomial 1 (λ x. c)
unfolding value
constant c = record { coeffs = c ∷ []; size = le_refl 1; meets = λ x. omega (arith, mul-zero x) }

-- Zero is a polynomial with no coefficient.
pub nothing : (k : ℕ) → Polynomial k (λ x. 0)
unfolding value
nothing k = record { coeffs = []; size = omega arith; meets = λ x. refl }

module _ {k : ℕ} {f : ℕ → ℕ} (p : Polynomial k f) where
  -- A polynomial plus a multiple of another is a polynomial.
  pub polynomial_plus : {g : ℕ → ℕ} (w : ℕ) → Polynomial k g → Polynomial k (λ x. f x + w * g x)
  polynomial_plus w r =
      record {
        coeffs = plus w p.coeffs r.coeffs;
        size = plus_size w k p.coeffs r.coeffs p.size r.size;
        meets = λ x. value_plus w p.coeffs r.coeffs x ∙ ap₂ (λ s t. s + w * t) (p.meets x) (r.meets x);
      }

  -- A polynomial times x + b is a polynomial with a coefficient more.
  pub polynomial_widen : (b : ℕ) → Polynomial (suc k) (λ x. f x * (x + b))
  polynomial_widen b =
      record {
        coeffs = widen b 0 p.coeffs;
        size = omega (arith, widen_size b 0 p.coeffs, p.size);
        meets = λ x. value_widen b 0 p.coeffs x ∙ zero-add _ ∙ mul_comm (x + b) _ ∙ ap (λ t. t * (x + b)) (p.meets x);
      }

  -- A polynomial times 1 is a polynomial.
  pub polynomial_one : Polynomial k (λ x. f x * 1)
  polynomial_one = record { coeffs = p.coeffs; size = p.size; meets = λ x. p.meets x ∙ sym (mul-one (f x)) }

  -- At most k coefficients are at most k + 1.
  pub polynomial_more : Polynomial (suc k) f
  polynomial_more = record { coeffs = p.coeffs; size = omega (arith, p.size); meets = p.meets }

-- ---- division

divide : (a d : ℕ) (cs : List ℕ) → (a + d) * value cs (a + d) ≡ a * value cs a + d * value (quotient a cs) (a + d)
unfolding value quotient
divide a d [] = omega (arith, mul-zero a, mul-zero d, mul-zero (a + d))
divide a d (c ∷ cs) = omega (arith, ap (λ t. (a + d) * t) (divide a d cs))

quotient_size : (a : ℕ) (cs : List ℕ) → length (quotient a cs) ≡ length cs
unfolding quotient
quotient_size a [] = refl
quotient_size a (c ∷ cs) = ap suc (quotient_size a cs)

-- ---- remainders

module _ (q : ℕ) where
  -- Places with one remainder have values with one remainder.
  pub value_cong : (cs : List ℕ) (x y : ℕ) → x % q ≡ y % q → value cs x % q ≡ value cs y % q
  unfolding value
  value_cong [] x y h = refl
  value_cong (c ∷ cs) x y h = add_cong q c c _ _ refl (mul_cong q x y _ _ h (value_cong cs x y h))

  -- A list made as long as k, with the remainders of its coefficients, has values with one remainder.
  pub value_reduce : (k : ℕ) (cs : List ℕ) (x : ℕ) → length cs ≤ k → value (coefficients k (λ j. get_or cs j 0 % q)) x % q ≡ value cs x % q
  unfolding value coefficients
  value_reduce zero [] x l = refl
  value_reduce zero (c ∷ cs) x l = absurd (not-suc-le-zero l)
  value_reduce (suc k) [] x l =
      zero-add-mod q (0 % q) _ (mod-mod 0 q ∙ zero-mod q) ∙ mul-zero-mod q x _ (value_reduce k [] x (omega arith) ∙ zero-mod q) ∙ sym (zero-mod q)
  value_reduce (suc k) (c ∷ cs) x l =
      add_cong q (c % q) c _ _ (mod-mod c q) (mul_cong q x x _ _ refl (value_reduce k cs x (le_of_suc-le-suc l)))

  abbrev Zeros : List ℕ → Type 0
  Zeros cs = (j : ℕ) → get_or cs j 0 % q ≡ 0

  value_zeros : (cs : List ℕ) (x : ℕ) → Zeros cs → value cs x % q ≡ 0
  unfolding value
  value_zeros [] x h = zero-mod q
  value_zeros (c ∷ cs) x h = zero-add-mod q c _ (h 0) ∙ mul-zero-mod q x _ (value_zeros cs x (λ j. h (suc j)))

  head_zero : (c x : ℕ) (cs : List ℕ) → Zeros cs → value (c ∷ cs) x % q ≡ 0 → c % q ≡ 0
  unfolding value
  head_zero c x cs h e = sym (add-zero-mod q c _ (mul-zero-mod q x _ (value_zeros cs x h))) ∙ e

  cons_zeros : (c : ℕ) (cs : List ℕ) → c % q ≡ 0 → Zeros cs → Zeros (c ∷ cs)
  cons_zeros c cs e z zero = e
  cons_zeros c cs e z (suc j) = z j

  quotient_zeros : (a : ℕ) (cs : List ℕ) → Zeros (quotient a cs) → Zeros cs
  unfolding quotient
  quotient_zeros a [] h = h
  quotient_zeros a (c ∷ cs) h =
      let z = quotient_zeros a cs (λ j. h (suc j)) in
      cons_zeros c cs (head_zero c a cs z (h 0)) z

-- the first k - 1 of k places
fewer : {q k : ℕ} {xs : ℕ → ℕ} → Places q (suc k) xs → Places q k xs
fewer A = record { below = λ i l. A.below i (omega arith); apart = λ i j l h. A.apart i j l (omega arith) }

module _ (q : ℕ) (P : Prime q) where
  -- a root x other than the root a is one of the quotient
  quotient_root : (c a x : ℕ) (cs : List ℕ) → a < q → x < q → x ≢ a → value (c ∷ cs) a % q ≡ 0 → value (c ∷ cs) x % q ≡ 0
      → value (quotient a cs) x % q ≡ 0
  unfolding value
  quotient_root c a x cs la lx n ra rx =
      let d = x + (q - a) in
      let y : a + d ≡ x + q = omega arith in
      let near : (a + d) % q ≡ x % q = ap (λ t. t % q) y ∙ add-mod_right x q in
      let Q = value (quotient a cs) (a + d) in
      let whole : value (c ∷ cs) (a + d) ≡ value (c ∷ cs) a + d * Q = ap (λ t. c + t) (divide a d cs) ∙ omega arith in
      sym (value_cong q (quotient a cs) (a + d) x near)
      ∙ no_zero_divisor q P d Q (difference_some q x a lx la n)
      (sym (zero-add-mod q (value (c ∷ cs) a) (d * Q) ra)
      ∙ ap (λ t. t % q) (sym whole)
      ∙ value_cong q (c ∷ cs) (a + d) x near
      ∙ rx)

  -- A polynomial that has as many roots modulo a prime as coefficients, or more, has only zeros for coefficients.
  pub roots : (k : ℕ) (xs : ℕ → ℕ) → Places q k xs → (cs : List ℕ) → length cs ≤ k → ((i : ℕ) → i < k → value cs (xs i) % q ≡ 0)
      → (j : ℕ) → get_or cs j 0 % q ≡ 0
  roots zero xs A [] l h j = zero-mod q
  roots zero xs A (c ∷ cs) l h j = absurd (not-suc-le-zero l)
  roots (suc k) xs A [] l h j = zero-mod q
  roots (suc k) xs A (c ∷ cs) l h j =
      let a = xs k in
      let last = h k (le_refl _) in
      let z : Zeros q cs =
      quotient_zeros q a cs
      (roots k xs (fewer A) (quotient a cs) (omega (arith, quotient_size a cs))
      (λ i m.
      let low : i < suc k = omega arith in
      quotient_root c a (xs i) cs (A.below k (le_refl _)) (A.below i low) (A.apart i k m (le_refl _)) last (h i low))) in
      cons_zeros q c cs (head_zero q c a cs z last) z j

  module _ (k : ℕ) (xs : ℕ → ℕ) (A : Places q k xs) (cs ds : List ℕ) (lc : length cs ≤ k) (ld : length ds ≤ k)
      (e : (i : ℕ) → i < k → value cs (xs i) % q ≡ value ds (xs i) % q)
    where
      -- the difference has as many roots as coefficients
      difference_zeros : Zeros q (plus (q - 1) cs ds)
      difference_zeros =
          roots k xs A (plus (q - 1) cs ds) (plus_size (q - 1) k cs ds lc ld)
          (λ i l. ap (λ t. t % q) (value_plus (q - 1) cs ds (xs i)) ∙ zero-difference q (le_of_lt P.big) _ _ (e i l))

      -- Two polynomials that agree modulo a prime at as many places as they have coefficients have one remainder at each.
      pub agree_coefficients : (j : ℕ) → get_or cs j 0 % q ≡ get_or ds j 0 % q
      agree_coefficients j =
          difference-zero q (le_of_lt P.big) _ _ (ap (λ t. t % q) (sym (get_or_plus (q - 1) cs ds j)) ∙ difference_zeros j)

      -- And they agree everywhere.
      pub agree : (x : ℕ) → value cs x % q ≡ value ds x % q
      agree x =
          difference-zero q (le_of_lt P.big) _ _
          (ap (λ t. t % q) (sym (value_plus (q - 1) cs ds x)) ∙ value_zeros q (plus (q - 1) cs ds) x difference_zeros)

      -- So there is only one with k coefficients below q.
      pub only_one : length cs ≡ k → length ds ≡ k → ((j : ℕ) → j < k → get_or cs j 0 < q) → ((j : ℕ) → j < k → get_or ds j 0 < q)
          → cs ≡ ds
      only_one c d bc bd =
          ext_get_or 0 cs ds (c ∙ sym d)
          (λ j l.
          let m : j < k = omega arith in
          sym (mod-eq_of_lt (bc j m)) ∙ agree_coefficients j ∙ mod-eq_of_lt (bd j m))

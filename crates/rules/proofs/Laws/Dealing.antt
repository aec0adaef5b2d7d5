-- Dealing: what stands in the matrices and the polynomials of a deal, and their values.
--
-- In order: f and f' out of the secret and the coins, a and b out of f; values are below q, and at 0 only the first coefficient
-- counts; f(x, y) is a(y) of box x and b(x) of box y; the coins; f(0, 0) and f'(0, 0).
-- Assumes nothing.
use Rattle.std.specs.Prelude.{◌≡◌, true, List, ◌∷◌, ℕ, ◌+◌, ◌*◌, ◌%◌, ◌^◌, ◌≤◌, ◌<◌, suc, ◌-◌, eqb, get_or, length}
use Rattle.std.proofs.Math.Path.{ap}
use Rattle.std.proofs.Common.{sym, ◌∙◌, arith}
use Rattle.std.proofs.Math.Nat.{mod-lt, mod-mod}
use Rattle.std.proofs.Math.Dec.{ltb}
use borrow.Author.Tests.{ltb-true, eqb-true}
use Rattle.folds.specs.Tests.{and_left, and_right}
use Rattle.folds.specs.Below.{sum_below, all_below_at}
use Rattle.algebra.proofs.Residues.{mod-mul-mod}
use Rattle.algebra.proofs.Sums.{sum_cong}
use Rattle.algebra.proofs.Polynomials.{sum_nought}
use Rattle.algebra.proofs.Commitments.{sum_rows, sum_columns}
use Rattle.rules.specs.declared.Exponent.{Exponent}
use Rattle.rules.specs.declared.SetUp.{SetUp}
use Rattle.rules.specs.Numbers.{exponent, group_of}
use Rattle.rules.specs.Matrices.{coefficient, coefficient₂}
use Rattle.rules.specs.Dealing.{from_coins, f_of, f'_of, along_y, along_x, coins_keep, value_at}
use Rattle.rules.proofs.Laws.Matrices.{matrix_at, coefficient_at, square_some}

-- ---- coefficients

module _ (u : SetUp) (small : u.k ≤ 8) (secret : ℕ) (coins : List ℕ) (j l : ℕ) (hj : j < u.k) (hl : l < u.k) where
  from_coins_at : (from : ℕ) → coefficient₂ (from_coins u secret coins from) j l ≡ get_or (secret ∷ coins) (from + (j * u.k + l)) 0
  unfolding from_coins
  from_coins_at from =
      ap (λ (x : Exponent). x.0)
      (matrix_at u.k (exponent 0) (λ j l. exponent (get_or (secret ∷ coins) (from + (j * u.k + l)) 0)) small j l hj hl)

  pub f_of_at : coefficient₂ (f_of u secret coins) j l ≡ get_or (secret ∷ coins) (0 + (j * u.k + l)) 0
  unfolding f_of
  f_of_at = from_coins_at 0

  pub f'_of_at : coefficient₂ (f'_of u secret coins) j l ≡ get_or (secret ∷ coins) (u.k * u.k + (j * u.k + l)) 0
  unfolding f'_of
  f'_of_at = from_coins_at (u.k * u.k)

module _ (k : ℕ) (small : k ≤ 8) where
  module _ (q : ℕ) (f : List (List Exponent)) (i l : ℕ) (hl : l < k) where
    pub along_y_at : coefficient (along_y q k f i) l ≡ sum_below k (λ j. coefficient₂ f j l * i ^ j) % q
    unfolding along_y
    along_y_at = coefficient_at k (λ l. sum_below k (λ j. coefficient₂ f j l * i ^ j) % q) small l hl

    pub along_x_at : coefficient (along_x q k f i) l ≡ sum_below k (λ j. coefficient₂ f l j * i ^ j) % q
    unfolding along_x
    along_x_at = coefficient_at k (λ l. sum_below k (λ j. coefficient₂ f l j * i ^ j) % q) small l hl

-- ---- values

module _ (q k : ℕ) (a : List Exponent) where
  pub value_below : (x : ℕ) → 0 < q → value_at q k a x < q
  unfolding value_at
  value_below x l = mod-lt _ l

  pub value_nought : 0 < k → value_at q k a 0 ≡ coefficient a 0 % q
  unfolding value_at
  value_nought l = ap (λ t. t % q) (sum_nought k (coefficient a) l)

module _ (k : ℕ) (small : k ≤ 8) (q : ℕ) (f : List (List Exponent)) where
  -- f(x, y)
  abbrev at : ℕ → ℕ → ℕ
  at x y = sum_below k (λ j. sum_below k (λ l. coefficient₂ f j l * (x ^ j * y ^ l))) % q

  along_y_lem : (x y : ℕ) → value_at q k (along_y q k f x) y ≡ at x y
  unfolding value_at
  along_y_lem x y =
      sum_cong q k _ (λ l. sum_below k (λ j. coefficient₂ f j l * x ^ j) * y ^ l)
      (λ l hl. ap (λ t. (t * y ^ l) % q) (along_y_at k small q f x l hl) ∙ mod-mul-mod _ (y ^ l) q)
      ∙ ap (λ t. t % q) (sym (sum_columns k k (λ j. x ^ j) (λ l. y ^ l) (coefficient₂ f)))

  along_x_lem : (x y : ℕ) → value_at q k (along_x q k f y) x ≡ at x y
  unfolding value_at
  along_x_lem x y =
      sum_cong q k _ (λ j. sum_below k (λ l. coefficient₂ f j l * y ^ l) * x ^ j)
      (λ j hj. ap (λ t. (t * x ^ j) % q) (along_x_at k small q f y j hj) ∙ mod-mul-mod _ (x ^ j) q)
      ∙ ap (λ t. t % q) (sym (sum_rows k k (λ j. x ^ j) (λ l. y ^ l) (coefficient₂ f)))

  -- a of box x at y is b of box y at x.
  pub crossed : (x y : ℕ) → value_at q k (along_y q k f x) y ≡ value_at q k (along_x q k f y) x
  crossed x y = along_y_lem x y ∙ sym (along_x_lem x y)

  -- b of 0 at 0 is the first coefficient.
  pub first_value : 0 < k → value_at q k (along_x q k f 0) 0 ≡ coefficient₂ f 0 0 % q
  first_value l =
      value_nought q k (along_x q k f 0) l
      ∙ ap (λ t. t % q) (along_x_at k small q f 0 0 l ∙ ap (λ t. t % q) (sum_nought k (coefficient₂ f 0) l))
      ∙ mod-mod (coefficient₂ f 0 0) q

-- ---- the coins

module _ (u : SetUp) (secret : ℕ) (coins : List ℕ) (keeps : coins_keep u secret coins ≡ true) where
  abbrev q : ℕ
  q = (group_of u.group).q

  pub secret_low : secret < q
  unfolding coins_keep
  secret_low = ltb-true secret q (and_left (ltb secret q) _ keeps)

  pub coins_count : length coins ≡ 2 * (u.k * u.k) - 1
  unfolding coins_keep
  coins_count = eqb-true (length coins) _ (and_left (eqb (length coins) _) _ (and_right (ltb secret q) _ keeps))

  pub coin_low : (c : ℕ) → c < length coins → get_or coins c 0 < q
  unfolding coins_keep
  coin_low c l =
      ltb-true (get_or coins c 0) q
      (all_below_at (λ c. ltb (get_or coins c 0) q) (length coins) c
      (and_right (eqb (length coins) _) _ (and_right (ltb secret q) _ keeps)) l)

-- f(0, 0) is the secret, and f'(0, 0) coin k².
module _ (u : SetUp) (some : 0 < u.k) (small : u.k ≤ 8) (secret : ℕ) (coins : List ℕ) where
  pub f_first : coefficient₂ (f_of u secret coins) 0 0 ≡ secret
  f_first =
      let here : 0 + (0 * u.k + 0) ≡ 0 = omega arith in
      f_of_at u small secret coins 0 0 some some ∙ ap (λ v. get_or (secret ∷ coins) v 0) here

  pub f'_first : coefficient₂ (f'_of u secret coins) 0 0 ≡ get_or coins (u.k * u.k - 1) 0
  f'_first =
      let here : u.k * u.k + (0 * u.k + 0) ≡ suc (u.k * u.k - 1) = omega (arith, square_some u.k some) in
      f'_of_at u small secret coins 0 0 some some ∙ ap (λ v. get_or (secret ∷ coins) v 0) here

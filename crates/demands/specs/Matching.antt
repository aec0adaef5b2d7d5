-- Demand 3, the coins: a map of the coins for one secret to coins for another, one to one and onto, under which a set of at
-- most k - 1 boxes gets the same from the dealer.
--
-- In order: the polynomial z that is 1 at 0 and 0 at the boxes of the set; the map; why z is so; how the map moves each
-- number; what it keeps. With δ the difference of the secrets and λ the logarithm of h to g: f* = f + δ z(x) z(y),
-- f'* = f' - (δ / λ) z(x) z(y).
-- Assumes nothing.
use Rattle.std.specs.Prelude.{◌≡◌, Bool, true, false, ◌≢◌, List, ◌∷◌, eqb, length, get_or}
use Rattle.std.proofs.Math.Path.{refl, ap}
use Rattle.std.proofs.Common.{sym, ap₂, ◌∙◌, zero-mul, mul-one, mul_comm, zero-add, add-zero, add_assoc, mod-lt, pow-suc, add-one, ext_get_or}
use Rattle.std.proofs.Math.Logic.{⊎_elim}
use Prim.Native.Nat.{ℕ, zero, suc, ◌+◌, ◌*◌, ◌-◌, ◌%◌, ◌^◌, ◌<◌, ◌≤◌}
use Rattle.std.proofs.Math.Nat.{zero-mod, mod-eq_of_lt, mod-add-mod, add-mod-mod, pow-zero}
use native.Mathlib.Omega.{arith}
use Rattle.std.proofs.Math.Dec.{ltb}
use borrow.Author.Tests.{lt-ltb, le-ltb, eq-eqb}
use Rattle.folds.specs.Tests.{pick, pick_true, pick-false, decide, and_intro}
use Rattle.folds.specs.Below.{count_below, sum_below, prod_below, sum_below_same, all_below_all}
use Rattle.folds.specs.Runs.{length_singles, get_or_singles}
use Rattle.algebra.proofs.Residues.{mod-mul-mod, mul-mod-mod, add_cong, mul_cong, add-zero-mod, mul-zero-mod, multiples_zero, difference_reaches, difference_back}
use Rattle.algebra.specs.Residues.{inverse}
use Rattle.algebra.proofs.Fields.{one_less, row_of, column_of}
use Rattle.algebra.proofs.Sums.{sum-add, sum_scale, sum_first, sum_cong, sum_single, prod_none, sum_moves}
use Rattle.algebra.proofs.Polynomials.{sum_nought}
use Rattle.rules.specs.declared.Exponent.{Exponent}
use Rattle.rules.specs.declared.SetUp.{SetUp}
use Rattle.rules.specs.Numbers.{element, logarithm}
use Rattle.rules.specs.Matrices.{coefficient, coefficient₂}
use Rattle.rules.specs.Dealing.{f_of, f'_of, coins_keep, committed, commitment, along_y, along_x, polynomials_of}
use Rattle.rules.proofs.Laws.Numbers.{group_sizes}
use Rattle.rules.proofs.Laws.Matrices.{matrix_same, row_within}
use Rattle.rules.proofs.Laws.Generator.{logarithm_some, logarithm_below, committed_moves}
use Rattle.rules.proofs.Laws.Dealing.{f_of_at, f'_of_at, along_y_at, along_x_at, coins_count, coin_low}
use Rattle.demands.specs.Terms.Dealing.{group, order, Sound, dealt_matrix, dealt_to}
use Rattle.demands.specs.Sharing.{rule, size}
use Rattle.demands.specs.Terms.Secrets.{Few, vanishing, z, difference, difference', moved, matching}

-- ---- why z is so

-- z(x)
unfoldable pub z_at : SetUp → (ℕ → Bool) → ℕ → ℕ
z_at u A x = sum_below u.k (λ l. z u A l * x ^ l) % order u

module _ (q : ℕ) (A : ℕ → Bool) where
  -- how many of the set are boxes 1 to n
  abbrev members : ℕ → ℕ
  members n = count_below n (λ m. A (m + 1))

  -- k coefficients of the z of boxes 1 to n, at x; and the factor of box m + 1 in it
  abbrev up_to : ℕ → ℕ → ℕ → ℕ
  up_to n k x = sum_below k (λ l. vanishing q A n l * x ^ l)

  abbrev factor : ℕ → ℕ → ℕ
  factor x m = pick (A (m + 1)) (1 + (q - inverse q (m + 1)) * x) 1

  vanishing_first : (n : ℕ) → vanishing q A n 0 ≡ 1
  unfolding vanishing
  vanishing_first zero = refl
  vanishing_first (suc n) = vanishing_first n

  -- a box outside the set changes nothing
  vanishing_outside : (n l : ℕ) → A (suc n) ≡ false → vanishing q A (suc n) l ≡ vanishing q A n l
  unfolding vanishing
  vanishing_outside n zero e = refl
  vanishing_outside n (suc l) e = pick-false (A (suc n)) _ _ e

  vanishing_inside : (n l : ℕ) → A (suc n) ≡ true
      → vanishing q A (suc n) (suc l) ≡ (vanishing q A n (suc l) + (q - inverse q (suc n)) * vanishing q A n l) % q
  unfolding vanishing
  vanishing_inside n l e = pick_true (A (suc n)) _ _ e

  members_outside : (n : ℕ) → A (suc n) ≡ false → members (suc n) ≡ members n
  unfolding count_below
  members_outside n e = rw (add-one n, e) (add-zero _)

  members_inside : (n : ℕ) → A (suc n) ≡ true → members (suc n) ≡ members n + 1
  unfolding count_below
  members_inside n e = rw (add-one n, e)

  vanishing_none : (l : ℕ) → vanishing q A 0 (suc l) ≡ 0
  unfolding vanishing
  vanishing_none l = refl

  -- one box more of the set: the polynomial times 1 - x / (n + 1)
  wider : (n k x : ℕ) → A (suc n) ≡ true
      → up_to (suc n) (suc k) x % q ≡ (up_to n (suc k) x + (q - inverse q (suc n)) * x * up_to n k x) % q
  wider n k x e =
      let c = q - inverse q (suc n) in
      let v : ℕ → ℕ = vanishing q A n in
      let first : vanishing q A (suc n) 0 * x ^ 0 ≡ v 0 * x ^ 0 = ap (λ t. t * x ^ 0) (vanishing_first (suc n) ∙ sym (vanishing_first n)) in
      let next : (l : ℕ) → c * v l * x ^ suc l ≡ c * x * (v l * x ^ l) = λ l. ap (λ t. c * v l * t) (pow-suc x l) ∙ omega arith in
      let term : (l : ℕ) → l < k → (vanishing q A (suc n) (suc l) * x ^ suc l) % q ≡ (v (suc l) * x ^ suc l + c * x * (v l * x ^ l)) % q =
      λ l h.
      let split : (v (suc l) + c * v l) * x ^ suc l ≡ v (suc l) * x ^ suc l + c * v l * x ^ suc l = omega arith in
      ap (λ t. (t * x ^ suc l) % q) (vanishing_inside n l e)
      ∙ mod-mul-mod (v (suc l) + c * v l) (x ^ suc l) q
      ∙ ap (λ t. t % q) (split ∙ ap (λ t. v (suc l) * x ^ suc l + t) (next l)) in
      let rest = sum_below k (λ l. v (suc l) * x ^ suc l) in
      ap (λ t. t % q) (sum_first k (λ l. vanishing q A (suc n) l * x ^ l))
      ∙ add_cong q _ _ _ _ (ap (λ t. t % q) first) (sum_cong q k _ _ term)
      ∙ ap (λ t. t % q)
      (ap (λ t. v 0 * x ^ 0 + t) (sum-add k _ _ ∙ ap (λ t. rest + t) (sym (sum_scale k (c * x) (λ l. v l * x ^ l))))
      ∙ sym (add_assoc (v 0 * x ^ 0) rest _)
      ∙ ap (λ t. t + c * x * up_to n k x) (sym (sum_first k (λ l. v l * x ^ l))))

  -- with more coefficients than boxes of the set the sum is the product
  sum_product : (n k x : ℕ) → members n < k → up_to n k x % q ≡ prod_below n (factor x) % q
  unfolding prod_below
  sum_product zero k x h =
      sum_single q k 0 (λ l. vanishing q A 0 l * x ^ l) (omega arith)
      (λ i l ne. none i ne)
      ∙ ap (λ t. t % q) (ap₂ ◌*◌ (vanishing_first 0) (pow-zero x))
    where
      none : (i : ℕ) → i ≢ 0 → (vanishing q A 0 i * x ^ i) % q ≡ 0
      none zero ne = absurd (ne refl)
      none (suc i) ne = ap (λ t. (t * x ^ suc i) % q) (vanishing_none i) ∙ ap (λ t. t % q) (zero-mul (x ^ suc i)) ∙ zero-mod q
  sum_product (suc n) zero x h = absurd (omega arith)
  sum_product (suc n) (suc k) x h =
      let P = prod_below n (factor x) in
      let c = q - inverse q (suc n) in
      ⊎_elim
      (λ e.
      let m = members_inside n e in
      let here : factor x n ≡ 1 + c * x = rw (add-one n, e) in
      let gathered : P + c * x * P ≡ P * (1 + c * x) = omega arith in
      wider n k x e
      ∙ add_cong q _ P _ (c * x * P)
      (sum_product n (suc k) x (omega arith))
      (mul_cong q (c * x) (c * x) _ P refl (sum_product n k x (omega arith)))
      ∙ ap (λ t. t % q) (gathered ∙ ap (λ t. P * t) (sym here)))
      (λ e.
      let m = members_outside n e in
      let here : factor x n ≡ 1 = rw (add-one n, e) in
      ap (λ t. t % q) (sum_below_same _ _ (suc k) (λ l i. ap (λ t. t * x ^ l) (vanishing_outside n l e)))
      ∙ sum_product n (suc k) x (omega arith)
      ∙ ap (λ t. t % q) (sym (mul-one P) ∙ ap (λ t. P * t) (sym here)))
      (decide (A (suc n)))

-- ---- how each number moves

module _ (u : SetUp) (A : ℕ → Bool) (s s' : ℕ) where
  -- by row and column
  moved_f : (j l : ℕ) → j < u.k → l < u.k → moved u A s s' (0 + (j * u.k + l)) ≡ difference u s s' * (z u A j * z u A l)
  unfolding moved
  moved_f j l hj hl =
      let k = u.k in
      let within = row_within j k hj in
      let lower : j * k + l < k * k = omega arith in
      rw (zero-add (j * k + l), lt-ltb (j * k + l) (k * k) lower, row_of k j l hl, column_of k j l hl)

  moved_f' : (j l : ℕ) → l < u.k → moved u A s s' (u.k * u.k + (j * u.k + l)) ≡ difference' u s s' * (z u A j * z u A l)
  unfolding moved
  moved_f' j l hl =
      let k = u.k in
      let upper : k * k ≤ k * k + (j * k + l) = omega arith in
      let rest : k * k + (j * k + l) - k * k ≡ j * k + l = omega arith in
      rw (le-ltb (k * k + (j * k + l)) (k * k) upper, rest, row_of k j l hl, column_of k j l hl)

  module _ (low : s < order u) (low' : s' < order u) where
    -- back again
    difference'_back : (difference' u s s' + difference' u s' s) % order u ≡ 0
    unfolding difference'
    difference'_back =
        let q = order u in
        let c = q - inverse q (logarithm (group u)) in
        let d = difference u s s' in
        let d' = difference u s' s in
        mod-add-mod (d * c) q _ ∙ add-mod-mod (d * c) (d' * c) q ∙ multiples_zero q d d' c (difference_back q s s' low low')

    moved_back : (v : ℕ) → (moved u A s s' v + moved u A s' s v) % order u ≡ 0
    unfolding moved
    moved_back v =
        ⊎_elim
        (λ e. rw e (multiples_zero (order u) _ _ _ (difference_back (order u) s s' low low')))
        (λ e. rw e (multiples_zero (order u) _ _ _ difference'_back))
        (decide (ltb v (u.k * u.k)))

module _ (u : SetUp) (A : ℕ → Bool) (s s' : ℕ) (coins : List ℕ) where
  length-matching : length (matching u A s s' coins) ≡ 2 * (u.k * u.k) - 1
  unfolding matching
  length-matching = length_singles _ _

  get_or-matching : (c : ℕ) → c < 2 * (u.k * u.k) - 1
      → get_or (matching u A s s' coins) c 0 ≡ (get_or coins c 0 + moved u A s s' (c + 1)) % order u
  unfolding matching
  get_or-matching c l = get_or_singles _ (λ c. (get_or coins c 0 + moved u A s s' (c + 1)) % order u) c 0 l

-- where the coefficients of f move by d z z, those of a and b at j move by d z(j) z
module _ (u : SetUp) (A : ℕ → Bool) (small : u.k ≤ 8) (f f* : List (List Exponent)) (d : ℕ)
    (moves : (j l : ℕ) → j < u.k → l < u.k → coefficient₂ f* j l ≡ (coefficient₂ f j l + d * (z u A j * z u A l)) % order u)
    (j l : ℕ) (hl : l < u.k) where
  along_y_lem : coefficient (along_y (order u) u.k f* j) l
      ≡ (coefficient (along_y (order u) u.k f j) l + d * (z_at u A j * z u A l)) % order u
  unfolding z_at
  along_y_lem =
      along_y_at u.k small (order u) f* j l hl
      ∙ sum_moves (order u) u.k d (z u A l) j (λ i. coefficient₂ f i l) (λ i. coefficient₂ f* i l) (z u A) (λ i hi. moves i l hi hl)
      ∙ ap (λ t. (t + d * (z_at u A j * z u A l)) % order u) (sym (along_y_at u.k small (order u) f j l hl))

  along_x_lem : coefficient (along_x (order u) u.k f* j) l
      ≡ (coefficient (along_x (order u) u.k f j) l + d * (z_at u A j * z u A l)) % order u
  unfolding z_at
  along_x_lem =
      along_x_at u.k small (order u) f* j l hl
      ∙ sum_moves (order u) u.k d (z u A l) j (coefficient₂ f l) (coefficient₂ f* l) (z u A)
      (λ i hi. moves l i hl hi ∙ ap (λ t. (coefficient₂ f l i + d * t) % order u) (mul_comm (z u A l) (z u A i)))
      ∙ ap (λ t. (t + d * (z_at u A j * z u A l)) % order u) (sym (along_x_at u.k small (order u) f j l hl))

-- ---- what it keeps

module _ (u : SetUp) (sound : Sound u) (A : ℕ → Bool) (few : Few u A) (s s' : ℕ) (low : s < order u) (low' : s' < order u) where
  pub z_nought : z_at u A 0 ≡ 1
  unfolding z_at
  z_nought =
      let big = (rule u sound).q_prime.big in
      let low = (size u sound).low in
      ap (λ t. t % order u) (sum_nought u.k (z u A) (omega arith) ∙ vanishing_first (order u) A u.n) ∙ mod-eq_of_lt big

  pub z_on_set : (m : ℕ) → 1 ≤ m → m ≤ u.n → A m ≡ true → z_at u A m ≡ 0
  unfolding z_at
  z_on_set m h l e =
      let q = order u in
      let boxes = (size u sound).boxes in
      let above = (group_sizes u sound.group_keeps_lem).above in
      let here : m - 1 + 1 ≡ m = omega arith in
      let at : factor q A m (m - 1) ≡ 1 + (q - inverse q m) * m =
      ap (λ t. pick (A t) (1 + (q - inverse q t) * m) 1) here ∙ pick_true (A m) _ 1 e in
      sum_product q A u.n u.k m few
      ∙ prod_none q u.n (m - 1) (factor q A m) (omega arith)
      (ap (λ t. t % q) at ∙ one_less q (rule u sound).q_prime m h (omega arith))

  -- a commitment does not see the move
  pub move_unseen : (x y w : ℕ)
      → committed (group u) ((x + difference u s s' * w) % order u) ((y + difference' u s s' * w) % order u) ≡ committed (group u) x y
  unfolding difference'
  move_unseen =
      let q = order u in
      let n = logarithm (group u) in
      let i = inverse q n in
      let d = difference u s s' in
      let some = logarithm_some (group u) (rule u sound) in
      let below = logarithm_below (group u) (rule u sound) in
      let gathered : d + n * (d * (q - i)) ≡ d * (1 + (q - i) * n) = omega arith in
      committed_moves (group u) (rule u sound) d (d * (q - i) % q)
      (add_cong q d d _ _ refl (mul-mod-mod n (d * (q - i)) q)
      ∙ ap (λ t. t % q) gathered
      ∙ mul-zero-mod q d _ (one_less q (rule u sound).q_prime n some below))

  module _ (coins : List ℕ) (keeps : coins_keep u s coins ≡ true) where
    pub matching_keeps : coins_keep u s' (matching u A s s' coins) ≡ true
    unfolding coins_keep
    matching_keeps =
        let q = order u in
        let m = matching u A s s' coins in
        and_intro (ltb s' q) _ (lt-ltb s' q low')
        (and_intro (eqb (length m) (2 * (u.k * u.k) - 1)) _ (eq-eqb (length m) _ (length-matching u A s s' coins))
        (all_below_all (λ c. ltb (get_or m c 0) q) (length m)
        (λ c l.
        let w = length-matching u A s s' coins in
        lt-ltb (get_or m c 0) q (rw (get_or-matching u A s s' coins c (omega arith)) (mod-lt _ (omega arith))))))

    -- one to one and onto: the way back is the same with the secrets exchanged
    pub matching_back : matching u A s' s (matching u A s s' coins) ≡ coins
    matching_back =
        let q = order u in
        let m = matching u A s s' coins in
        ext_get_or 0 (matching u A s' s m) coins (length-matching u A s' s m ∙ sym (coins_count u s coins keeps))
        (λ c l.
        let w = length-matching u A s' s m in
        let lt : c < 2 * (u.k * u.k) - 1 = omega arith in
        let there = moved u A s s' (c + 1) in
        let here = moved u A s' s (c + 1) in
        get_or-matching u A s' s m c lt
        ∙ ap (λ t. (t + here) % q) (get_or-matching u A s s' coins c lt)
        ∙ mod-add-mod (get_or coins c 0 + there) q here
        ∙ ap (λ t. t % q) (add_assoc (get_or coins c 0) there here)
        ∙ add-zero-mod q (get_or coins c 0) _ (moved_back u A s s' low low' (c + 1))
        ∙ mod-eq_of_lt (coin_low u s coins keeps c (omega (arith, coins_count u s coins keeps))))

    -- number v of the secret and the coins behind it
    number_moves : (v : ℕ) → v < 2 * (u.k * u.k)
        → get_or (s' ∷ matching u A s s' coins) v 0 ≡ (get_or (s ∷ coins) v 0 + moved u A s s' v) % order u
    number_moves zero l =
        let some = (size u sound).low in
        let z0 = vanishing_first (order u) A u.n in
        let none : 0 + (0 * u.k + 0) ≡ 0 = omega arith in
        sym (difference_reaches (order u) s s' low low')
        ∙ ap (λ t. (s + t) % order u)
        (sym
        (ap (moved u A s s') (sym none)
        ∙ moved_f u A s s' 0 0 (omega arith) (omega arith)
        ∙ ap (λ t. difference u s s' * (t * t)) z0
        ∙ mul-one (difference u s s')))
    number_moves (suc c) l =
        get_or-matching u A s s' coins c (omega arith) ∙ ap (λ v. (get_or coins c 0 + moved u A s s' v) % order u) (add-one c)

    f_moves : (j l : ℕ) → j < u.k → l < u.k
        → coefficient₂ (f_of u s' (matching u A s s' coins)) j l
        ≡ (coefficient₂ (f_of u s coins) j l + difference u s s' * (z u A j * z u A l)) % order u
    f_moves j l hj hl =
        let small = (size u sound).high in
        let within = row_within j u.k hj in
        f_of_at u small s' (matching u A s s' coins) j l hj hl
        ∙ number_moves (0 + (j * u.k + l)) (omega arith)
        ∙ ap₂ (λ a b. (a + b) % order u) (sym (f_of_at u small s coins j l hj hl)) (moved_f u A s s' j l hj hl)

    f'_moves : (j l : ℕ) → j < u.k → l < u.k
        → coefficient₂ (f'_of u s' (matching u A s s' coins)) j l
        ≡ (coefficient₂ (f'_of u s coins) j l + difference' u s s' * (z u A j * z u A l)) % order u
    f'_moves j l hj hl =
        let small = (size u sound).high in
        let within = row_within j u.k hj in
        f'_of_at u small s' (matching u A s s' coins) j l hj hl
        ∙ number_moves (u.k * u.k + (j * u.k + l)) (omega arith)
        ∙ ap₂ (λ a b. (a + b) % order u) (sym (f'_of_at u small s coins j l hj hl)) (moved_f' u A s s' j l hl)

    pub matching_matrix : dealt_matrix u s' (matching u A s s' coins) ≡ dealt_matrix u s coins
    unfolding commitment
    matching_matrix =
        matrix_same u.k (element 0) _ _
        (λ j l hj hl.
        ap (λ (t : ℕ). element t)
        (ap₂ (committed (group u)) (f_moves j l hj hl) (f'_moves j l hj hl) ∙ move_unseen _ _ (z u A j * z u A l)))

    -- what box j gets moves by δ z(j) z, and δ' z(j) z
    pub matching_sends : (j l : ℕ) → l < u.k
        → (coefficient (dealt_to u s' (matching u A s s' coins) j).a l ≡ (coefficient (dealt_to u s coins j).a l + difference u s s' * (z_at u A j * z u A l)) % order u)
        × (coefficient (dealt_to u s' (matching u A s s' coins) j).a2 l ≡ (coefficient (dealt_to u s coins j).a2 l + difference' u s s' * (z_at u A j * z u A l)) % order u)
        × (coefficient (dealt_to u s' (matching u A s s' coins) j).b l ≡ (coefficient (dealt_to u s coins j).b l + difference u s s' * (z_at u A j * z u A l)) % order u)
        × (coefficient (dealt_to u s' (matching u A s s' coins) j).b2 l ≡ (coefficient (dealt_to u s coins j).b2 l + difference' u s s' * (z_at u A j * z u A l)) % order u)
    unfolding polynomials_of
    matching_sends j l hl =
        let small = (size u sound).high in (
          along_y_lem u A small _ _ _ f_moves j l hl,
          along_y_lem u A small _ _ _ f'_moves j l hl,
          along_x_lem u A small _ _ _ f_moves j l hl,
          along_x_lem u A small _ _ _ f'_moves j l hl,
        )

-- Dealing, checking and interpolation: what passes the three checks, and what k shares give. For any sound numbers of a
-- class; demand 2 without histories.
--
-- In order: an honest deal; points and shares of different boxes; what their numbers give; what passes; what dealt points and
-- shares give; what verified shares open.
-- Assumes nothing.
use Rattle.std.specs.Prelude.{◌≡◌, true, List, map, ℕ, ◌*◌, ◌-◌, ◌%◌, ◌^◌, ◌<◌}
use Rattle.std.proofs.Math.Path.{refl, sym, ap, ap₂}
use Rattle.std.proofs.Common.{subst, ◌∙◌, mod-lt}
use Rattle.std.proofs.Math.Nat.{mod-mod, mod-eq_of_lt}
use native.Mathlib.Omega.{arith}
use Rattle.std.proofs.Math.ListN.{length, get_or, get_or-map}
use Rattle.folds.specs.Below.{sum_below, prod_below}
use Rattle.algebra.specs.Polynomials.{Places}
use Rattle.algebra.specs.Interpolation.{interpolate}
use Rattle.algebra.proofs.Interpolation.{interpolate_cong, interpolate-sum}
use Rattle.algebra.proofs.Commitments.{commit_member, commit_vector_mod}
use Rattle.algebra.proofs.Opening
use Rattle.rules.specs.declared.Element.{Element}
use Rattle.rules.specs.declared.Exponent.{Exponent}
use Rattle.rules.specs.declared.Four.{Four}
use Rattle.rules.specs.declared.Pair.{Pair}
use Rattle.rules.specs.declared.Polynomials.{Polynomials}
use Rattle.rules.specs.declared.SetUp.{SetUp}
use Rattle.rules.specs.Matrices.{entry, coefficient, coefficient₂, α, α', β, β', zero_four}
use Rattle.rules.specs.Dealing.{f_of, f'_of, coins_keep, committed, commitment, along_y, along_x, polynomials_of, value_at, in_group, matrix_passes, polynomials_below, four_below, pair_below, polynomial_check, point_check, share_check, along_column, along_row}
use Rattle.rules.specs.Steps.{Said, through, pair_from, ready_four, echo_four, recovered_from}
use Rattle.rules.specs.Answers.{no_pair}
use Rattle.rules.specs.Laws.Numbers.{Sizes}
use Rattle.rules.proofs.Laws.Numbers.{sizes, GroupRule, group_rule, group_sizes}
use Rattle.rules.proofs.Laws.Matrices.{entry_at, square_some}
use Rattle.rules.proofs.Laws.Dealing.{along_y_at, along_x_at, crossed, first_value, secret_low, coins_count, coin_low, f_first, f'_first}
use Rattle.rules.proofs.Laws.Checks.{in_group_lem, matrix_passes_lem, entry_below, entry_member, column_member, row_member, opened_columns, opened_rows, polynomial_checks, polynomial_columns, polynomial_rows, point_checks, point_α, point_β, polynomials_below_lem, echo_below, ready_below, pair_from_below, l_equation_lem, j_equation_lem, share_equation}
use Rattle.demands.specs.Terms.Dealing.{group, order, Sound, dealt_matrix, dealt_to, dealt_point, dealt_share, none, Different}

-- ---- what numbers of different boxes give

module _ (u : SetUp) (s : Sound u) where
  pub rule : GroupRule (group u)
  rule = group_rule u s.group_keeps_lem

  pub size : Sizes u.n u.t u.k
  size = sizes u.n u.t u.k s.sizes_keep_lem

  pub order_some : 0 < order u
  order_some = let big = rule.q_prime.big in omega arith

  modulus_big : 1 < (group u).p
  modulus_big = rule.p_prime.big

  module _ {A : Type 0} {zero : A} {ps : List (Said A)} {P : ℕ → A → Type 0} (d : Different u zero ps P) where
    abbrev pub box_at : ℕ → ℕ
    box_at i = (get_or ps i (none zero)).box

    abbrev pub say_at : ℕ → A
    say_at i = (get_or ps i (none zero)).says

    -- the boxes are below q
    pub places : Places (order u) u.k box_at
    places =
        record {
          below = λ i l.
              let high = (d.boxes i l).1 in
              let few = size.boxes in
              let above = (group_sizes u s.group_keeps_lem).above in
              omega arith;
          apart = d.apart;
        }

    module _ (number : A → ℕ) (nought : number zero ≡ 0) where
      pub through_boxes : (x : ℕ) → through (order u) ps number x ≡ interpolate (order u) u.k box_at (λ i. number (say_at i)) x
      unfolding through
      through_boxes x =
          ap (λ n. interpolate (order u) n (λ i. get_or (map (λ p. p.box) ps) i 0) (λ i. get_or (map (λ p. number p.says) ps) i 0) x)
          d.count
          ∙ interpolate_cong (order u) u.k _ _ _ _ x
          (λ i l. get_or-map (λ p. p.box) ps i (none zero))
          (λ i l.
          ap (λ t. t % order u)
          (ap (λ t. get_or (map (λ p. number p.says) ps) i t) (sym nought) ∙ get_or-map (λ p. number p.says) ps i (none zero)))

      -- k values of a polynomial give it back at every place
      through_values : (a : List Exponent) → ((i : ℕ) → i < u.k → number (say_at i) ≡ value_at (order u) u.k a (box_at i))
          → (x : ℕ) → through (order u) ps number x ≡ value_at (order u) u.k a x
      unfolding value_at
      through_values a fits x =
          through_boxes x
          ∙ interpolate-sum (order u) rule.q_prime u.k box_at places (λ i. number (say_at i)) (coefficient a)
          (λ i l. ap (λ t. t % order u) (fits i l) ∙ mod-mod _ (order u)) x

    -- k pairs that fit commitments c open what these give at every place, and at 0 the first
    module _ (c : ℕ → ℕ) (members : (j : ℕ) → j < u.k → c j ^ order u % (group u).p ≡ 1) (number number' : A → ℕ)
        (nought : number zero ≡ 0) (nought' : number' zero ≡ 0)
        (fits : (i : ℕ) → i < u.k
        → committed (group u) (number (say_at i)) (number' (say_at i)) ≡ prod_below u.k (λ j. c j ^ (box_at i ^ j)) % (group u).p)
      where
        through_opens : (x : ℕ)
            → committed (group u) (through (order u) ps number x) (through (order u) ps number' x)
            ≡ prod_below u.k (λ j. c j ^ (x ^ j)) % (group u).p
        unfolding committed
        through_opens x =
            ap₂ (committed (group u)) (through_boxes number nought x) (through_boxes number' nought' x)
            ∙ Opening.shares_open_at (order u) (group u).p rule.q_prime (group u).g.0 (group u).h.0
            rule.g_order.power rule.h_order.power
            u.k c members box_at places (λ i. number (say_at i)) (λ i. number' (say_at i)) fits x

        through_opens_first :
            committed (group u) (through (order u) ps number 0) (through (order u) ps number' 0) ≡ c 0 % (group u).p
        unfolding committed
        through_opens_first =
            let low = size.low in
            ap₂ (committed (group u)) (through_boxes number nought 0) (through_boxes number' nought' 0)
            ∙ Opening.shares_open (order u) (group u).p rule.q_prime (group u).g.0 (group u).h.0
            rule.g_order.power rule.h_order.power
            u.k c members box_at places (λ i. number (say_at i)) (λ i. number' (say_at i)) fits (omega arith)

  -- sums of exponents fit the product of the commitments c
  sums_open : (c t t' e : ℕ → ℕ) → ((i : ℕ) → i < u.k → c i % (group u).p ≡ committed (group u) (t i) (t' i))
      → committed (group u) (sum_below u.k (λ i. t i * e i) % order u) (sum_below u.k (λ i. t' i * e i) % order u)
      ≡ prod_below u.k (λ i. c i ^ e i) % (group u).p
  unfolding committed
  sums_open c t t' e fits =
      sym
      (commit_vector_mod (group u).p (group u).g.0 (group u).h.0 (order u) rule.g_order.power rule.h_order.power
      u.k e c t t' fits)

  -- coefficients that fit commitments c have values that fit what these give
  values_open : (c : ℕ → ℕ) (a a2 : List Exponent)
      → ((l : ℕ) → l < u.k → committed (group u) (coefficient a l) (coefficient a2 l) ≡ c l % (group u).p)
      → (x : ℕ) → committed (group u) (value_at (order u) u.k a x) (value_at (order u) u.k a2 x)
      ≡ prod_below u.k (λ l. c l ^ (x ^ l)) % (group u).p
  unfolding value_at
  values_open c a a2 fits x = sums_open c (coefficient a) (coefficient a2) (λ l. x ^ l) (λ l h. sym (fits l h))

-- ---- what passes

module _ (u : SetUp) (s : Sound u) where
  -- the coefficients of a and b are remainders
  module _ (f : List (List Exponent)) (j l : ℕ) (hl : l < u.k) where
    below_y : coefficient (along_y (order u) u.k f j) l < order u
    below_y = subst (λ (n : ℕ). n < order u) (sym (along_y_at u.k (size u s).high (order u) f j l hl)) (mod-lt _ (order_some u s))

    below_x : coefficient (along_x (order u) u.k f j) l < order u
    below_x = subst (λ (n : ℕ). n < order u) (sym (along_x_at u.k (size u s).high (order u) f j l hl)) (mod-lt _ (order_some u s))

  module _ (f f' : List (List Exponent)) where
    abbrev dealt : List (List Element)
    dealt = commitment (group u) u.k f f'

    entry_dealt : (j l : ℕ) → j < u.k → l < u.k → entry dealt j l ≡ committed (group u) (coefficient₂ f j l) (coefficient₂ f' j l)
    unfolding commitment
    entry_dealt = entry_at u.k (λ j l. committed (group u) (coefficient₂ f j l) (coefficient₂ f' j l)) (size u s).high

    entry_open : (j l : ℕ) → j < u.k → l < u.k
        → entry dealt j l % (group u).p ≡ committed (group u) (coefficient₂ f j l) (coefficient₂ f' j l)
    unfolding committed
    entry_open j l hj hl = ap (λ x. x % (group u).p) (entry_dealt j l hj hl) ∙ mod-mod _ (group u).p

    dealt_passes : matrix_passes (group u) u.k dealt ≡ true
    unfolding committed
    dealt_passes =
        let big = modulus_big u s in
        matrix_passes_lem (group u) u.k dealt
        (λ j l hj hl.
        ap (in_group (group u)) (entry_dealt j l hj hl)
        ∙ in_group_lem (group u) _ (order_some u s) (mod-lt _ (omega arith))
        (commit_member (group u).p (group u).g.0 (group u).h.0 (order u)
        (rule u s).g_order.power (rule u s).h_order.power _ _))

    dealt_fits : (j : ℕ) → polynomial_check (group u) u.k dealt j (polynomials_of (order u) u.k f f' j) ≡ true
    unfolding polynomials_of
    dealt_fits j =
        let k = u.k in
        let q = order u in
        let small = (size u s).high in
        polynomial_checks (group u) k dealt j (polynomials_of q k f f' j)
        (λ l hl. (l_equation_lem (group u) k dealt j (polynomials_of q k f f' j) l).1
        (ap₂ (committed (group u)) (along_y_at k small q f j l hl) (along_y_at k small q f' j l hl)
        ∙ sums_open u s (λ i. entry dealt i l) (λ i. coefficient₂ f i l) (λ i. coefficient₂ f' i l) (λ i. j ^ i)
        (λ i hi. entry_open i l hi hl)))
        (λ l hl. (j_equation_lem (group u) k dealt j (polynomials_of q k f f' j) l).1
        (ap₂ (committed (group u)) (along_x_at k small q f j l hl) (along_x_at k small q f' j l hl)
        ∙ sums_open u s (entry dealt l) (coefficient₂ f l) (coefficient₂ f' l) (λ i. j ^ i) (λ i hi. entry_open l i hl hi)))

  -- the sends of an honest deal
  pub send_passes : (secret : ℕ) (coins : List ℕ) → coins_keep u secret coins ≡ true → (j : ℕ)
      → (matrix_passes (group u) u.k (dealt_matrix u secret coins) ≡ true)
      × (polynomials_below (order u) u.k (dealt_to u secret coins j) ≡ true)
      × (polynomial_check (group u) u.k (dealt_matrix u secret coins) j (dealt_to u secret coins j) ≡ true)
  unfolding polynomials_of
  send_passes secret coins keeps j =
      let f = f_of u secret coins in
      let f' = f'_of u secret coins in (
        dealt_passes f f',
        polynomials_below_lem (order u) u.k (dealt_to u secret coins j) (below_y f j) (below_y f' j) (below_x f j) (below_x f' j),
        dealt_fits f f' j,
      )

  module _ (C : List (List Element)) (passes : matrix_passes (group u) u.k C ≡ true) where
    -- what box i sends to box j when its polynomials pass, whoever dealt
    pub echo_passes : (i j : ℕ) (P : Polynomials) → polynomial_check (group u) u.k C i P ≡ true
        → (four_below (order u) (echo_four (order u) u.k P j) ≡ true)
        × (point_check (group u) u.k C j i (echo_four (order u) u.k P j) ≡ true)
    unfolding echo_four
    echo_passes i j P check =
        let q = order u in
        let k = u.k in (
          echo_below q (order_some u s) k P j,
          point_checks (group u) k C j i (echo_four q k P j)
              (values_open u s (along_column k C i) P.a P.a2 (polynomial_columns (group u) k C i P check) j
              ∙ sym (opened_columns (group u) k C i j))
              (values_open u s (along_row k C i) P.b P.b2 (polynomial_rows (group u) k C i P check) j
              ∙ sym (opened_rows (group u) k C j i)),
        )

    module _ (i : ℕ) (ps : List (Said Four)) (d : Different u zero_four ps (λ m f. point_check (group u) u.k C i m f ≡ true)) where
      -- β, β' of the points fit the columns at i, and α, α' the rows
      fits_β : (m : ℕ) → m < u.k → committed (group u) (β (say_at u s d m)) (β' (say_at u s d m))
          ≡ prod_below u.k (λ l. along_column u.k C i l ^ (box_at u s d m ^ l)) % (group u).p
      fits_β m l = point_β (group u) u.k C i _ _ (d.each m l) ∙ opened_columns (group u) u.k C i _

      fits_α : (m : ℕ) → m < u.k → committed (group u) (α (say_at u s d m)) (α' (say_at u s d m))
          ≡ prod_below u.k (λ j. along_row u.k C i j ^ (box_at u s d m ^ j)) % (group u).p
      fits_α m l = point_α (group u) u.k C i _ _ (d.each m l) ∙ opened_rows (group u) u.k C _ i

      -- what box i sends to box j from k points that pass, whoever sent them
      pub ready_passes : (j : ℕ)
          → (four_below (order u) (ready_four (order u) ps j) ≡ true)
          × (point_check (group u) u.k C j i (ready_four (order u) ps j) ≡ true)
      unfolding ready_four
      ready_passes j =
          let q = order u in
          let k = u.k in (
            ready_below q (order_some u s) ps j,
            point_checks (group u) k C j i (ready_four q ps j)
                (through_opens u s d (along_column k C i)
                (column_member (group u) k C passes (modulus_big u s) i) β β' refl refl fits_β j
                ∙ sym (opened_columns (group u) k C i j))
                (through_opens u s d (along_row k C i)
                (row_member (group u) k C passes (modulus_big u s) i) α α' refl refl fits_α j
                ∙ sym (opened_rows (group u) k C j i)),
          )

      -- and the share that it keeps
      pub share_passes : (pair_below (order u) (pair_from (order u) ps) ≡ true) × (share_check (group u) u.k C i (pair_from (order u) ps) ≡ true)
      unfolding pair_from
      share_passes = (
        pair_from_below (order u) (order_some u s) ps,
        (share_equation (group u) u.k C i (pair_from (order u) ps)).1
            (through_opens_first u s d (along_column u.k C i)
            (column_member (group u) u.k C passes (modulus_big u s) i) β β' refl refl fits_β),
      )

  -- ---- what dealt points and shares give

  module _ (secret : ℕ) (coins : List ℕ) (c : coins_keep u secret coins ≡ true) where
    -- k dealt points give the dealt polynomials back: what box i sends to j, and its share
    pub points_give : (i : ℕ) (ps : List (Said Four)) → Different u zero_four ps (λ m f. f ≡ dealt_point u secret coins m i)
        → ((j : ℕ) → ready_four (order u) ps j ≡ dealt_point u secret coins i j) × (pair_from (order u) ps ≡ dealt_share u secret coins i)
    unfolding polynomials_of echo_four ready_four pair_from
    points_give i ps d =
        let q = order u in
        let k = u.k in
        let small = (size u s).high in
        let f = f_of u secret coins in
        let f' = f'_of u secret coins in
        let a : (j : ℕ) → through q ps β j ≡ value_at q k (along_y q k f i) j =
        through_values u s d β refl (along_y q k f i) (λ m l. ap β (d.each m l) ∙ sym (crossed k small q f i _)) in
        let a' : (j : ℕ) → through q ps β' j ≡ value_at q k (along_y q k f' i) j =
        through_values u s d β' refl (along_y q k f' i) (λ m l. ap β' (d.each m l) ∙ sym (crossed k small q f' i _)) in
        let b : (j : ℕ) → through q ps α j ≡ value_at q k (along_x q k f i) j =
        through_values u s d α refl (along_x q k f i) (λ m l. ap α (d.each m l) ∙ crossed k small q f _ i) in
        let b' : (j : ℕ) → through q ps α' j ≡ value_at q k (along_x q k f' i) j =
        through_values u s d α' refl (along_x q k f' i) (λ m l. ap α' (d.each m l) ∙ crossed k small q f' _ i) in
        (λ j. rw (a j, a' j, b j, b' j), rw (a 0, a' 0))

    -- any k dealt shares give f(0, 0), f'(0, 0), the first of which is the secret
    pub shares_give : (ps : List (Said Pair)) → Different u no_pair ps (λ m x. x ≡ dealt_share u secret coins m)
        → ((recovered_from (order u) ps).first.0 ≡ secret) × ((recovered_from (order u) ps).second.0 ≡ get_or coins (u.k * u.k - 1) 0)
    unfolding polynomials_of recovered_from
    shares_give ps d =
        let q = order u in
        let k = u.k in
        let small = (size u s).high in
        let low = (size u s).low in
        let some : 0 < k = omega arith in
        let f = f_of u secret coins in
        let f' = f'_of u secret coins in
        let coin : k * k - 1 < length coins = omega (arith, coins_count u secret coins c, square_some k some) in (
          through_values u s d (λ x. x.first.0) refl (along_x q k f 0)
              (λ m l. ap (λ (x : Pair). x.first.0) (d.each m l) ∙ crossed k small q f _ 0) 0
              ∙ first_value k small q f some
              ∙ ap (λ t. t % q) (f_first u some small secret coins)
              ∙ mod-eq_of_lt (secret_low u secret coins c),
          through_values u s d (λ x. x.second.0) refl (along_x q k f' 0)
              (λ m l. ap (λ (x : Pair). x.second.0) (d.each m l) ∙ crossed k small q f' _ 0) 0
              ∙ first_value k small q f' some
              ∙ ap (λ t. t % q) (f'_first u some small secret coins)
              ∙ mod-eq_of_lt (coin_low u secret coins c _ coin),
        )

  -- ---- what verified shares open

  -- any k shares that pass open the first entry, whoever dealt and whoever lied
  pub shares_open : (C : List (List Element)) → matrix_passes (group u) u.k C ≡ true → (ps : List (Said Pair))
      → Different u no_pair ps (λ m x. share_check (group u) u.k C m x ≡ true)
      → committed (group u) (recovered_from (order u) ps).first.0 (recovered_from (order u) ps).second.0 ≡ entry C 0 0
  unfolding recovered_from
  shares_open C passes ps d =
      let k = u.k in
      let low = (size u s).low in
      let some : 0 < k = omega arith in
      through_opens_first u s d (λ j. entry C j 0) (λ j l. entry_member (group u) k C passes j 0 l some)
      (λ x. x.first.0) (λ x. x.second.0) refl refl (λ m l. (share_equation (group u) k C _ _).0 (d.each m l))
      ∙ mod-eq_of_lt (entry_below (group u) k C passes 0 0 some some)

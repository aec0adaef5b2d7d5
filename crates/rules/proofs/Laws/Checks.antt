-- The checks: what the tests of a matrix, of polynomials, points and shares come to.
--
-- In order: an equation; the entries of a matrix; the products of its entries along a column and along a row, and the product
-- at (x, y) out of these; the equations and the three checks; exponents below q, and those that a box computes.
-- Assumes nothing.
use Rattle.std.specs.Prelude.{◌≡◌, true, List, ◌↔◌, eqb, length}
use Rattle.std.proofs.Math.Path.{sym, ap}
use Rattle.std.proofs.Common.{◌∙◌}
use Rattle.std.proofs.Math.Bool.{not}
use Prim.Native.Nat.{ℕ, suc, ◌-◌, ◌%◌, ◌^◌, ◌<◌}
use Rattle.std.proofs.Math.Nat.{mul-zero, pow-suc, zero-mod}
use native.Mathlib.Omega.{arith}
use Rattle.std.proofs.Math.Dec.{ltb}
use borrow.Author.Tests.{ltb-true, eqb-true, lt-ltb, eq-eqb, ne_eqb}
use Rattle.folds.specs.Tests.{and_left, and_right, and_intro}
use Rattle.folds.specs.Below.{all_below, prod_below, all_below_at, all_below_all}
use Rattle.algebra.proofs.Commitments.{prod_rows, prod_columns, prod_member}
use Rattle.algebra.proofs.Interpolation.{interpolate_below}
use Rattle.rules.specs.declared.Element.{Element}
use Rattle.rules.specs.declared.Exponent.{Exponent}
use Rattle.rules.specs.declared.Four.{Four}
use Rattle.rules.specs.declared.Group.{Group}
use Rattle.rules.specs.declared.Pair.{Pair}
use Rattle.rules.specs.declared.Polynomials.{Polynomials}
use Rattle.rules.specs.Matrices.{entry, coefficient, α, α', β, β'}
use Rattle.rules.specs.Dealing.{committed, in_group, matrix_passes, coefficients_below, polynomials_below, four_below, pair_below, opens, along_column, along_row, l_equation, j_equation, polynomial_check, opened_at, α_equation, β_equation, point_check, σ_equation, share_check}
use Rattle.rules.specs.Steps.{Said, through, pair_from, ready_four, echo_four, recovered_from}
use Rattle.rules.proofs.Laws.Dealing.{value_below}

-- ---- an equation of a check

pub opened_by : (G : Group) (x y e : ℕ) → (opens G x y e ≡ true) ↔ (committed G x y ≡ e)
unfolding opens
opened_by G x y e = (eqb-true (committed G x y) e, eq-eqb (committed G x y) e)

-- ---- the entries

module _ (G : Group) where
  -- A member below p is in the group: it is not 0, as no power of 0 is 1.
  pub in_group_lem : (e : ℕ) → 0 < G.q → e < G.p → e ^ G.q % G.p ≡ 1 → in_group G e ≡ true
  unfolding in_group
  in_group_lem e some low member =
      let more : G.q ≡ suc (G.q - 1) = omega arith in
      let none : 0 ^ G.q % G.p ≡ 0 =
      ap (λ t. t % G.p) (ap (λ t. 0 ^ t) more ∙ pow-suc 0 (G.q - 1) ∙ mul-zero (0 ^ (G.q - 1))) ∙ zero-mod G.p in
      and_intro (not (eqb e 0)) _
      (ap not (ne_eqb e 0 (λ z. let w : 1 ≡ 0 = sym member ∙ ap (λ t. t ^ G.q % G.p) z ∙ none in omega arith)))
      (and_intro (ltb e G.p) _ (lt-ltb e G.p low) (eq-eqb (e ^ G.q % G.p) 1 member))

  pub matrix_passes_lem : (k : ℕ) (C : List (List Element)) → ((j l : ℕ) → j < k → l < k → in_group G (entry C j l) ≡ true)
      → matrix_passes G k C ≡ true
  unfolding matrix_passes
  matrix_passes_lem k C h =
      all_below_all (λ j. all_below k (λ l. in_group G (entry C j l))) k
      (λ j hj. all_below_all (λ l. in_group G (entry C j l)) k (λ l hl. h j l hj hl))

module _ (G : Group) (k : ℕ) (C : List (List Element)) where
  module _ (passes : matrix_passes G k C ≡ true) where
    pub entry_in : (j l : ℕ) → j < k → l < k → in_group G (entry C j l) ≡ true
    unfolding matrix_passes
    entry_in j l hj hl =
        all_below_at (λ l. in_group G (entry C j l)) k l (all_below_at (λ j. all_below k (λ l. in_group G (entry C j l))) k j passes hj) hl

    pub entry_below : (j l : ℕ) → j < k → l < k → entry C j l < G.p
    unfolding in_group
    entry_below j l hj hl =
        let e = entry C j l in
        ltb-true e G.p (and_left (ltb e G.p) _ (and_right (not (eqb e 0)) _ (entry_in j l hj hl)))

    pub entry_member : (j l : ℕ) → j < k → l < k → entry C j l ^ G.q % G.p ≡ 1
    unfolding in_group
    entry_member j l hj hl =
        let e = entry C j l in
        eqb-true (e ^ G.q % G.p) 1 (and_right (ltb e G.p) _ (and_right (not (eqb e 0)) _ (entry_in j l hj hl)))

    -- The products are members too.
    pub column_member : 1 < G.p → (i l : ℕ) → l < k → along_column k C i l ^ G.q % G.p ≡ 1
    column_member big i l hl = prod_member G.q G.p k (λ j. entry C j l) (λ j hj. entry_member j l hj hl) big (λ j. i ^ j)

    pub row_member : 1 < G.p → (i j : ℕ) → j < k → along_row k C i j ^ G.q % G.p ≡ 1
    row_member big i j hj = prod_member G.q G.p k (entry C j) (λ l hl. entry_member j l hj hl) big (λ l. i ^ l)

  -- The product at (x, y) is made of the columns' products, and of the rows'.
  pub opened_columns : (x y : ℕ) → opened_at G k C x y ≡ prod_below k (λ l. along_column k C x l ^ (y ^ l)) % G.p
  unfolding opened_at
  opened_columns x y = ap (λ t. t % G.p) (prod_columns k k (λ j. x ^ j) (λ l. y ^ l) (entry C))

  pub opened_rows : (x y : ℕ) → opened_at G k C x y ≡ prod_below k (λ j. along_row k C y j ^ (x ^ j)) % G.p
  unfolding opened_at
  opened_rows x y = ap (λ t. t % G.p) (prod_rows k k (λ j. x ^ j) (λ l. y ^ l) (entry C))

  -- ---- the equations

  module _ (i : ℕ) (P : Polynomials) where
    pub l_equation_lem : (l : ℕ) → (l_equation G k C i P l ≡ true) ↔ (committed G (coefficient P.a l) (coefficient P.a2 l) ≡ along_column k C i l % G.p)
    unfolding l_equation
    l_equation_lem l = opened_by G _ _ _

    pub j_equation_lem : (j : ℕ) → (j_equation G k C i P j ≡ true) ↔ (committed G (coefficient P.b j) (coefficient P.b2 j) ≡ along_row k C i j % G.p)
    unfolding j_equation
    j_equation_lem j = opened_by G _ _ _

    -- ---- the checks

    pub polynomial_checks : ((l : ℕ) → l < k → l_equation G k C i P l ≡ true) → ((j : ℕ) → j < k → j_equation G k C i P j ≡ true)
        → polynomial_check G k C i P ≡ true
    unfolding polynomial_check
    polynomial_checks h h' = and_intro _ _ (all_below_all _ k h) (all_below_all _ k h')

    module _ (passes : polynomial_check G k C i P ≡ true) where
      pub polynomial_columns : (l : ℕ) → l < k → committed G (coefficient P.a l) (coefficient P.a2 l) ≡ along_column k C i l % G.p
      unfolding polynomial_check
      polynomial_columns l hl = (l_equation_lem l).0 (all_below_at (l_equation G k C i P) k l (and_left _ _ passes) hl)

      pub polynomial_rows : (j : ℕ) → j < k → committed G (coefficient P.b j) (coefficient P.b2 j) ≡ along_row k C i j % G.p
      unfolding polynomial_check
      polynomial_rows j hj = (j_equation_lem j).0 (all_below_at (j_equation G k C i P) k j (and_right (all_below k (l_equation G k C i P)) _ passes) hj)

  module _ (i m : ℕ) (f : Four) where
    pub point_checks : committed G (α f) (α' f) ≡ opened_at G k C m i → committed G (β f) (β' f) ≡ opened_at G k C i m
        → point_check G k C i m f ≡ true
    unfolding point_check α_equation β_equation
    point_checks h h' = and_intro _ _ ((opened_by G _ _ _).1 h) ((opened_by G _ _ _).1 h')

    pub point_α : point_check G k C i m f ≡ true → committed G (α f) (α' f) ≡ opened_at G k C m i
    unfolding point_check α_equation
    point_α h = (opened_by G _ _ _).0 (and_left (α_equation G k C i m f) _ h)

    pub point_β : point_check G k C i m f ≡ true → committed G (β f) (β' f) ≡ opened_at G k C i m
    unfolding point_check β_equation
    point_β h = (opened_by G _ _ _).0 (and_right (α_equation G k C i m f) _ h)

  -- the share check is its one equation
  pub share_equation : (m : ℕ) (s : Pair) → (share_check G k C m s ≡ true) ↔ (committed G s.first.0 s.second.0 ≡ along_column k C m 0 % G.p)
  unfolding share_check σ_equation
  share_equation m s = opened_by G _ _ _

-- ---- exponents below q

module _ (q : ℕ) where
  pub coefficients_below_lem : (k : ℕ) (a : List Exponent) → ((l : ℕ) → l < k → coefficient a l < q) → coefficients_below q k a ≡ true
  unfolding coefficients_below
  coefficients_below_lem k a h = all_below_all (λ l. ltb (coefficient a l) q) k (λ l hl. lt-ltb (coefficient a l) q (h l hl))

  pub polynomials_below_lem : (k : ℕ) (P : Polynomials) → ((l : ℕ) → l < k → coefficient P.a l < q)
      → ((l : ℕ) → l < k → coefficient P.a2 l < q) → ((l : ℕ) → l < k → coefficient P.b l < q)
      → ((l : ℕ) → l < k → coefficient P.b2 l < q) → polynomials_below q k P ≡ true
  unfolding polynomials_below
  polynomials_below_lem k P a a2 b b2 =
      and_intro _ _ (coefficients_below_lem k P.a a)
      (and_intro _ _ (coefficients_below_lem k P.a2 a2)
      (and_intro _ _ (coefficients_below_lem k P.b b) (coefficients_below_lem k P.b2 b2)))

  pub four_below_lem : (f : Four) → α f < q → α' f < q → β f < q → β' f < q → four_below q f ≡ true
  unfolding four_below
  four_below_lem f a a2 b b2 =
      and_intro _ _ (lt-ltb (α f) q a) (and_intro _ _ (lt-ltb (α' f) q a2) (and_intro _ _ (lt-ltb (β f) q b) (lt-ltb (β' f) q b2)))

  pub pair_below_lem : (s : Pair) → s.first.0 < q → s.second.0 < q → pair_below q s ≡ true
  unfolding pair_below
  pair_below_lem s a b = and_intro _ _ (lt-ltb s.first.0 q a) (lt-ltb s.second.0 q b)

  pub four_lows : (f : Four) → four_below q f ≡ true → (α f < q) × (α' f < q) × (β f < q) × (β' f < q)
  unfolding four_below
  four_lows f b =
      let b1 = and_right (ltb (α f) q) _ b in
      let b2 = and_right (ltb (α' f) q) _ b1 in
      let b3 = and_right (ltb (β f) q) _ b2 in
      (ltb-true _ _ (and_left _ _ b), ltb-true _ _ (and_left _ _ b1), ltb-true _ _ (and_left _ _ b2), ltb-true _ _ b3)

  pub pair_lows : (s : Pair) → pair_below q s ≡ true → (s.first.0 < q) × (s.second.0 < q)
  unfolding pair_below
  pair_lows s b = (ltb-true _ _ (and_left _ _ b), ltb-true _ _ (and_right (ltb s.first.0 q) _ b))

  -- what is computed from coefficients, and what is interpolated
  module _ (some : 0 < q) where
    pub echo_below : (k : ℕ) (P : Polynomials) (j : ℕ) → four_below q (echo_four q k P j) ≡ true
    unfolding echo_four
    echo_below k P j =
        four_below_lem (echo_four q k P j)
        (value_below q k P.a j some) (value_below q k P.a2 j some) (value_below q k P.b j some) (value_below q k P.b2 j some)

    pub through_below : {A : Type 0} (ps : List (Said A)) (number : A → ℕ) (x : ℕ) → through q ps number x < q
    unfolding through
    through_below ps number x = interpolate_below q (length ps) _ _ x some

    pub ready_below : (ps : List (Said Four)) (j : ℕ) → four_below q (ready_four q ps j) ≡ true
    unfolding ready_four
    ready_below ps j =
        four_below_lem (ready_four q ps j) (through_below ps β j) (through_below ps β' j) (through_below ps α j) (through_below ps α' j)

    pub pair_from_below : (ps : List (Said Four)) → pair_below q (pair_from q ps) ≡ true
    unfolding pair_from
    pair_from_below ps = pair_below_lem (pair_from q ps) (through_below ps β 0) (through_below ps β' 0)

    pub recovered_below : (ps : List (Said Pair)) → pair_below q (recovered_from q ps) ≡ true
    unfolding recovered_from
    recovered_below ps =
        pair_below_lem (recovered_from q ps) (through_below ps (λ s. s.first.0) 0) (through_below ps (λ s. s.second.0) 0)

-- Folds over the indices below a bound, with the laws that a loop which counts up uses.
--
-- In order: `all_below`, `any_below`, `first_from`, `count_below`, `sum_below`, `prod_below`, `fold_below`. Each has `-zero` (the
-- loop starts), `_more` (one turn) and the laws of its ways out. The laws over a whole range stand behind them: what a fold
-- says of each index, tests that agree at each, what a store in the list that it reads keeps, what one more index adds.
-- Not here: how sums and products are joined, split and exchanged (`algebra`).
-- Assumes nothing.
use Prim.Native.Nat.{ℕ, zero, suc, ◌+◌, ◌-◌, ◌*◌, ◌<◌, ◌≤◌}
use Rattle.std.proofs.Common.{le_of_suc-le-suc, not-suc-le-zero, eq-or-lt_of_le, add-one, inl, inr, ◌∙◌, get_or-set_same, get_or-set_other}
use Rattle.std.proofs.Math.Decide.{ℕ_discrete, dec_lt}
use native.Mathlib.Omega.{arith}
use Rattle.std.specs.Prelude.{Bool, Option, Some, None, ltb, List, ◌⊎◌, ◌≡◌, length, get_or, set}
use Rattle.std.proofs.Math.Bool.{true, false}
use Rattle.std.proofs.Math.Logic.{⊎_elim}
use Rattle.std.proofs.Math.Path.{refl, sym, ap, ap₂}
use Rattle.folds.specs.Tests.{◌and◌, ◌or◌, pick, and_left, and_right, and_intro, and_false, true≢false, not_true_and_false, or_cases, or_left, or_right, false_unless}

-- every index below n passes p
unfoldable pub all_below : ℕ → (ℕ → Bool) → Bool
all_below zero p = true
all_below (suc n) p = p n and all_below n p

-- some index below n passes p
unfoldable pub any_below : ℕ → (ℕ → Bool) → Bool
any_below zero p = false
any_below (suc n) p = p n or any_below n p

-- the lowest index from i on, at most n further, that passes p; else the one behind
unfoldable pub first_from : ℕ → ℕ → (ℕ → Bool) → ℕ
first_from zero i p = i
first_from (suc n) i p = let r = first_from n (i + 1) p in pick (p i) i r

-- the lowest index below n that passes p, if there is one
abbrev pub found : ℕ → (ℕ → Bool) → Option ℕ
found n p = pick (ltb (first_from n 0 p) n) (Some (first_from n 0 p)) None

-- how many indices below n pass p
unfoldable pub count_below : ℕ → (ℕ → Bool) → ℕ
count_below zero p = 0
count_below (suc n) p = count_below n p + pick (p n) 1 0

-- f 0 + f 1 + .. + f (n - 1)
unfoldable pub sum_below : ℕ → (ℕ → ℕ) → ℕ
sum_below zero f = 0
sum_below (suc n) f = sum_below n f + f n

-- f 0 * f 1 * .. * f (n - 1)
unfoldable pub prod_below : ℕ → (ℕ → ℕ) → ℕ
prod_below zero f = 1
prod_below (suc n) f = prod_below n f * f n

-- a loop's state: a, then f 0, f 1, .. f (n - 1) one after the other
unfoldable pub fold_below : {A : Type 0} → ℕ → (ℕ → A → A) → A → A
fold_below zero f a = a
fold_below (suc n) f a = f n (fold_below n f a)

module _ (p : ℕ → Bool) where
  -- ---- all_below

  pub all_below-zero : all_below 0 p ≡ true
  unfolding all_below
  all_below-zero = refl

  pub all_below_more : (i : ℕ) → all_below i p ≡ true → p i ≡ true → all_below (i + 1) p ≡ true
  unfolding all_below
  all_below_more i h e = rw (add-one i, e) h

  pub all_below_not : (n i : ℕ) → i < n → p i ≡ false → all_below n p ≡ false
  unfolding all_below
  all_below_not zero i l e = absurd (not-suc-le-zero l)
  all_below_not (suc n) i l e =
      ⊎_elim
      (λ q. ap (λ (b : Bool). b and all_below n p) (sym (ap p q) ∙ e))
      (λ lt. rw (all_below_not n i lt e) (and_false (p n)))
      (eq-or-lt_of_le (le_of_suc-le-suc l))

  -- it holds at each index, and if it holds at each it holds
  pub all_below_at : (n i : ℕ) → all_below n p ≡ true → i < n → p i ≡ true
  unfolding all_below
  all_below_at zero i h l = absurd (not-suc-le-zero l)
  all_below_at (suc n) i h l =
      ⊎_elim
      (λ e. ap p e ∙ and_left (p n) (all_below n p) h)
      (λ lt. all_below_at n i (and_right (p n) (all_below n p) h) lt)
      (eq-or-lt_of_le (le_of_suc-le-suc l))

  pub all_below_all : (n : ℕ) → ((i : ℕ) → i < n → p i ≡ true) → all_below n p ≡ true
  unfolding all_below
  all_below_all zero h = refl
  all_below_all (suc n) h = and_intro (p n) (all_below n p) (h n (omega arith)) (all_below_all n (λ i l. h i (omega arith)))

  -- where not every index passes there is one that fails
  pub all_below_fails : (n : ℕ) → all_below n p ≡ false → (i : ℕ) × (i < n) × (p i ≡ false)
  unfolding all_below
  all_below_fails zero h = absurd (true≢false h)
  all_below_fails (suc n) h = go (all_below_fails n) (p n) refl h
    where
      go : (all_below n p ≡ false → (i : ℕ) × (i < n) × (p i ≡ false)) → (b : Bool) → p n ≡ b → b and all_below n p ≡ false → (i : ℕ) × (i < suc n) × (p i ≡ false)
      go ih true e g = let w = ih g in (w.0, (let z = w.1 in omega arith), w.2)
      go ih false e g = (n, omega arith, e)

  pub all_below_same : (q : ℕ → Bool) (n : ℕ) → ((i : ℕ) → i < n → p i ≡ q i) → all_below n p ≡ all_below n q
  unfolding all_below
  all_below_same q zero h = refl
  all_below_same q (suc n) h = ap₂ ◌and◌ (h n (omega arith)) (all_below_same q n (λ i l. h i (omega arith)))

  -- ---- anyBelow

  pub any_below-zero : any_below 0 p ≡ false
  unfolding any_below
  any_below-zero = refl

  pub any_below_more : (i : ℕ) → any_below i p ≡ false → p i ≡ false → any_below (i + 1) p ≡ false
  unfolding any_below
  any_below_more i h e = rw (add-one i, e) h

  -- an index that passes, and one where some does
  pub any_below_here : (n i : ℕ) → i < n → p i ≡ true → any_below n p ≡ true
  unfolding any_below
  any_below_here zero i l e = absurd (not-suc-le-zero l)
  any_below_here (suc n) i l e =
      ⊎_elim
      (λ q. or_left (p n) (any_below n p) (sym (ap p q) ∙ e))
      (λ lt. or_right (p n) (any_below n p) (any_below_here n i lt e))
      (eq-or-lt_of_le (le_of_suc-le-suc l))

  pub any_below_some : (n : ℕ) → any_below n p ≡ true → (i : ℕ) × (i < n) × (p i ≡ true)
  unfolding any_below
  any_below_some zero h = absurd (true≢false (sym h))
  any_below_some (suc n) h =
      ⊎_elim
      (λ e. (n, omega arith, e))
      (λ e. let w = any_below_some n e in (w.0, (let z = w.1 in omega arith), w.2))
      (or_cases (p n) (any_below n p) h)

  pub any_below_none : (n : ℕ) → ((i : ℕ) → i < n → p i ≡ false) → any_below n p ≡ false
  unfolding any_below
  any_below_none zero h = refl
  any_below_none (suc n) h = rw (h n (omega arith)) (any_below_none n (λ i l. h i (omega arith)))

  pub any_below_same : (q : ℕ → Bool) (n : ℕ) → ((i : ℕ) → i < n → p i ≡ q i) → any_below n p ≡ any_below n q
  unfolding any_below
  any_below_same q zero h = refl
  any_below_same q (suc n) h = ap₂ ◌or◌ (h n (omega arith)) (any_below_same q n (λ i l. h i (omega arith)))

  -- ---- firstFrom

  pub first_from_skip : (n i : ℕ) → i < n → p i ≡ false → first_from (n - i) i p ≡ first_from (n - (i + 1)) (i + 1) p
  unfolding first_from
  first_from_skip n i l e =
      let q : n - i ≡ suc (n - (i + 1)) = omega arith in
      rw (q, e)

  pub first_from_here : (n i : ℕ) → i < n → p i ≡ true → first_from (n - i) i p ≡ i
  unfolding first_from
  first_from_here n i l e =
      let q : n - i ≡ suc (n - (i + 1)) = omega arith in
      rw (q, e)

  pub first_from_none : (n i : ℕ) → n ≤ i → first_from (n - i) i p ≡ i
  unfolding first_from
  first_from_none n i l =
      let q : n - i ≡ 0 = omega arith in
      rw q

  -- it is at most the one behind; one found passes, and none before it does
  pub first_from_le : (n i : ℕ) → first_from n i p ≤ i + n
  unfolding first_from
  first_from_le zero i = omega arith
  first_from_le (suc n) i = go (p i) (first_from_le n (i + 1))
    where
      go : (b : Bool) → first_from n (i + 1) p ≤ i + 1 + n → pick b i (first_from n (i + 1) p) ≤ i + suc n
      go true h = omega arith
      go false h = omega arith

  pub first_from_passes : (n i : ℕ) → first_from n i p < i + n → p (first_from n i p) ≡ true
  unfolding first_from
  first_from_passes zero i h = absurd (omega arith)
  first_from_passes (suc n) i h = go (first_from_passes n (i + 1)) (p i) refl h
    where
      go : (first_from n (i + 1) p < i + 1 + n → p (first_from n (i + 1) p) ≡ true) → (b : Bool) → p i ≡ b → pick b i (first_from n (i + 1) p) < i + suc n
          → p (pick b i (first_from n (i + 1) p)) ≡ true
      go ih true e l = e
      go ih false e l = ih (omega arith)

  pub first_from_before : (n i j : ℕ) → i ≤ j → j < first_from n i p → p j ≡ false
  unfolding first_from
  first_from_before zero i j h l = absurd (omega arith)
  first_from_before (suc n) i j h l = go (first_from_before n (i + 1) j) (p i) refl l (eq-or-lt_of_le h)
    where
      go : (i + 1 ≤ j → j < first_from n (i + 1) p → p j ≡ false) → (b : Bool) → p i ≡ b → j < pick b i (first_from n (i + 1) p) → (i ≡ j) ⊎ (i < j) → p j ≡ false
      go ih true e l (inl q) = absurd (omega arith)
      go ih true e l (inr q) = absurd (omega arith)
      go ih false e l (inl q) = sym (ap p q) ∙ e
      go ih false e l (inr q) = ih (omega arith) l

  pub first_from_same : (q : ℕ → Bool) → ((i : ℕ) → p i ≡ q i) → (n i : ℕ) → first_from n i p ≡ first_from n i q
  unfolding first_from
  first_from_same q h zero i = refl
  first_from_same q h (suc n) i = ap₂ (λ b j. pick b i j) (h i) (first_from_same q h n (i + 1))

  -- ---- countBelow

  pub count_below-zero : count_below 0 p ≡ 0
  unfolding count_below
  count_below-zero = refl

  pub count_below_more : (i : ℕ) → count_below (i + 1) p ≡ count_below i p + pick (p i) 1 0
  unfolding count_below
  count_below_more i = rw (add-one i)

  pub count_below_le : (n : ℕ) → count_below n p ≤ n
  unfolding count_below
  count_below_le zero = omega arith
  count_below_le (suc n) =
      let h = count_below_le n in
      let one : pick (p n) 1 0 ≤ 1 = elim (p n) as (λ b. pick {A = ℕ} b 1 0 ≤ 1) [ true ↦ omega arith | false ↦ omega arith ] in
      omega arith

  pub count_below_same : (q : ℕ → Bool) (n : ℕ) → ((i : ℕ) → i < n → q i ≡ p i) → count_below n q ≡ count_below n p
  unfolding count_below
  count_below_same q zero h = refl
  count_below_same q (suc n) h = rw (h n (omega arith), count_below_same q n (λ i l. h i (omega arith)))

  -- none passes, or one does
  pub count_below_none : (n : ℕ) → ((i : ℕ) → i < n → p i ≡ false) → count_below n p ≡ 0
  unfolding count_below
  count_below_none zero h = refl
  count_below_none (suc n) h = rw (h n (omega arith), count_below_none n (λ i l. h i (omega arith)))

  pub count_below_some : (n i : ℕ) → i < n → p i ≡ true → 0 < count_below n p
  unfolding count_below
  count_below_some zero i l e = absurd (not-suc-le-zero l)
  count_below_some (suc n) i l e =
      ⊎_elim
      (λ q. let z : p n ≡ true = sym (ap p q) ∙ e in rw z (omega arith))
      (λ lt. let z = count_below_some n i lt e in omega arith)
      (eq-or-lt_of_le (le_of_suc-le-suc l))

  apart : {i m n : ℕ} → m ≡ n → i < n → i ≡ m → ⊥
  apart e l z = omega arith

  -- one more index passes: the count goes up by one
  pub count_below_up : (q : ℕ → Bool) (m n : ℕ) → m < n → p m ≡ false → q m ≡ true → ((i : ℕ) → (i ≡ m → ⊥) → q i ≡ p i) → count_below n q ≡ count_below n p + 1
  unfolding count_below
  count_below_up q m zero l a b h = absurd (not-suc-le-zero l)
  count_below_up q m (suc n) l a b h =
      ⊎_elim
      (λ e.
      let same = count_below_same q n (λ i lt. h i (apart e lt)) in
      let an : p n ≡ false = ap p (sym e) ∙ a in
      let bn : q n ≡ true = ap q (sym e) ∙ b in
      rw (an, bn, same) (omega arith))
      (λ lt.
      let ih = count_below_up q m n lt a b h in
      let sn : q n ≡ p n = h n (λ z. let w : ⊥ = omega arith in w) in
      rw (sn, ih) (omega arith))
      (eq-or-lt_of_le (le_of_suc-le-suc l))

  -- what passes p passes q: as many at least
  pub count_below_mono : (q : ℕ → Bool) (n : ℕ) → ((i : ℕ) → i < n → p i ≡ true → q i ≡ true) → count_below n p ≤ count_below n q
  unfolding count_below
  count_below_mono q zero h = omega arith
  count_below_mono q (suc n) h = go (p n) refl (count_below_mono q n (λ i l. h i (omega arith)))
    where
      go : (b : Bool) → p n ≡ b → count_below n p ≤ count_below n q → count_below n p + pick b 1 0 ≤ count_below n q + pick (q n) 1 0
      go true e l = rw (h n (omega arith) e) (omega arith)
      go false e l = omega arith

  -- from n on none passes: those below n count alone
  pub count_below_beyond : (n m : ℕ) → ((i : ℕ) → i < m → n ≤ i → p i ≡ false) → n ≤ m → count_below m p ≡ count_below n p
  unfolding count_below
  count_below_beyond n zero h l = let e : n ≡ zero = omega arith in rw e
  count_below_beyond n (suc m) h l =
      ⊎_elim
      (λ e. rw e)
      (λ (lt : n < suc m).
      let none : p m ≡ false = h m (omega arith) (omega arith) in
      let ih = count_below_beyond n m (λ i g. h i (omega arith)) (omega arith) in
      rw none (omega arith))
      (eq-or-lt_of_le l)

  -- at most one passes exactly if any two that pass are one
  pub count_below_one : (n : ℕ) → ((i j : ℕ) → i < n → j < n → p i ≡ true → p j ≡ true → i ≡ j) → count_below n p ≤ 1
  unfolding count_below
  count_below_one zero h = omega arith
  count_below_one (suc n) h = go (p n) refl (count_below_one n (λ i j l g. h i j (omega arith) (omega arith)))
    where
      go : (b : Bool) → p n ≡ b → count_below n p ≤ 1 → count_below n p + pick b 1 0 ≤ 1
      go true e l =
          let none : count_below n p ≡ 0 = count_below_none n (λ i g. false_unless (p i) (λ q. let z = h i n (omega arith) (omega arith) q e in let w : ⊥ = omega arith in w)) in
          omega arith
      go false e l = omega arith

  pub count_below_two : (n i j : ℕ) → count_below n p ≤ 1 → i < n → j < n → p i ≡ true → p j ≡ true → i ≡ j
  unfolding count_below
  count_below_two zero i j h l g e f = absurd (not-suc-le-zero l)
  count_below_two (suc n) i j h l g e f = go (eq-or-lt_of_le (le_of_suc-le-suc l)) (eq-or-lt_of_le (le_of_suc-le-suc g)) (count_below_two n i j)
    where
      -- the last passes, so none before it does
      last : (a b : ℕ) → a ≡ n → b < n → p a ≡ true → p b ≡ true → ⊥
      last a b q lt ea eb =
          let z : p n ≡ true = sym (ap p q) ∙ ea in
          let one : pick {A = ℕ} (p n) 1 0 ≡ 1 = ap (λ (t : Bool). pick {A = ℕ} t 1 0) z in
          let some = count_below_some n b lt eb in
          omega arith

      go : (i ≡ n) ⊎ (i < n) → (j ≡ n) ⊎ (j < n) → (count_below n p ≤ 1 → i < n → j < n → p i ≡ true → p j ≡ true → i ≡ j) → i ≡ j
      go (inl a) (inl b) ih = a ∙ sym b
      go (inl a) (inr b) ih = absurd (last i j a b e f)
      go (inr a) (inl b) ih = absurd (last j i b a f e)
      go (inr a) (inr b) ih = ih (omega arith) a b e f

  -- a count is a sum of ones
  pub count_below-sum : (n : ℕ) → count_below n p ≡ sum_below n (λ i. pick (p i) 1 0)
  unfolding count_below sum_below
  count_below-sum zero = refl
  count_below-sum (suc n) = ap (λ t. t + pick (p n) 1 0) (count_below-sum n)

module _ (f : ℕ → ℕ) where
  -- ---- sumBelow, prodBelow

  pub sum_below-zero : sum_below 0 f ≡ 0
  unfolding sum_below
  sum_below-zero = refl

  pub sum_below_more : (i : ℕ) → sum_below (i + 1) f ≡ sum_below i f + f i
  unfolding sum_below
  sum_below_more i = rw (add-one i)

  pub sum_below_same : (g : ℕ → ℕ) (n : ℕ) → ((i : ℕ) → i < n → f i ≡ g i) → sum_below n f ≡ sum_below n g
  unfolding sum_below
  sum_below_same g zero h = refl
  sum_below_same g (suc n) h = ap₂ ◌+◌ (sum_below_same g n (λ i l. h i (omega arith))) (h n (omega arith))

  pub prod_below-zero : prod_below 0 f ≡ 1
  unfolding prod_below
  prod_below-zero = refl

  pub prod_below_more : (i : ℕ) → prod_below (i + 1) f ≡ prod_below i f * f i
  unfolding prod_below
  prod_below_more i = rw (add-one i)

  pub prod_below_same : (g : ℕ → ℕ) (n : ℕ) → ((i : ℕ) → i < n → f i ≡ g i) → prod_below n f ≡ prod_below n g
  unfolding prod_below
  prod_below_same g zero h = refl
  prod_below_same g (suc n) h = ap₂ ◌*◌ (prod_below_same g n (λ i l. h i (omega arith))) (h n (omega arith))

module _ {A : Type 0} (f : ℕ → A → A) (a : A) where
  -- ---- foldBelow

  pub fold_below-zero : fold_below 0 f a ≡ a
  unfolding fold_below
  fold_below-zero = refl

  pub fold_below_more : (i : ℕ) → fold_below (i + 1) f a ≡ f i (fold_below i f a)
  unfolding fold_below
  fold_below_more i = rw (add-one i)

-- a test of m that fails from n on passes only below n
pub passes_below : (m n : ℕ) (b : Bool) → b ≡ true → (n ≤ m → b ≡ false) → m < n
passes_below m n b e h = go (dec_lt m n)
  where
    go : Dec (m < n) → m < n
    go (yes l) = l
    go (no l) = absurd (not_true_and_false b e (h (omega arith)))

-- an element anew: what held of every element holds still
module _ {A : Type 0} (P : A → Bool) (d : A) where
  pub all_below-set : (l : List A) (n s : ℕ) (x : A) → s < length l → all_below n (λ (i : ℕ). P (get_or l i d)) ≡ true → P x ≡ true
      → all_below n (λ (i : ℕ). P (get_or (set l s x) i d)) ≡ true
  all_below-set l n s x g h e = all_below_all (λ (i : ℕ). P (get_or (set l s x) i d)) n (λ i lt. at i lt (ℕ_discrete i s))
    where
      at : (i : ℕ) → i < n → Dec (i ≡ s) → P (get_or (set l s x) i d) ≡ true
      at i lt (yes q) = ap (λ (k : ℕ). P (get_or (set l s x) k d)) q ∙ ap P (get_or-set_same l s x d g) ∙ e
      at i lt (no q) = ap P (get_or-set_other l s i x d q) ∙ all_below_at (λ (k : ℕ). P (get_or l k d)) n i h lt

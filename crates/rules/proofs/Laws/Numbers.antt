-- What the rules of document 01's "Numbers" come to, once their tests pass.
--
-- In order: the sizes n, t, k; boxes, and a whole set-up; the echo quorum; the rows of the table of groups.
-- Assumes nothing.
use Rattle.std.specs.Prelude.{◌≡◌, refl, Bool, true, ℕ, ◌+◌, ◌*◌, ◌-◌, ◌%◌, ◌^◌, ◌≤◌, ◌<◌, eqb, leb, ltb, get_or}
use Rattle.std.proofs.Common.{⊎_elim, arith, leb-true, ltb-true, eqb-true, le-leb}
use Rattle.folds.specs.Tests.{◌and◌, and_left, and_right, or_cases, and_intro}
use Rattle.folds.specs.Below.{all_below, all_below_at, first_from}
use Rattle.algebra.specs.Residues.{primeb, Prime, prime}
use Rattle.rules.specs.declared.Element.{Element}
use Rattle.rules.specs.declared.Group.{Group}
use Rattle.rules.specs.declared.SetUp.{SetUp}
use Rattle.rules.specs.Numbers.{no_group, groups, group_of, has_order, logarithm, row_keeps, group_keeps, sizes_keep, is_box, numbers_keep, echo_quorum}
use Rattle.rules.specs.Laws.Numbers.{Sizes, GroupRanges, Ranges}

-- ---- the sizes

-- "n ≤ 10. Rules: t ≥ 1, k > t, n - 2t ≥ k. So k is 2..8".
pub sizes : (n t k : ℕ) → sizes_keep n t k ≡ true → Sizes n t k
unfolding sizes_keep
sizes n t k h =
    let h1 = and_right (leb n 10) _ h in
    let h2 = and_right (leb 1 t) _ h1 in
    let a = leb-true n 10 (and_left (leb n 10) _ h) in
    let b = leb-true 1 t (and_left (leb 1 t) _ h1) in
    let c = ltb-true t k (and_left (ltb t k) _ h2) in
    let d = leb-true k (n - 2 * t) (and_right (ltb t k) _ h2) in
    record { boxes = a; faults = b; above = c; rest = omega arith; low = omega arith; high = omega arith }

-- ---- a whole set-up

pub record Bounds (u : SetUp) : Type 0 where
  pub sizes : Sizes u.n u.t u.k
  pub own : (1 ≤ u.i) × (u.i ≤ u.n)
  pub dealer : (1 ≤ u.d) × (u.d ≤ u.n)
  pub session : u.session ≤ 65535

-- A number that passes is a box.
pub is_box_lem : (u : SetUp) (m : ℕ) → is_box u m ≡ true → (1 ≤ m) × (m ≤ u.n)
unfolding is_box
is_box_lem u m h = (leb-true 1 m (and_left (leb 1 m) _ h), leb-true m u.n (and_right (leb 1 m) _ h))

-- And a box passes.
pub box_is : (u : SetUp) (m : ℕ) → 1 ≤ m → m ≤ u.n → is_box u m ≡ true
unfolding is_box
box_is u m a b = and_intro (leb 1 m) _ (le-leb 1 m a) (le-leb m u.n b)

-- A set-up whose numbers pass is within the bounds of each.
pub bounds : (u : SetUp) → numbers_keep u ≡ true → Bounds u
unfolding numbers_keep
bounds u h =
    let h1 = and_right (sizes_keep u.n u.t u.k) _ h in
    let h2 = and_right (is_box u u.i) _ h1 in
    record {
      sizes = sizes u.n u.t u.k (and_left (sizes_keep u.n u.t u.k) _ h);
      own = is_box_lem u u.i (and_left (is_box u u.i) _ h1);
      dealer = is_box_lem u u.d (and_left (is_box u u.d) _ h2);
      session = leb-true u.session 65535 (and_right (is_box u u.d) _ h2);
    }

-- ---- the echo quorum

pub record Quorum (u : SetUp) : Type 0 where
  pub threshold : u.k ≤ echo_quorum u
  pub majority : u.n + u.t + 1 ≤ 2 * echo_quorum u
  pub least : (m : ℕ) → u.k ≤ m → u.n + u.t + 1 ≤ 2 * m → echo_quorum u ≤ m

-- The echo quorum is the least number that is at least k and, doubled, at least n + t + 1: "rounded up", not down.
pub quorum : (u : SetUp) → Quorum u
unfolding echo_quorum
quorum u = record { threshold = omega arith; majority = omega arith; least = λ m a b. omega arith }

-- There are boxes enough for it.
pub quorum_within : (u : SetUp) → numbers_keep u ≡ true → echo_quorum u ≤ u.n
quorum_within u h =
    let s = (bounds u h).sizes in
    (quorum u).least u.n (omega arith) (omega arith)

-- ---- the rows of the table

-- e is an element other than 1, and its q-th power is 1
pub record Order (G : Group) (e : Element) : Type 0 where
  pub above : 1 < e.0
  pub below : e.0 < G.p
  pub power : e.0 ^ G.q % G.p ≡ 1

pub record GroupRule (G : Group) : Type 0 where
  pub p_prime : Prime G.p
  pub q_prime : Prime G.q
  pub twice : G.p ≡ 2 * G.q + 1
  pub g_order : Order G G.g
  pub h_order : Order G G.h
  pub counted : G.g.0 ^ logarithm G % G.p ≡ G.h.0

order : (G : Group) (e : Element) → has_order G e ≡ true → Order G e
unfolding has_order
order G e h =
    let h1 = and_right (ltb 1 e.0) _ h in
    record {
      above = ltb-true 1 e.0 (and_left (ltb 1 e.0) _ h);
      below = ltb-true e.0 G.p (and_left (ltb e.0 G.p) _ h1);
      power = eqb-true (e.0 ^ G.q % G.p) 1 (and_right (ltb e.0 G.p) _ h1);
    }

-- A row that passes the test keeps the rule: "p = 2q + 1, p and q prime; g and h have order q", and the logarithm is one.
pub row_rule : (G : Group) → row_keeps G ≡ true → GroupRule G
unfolding row_keeps
row_rule G h =
    let h1 = and_right (primeb G.p) _ h in
    let h2 = and_right (primeb G.q) _ h1 in
    let h3 = and_right (eqb G.p (2 * G.q + 1)) _ h2 in
    let h4 = and_right (has_order G G.g) _ h3 in
    record {
      p_prime = prime G.p (and_left (primeb G.p) _ h);
      q_prime = prime G.q (and_left (primeb G.q) _ h1);
      twice = eqb-true G.p (2 * G.q + 1) (and_left (eqb G.p (2 * G.q + 1)) _ h2);
      g_order = order G G.g (and_left (has_order G G.g) _ h3);
      h_order = order G G.h (and_left (has_order G G.h) _ h4);
      counted = eqb-true (G.g.0 ^ logarithm G % G.p) G.h.0 (and_right (has_order G G.h) _ h4);
    }

-- Every row of the table passes the test, by computation.
pub rows_keep : all_below 2 (λ i. row_keeps (get_or groups i no_group)) ≡ true
unfolding all_below first_from primeb groups has_order logarithm row_keeps
rows_keep = refl

-- Each row of the table keeps the rule.
pub table_rule : (i : ℕ) → i < 2 → GroupRule (get_or groups i no_group)
table_rule i l = row_rule (get_or groups i no_group) (all_below_at (λ i. row_keeps (get_or groups i no_group)) 2 i rows_keep l)

-- A group number that passes is that of a row.
in_table : (u : SetUp) → group_keeps u ≡ true → u.group - 1 < 2
unfolding group_keeps
in_table u h =
    ⊎_elim
    (λ e. let q = eqb-true u.group 1 e in omega arith)
    (λ e. let q = eqb-true u.group 2 e in omega arith)
    (or_cases (eqb u.group 1) (eqb u.group 2) h)

-- The group of a set-up whose group number passes keeps the rule.
pub group_rule : (u : SetUp) → group_keeps u ≡ true → GroupRule (group_of u.group)
unfolding group_of
group_rule u h = table_rule (u.group - 1) (in_table u h)

in_range : Group → Bool
in_range G = ltb 10 G.q and ltb G.q 65536 and ltb 0 G.p and ltb G.p 65536

rows_in_range : all_below 2 (λ i. in_range (get_or groups i no_group)) ≡ true
unfolding all_below first_from groups in_range
rows_in_range = refl

in_range_lem : (G : Group) → in_range G ≡ true → GroupRanges G
unfolding in_range
in_range_lem G h =
    let h1 = and_right (ltb 10 G.q) _ h in
    let h2 = and_right (ltb G.q 65536) _ h1 in
    let above = ltb-true 10 G.q (and_left (ltb 10 G.q) _ h) in
    record {
      modulus = ltb-true 0 G.p (and_left (ltb 0 G.p) _ h2);
      modulus_small = ltb-true G.p 65536 (and_right (ltb 0 G.p) _ h2);
      some = omega arith;
      above = above;
      small = ltb-true G.q 65536 (and_left (ltb G.q 65536) _ h1);
    }

pub group_sizes : (u : SetUp) → group_keeps u ≡ true → GroupRanges (group_of u.group)
unfolding group_of
group_sizes u h =
    in_range_lem (group_of u.group) (all_below_at (λ i. in_range (get_or groups i no_group)) 2 (u.group - 1) rows_in_range (in_table u h))

pub ranges : (u : SetUp) → group_keeps u ≡ true → numbers_keep u ≡ true → Ranges u
ranges u g h =
    let b = bounds u h in
    let s = b.sizes in
    record {
      group = g;
      numbers = group_sizes u g;
      boxes = s.boxes;
      faults = omega (arith, s.rest, s.boxes);
      low = s.low;
      high = s.high;
      own = omega (arith, b.own.1, s.boxes);
      dealer = omega (arith, s.boxes, b.dealer.1);
      session = omega (arith, b.session);
    }

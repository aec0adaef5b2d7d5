-- Document 01, "Numbers": what its sums by hand leave open. Sums in the second group, the rules of the set-up numbers on their
-- boundaries, and the echo quorum where it is rounded.
--
-- In order: a deal in group 2; rows of a table; set-ups; what is computed of them.
-- Assumes nothing.
use Rattle.std.specs.Prelude.{◌≡◌, refl, true, false, List, [], ◌∷◌, map, ℕ}
use Rattle.rules.specs.declared.Exponent.{Exponent}
use Rattle.rules.specs.declared.Group.{Group}
use Rattle.rules.specs.Numbers.{element, group_of, logarithm, row_keeps, echo_quorum}
use Rattle.rules.specs.Dealing.{f_of, f'_of, committed, commitment, polynomials_of, in_group, polynomial_check, point_check, share_check}
use Rattle.rules.specs.Answers.{set_up}
use Rattle.rules.specs.Computed.{computed}
use Rattle.rules.specs.HandSums.{sized, four, pair}
use Rattle.rules.specs.MessageBytes.{entries_2}

-- ---- a deal in group 2: f = 1000 + 300y + 2x + 515xy, f' = 7 + 1018y + 600x + 44xy

abbrev G : Group
G = group_of 2

abbrev coins : List ℕ
coins = 300 ∷ 2 ∷ 515 ∷ 7 ∷ 1018 ∷ 600 ∷ 44 ∷ []

abbrev f : List (List Exponent)
f = f_of (sized 4 1 2) 1000 coins

abbrev f' : List (List Exponent)
f' = f'_of (sized 4 1 2) 1000 coins

-- ---- rows of a table: p, q, g, h

abbrev row : ℕ → ℕ → ℕ → ℕ → Group
row p q g h = record { p = p; q = q; g = element g; h = element h }

-- ---- set-ups

-- group, n, t, k, i, d, session: its answer
abbrev gets : ℕ → ℕ → ℕ → ℕ → ℕ → ℕ → ℕ → ℕ
gets group n t k i d session = (set_up (record { group = group; n = n; t = t; k = k; i = i; d = d; session = session })).answer.no

abbrev quorum : ℕ → ℕ → ℕ → ℕ
quorum n t k = echo_quorum (sized n t k)

-- ---- what is computed of them

pub record NumberCases : Type 0 where
  -- "Both p = 2q + 1, p and q prime; g and h have order q.": the table and a third such row; then p 31 and q 3, q 9, g 1, h of order 22,
  -- h no element
  pub rule : map row_keeps (row 23 11 2 3 ∷ row 2039 1019 4 9 ∷ row 47 23 4 9 ∷ []) ≡ true ∷ true ∷ true ∷ []
  pub broken : map row_keeps (row 31 3 5 25 ∷ row 19 9 4 5 ∷ row 23 11 1 3 ∷ row 23 11 2 1 ∷ row 23 11 2 5 ∷ row 23 11 2 26 ∷ row 23 11 2 0 ∷ [])
      ≡ false ∷ false ∷ false ∷ false ∷ false ∷ false ∷ false ∷ []
  -- "the logarithm of h to g can be found by counting"
  pub logarithms : (logarithm (group_of 1) ≡ 8) × (logarithm (group_of 2) ≡ 515)
  -- "| 2 | 2039 | 1019 | 4 | 9 |": "Entry (j, l) of C is g to the f coefficient of x^j y^l times h to the f' one."
  pub generators : (committed G 1 0 ≡ 4) × (committed G 0 1 ≡ 9) × (committed G 1018 1018 ≡ 1416)
  pub deal : commitment G 2 f f' ≡ entries_2
  -- the polynomials of box 2, the point of box 2 at box 1, the share of box 2; and each with one number changed
  pub polynomials : polynomial_check G 2 entries_2 2 (polynomials_of 1019 2 f f' 2) ≡ true
  pub point : (point_check G 2 entries_2 1 2 (four 296 275 594 693) ≡ true) × (point_check G 2 entries_2 1 2 (four 296 275 594 694) ≡ false)
      × (point_check G 2 entries_2 1 2 (four 296 276 594 693) ≡ false)
  pub share : (share_check G 2 entries_2 2 (pair 1004 188) ≡ true) × (share_check G 2 entries_2 2 (pair 1005 188) ≡ false)
  -- "a matrix entry e is 0, ≥ p, or e^q is not 1", in group 2 and in group 1
  pub entries : (map (in_group G) (0 ∷ 1 ∷ 2032 ∷ 2038 ∷ 2039 ∷ 2040 ∷ []) ≡ false ∷ true ∷ true ∷ false ∷ false ∷ false ∷ [])
      × (map (in_group (group_of 1)) (0 ∷ 1 ∷ 18 ∷ 22 ∷ 23 ∷ 24 ∷ []) ≡ false ∷ true ∷ true ∷ false ∷ false ∷ false ∷ [])
  -- "set-up: group not 1 or 2", before "n, t, k, i, d or the session breaks its rule"
  pub groups : (gets 0 4 1 2 1 1 7 ≡ 11) × (gets 1 4 1 2 1 1 7 ≡ 0) × (gets 2 4 1 2 1 1 7 ≡ 0) × (gets 3 4 1 2 1 1 7 ≡ 11) × (gets 3 11 1 2 1 1 7 ≡ 11)
  -- "Boxes are 1..n, n ≤ 10. Rules: t ≥ 1, k > t, n - 2t ≥ k."
  pub sizes : (gets 1 10 1 2 10 1 0 ≡ 0) × (gets 1 11 1 2 1 1 0 ≡ 12) × (gets 1 7 2 2 1 1 0 ≡ 12) × (gets 1 7 2 3 1 1 0 ≡ 0)
      × (gets 1 6 2 3 1 1 0 ≡ 12) × (gets 1 4 0 1 1 1 0 ≡ 12) × (gets 1 10 1 9 1 1 0 ≡ 12) × (gets 1 10 3 4 1 1 0 ≡ 0)
  -- "The dealer d and the box's own number i are in 1..n."
  pub boxes : (gets 1 4 1 2 0 1 0 ≡ 12) × (gets 1 4 1 2 4 1 0 ≡ 0) × (gets 1 4 1 2 5 1 0 ≡ 12)
      × (gets 1 4 1 2 1 0 0 ≡ 12) × (gets 1 4 1 2 1 4 0 ≡ 0) × (gets 1 4 1 2 1 5 0 ≡ 12)
  -- "Session number: 0..65,535."
  pub sessions : (gets 1 4 1 2 1 1 0 ≡ 0) × (gets 1 4 1 2 1 1 65535 ≡ 0) × (gets 1 4 1 2 1 1 65536 ≡ 12)
  -- "The echo quorum E is the larger of k and (n + t + 1)/2 rounded up.": n + t + 1 odd, even, and k the larger
  pub rounded : (quorum 5 1 2 ≡ 4) × (quorum 6 1 2 ≡ 4) × (quorum 7 1 3 ≡ 5) × (quorum 8 2 3 ≡ 6) × (quorum 10 2 3 ≡ 7) × (quorum 10 3 4 ≡ 7)
  pub larger : (quorum 10 1 6 ≡ 6) × (quorum 10 1 7 ≡ 7) × (quorum 9 1 6 ≡ 6) × (quorum 9 1 7 ≡ 7)

pub number_cases : NumberCases
unfolding computed
number_cases =
    record {
      rule = refl;
      broken = refl;
      logarithms = (refl, refl);
      generators = (refl, refl, refl);
      deal = refl;
      polynomials = refl;
      point = (refl, refl, refl);
      share = (refl, refl);
      entries = (refl, refl);
      groups = (refl, refl, refl, refl, refl);
      sizes = (refl, refl, refl, refl, refl, refl, refl, refl);
      boxes = (refl, refl, refl, refl, refl, refl);
      sessions = (refl, refl, refl);
      rounded = (refl, refl, refl, refl, refl, refl);
      larger = (refl, refl, refl, refl);
    }

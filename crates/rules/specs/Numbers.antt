-- Document 01, "Numbers": the groups, the rules of the set-up numbers, the echo quorum.
--
-- A test that a rule is kept is a `Bool` that code can compute; `eqb`, `leb`, `ltb` are =, ≤, <.
-- Assumes nothing.
use Rattle.std.specs.Prelude.{Bool, List, [], ◌∷◌, ℕ, ◌+◌, ◌*◌, ◌-◌, ◌/◌, ◌%◌, ◌^◌, max, eqb, leb, ltb, get_or}
use Rattle.folds.specs.Tests.{◌and◌, ◌or◌}
use Rattle.folds.specs.Below.{first_from}
use Rattle.algebra.specs.Residues.{primeb}
use Rattle.rules.specs.declared.Exponent.{Exponent}
use Rattle.rules.specs.declared.Element.{Element}
use Rattle.rules.specs.declared.Group.{Group}
use Rattle.rules.specs.declared.SetUp.{SetUp}

abbrev pub exponent : ℕ → Exponent
exponent x = record { 0 = x }

abbrev pub element : ℕ → Element
element x = record { 0 = x }

-- ---- the groups

abbrev pub no_group : Group
no_group = record { p = 0; q = 0; g = element 0; h = element 0 }

-- the table: group, p, q, g, h
unfoldable pub groups : List Group
groups =
    record { p = 23; q = 11; g = element 2; h = element 3 }
    ∷ record { p = 2039; q = 1019; g = element 4; h = element 9 }
    ∷ []

-- the row of a group number
unfoldable pub group_of : ℕ → Group
group_of number = get_or groups (number - 1) no_group

-- e has order q: it is an element other than 1, and e^q is 1 (q being prime, no smaller power is)
unfoldable pub has_order : Group → Element → Bool
has_order G e = ltb 1 e.0 and ltb e.0 G.p and eqb (e.0 ^ G.q % G.p) 1

-- "the logarithm of h to g can be found by counting": the lowest exponent of g that gives h
unfoldable pub logarithm : Group → ℕ
logarithm G = first_from G.q 0 (λ x. eqb (G.g.0 ^ x % G.p) G.h.0)

-- "Both p = 2q + 1, p and q prime; g and h have order q."
unfoldable pub row_keeps : Group → Bool
row_keeps G =
    primeb G.p
    and primeb G.q
    and eqb G.p (2 * G.q + 1)
    and has_order G G.g
    and has_order G G.h
    and eqb (G.g.0 ^ logarithm G % G.p) G.h.0

-- ---- the set-up numbers

-- a group of the table
unfoldable pub group_keeps : SetUp → Bool
group_keeps s = eqb s.group 1 or eqb s.group 2

-- "n ≤ 10. Rules: t ≥ 1, k > t, n - 2t ≥ k."
unfoldable pub sizes_keep : ℕ → ℕ → ℕ → Bool
sizes_keep n t k = leb n 10 and leb 1 t and ltb t k and leb k (n - 2 * t)

-- "Boxes are 1..n"
unfoldable pub is_box : SetUp → ℕ → Bool
is_box s m = leb 1 m and leb m s.n

-- "The dealer d and the box's own number i are in 1..n. Session number: 0..65,535."
unfoldable pub numbers_keep : SetUp → Bool
numbers_keep s =
    sizes_keep s.n s.t s.k
    and is_box s s.i
    and is_box s s.d
    and leb s.session 65535

-- "The echo quorum E is the larger of k and (n + t + 1)/2 rounded up."
unfoldable pub echo_quorum : SetUp → ℕ
echo_quorum s = max s.k ((s.n + s.t + 1 + 1) / 2)

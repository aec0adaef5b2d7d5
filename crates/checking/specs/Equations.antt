-- What a contract names beside the definitions of `rules`: what a check asks, lines of a matrix, and the equations of the
-- polynomial check by their numbers.
-- Assumes nothing.
use Rattle.std.specs.Prelude.{◌≡◌, Bool, true, List, ℕ, ◌+◌, ◌-◌, ◌*◌, ◌%◌, ◌^◌, ◌<◌, ◌≤◌, ltb, get_or}
use Rattle.std.proofs.Common.{sym, ◌∙◌, arith, ltb-true, ltb-false, lt-ltb, le-ltb}
use Rattle.folds.specs.Tests.{◌and◌, pick, and_left, and_right, and_intro, iff_same, pick-either}
use Rattle.folds.specs.Below.{all_below, prod_below, all_below_at, all_below_all}
use Rattle.rules.specs.declared.Element.{Element}
use Rattle.rules.specs.declared.Group.{Group}
use Rattle.rules.specs.declared.Polynomials.{Polynomials}
use Rattle.rules.specs.Numbers.{element}
use Rattle.rules.specs.Dealing.{matrix_passes, l_equation, j_equation, polynomial_check}

-- what each check asks of the group, of k and of its matrix
pub record Checkable (G : Group) (k : ℕ) (C : List (List Element)) : Type 0 where
  pub modulus : 0 < G.p
  pub order : 0 < G.q
  pub high : k ≤ 8
  pub passes : matrix_passes G k C ≡ true

-- ---- lines: a row or a column

abbrev pub element_at : List Element → ℕ → ℕ
element_at c l = (get_or c l (element 0)).0

-- what an equation asks of its line: with q-th powers 1, exponents count modulo q
pub record Line (G : Group) (k : ℕ) (c : List Element) : Type 0 where
  pub modulus : 0 < G.p
  pub order : 0 < G.q
  pub high : k ≤ 8
  pub members : (l : ℕ) → l < k → element_at c l ^ G.q % G.p ≡ 1

-- the product over l of c_l^(w x^l), with no remainder, and the one with weight 1
abbrev pub along_part : ℕ → List Element → ℕ → ℕ → ℕ
along_part k c w x = prod_below k (λ l. element_at c l ^ (w * x ^ l))

abbrev pub along_line : ℕ → List Element → ℕ → ℕ
along_line k c x = prod_below k (λ l. element_at c l ^ (x ^ l))

-- ---- the polynomial check

-- equation e: the l equations are 0 to k - 1, and the j equations are numbered on from k
unfoldable pub equation : Group → ℕ → List (List Element) → ℕ → Polynomials → ℕ → Bool
equation G k C i P e = pick (ltb e k) (l_equation G k C i P e) (j_equation G k C i P (e - k))

module _ (p r : ℕ → Bool) (k : ℕ) where
  abbrev joined : ℕ → Bool
  joined e = pick (ltb e k) (p e) (r (e - k))

  joined_first : (l : ℕ) → l < k → joined l ≡ p l
  joined_first l h = rw (lt-ltb l k h)

  joined_second : (j : ℕ) → joined (k + j) ≡ r j
  joined_second j =
      let behind : k + j - k ≡ j = omega arith in
      rw (le-ltb (k + j) k (omega arith), behind)

  -- two tests one behind the other
  joined_all : all_below (k + k) joined ≡ all_below k p and all_below k r
  joined_all =
      iff_same _ _
      (λ h. and_intro _ _
      (all_below_all p k (λ l b. sym (joined_first l b) ∙ all_below_at joined (k + k) l h (omega arith)))
      (all_below_all r k (λ j b. sym (joined_second j) ∙ all_below_at joined (k + k) (k + j) h (omega arith))))
      (λ h. all_below_all joined (k + k) (λ e b.
      pick-either (λ t. t ≡ true) (ltb e k) (p e) (r (e - k))
      (λ q. all_below_at p k e (and_left _ _ h) (ltb-true e k q))
      (λ q. all_below_at r k (e - k) (and_right (all_below k p) _ h) (omega (arith, ltb-false e k q)))))

-- the check is all of them
pub all_equations : (G : Group) (k : ℕ) (C : List (List Element)) (i : ℕ) (P : Polynomials)
    → all_below (k + k) (equation G k C i P) ≡ polynomial_check G k C i P
unfolding equation polynomial_check
all_equations G k C i P = joined_all (l_equation G k C i P) (j_equation G k C i P) k

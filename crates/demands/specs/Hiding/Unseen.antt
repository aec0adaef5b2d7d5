-- Moves that are not seen: no check tells a moved number from the one before, all are below q, and where z is 0 nothing moves.
--
-- In order: the checks; below q; no move.
-- Assumes nothing.
use Rattle.std.specs.Prelude.{◌≡◌, true, List, ℕ, ◌+◌, ◌*◌, ◌%◌, ◌<◌}
use Rattle.std.proofs.Math.Path.{ap, ap₂}
use Rattle.std.proofs.Common.{◌∙◌, sym, subst, mod-eq_of_lt, arith}
use Rattle.std.proofs.Math.Dec.{eqb}
use Rattle.folds.specs.Tests.{◌and◌}
use Rattle.folds.specs.Below.{all_below, all_below_same}
use Rattle.rules.specs.declared.Element.{Element}
use Rattle.rules.specs.declared.Exponent.{Exponent}
use Rattle.rules.specs.declared.Four.{Four}
use Rattle.rules.specs.declared.Polynomials.{Polynomials}
use Rattle.rules.specs.Matrices.{coefficient, α, α', β, β'}
use Rattle.rules.specs.Dealing.{polynomials_below, four_below, polynomial_check, point_check, opens, l_equation, j_equation, α_equation, β_equation}
use Rattle.rules.proofs.Laws.Checks.{four_below_lem, polynomials_below_lem, four_lows}
use Rattle.demands.specs.Terms.Dealing.{group}
use Rattle.demands.specs.Terms.Secrets.{z, difference, difference'}
use Rattle.demands.specs.Hiding.Moves.{Twice, numbers, in_set, q, zed, shifted, shifted', moved_four, moved_by, moved_polynomials}
use Rattle.demands.specs.Hiding.Hypotheses.{Given, unseen, low}
use Rattle.demands.specs.Hiding.Values.{coefficient_moved}

module _ (t : Twice) (h : Given t) where
  -- ---- the checks

  -- an equation with both exponents moved
  equation_unseen : (w x y e : ℕ) → opens (group (numbers t)) (shifted t w x) (shifted' t w y) e ≡ opens (group (numbers t)) x y e
  unfolding opens
  equation_unseen w x y e = ap (λ v. eqb v e) (unseen t h w x y)

  pub point_unseen : (C : List (List Element)) (i m w : ℕ) (f : Four)
      → point_check (group (numbers t)) (numbers t).k C i m (moved_four t w f) ≡ point_check (group (numbers t)) (numbers t).k C i m f
  unfolding point_check α_equation β_equation
  point_unseen C i m w f = ap₂ ◌and◌ (equation_unseen w (α f) (α' f) _) (equation_unseen w (β f) (β' f) _)

  -- one side of the polynomial check: a and a', or b and b'
  side_unseen : (j : ℕ) (a b : List Exponent) (value : ℕ → ℕ)
      → all_below (numbers t).k (λ l. opens (group (numbers t)) (coefficient (moved_by t (shifted t) j a) l) (coefficient (moved_by t (shifted' t) j b) l) (value l))
      ≡ all_below (numbers t).k (λ l. opens (group (numbers t)) (coefficient a l) (coefficient b l) (value l))
  side_unseen j a b value =
      all_below_same _ _ (numbers t).k (λ l lt.
      ap₂ (λ x y. opens (group (numbers t)) x y (value l)) (coefficient_moved t h (shifted t) j a l lt) (coefficient_moved t h (shifted' t) j b l lt)
      ∙ equation_unseen (zed t j * z (numbers t) (in_set t) l) (coefficient a l) (coefficient b l) (value l))

  pub polynomials_unseen : (C : List (List Element)) (i j : ℕ) (P : Polynomials)
      → polynomial_check (group (numbers t)) (numbers t).k C i (moved_polynomials t j P)
      ≡ polynomial_check (group (numbers t)) (numbers t).k C i P
  unfolding polynomial_check l_equation j_equation
  polynomials_unseen C i j P = ap₂ ◌and◌ (side_unseen j P.a P.a2 _) (side_unseen j P.b P.b2 _)

  -- ---- below q

  pub moved_four_below : (w : ℕ) (f : Four) → four_below (q t) (moved_four t w f) ≡ true
  moved_four_below w f = four_below_lem (q t) (moved_four t w f) (low t h _) (low t h _) (low t h _) (low t h _)

  side_below : (d j : ℕ) (a : List Exponent) (l : ℕ) → l < (numbers t).k → coefficient (moved_by t (λ w x. (x + d * w) % q t) j a) l < q t
  side_below d j a l lt = subst (λ (n : ℕ). n < q t) (sym (coefficient_moved t h (λ w x. (x + d * w) % q t) j a l lt)) (low t h _)

  pub moved_polynomials_below : (j : ℕ) (P : Polynomials) → polynomials_below (q t) (numbers t).k (moved_polynomials t j P) ≡ true
  moved_polynomials_below j P =
      polynomials_below_lem (q t) (numbers t).k (moved_polynomials t j P)
      (side_below _ j P.a) (side_below _ j P.a2) (side_below _ j P.b) (side_below _ j P.b2)

  -- ---- no move

  pub number_still : (d w x : ℕ) → w ≡ 0 → x < q t → (x + d * w) % q t ≡ x
  number_still d w x e l =
      let n : x + d * w ≡ x = ap (λ v. x + d * v) e ∙ omega arith in
      ap (λ v. v % q t) n ∙ mod-eq_of_lt l

  pub four_still : (w : ℕ) (f : Four) → w ≡ 0 → four_below (q t) f ≡ true → moved_four t w f ≡ f
  four_still w f e b =
      let δ = difference (numbers t) t.s t.s' in
      let δ' = difference' (numbers t) t.s t.s' in
      let l = four_lows (q t) f b in
      rw (
        number_still δ w (α f) e l.0,
        number_still δ' w (α' f) e l.1,
        number_still δ w (β f) e l.2,
        number_still δ' w (β' f) e l.3,
      )

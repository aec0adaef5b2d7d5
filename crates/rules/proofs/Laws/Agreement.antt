-- Matrices that agree in their first k rows and columns: an equivalence, and no check tells two that agree apart.
--
-- In that order.
-- Assumes nothing.
use Rattle.std.specs.Prelude.{◌≡◌, refl, true, List, ℕ, ◌*◌, ◌%◌, ◌^◌, ◌<◌}
use Rattle.std.proofs.Common.{sym, ◌∙◌, subst}
use Rattle.std.proofs.Math.Path.{ap, ap₂}
use Rattle.folds.specs.Tests.{◌and◌, iff_same}
use Rattle.folds.specs.Below.{prod_below_same}
use Rattle.rules.specs.declared.Element.{Element}
use Rattle.rules.specs.declared.Four.{Four}
use Rattle.rules.specs.declared.Group.{Group}
use Rattle.rules.specs.declared.Pair.{Pair}
use Rattle.rules.specs.Matrices.{α, α', β, β'}
use Rattle.rules.specs.Dealing.{in_group, matrix_passes, opens, opened_at, α_equation, β_equation, point_check, σ_equation, share_check}
use Rattle.rules.specs.Record.{same_matrix}
use Rattle.rules.proofs.Laws.Sound.{agree_comm, agree_at, agree_all}
use Rattle.rules.proofs.Laws.Checks.{matrix_passes_lem, entry_in}

pub agree_self : (k : ℕ) (C : List (List Element)) → same_matrix k C C ≡ true
agree_self k C = agree_all k C C (λ j l a b. refl)

pub agree_trans : (k : ℕ) (C D E : List (List Element)) → same_matrix k C D ≡ true → same_matrix k D E ≡ true → same_matrix k C E ≡ true
agree_trans k C D E h g = agree_all k C E (λ j l a b. agree_at k C D h j l a b ∙ agree_at k D E g j l a b)

-- whatever agrees with the one agrees with the other
pub agree_either : (k : ℕ) (C D : List (List Element)) → same_matrix k C D ≡ true
    → (M : List (List Element)) → same_matrix k M C ≡ same_matrix k M D
agree_either k C D h M =
    iff_same (same_matrix k M C) (same_matrix k M D)
    (λ e. agree_trans k M C D e h)
    (λ e. agree_trans k M D C e (sym (agree_comm k C D) ∙ h))

module _ (G : Group) (k : ℕ) (C D : List (List Element)) (h : same_matrix k C D ≡ true) where
  pub passes_agree : matrix_passes G k C ≡ true → matrix_passes G k D ≡ true
  passes_agree e =
      matrix_passes_lem G k D (λ j l a b. subst (λ (x : ℕ). in_group G x ≡ true) (agree_at k C D h j l a b) (entry_in G k C e j l a b))

  opened_agree : (x y : ℕ) → opened_at G k C x y ≡ opened_at G k D x y
  unfolding opened_at
  opened_agree x y =
      ap (λ (n : ℕ). n % G.p)
      (prod_below_same _ _ k (λ j a. prod_below_same _ _ k (λ l b. ap (λ (n : ℕ). n ^ (x ^ j * y ^ l)) (agree_at k C D h j l a b))))

  pub point_agree : (i m : ℕ) (f : Four) → point_check G k C i m f ≡ point_check G k D i m f
  unfolding point_check α_equation β_equation
  point_agree i m f =
      ap₂ (λ (a b : ℕ). opens G (α f) (α' f) a and opens G (β f) (β' f) b) (opened_agree m i) (opened_agree i m)

  pub share_agree : 0 < k → (m : ℕ) (s : Pair) → share_check G k C m s ≡ share_check G k D m s
  unfolding share_check σ_equation
  share_agree z m s =
      ap (λ (n : ℕ). opens G s.first.0 s.second.0 (n % G.p))
      (prod_below_same _ _ k (λ j a. ap (λ (n : ℕ). n ^ (m ^ j)) (agree_at k C D h j 0 a z)))

-- Lists of numbers compared by a test, which is computed faster than an equality.
--
-- In order: the tests; what they say.
-- Assumes nothing.
use Rattle.std.specs.Prelude.{◌≡◌, refl, Bool, true, false, List, [], ◌∷◌, ℕ, eqb}
use Rattle.std.proofs.Common.{sym, ap₂, eqb-true}
use Rattle.folds.specs.Tests.{◌and◌, true≢false, and_left, and_right}

unfoldable pub same_list : List ℕ → List ℕ → Bool
same_list [] [] = true
same_list [] (b ∷ y) = false
same_list (a ∷ x) [] = false
same_list (a ∷ x) (b ∷ y) = eqb a b and same_list x y

unfoldable pub same_lists : List (List ℕ) → List (List ℕ) → Bool
same_lists [] [] = true
same_lists [] (b ∷ y) = false
same_lists (a ∷ x) [] = false
same_lists (a ∷ x) (b ∷ y) = same_list a b and same_lists x y

same_list_lem : (x y : List ℕ) → same_list x y ≡ true → x ≡ y
unfolding same_list
same_list_lem [] [] h = refl
same_list_lem [] (b ∷ y) h = absurd (true≢false (sym h))
same_list_lem (a ∷ x) [] h = absurd (true≢false (sym h))
same_list_lem (a ∷ x) (b ∷ y) h =
    ap₂ (λ (c : ℕ) (z : List ℕ). c ∷ z) (eqb-true a b (and_left (eqb a b) _ h)) (same_list_lem x y (and_right (eqb a b) _ h))

pub same_lists_lem : (x y : List (List ℕ)) → same_lists x y ≡ true → x ≡ y
unfolding same_lists
same_lists_lem [] [] h = refl
same_lists_lem [] (b ∷ y) h = absurd (true≢false (sym h))
same_lists_lem (a ∷ x) [] h = absurd (true≢false (sym h))
same_lists_lem (a ∷ x) (b ∷ y) h =
    ap₂ (λ (c : List ℕ) (z : List (List ℕ)). c ∷ z)
    (same_list_lem a b (and_left (same_list a b) _ h)) (same_lists_lem x y (and_right (same_list a b) _ h))

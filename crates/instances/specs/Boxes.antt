-- Points and shares of different boxes, as the theorems of `Demands` suppose them, of the same deal.
--
-- In order: two boxes of the class; dealt and checked ones, and P8; what the theorems say of them; the points held in a life,
-- and what the theorems say of the pair kept.
-- Assumes nothing.
use Rattle.std.specs.Prelude.{◌≡◌, refl, true, List, [], ◌∷◌, ◌≢◌, ℕ, zero, suc, ◌≤◌, ◌<◌, get_or}
use Rattle.std.proofs.Common.{sym, ap, subst, ◌∙◌, not-suc-le-zero, le_of_suc-le-suc, arith}
use Rattle.rules.specs.declared.Four.{Four}
use Rattle.std.specs.Prelude.{Some}
use Rattle.rules.specs.declared.Pair.{Pair}
use Rattle.rules.specs.Numbers.{groups, group_of}
use Rattle.rules.specs.Matrices.{entry, zero_four}
use Rattle.rules.specs.Dealing.{coins_keep, committed, matrix_passes, share_check, point_check}
use Rattle.rules.specs.Steps.{Said, recovered_from}
use Rattle.rules.specs.Answers.{no_pair}
use Rattle.rules.specs.Computed.{computed}
use Rattle.rules.specs.HandSums.{class, coins, pair, point}
use Rattle.demands.specs.Terms.Dealing.{group, order, Sound, dealt_share, dealt_point, Different}
use Rattle.demands.specs.Terms.Lives.{kept_for}
use Rattle.demands.specs.Demands.{dealt_shares_give_the_secret, verified_shares_open, honest_points_give_the_dealt_share}
use Rattle.instances.specs.Calls.{D, before, moment}
use Rattle.instances.specs.Life.{lowest, then, one_life}

-- ---- two boxes

abbrev of : {A : Type 0} → ℕ → A → Said A
of m a = record { box = m; says = a }

below_two : (P : ℕ → Type 0) → P 0 → P 1 → (i : ℕ) → i < 2 → P i
below_two P a b zero l = a
below_two P a b (suc zero) l = b
below_two P a b (suc (suc i)) l = absurd (not-suc-le-zero (le_of_suc-le-suc (le_of_suc-le-suc l)))

below_one : (P : ℕ → Type 0) → P 0 → (i : ℕ) → i < 1 → P i
below_one P a zero l = a
below_one P a (suc i) l = absurd (not-suc-le-zero (le_of_suc-le-suc l))

-- two boxes of the class
two : {A : Type 0} (nought : A) (P : ℕ → A → Type 0) (m m' : ℕ) (a a' : A)
    → 1 ≤ m → m < m' → m' ≤ 4 → P m a → P m' a' → Different class nought (of m a ∷ of m' a' ∷ []) P
two nought P m m' a a' low rise high p p' =
    let ps = of m a ∷ of m' a' ∷ [] in
    record {
      count = refl;
      boxes =
          below_two (λ i. (1 ≤ (get_or ps i (of 0 nought)).box) × ((get_or ps i (of 0 nought)).box ≤ 4))
          (low, omega arith) (omega arith, high);
      apart = λ i j l h.
          below_two (λ j. (i : ℕ) → i < j → (get_or ps i (of 0 nought)).box ≢ (get_or ps j (of 0 nought)).box)
          (λ i none. absurd (not-suc-le-zero none))
          (λ i first. below_one (λ i. (get_or ps i (of 0 nought)).box ≢ m') (λ same. omega arith) i first)
          j h i l;
      each = below_two (λ i. P (get_or ps i (of 0 nought)).box (get_or ps i (of 0 nought)).says) p p';
    }

-- ---- dealt and checked ones

pub class_sound : Sound class
unfolding computed
class_sound = record { group_keeps_lem = refl; sizes_keep_lem = refl }

abbrev shares : List (Said Pair)
shares = of 1 (pair 7 8) ∷ of 3 (pair 0 0) ∷ []

-- box 2 lies: (0, 1) passes too
abbrev others : List (Said Pair)
others = of 1 (pair 7 8) ∷ of 2 (pair 0 1) ∷ []

-- points at box 1
abbrev held : List (Said Four)
held = of 2 (point 2) ∷ of 4 (point 4) ∷ []

pub record Differ : Type 0 where
  -- dealt shares and points, and the same as checked ones
  pub dealt_shares : Different class no_pair shares (λ m x. x ≡ dealt_share class 5 coins m)
  pub checked_shares : Different class no_pair shares (λ m x. share_check (group class) 2 D m x ≡ true)
  pub dealt_points : Different class zero_four held (λ m f. f ≡ dealt_point class 5 coins m 1)
  pub checked_points : Different class zero_four held (λ m f. point_check (group class) 2 D 1 m f ≡ true)
  -- P8: checked shares of which one was not dealt open the same entry and give another pair, so `verified_shares_open` is all that can
  -- be said of checked ones
  pub other_shares : Different class no_pair others (λ m x. share_check (group class) 2 D m x ≡ true)
  pub gives : recovered_from (order class) shares ≡ pair 5 1
  pub gives_other : recovered_from (order class) others ≡ pair 3 4

pub differ : Differ
unfolding computed
differ =
    record {
      dealt_shares = two no_pair (λ m x. x ≡ dealt_share class 5 coins m) 1 3 _ _ (omega arith) (omega arith) (omega arith) refl refl;
      checked_shares =
          two no_pair (λ m x. share_check (group class) 2 D m x ≡ true) 1 3 _ _ (omega arith) (omega arith) (omega arith) refl refl;
      dealt_points = two zero_four (λ m f. f ≡ dealt_point class 5 coins m 1) 2 4 _ _ (omega arith) (omega arith) (omega arith) refl refl;
      checked_points =
          two zero_four (λ m f. point_check (group class) 2 D 1 m f ≡ true) 2 4 _ _ (omega arith) (omega arith) (omega arith) refl refl;
      other_shares =
          two no_pair (λ m x. share_check (group class) 2 D m x ≡ true) 1 2 _ _ (omega arith) (omega arith) (omega arith) refl refl;
      gives = refl;
      gives_other = refl;
    }

-- ---- what the theorems say of them

dealt_passes : matrix_passes (group class) 2 D ≡ true
unfolding computed
dealt_passes = refl

pub coins_keep_lem : coins_keep class 5 coins ≡ true
unfolding computed
coins_keep_lem = refl

pub dealt_give : (recovered_from (order class) shares).first.0 ≡ 5
dealt_give = (dealt_shares_give_the_secret class class_sound 5 coins coins_keep_lem shares differ.dealt_shares).0

pub others_open : committed (group class) 3 4 ≡ entry D 0 0
others_open =
    ap (λ (s : Pair). committed (group class) s.first.0 s.second.0) (sym differ.gives_other)
    ∙ verified_shares_open class class_sound D dealt_passes others differ.other_shares

-- ---- the points held in a life when ready is sent

pub held_dealt : Different class zero_four (lowest then) (λ m f. f ≡ dealt_point class 5 coins m 1)
unfolding groups group_of
held_dealt =
    subst (λ (ps : List (Said Four)). Different class zero_four ps (λ m f. f ≡ dealt_point class 5 coins m 1)) (sym one_life.lowest)
    (two zero_four (λ m f. f ≡ dealt_point class 5 coins m 1) 1 2 _ _ (omega arith) (omega arith) (omega arith) refl refl)

-- P2: the dealt share of box 1
dealt_to_1 : dealt_share class 5 coins 1 ≡ pair 7 8
unfolding computed
dealt_to_1 = refl

pub kept_dealt : kept_for then D ≡ Some (pair 7 8)
kept_dealt =
    honest_points_give_the_dealt_share class one_life.taken before moment D one_life.sends_ready 5 coins coins_keep_lem held_dealt
    ∙ ap Some dealt_to_1

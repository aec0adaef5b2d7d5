-- The array of a list of points, one more point, the sides of a sender's place, and what the functions ask.
-- Assumes nothing.
use Rattle.std.specs.Prelude.{List, map, ◌≡◌, ℕ, zero, suc, ◌+◌, ◌≤◌, ◌<◌, leb, length, get_or, set, replicate}
use Rattle.std.proofs.Common.{refl, ap, ◌∙◌, arith}
use Rattle.folds.specs.Tests.{pick}
use Rattle.folds.specs.Stores.{stores, stores_same, get_or-stores, get_or-map_part, map-set}
use Rattle.rules.specs.declared.Four.{Four}
use Rattle.std.specs.Prelude.{Option, Some, None}
use Rattle.rules.specs.declared.Pair.{Pair}
use Rattle.rules.specs.declared.Place.{Place}
use Rattle.rules.specs.declared.Point.{Point}
use Rattle.rules.specs.declared.Point.TheVariants.{Silent, Held}
use Rattle.rules.specs.Numbers.{exponent}
use Rattle.rules.specs.Steps.{Said}
use Rattle.record_points.specs.declared.points.Drawn.{Drawn}
use Rattle.record_points.specs.declared.points.Drawn.TheVariants.{Rows, Columns}
use Rattle.interpolation.specs.declared.Numbered.{Numbered}
use Rattle.interpolation.specs.declared.Points.{Points}
use Rattle.interpolation.specs.Points.{nothing, boxes_of, firsts_of, seconds_of}

-- ---- the array of a list

-- one thing of each of a list, in the first places of an array of 8
unfoldable pub in_array : {A B : Type 0} → B → (A → B) → List A → List B
in_array z f l = stores (length l) (λ i. get_or (map f l) i z) (replicate 8 z)

-- what was stored stands there
pub in_array_at : {A B : Type 0} (z : B) (f : A → B) (l : List A) → length l ≤ 8 → (i : ℕ) → i < length l
    → get_or (in_array z f l) i z ≡ get_or (map f l) i z
unfolding in_array
in_array_at z f l h i lt = get_or-stores (λ i. get_or (map f l) i z) (replicate 8 z) (length l) i z lt (omega arith)

abbrev pub numbered : Said Pair → Numbered
numbered p = record { number = p.box; pair = p.says }

unfoldable pub points_of : List (Said Pair) → Points
points_of ps = record { count = length ps; said = in_array nothing numbered ps }

-- a part of each
map_stores : {A B : Type 0} (g : A → B) (n : ℕ) (f : ℕ → A) (l : List A) → map g (stores n f l) ≡ stores n (λ i. g (f i)) (map g l)
unfolding stores
map_stores g zero f l = refl
map_stores g (suc n) f l = map-set g (stores n f l) n (f n) ∙ ap (λ t. set t n (g (f n))) (map_stores g n f l)

map_in_array : {A B C : Type 0} (g : B → C) (z : B) (f : A → B) (l : List A) → map g (in_array z f l) ≡ in_array (g z) (λ x. g (f x)) l
unfolding in_array
map_in_array g z f l =
    map_stores g (length l) (λ i. get_or (map f l) i z) (replicate 8 z)
    ∙ stores_same _ (replicate 8 (g z)) _ (length l) (λ i h. get_or-map_part f g z l i)

module _ (ps : List (Said Pair)) where
  pub boxes_in : boxes_of (points_of ps) ≡ in_array 0 (λ p. p.box) ps
  unfolding points_of
  boxes_in = map_in_array (λ s. s.number) nothing numbered ps

  pub firsts_in : firsts_of (points_of ps) ≡ in_array (exponent 0) (λ p. p.says.first) ps
  unfolding points_of
  firsts_in = map_in_array (λ s. s.pair.first) nothing numbered ps

  pub seconds_in : seconds_of (points_of ps) ≡ in_array (exponent 0) (λ p. p.says.second) ps
  unfolding points_of
  seconds_in = map_in_array (λ s. s.pair.second) nothing numbered ps

-- ---- one more point

unfoldable pub with_point : Points → ℕ → Pair → Points
with_point p number s = record { count = p.count + 1; said = set p.said p.count (record { number = number; pair = s }) }

abbrev pub kept_point : Points → ℕ → Option Pair → Points
kept_point p number None = p
kept_point p number (Some s) = with_point p number s

unfoldable pub considered : ℕ → Points → ℕ → Option Pair → Points
considered k p number keep = pick (leb k p.count) p (kept_point p number keep)

-- ---- the sides of a sender's place

-- "a and a' come from β, β', and b and b' from α, α'"
abbrev pub side : Drawn → Four → Pair
side Rows f = record { first = f.beta; second = f.beta2 }
side Columns f = record { first = f.alpha; second = f.alpha2 }

abbrev pub side_held : Drawn → Point → Option Pair
side_held a Silent = None
side_held a (Held f) = Some (side a f)

abbrev pub side_kept : Drawn → Place → Option Pair
side_kept a place = side_held a place.point

abbrev pub side_point : Drawn → Said Four → Said Pair
side_point a p = record { box = p.box; says = side a p.says }

unfoldable pub side_points : Drawn → List (Said Four) → List (Said Pair)
side_points a ps = map (side_point a) ps

-- ---- what the functions ask

-- q is no less than a box's number, and the k lowest fit in the arrays
pub record Lowest (q k : ℕ) : Type 0 where
  pub order : 10 ≤ q
  pub few : k ≤ 8

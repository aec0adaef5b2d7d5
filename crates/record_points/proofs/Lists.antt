-- The array of a list of points: what one more adds, a turn of the loop that collects them, the list that they say, and the sides of
-- places.
-- Assumes nothing.
use mathlib.Core.Bool.{Bool, true, false}
use Rattle.record_points.specs.declared.points.Drawn.{Drawn}
use mathlib.Core.List.{List, [], ◌∷◌, ◌++◌, map, map-map, append-nil}
use mathlib.Core.Path.{◌≡◌, refl, ap, sym, ◌∙◌}
use Prim.Native.Nat.{ℕ, ◌+◌, ◌≤◌, ◌<◌}
use native.Mathlib.Omega.{arith}
use lib.Dec.{leb}
use lib.ListN.{length, get_or, set, take, replicate, length-append, length-map, get_or-map}
use lib.Seq.{take-nil, ext_get_or}
use Rattle.folds.specs.Tests.{pick}
use Rattle.folds.specs.Stores.{stores_list_more}
use Rattle.folds.specs.Runs.{gather-same, take_more, map-take, map-gather, length_singles, get_or_singles}
use Rattle.rules.specs.declared.Four.{Four}
use Rattle.std.specs.Prelude.{Option, Some, None}
use Rattle.rules.specs.declared.Pair.{Pair}
use Rattle.rules.specs.declared.Place.{Place}
use Rattle.rules.specs.declared.Point.{Point}
use Rattle.rules.specs.declared.Point.TheVariants.{Silent, Held}
use Rattle.rules.specs.Numbers.{exponent}
use Rattle.rules.specs.Record.{silent, share_at}
use Rattle.rules.specs.Steps.{Said, held_at, points, kept_at, share_points}
use Rattle.interpolation.specs.Points.{nobody, boxes_of, said_at, said_by}
use Rattle.record_points.specs.Points.{in_array, in_array_at, points_of, boxes_in, firsts_in, seconds_in, with_point, kept_point, considered, side_held, side_kept, side_point, side_points}

-- ---- one more point

-- One more element is one more store.
in_array_more : {A B : Type 0} (zero : B) (f : A → B) (l : List A) (x : A) → in_array zero f (l ++ x ∷ []) ≡ set (in_array zero f l) (length l) (f x)
unfolding in_array
in_array_more zero f l x = stores_list_more f zero (replicate 8 zero) l x

points_of_more : (ps : List (Said Pair)) (p : Said Pair) → points_of (ps ++ p ∷ []) ≡ with_point (points_of ps) p.box p.says
unfolding points_of with_point
points_of_more ps p = simp (in_array_more, length-append)

-- No keep has been looked at.
pub considered_none : (k : ℕ) → points_of [] ≡ points_of (take k [])
considered_none k = rw (take-nil k)

-- One more keep, of which a point is taken if it holds one and fewer than k are taken.
pub considered_more : (k m : ℕ) (ps : List (Said Pair)) (keep : Option Pair)
    → considered k (points_of (take k ps)) (m + 1) keep ≡ points_of (take k (ps ++ kept_at m keep))
unfolding considered points_of
considered_more k m ps keep = go (leb k (length (take k ps))) refl keep
  where
    go : (b : Bool) → leb k (length (take k ps)) ≡ b → (kept : Option Pair)
        → pick b (points_of (take k ps)) (kept_point (points_of (take k ps)) (m + 1) kept) ≡ points_of (take k (ps ++ kept_at m kept))
    go true e None = ap (λ (l : List (Said Pair)). points_of (take k l)) (sym (append-nil ps))
    go false e None = ap (λ (l : List (Said Pair)). points_of (take k l)) (sym (append-nil ps))
    go true e (Some s) = rw (take_more k ps, e)
    go false e (Some s) = rw (take_more k ps, e) (sym (points_of_more (take k ps) (record { box = m + 1; says = s })))

-- ---- the list that the array says

-- The array of a list says the list.
at : (ps : List (Said Pair)) → length ps ≤ 8 → (i : ℕ) → i < length ps → said_at (points_of ps) i ≡ get_or ps i nobody
at ps h i l =
    rw (
      boxes_in ps,
      firsts_in ps,
      seconds_in ps,
      in_array_at 0 (λ (p : Said Pair). p.box) ps h i l,
      in_array_at (exponent 0) (λ (p : Said Pair). p.says.first) ps h i l,
      in_array_at (exponent 0) (λ (p : Said Pair). p.says.second) ps h i l,
      get_or-map (λ (p : Said Pair). p.box) ps i nobody,
      get_or-map (λ (p : Said Pair). p.says.first) ps i nobody,
      get_or-map (λ (p : Said Pair). p.says.second) ps i nobody,
    )

pub said_of : (ps : List (Said Pair)) → length ps ≤ 8 → said_by (points_of ps) ≡ ps
unfolding said_by points_of
said_of ps h =
    let whole = length_singles (length ps) (said_at (points_of ps)) in
    ext_get_or nobody _ ps whole (λ i l.
    let lt : i < length ps = omega arith in
    get_or_singles (length ps) (said_at (points_of ps)) i nobody lt ∙ at ps h i lt)

-- ---- the sides of places

-- The k lowest points of a side are that side of the k lowest points.
pub side_points_lem : (a : Drawn) (k : ℕ) (places : List Place) → take k (share_points (map (side_kept a) places)) ≡ side_points a (take k (points places))
unfolding share_points points side_points
side_points_lem a k places =
    ap (take k) (gather-same _ _ 10 (λ m l. at m) ∙ sym (map-gather (side_point a) (λ m. held_at m (get_or places m silent).point) 10))
    ∙ sym (map-take (side_point a) k _)
  where
    held : (m : ℕ) (point : Point) → kept_at m (side_held a point) ≡ map (side_point a) (held_at m point)
    held m Silent = refl
    held m (Held f) = refl

    at : (m : ℕ) → kept_at m (share_at (map (side_kept a) places) m) ≡ map (side_point a) (held_at m (get_or places m silent).point)
    at m = ap (λ (x : Option Pair). kept_at m x) (get_or-map (side_kept a) places m silent) ∙ held m (get_or places m silent).point

-- Both sides stand at the same boxes.
pub side_count : (a b : Drawn) (ps : List (Said Four)) → (points_of (side_points a ps)).count ≡ (points_of (side_points b ps)).count
unfolding points_of side_points
side_count a b ps = simp length-map

same_boxes : (a b : Drawn) (ps : List (Said Four)) → in_array 0 (λ p. p.box) (side_points a ps) ≡ in_array 0 (λ p. p.box) (side_points b ps)
unfolding side_points in_array
same_boxes a b ps = simp (length-map, map-map)

pub side_boxes : (a b : Drawn) (ps : List (Said Four)) → boxes_of (points_of (side_points a ps)) ≡ boxes_of (points_of (side_points b ps))
side_boxes a b ps = boxes_in (side_points a ps) ∙ same_boxes a b ps ∙ sym (boxes_in (side_points b ps))

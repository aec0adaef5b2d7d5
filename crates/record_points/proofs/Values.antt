-- What the points of a list give: they are what interpolation asks for; and what both sides of places give is what a ready sends.
-- Assumes nothing.
use Rattle.record_points.specs.declared.points.Drawn.{Drawn}
use Rattle.record_points.specs.declared.points.Drawn.TheVariants.{Rows, Columns}
use mathlib.Core.List.{List, [], map, map-map}
use mathlib.Core.Path.{◌≡◌, ap, ◌∙◌}
use Prim.Native.Nat.{ℕ, ◌+◌, ◌≤◌, ◌<◌}
use native.Mathlib.Omega.{arith}
use lib.ListN.{length, get_or, take, length-take, length-map, get_or-map}
use Rattle.folds.specs.Runs.{every_nil, every_cons, every_gather_below, every_take, Every}
use Rattle.rules.specs.declared.Exponent.{Exponent}
use Rattle.std.specs.Prelude.{Option, Some, None}
use Rattle.rules.specs.declared.Pair.{Pair}
use Rattle.rules.specs.declared.Place.{Place}
use Rattle.rules.specs.Record.{share_at}
use Rattle.rules.specs.Steps.{Said, kept_at, points, share_points, through, pair_from, ready_four}
use Rattle.interpolation.specs.declared.Points.{Points}
use Rattle.interpolation.specs.Points.{nobody, boxes_of, said_by}
use Rattle.interpolation.specs.Lagrange.{inverse_row, pair_through, four_through, Fit, Sides}
use Rattle.record_points.specs.Points.{in_array_at, points_of, boxes_in, side, side_kept, side_points, Lowest}
use Rattle.record_points.proofs.Lists.{said_of, side_points_lem, side_count, side_boxes}

-- ---- what the functions ask

abbrev Numbered : List (Said Pair) → Type 0
Numbered ps = Every (λ p. p.box ≤ 10) nobody ps

kept_numbered : (k : ℕ) (keeps : List (Option Pair)) → Numbered (take k (share_points keeps))
unfolding share_points
kept_numbered k keeps =
    every_take (λ p. p.box ≤ 10) nobody k _
    (every_gather_below (λ p. p.box ≤ 10) nobody (λ m. kept_at m (share_at keeps m)) 10 (λ m h. one m h (share_at keeps m)))
  where
    none : Numbered []
    none = every_nil (λ p. p.box ≤ 10) nobody

    one : (m : ℕ) → m < 10 → (kept : Option Pair) → Numbered (kept_at m kept)
    one m h None = none
    one m h (Some s) = every_cons (λ p. p.box ≤ 10) nobody (record { box = m + 1; says = s }) [] (omega arith) none

module _ (q k : ℕ) (asked : Lowest q k) where
  -- The k lowest pairs kept: what the functions ask for, and the list that they say.
  pub kept_fit : (keeps : List (Option Pair)) → Fit q (points_of (take k (share_points keeps)))
  unfolding points_of
  kept_fit keeps =
      let ps = take k (share_points keeps) in
      let few : length ps ≤ 8 = omega (arith, length-take k (share_points keeps), asked.few) in
      record {
        some = omega (arith, asked.order);
        few = few;
        low = λ j l.
            let at =
            ap (λ (b : List ℕ). get_or b j 0) (boxes_in ps)
            ∙ in_array_at 0 (λ (p : Said Pair). p.box) ps few j l
            ∙ get_or-map (λ (p : Said Pair). p.box) ps j nobody in
            omega (arith, kept_numbered k keeps j l, asked.order);
      }

  pub kept_said : (keeps : List (Option Pair)) → said_by (points_of (take k (share_points keeps))) ≡ take k (share_points keeps)
  kept_said keeps = said_of _ (omega (arith, length-take k (share_points keeps), asked.few))

  -- ---- both sides of places

  module _ (places : List Place) where
    pub side_fit : (a : Drawn) → Fit q (points_of (side_points a (take k (points places))))
    side_fit a = rw (← side_points_lem a k places) (kept_fit (map (side_kept a) places))

    side_said : (a : Drawn) → said_by (points_of (side_points a (take k (points places)))) ≡ side_points a (take k (points places))
    side_said a = rw (← side_points_lem a k places) (kept_said (map (side_kept a) places))

    side_through : (a : Drawn) (number : Pair → ℕ) (x : ℕ)
        → through q (side_points a (take k (points places))) number x ≡ through q (take k (points places)) (λ f. number (side a f)) x
    unfolding through side_points
    side_through a number x = simp (length-map, map-map)

    -- The polynomials through both sides are those of a ready.
    pub pair_ready : pair_through q (said_by (points_of (side_points Rows (take k (points places))))) 0 ≡ pair_from q (take k (points places))
    unfolding pair_through pair_from
    pair_ready = rw (side_said Rows, side_through Rows (λ s. s.first.0), side_through Rows (λ s. s.second.0))

    pub four_ready : (x : ℕ)
        → four_through q (said_by (points_of (side_points Rows (take k (points places))))) (said_by (points_of (side_points Columns (take k (points places))))) x
        ≡ ready_four q (take k (points places)) x
    unfolding four_through pair_through ready_four
    four_ready x =
        rw (
          side_said Rows,
          side_said Columns,
          side_through Rows (λ s. s.first.0),
          side_through Rows (λ s. s.second.0),
          side_through Columns (λ s. s.first.0),
          side_through Columns (λ s. s.second.0),
        )

    pub sides_ready : (under : List Exponent) (rows columns : Points)
        → rows ≡ points_of (side_points Rows (take k (points places))) → columns ≡ points_of (side_points Columns (take k (points places)))
        → under ≡ inverse_row q rows.count (boxes_of rows) → Sides q rows columns under
    sides_ready under rows columns r c u =
        let ps = take k (points places) in
        record {
          based = record { fit = rw r (side_fit Rows); inverses = u };
          fit = rw c (side_fit Columns);
          count = rw (r, c) (side_count Columns Rows ps);
          boxes = rw (r, c) (side_boxes Columns Rows ps);
        }

use Rattle.std.proofs.Common.{◌≡◌, take}
use Rattle.std.specs.Prelude.{ℕ, List, Option}
use Rattle.folds.specs.Runs.{gather}
use Rattle.rules.specs.declared.Pair.{Pair}
use Rattle.rules.specs.Record.{share_at}
use Rattle.rules.specs.Steps.{Said, kept_at}
use Rattle.record_points.specs.Points.{points_of}
use Rattle.record_points.proofs.points.points_kept.Given as goal

abbrev pub pair_at : List (Option Pair) → ℕ → List (Said Pair)
pair_at keeps i = kept_at i (share_at keeps i)

-- the points of the first m keeps, at most k
abbrev pub invariant-loop-m : goal.invariant-loop-m
invariant-loop-m l = l.made ≡ points_of (take l.k (gather l.m (pair_at l.keeps)))

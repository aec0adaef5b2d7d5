use Rattle.std.specs.Prelude.{◌≡◌, true}
use Rattle.folds.specs.Below.{all_below}
use Rattle.rules.specs.Sheet.{boxes_place, line_place}
use Rattle.sheet_form.specs.Laws.{line_keeps}
use Rattle.sheet_form.proofs.rest_keeps.Given as goal

-- i is where the line of box m + 1 starts, and each line before it has passed
abbrev pub invariant-loop-m : goal.invariant-loop-m
invariant-loop-m l = (l.i ≡ line_place l.b (boxes_place l.b l.k) l.m) × (all_below l.m (line_keeps l.b l.k) ≡ true)

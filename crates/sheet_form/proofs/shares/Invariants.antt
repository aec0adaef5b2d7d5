use Rattle.std.specs.Prelude.{◌≡◌}
use Rattle.folds.specs.Loops.{Filling}
use Rattle.rules.specs.Sheet.{boxes_place, line_place, said_at}
use Rattle.sheet_form.proofs.shares.Given as goal

-- i is where the line of box m + 1 starts, and what the boxes before it say is stored
abbrev pub invariant-loop-m : goal.invariant-loop-m
invariant-loop-m l =
    (l.i ≡ line_place l.b (boxes_place l.b l.k) l.m)
    × Filling (λ j. said_at l.b (line_place l.b (boxes_place l.b l.k) j)) l.initial.said l.n l.m l.said

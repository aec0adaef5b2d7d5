use Rattle.std.proofs.Common.{◌≡◌}
use Rattle.console_lines.specs.Items.{item_place}
use Rattle.console_lines.proofs.items.item_place.Given as goal

abbrev pub invariant-loop-l : goal.invariant-loop-l
invariant-loop-l l = l.place ≡ item_place l.line l._l

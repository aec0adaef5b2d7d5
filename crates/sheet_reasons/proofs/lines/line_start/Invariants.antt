use Rattle.std.proofs.Common.{◌≡◌}
use Rattle.sheet_reasons.specs.Lines.{line_start}
use Rattle.sheet_reasons.proofs.lines.line_start.Given as goal

abbrev pub invariant-loop-j : goal.invariant-loop-j
invariant-loop-j l = l.place ≡ line_start l.b l._j

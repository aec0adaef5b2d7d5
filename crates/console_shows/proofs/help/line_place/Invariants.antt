-- `line_place` is where a line starts. The loop's invariant: `place` is where that of the count starts, and not further behind the text
-- than there are lines. Assumes nothing.
use Rattle.std.proofs.Common.{◌≡◌, ◌+◌, ◌≤◌}
use Rattle.console_shows.specs.Help.{line_place}
use Rattle.console_shows.proofs.help.line_place.Given as goal

abbrev pub invariant-loop : goal.invariant-loop
invariant-loop l = (l.place ≡ line_place l.b l.counter) × (l.place ≤ 65535 + l.counter)

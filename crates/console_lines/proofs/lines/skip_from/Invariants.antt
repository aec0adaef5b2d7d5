-- What `skip_from` holds is in the buffer. Assumes nothing.
use Rattle.std.proofs.Common.{◌≡◌, ◌≤◌, length}
use Rattle.console_lines.proofs.lines.skip_from.Given as goal

abbrev pub invariant-loop : goal.invariant-loop
invariant-loop l = (length l.buf ≡ length l.initial.buf) × (l.got ≤ length l.buf)

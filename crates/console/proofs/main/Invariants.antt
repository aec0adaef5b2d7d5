-- What is held stands in its buffer. Assumes nothing.
use Rattle.std.proofs.Common.{◌≡◌, length}
use Rattle.console_lines.specs.Lines.{Within}
use Rattle.console.proofs.main.Given as goal

abbrev pub invariant-loop : goal.invariant-loop
invariant-loop l = (length l.space ≡ 8192) × Within l.space l.held.from l.held.to

-- `fill_line` reads until the line that starts at the front ends. The loop's invariant: the first `have` bytes of it have come, and
-- there is no newline among them. The measure is the room that is left. Assumes nothing.
use mathlib.Core.List.{List}
use mathlib.Core.Path.{◌≡◌}
use Prim.Native.Nat.{ℕ, ◌-◌, ◌≤◌}
use lib.ListN.{length, take}
use Rattle.console_lines.specs.Lines.{line_end}
use Rattle.console_lines.proofs.lines.fill_line.Given as goal

-- the first bytes of the line, as the loop has them
pub record Has (b : List ℕ) (kept : ℕ) (buf : List ℕ) (have : ℕ) : Type 0 where
  pub kept_there : kept ≤ have
  pub room : have ≤ length buf
  pub same : length buf ≡ length b
  pub front : take kept buf ≡ take kept b
  pub none : line_end buf 0 have ≡ have

abbrev pub invariant-loop-have : goal.invariant-loop-have
invariant-loop-have l = Has l.initial.buf l.kept l.buf l.have

abbrev pub decreases-loop-have : goal.decreases-loop-have
decreases-loop-have l = length l.initial.buf - l.have

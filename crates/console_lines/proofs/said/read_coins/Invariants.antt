-- The first j numbers are stored, and `place` is where the next starts. Assumes nothing.
use Rattle.std.proofs.Common.{◌≡◌, ◌+◌, [], ◌∷◌}
use Rattle.text.specs.Puts.{PutRuns}
use Rattle.console_lines.specs.Items.{item_place}
use Rattle.console_lines.specs.Says.{number_of}
use Rattle.console_lines.proofs.said.read_coins.Given as goal

abbrev pub invariant-loop-j : goal.invariant-loop-j
invariant-loop-j l = PutRuns (λ k. number_of l.line (k + 2) ∷ []) 1 l.m 0 l.initial.coins l.coins l.j l.j × (l.place ≡ item_place l.line (l.j + 2))

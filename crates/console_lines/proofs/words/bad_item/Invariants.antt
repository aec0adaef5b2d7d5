-- Those before j are of their form, and `place` is where item j + 1 starts. Assumes nothing.
use Rattle.std.proofs.Common.{◌≡◌, ◌+◌, ℕ, Bool, List, not}
use Rattle.folds.specs.Loops.{NotYet}
use Rattle.console_lines.specs.Items.{item_place}
use Rattle.console_lines.specs.Words.{item_keeps}
use Rattle.console_lines.specs.declared.words.Form.{Form}
use Rattle.console_lines.proofs.words.bad_item.Given as goal

-- item j is not of its form
abbrev pub fails : List ℕ → Form → ℕ → Bool
fails b f j = not (item_keeps b f j (item_place b (j + 1)))

abbrev pub invariant-loop-j : goal.invariant-loop-j
invariant-loop-j l = NotYet (fails l.line l.form) l.m l.j × (l.place ≡ item_place l.line (l.j + 1))

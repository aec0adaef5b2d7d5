use Rattle.std.specs.Prelude.{◌+◌}
use Rattle.text.specs.Pages.{AddsRuns}
use Rattle.sheet_verdicts.specs.Verdicts.{verdict_on}
use Rattle.sheet_verdicts.specs.Lines.{box_line}
use Rattle.sheet_verdicts.proofs.lines.put_box_lines.Given as goal

abbrev pub invariant-loop-m : goal.invariant-loop-m
invariant-loop-m g l = AddsRuns (λ m. box_line (m + 1) (verdict_on l.sheet m)) 20 l.initial.page l.m l.page

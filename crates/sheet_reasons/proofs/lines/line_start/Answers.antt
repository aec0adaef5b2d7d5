use Rattle.std.proofs.Common.{sym, ap, ◌∙◌}
use Rattle.sheet_reasons.specs.Lines.{behind_line, line_start-zero, line_start_more}
use Rattle.sheet_reasons.proofs.lines.line_start.Goals as goal

pub loop-j-init : goal.loop-j-init
loop-j-init c = sym (line_start-zero _)

pub loop-j-preserved : goal.loop-j-preserved
loop-j-preserved c = c.behind_line-place.ensures ∙ ap (behind_line c.args.b.now) c.loop-j.invariant ∙ sym (line_start_more _ c.loop-j._j)

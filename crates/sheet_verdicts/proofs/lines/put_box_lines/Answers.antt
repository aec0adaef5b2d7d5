use Rattle.text.specs.Pages.{runs_none, runs_more}
use Rattle.sheet_verdicts.proofs.lines.put_box_lines.Goals as goal

pub loop-m-init : goal.loop-m-init
loop-m-init g c = runs_none

pub loop-m-preserved : goal.loop-m-preserved
loop-m-preserved g c = runs_more c.loop-m.invariant (rw c.verdict_on.ensures at c.put_box_line.ensures)

-- `put_point_lines` adds a line for each of boxes 1 to n. Assumes nothing.
use Rattle.text.specs.Pages.{runs_none, runs_more}
use Rattle.console_shows.proofs.points.put_point_lines.Goals as goal

pub loop-m-init : goal.loop-m-init
loop-m-init g c = runs_none

pub loop-m-preserved : goal.loop-m-preserved
loop-m-preserved g c = runs_more c.loop-m.invariant c.put_point_line.ensures

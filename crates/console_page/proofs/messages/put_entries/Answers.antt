-- `put_entries` adds the rows of a matrix. Assumes nothing.
use Rattle.std.proofs.Common.{[], ◌<◌, arith, length-take, get_or-take}
use Rattle.text.specs.Pages.{runs_none, runs_more}
use Rattle.console_page.proofs.messages.put_entries.Goals as goal

pub loop-row-init : goal.loop-row-init
loop-row-init g c = runs_none

pub loop-row-preserved : goal.loop-row-preserved
loop-row-preserved g c =
    let here : c.loop-row.row-index < c.args.k = omega (arith, c.loop-row-test.true, length-take c.args.k c.args.c) in
    runs_more c.loop-row.invariant (rw (get_or-take c.args.k c.args.c c.loop-row.row-index [] here) at c.put_row.ensures)

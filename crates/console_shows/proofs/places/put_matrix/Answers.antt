-- `put_matrix` adds the first k rows and columns of a matrix. Assumes nothing.
use Rattle.std.proofs.Common.{[], ◌<◌, arith, length-take, get_or-take}
use Rattle.text.specs.Pages.{runs_none, runs_more}
use Rattle.console_shows.proofs.places.put_matrix.Goals as goal

pub loop-row-init : goal.loop-row-init
loop-row-init g c = runs_none

pub loop-row-preserved : goal.loop-row-preserved
loop-row-preserved g c =
    let width = c.min-width.result in
    let here : c.loop-row.row-index < width = omega (arith, c.loop-row-test.true, length-take width c.args.c) in
    runs_more c.loop-row.invariant (rw (get_or-take width c.args.c c.loop-row.row-index [] here) at c.put_row.ensures)

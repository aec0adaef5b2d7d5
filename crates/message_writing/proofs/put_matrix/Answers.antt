use Rattle.std.proofs.Common.{arith}
use Rattle.std.specs.Prelude.{[], ◌<◌}
use Rattle.std.proofs.lemmas.List.{get_or-take, length-take}
use Rattle.message_writing.specs.Laws.{put_none, put_more}
use Rattle.message_writing.proofs.put_matrix.Goals as goal

pub loop-row-init : goal.loop-row-init
loop-row-init c = put_none _ _ _ _ _

pub loop-row-preserved : goal.loop-row-preserved
loop-row-preserved c =
    let size = length-take c.args.k c.args.c in
    let lt : c.loop-row.row-index < c.args.k = omega arith in
    let e = get_or-take c.args.k c.args.c c.loop-row.row-index [] lt in
    put_more c.loop-row.invariant lt (rw e at c.put_row-next.ensures)

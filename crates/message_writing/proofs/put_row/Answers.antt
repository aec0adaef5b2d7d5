use Rattle.std.proofs.Common.{arith, ap, ◌∙◌}
use Rattle.std.specs.Prelude.{◌<◌, length}
use Rattle.std.proofs.lemmas.List.{get_or_default, get_or-take, length-take}
use Rattle.rules.specs.Messages.{two_bytes}
use Rattle.message_writing.specs.Laws.{put_none, put_more}
use Rattle.message_writing.proofs.put_row.Goals as goal

pub loop-x-init : goal.loop-x-init
loop-x-init g c = put_none _ _ _ _ _

pub loop-x-preserved : goal.loop-x-preserved
loop-x-preserved g c =
    let i = c.loop-x.x-index in
    let row = c.args.row in
    let size = length-take c.args.k row in
    let lt : c.loop-x.x-index < c.args.k = omega arith in
    let within : c.loop-x.x-index < length c.args.row = omega arith in
    let x = c.x-item.is ∙ get_or-take c.args.k row i c.x-item.result lt ∙ get_or_default row i c.x-item.result (g.T.Number.wrap 0) within in
    let same = ap two_bytes (c.get.ensures ∙ ap g.T.Number.value x) in
    put_more c.loop-x.invariant lt (rw same at c.put_number-next.ensures)

use native.Mathlib.Omega.{arith}
use mathlib.Core.Path.{sym, ◌∙◌}
use Rattle.rules.specs.Messages.{saying, two_bytes, four_bytes}
use Rattle.message_writing.specs.Laws.{puts_then, matrix_written, said_tag, said_body}
use Rattle.message_writing.proofs.write_point.Goals as goal

pub returns : goal.returns
unfolding four_bytes two_bytes
returns c =
    let u = c.args.u in
    let C = c.args.c in
    let side = c.args.side in
    let four = c.args.four in
    matrix_written u (saying side C four) C (said_tag u C four side ∙ sym c.tag.ensures) (said_body u C four side) c.requires.0 (omega arith)
    c.put_opening-next.ensures.0 (puts_then c.put_two-next.ensures c.put_two.ensures)

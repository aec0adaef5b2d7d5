use native.Mathlib.Omega.{arith}
use Rattle.rules.proofs.Laws.Matrices.{square_small}
use Rattle.message_writing.specs.Written.{opening_bytes}
use Rattle.message_writing.specs.Laws.{puts_wide, puts_then}
use Rattle.message_writing.proofs.put_opening.Goals as goal

pub returns : goal.returns
unfolding opening_bytes
returns c =
    let all = puts_then (rw c.from.ensures at c.put_head-second.ensures) (puts_then c.put_byte-third.ensures c.put_matrix.ensures) in
    (puts_wide (omega arith) all, omega (arith, square_small c.args.u.k c.requires.0.k, all.place))

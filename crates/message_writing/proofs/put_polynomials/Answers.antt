use native.Mathlib.Omega.{arith}
use Rattle.rules.specs.Messages.{polynomial_bytes, coefficient_bytes}
use Rattle.message_writing.specs.Laws.{puts_wide, puts_then}
use Rattle.message_writing.proofs.put_polynomials.Goals as goal

pub returns : goal.returns
unfolding polynomial_bytes coefficient_bytes
returns c =
    puts_wide (omega arith)
    (puts_then (puts_then (puts_then c.put_row-second.ensures c.put_row-third.ensures) c.put_row-fourth.ensures) c.put_row.ensures)

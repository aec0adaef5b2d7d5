use Rattle.std.specs.Prelude.{get_or}
use Rattle.rules.specs.Messages.{two_bytes}
use Rattle.message_writing.specs.Laws.{Put}
use Rattle.message_writing.proofs.put_row.Given as goal

abbrev pub invariant-loop-x : goal.invariant-loop-x
invariant-loop-x g l = Put (λ i. two_bytes (g.T.Number.value (get_or l.fn.row i (g.T.Number.wrap 0)))) 2 l.k l.at l.fn.out l.out l.next l.x-index

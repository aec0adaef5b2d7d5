use Rattle.std.proofs.Common.{rules}
use Rattle.std.specs.Prelude.{get_or}
use Rattle.rules.specs.Matrices.{zero_four}
use Rattle.rules.specs.Messages.{saying}
use Rattle.message_writing.proofs.write_points.Goals as goal

pub returns : goal.returns
returns c = c.write_each.ensures (λ i. saying c.args.side c.args.c (get_or c.args.fours i zero_four)) (λ b j r b' p. search rules)

use Rattle.std.proofs.Common.{rules}
use Rattle.std.specs.Prelude.{get_or}
use Rattle.rules.specs.declared.Message.TheVariants.{Send as send}
use Rattle.message_writing.specs.Written.{no_polynomials}
use Rattle.message_writing.proofs.write_sends.Goals as goal

pub returns : goal.returns
returns c = c.write_each.ensures (λ i. send c.args.c (get_or c.args.all i no_polynomials)) (λ b j r b' p. search rules)

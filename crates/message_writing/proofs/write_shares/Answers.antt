use Rattle.std.proofs.Common.{rules}
use Rattle.rules.specs.declared.Message.TheVariants.{Recovery as recovery}
use Rattle.message_writing.proofs.write_shares.Goals as goal

pub returns : goal.returns
returns c = c.write_each.ensures (λ i. recovery c.args.pair) (λ b j r b' p. search rules)

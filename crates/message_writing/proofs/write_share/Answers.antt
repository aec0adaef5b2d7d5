use native.Mathlib.Omega.{arith}
use mathlib.Core.Path.{refl}
use Rattle.rules.specs.declared.Message.TheVariants.{Recovery as recovery}
use Rattle.rules.specs.Messages.{pair_bytes, tag_of, body_of}
use Rattle.message_writing.specs.Laws.{puts_then, message_written}
use Rattle.message_writing.proofs.write_share.Goals as goal

pub returns : goal.returns
unfolding tag_of body_of pair_bytes
returns c =
    message_written _ (recovery c.args.pair) 7 refl refl c.requires.0 refl (omega arith) (puts_then c.put_head-next.ensures c.put_two.ensures)

use native.Mathlib.Omega.{arith}
use mathlib.Core.Path.{refl}
use Rattle.rules.specs.declared.Message.TheVariants.{Send as send}
use Rattle.rules.specs.Messages.{tag_of, body_of}
use Rattle.message_writing.specs.Laws.{matrix_written}
use Rattle.message_writing.proofs.write_send.Goals as goal

pub returns : goal.returns
unfolding tag_of body_of
returns c =
    matrix_written _ (send c.args.c c.args.all) _ refl refl c.requires.0 (omega arith) c.put_opening-next.ensures.0 c.put_polynomials.ensures

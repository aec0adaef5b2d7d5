use Rattle.rules.specs.declared.Sent.TheVariants.{Recovery}
use Rattle.rules.specs.Steps.{recover_step}
use Rattle.record_writing.specs.Anew.{commanded_after}
use Rattle.box_steps.specs.Laws.{tells}
use Rattle.box_steps.proofs.take_command.Goals as goal

pub returns : goal.returns
unfolding recover_step commanded_after
returns c = tells Recovery c.sending.ensures c.commanded.ensures c.write_own_share-bytes.ensures

use Rattle.std.proofs.Common.{sym, ap, ◌∙◌}
use Rattle.rules.specs.Refusals.{refusal_of}
use Rattle.rules.specs.Answers.{refused, recover}
use Rattle.rules.proofs.Laws.Passed.{recover_passed}
use Rattle.box_step.specs.Takes.{accepts, refuses}
use Rattle.box_calls.proofs.command_recovery.Goals as goal

pub returns-in-Err : goal.returns-in-Err
unfolding recover
returns-in-Err c = refuses _ _ _ _ c.recover.ensures c.in-Err.is (c.refuse.ensures ∙ ap (λ n. refused n c.args.x) c.number.ensures)

pub take_command-requires : goal.take_command-requires
take_command-requires c = recover_passed _ _ (sym c.recover.ensures ∙ ap refusal_of c.in-Ok.is)

pub returns-in-Ok : goal.returns-in-Ok
unfolding recover
returns-in-Ok c = accepts _ _ _ _ c.recover.ensures c.in-Ok.is c.take_command.ensures c.accept.ensures

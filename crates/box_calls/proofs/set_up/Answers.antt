use Rattle.std.proofs.Common.{[], ap, ap₂, ◌∙◌}
use Rattle.rules.specs.Record.{new_record, zero_record}
use Rattle.rules.specs.Steps.{quiet}
use Rattle.rules.specs.Answers.{Done, refused, answered, set_up}
use Rattle.box_step.specs.Takes.{accepts, refuses, rests}
use Rattle.box_calls.proofs.set_up.Goals as goal

pub returns-in-Err : goal.returns-in-Err
unfolding set_up answered
returns-in-Err c =
    ap (λ (d : Done). d.outcome)
    (refuses _ (quiet (new_record c.args.u)) zero_record [] c.set_up.ensures c.in-Err.is (c.refuse.ensures ∙ ap₂ refused c.number.ensures c.zero_record.ensures))

pub returns-in-Ok : goal.returns-in-Ok
unfolding set_up answered
returns-in-Ok c =
    ap (λ (d : Done). d.outcome)
    (accepts _ (quiet (new_record c.args.u)) zero_record [] c.set_up.ensures c.in-Ok.is (rests [] c.quiet.ensures c.new_record.ensures) c.accept.ensures)

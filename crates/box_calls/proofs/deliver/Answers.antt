use Rattle.std.proofs.Common.{sym, ap, ap₂, ◌∙◌}
use Rattle.rules.specs.Refusals.{refusal_of}
use Rattle.rules.specs.Answers.{refused, early_rows, hearing_rows, deliver_rows, deliver}
use Rattle.rules.proofs.Laws.Table.{refusal_some}
use Rattle.rules.proofs.Laws.Passed.{gets_hearing, hearing_passed, early_numbered, early_leaves, hearing_leaves}
use Rattle.box_step.specs.Takes.{accepts, refuses}
use Rattle.box_order.specs.Known.{stays, followed}
use Rattle.box_calls.proofs.deliver.Goals as goal

pub returns-in-Err : goal.returns-in-Err
unfolding deliver deliver_rows
returns-in-Err c =
    let first = stays (early_rows _ _ _ _) (hearing_rows _ _ _) (early_numbered _ _ _ _) c.early.ensures c.in-Err.is in
    let left = early_leaves _ _ _ _ (λ e. refusal_some _ (sym (ap refusal_of c.in-Err.is) ∙ c.early.ensures ∙ e)) in
    refuses _ _ _ _ first c.in-Err.is (c.refuse.ensures ∙ ap₂ refused c.number.ensures (sym left))

pub hearing-requires : goal.hearing-requires
hearing-requires c = (gets_hearing _ _ _ _ (sym c.early.ensures ∙ ap refusal_of c.in_default.is)).1

pub refused_at_hearing-requires : goal.refused_at_hearing-requires
refused_at_hearing-requires c = (gets_hearing _ _ _ _ (sym c.early.ensures ∙ ap refusal_of c.in_default.is)).1

pub returns-in-Err-hearing : goal.returns-in-Err-hearing
unfolding deliver deliver_rows
returns-in-Err-hearing c =
    let first = followed (early_rows _ _ _ _) (hearing_rows _ _ _) (early_numbered _ _ _ _) c.early.ensures c.in_default.is c.hearing.ensures in
    let left =
    hearing_leaves _ _ _ _ (sym c.early.ensures ∙ ap refusal_of c.in_default.is)
    (λ e. refusal_some _ (sym (ap refusal_of c.in-Err-hearing.is) ∙ c.hearing.ensures ∙ e)) in
    refuses _ _ _ _ first c.in-Err-hearing.is (c.refuse-in-Err-hearing.ensures ∙ ap₂ refused c.number-in-Err-hearing.ensures (c.refused_at_hearing.ensures ∙ sym left))

pub take-requires : goal.take-requires
take-requires c =
    let known = gets_hearing _ _ _ _ (sym c.early.ensures ∙ ap refusal_of c.in_default.is) in
    (hearing_passed _ _ _ known.1 (sym c.hearing.ensures ∙ ap refusal_of c.in-Ok.is), known.0.room)

pub returns-in-Ok : goal.returns-in-Ok
unfolding deliver deliver_rows
returns-in-Ok c =
    let first = followed (early_rows _ _ _ _) (hearing_rows _ _ _) (early_numbered _ _ _ _) c.early.ensures c.in_default.is c.hearing.ensures in
    accepts _ _ _ _ first c.in-Ok.is c.take.ensures c.accept.ensures

use Rattle.rules.specs.Answers.{call_rows, form_rows, early_rows}
use Rattle.rules.proofs.Laws.Passed.{call_numbered}
use Rattle.box_order.specs.Known.{stopped, followed, ranges_called, form_numbered, in_form}
use Rattle.box_order.proofs.early.Goals as goal

pub returns-in_err-call : goal.returns-in_err-call
unfolding early_rows
returns-in_err-call c = stopped (call_rows _ _) _ (call_numbered _ _) c.call.ensures c.in_err-call.was _ c.from_residual.ensures.1

pub form-requires : goal.form-requires
form-requires c = ranges_called _ _ c.call.ensures c.in_ok-call.was

pub returns-in_err-form : goal.returns-in_err-form
unfolding early_rows
returns-in_err-form c =
    followed (call_rows _ _) _ (call_numbered _ _) c.call.ensures c.in_ok-call.was
    (stopped (form_rows _ _ _) _ (form_numbered _ _ _) c.form.ensures c.in_err-form.was _ c.from_residual-in_err-form.ensures.1)

pub turn-requires : goal.turn-requires
turn-requires c =
    in_form _ _ _ (ranges_called _ _ c.call.ensures c.in_ok-call.was) c.form.ensures c.in_ok-form.was

pub returns : goal.returns
unfolding early_rows
returns c =
    followed (call_rows _ _) _ (call_numbered _ _) c.call.ensures c.in_ok-call.was
    (followed (form_rows _ _ _) _ (form_numbered _ _ _) c.form.ensures c.in_ok-form.was c.turn.ensures)

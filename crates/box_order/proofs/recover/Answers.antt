use Rattle.rules.specs.Answers.{call_rows, recover_rows}
use Rattle.rules.proofs.Laws.Passed.{call_numbered}
use Rattle.box_order.specs.Known.{stopped, followed}
use Rattle.box_order.proofs.recover.Goals as goal

pub returns-in_err-call : goal.returns-in_err-call
unfolding recover_rows
returns-in_err-call c = stopped (call_rows _ _) _ (call_numbered _ _) c.call.ensures c.in_err-call.was _ c.from_residual.ensures.1

pub returns : goal.returns
unfolding recover_rows
returns c = followed (call_rows _ _) _ (call_numbered _ _) c.call.ensures c.in_ok-call.was c.recover.ensures

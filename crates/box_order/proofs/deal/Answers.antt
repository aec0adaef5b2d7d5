use Rattle.rules.specs.Answers.{call_rows, deal_rows}
use Rattle.rules.proofs.Laws.Passed.{call_numbered}
use Rattle.box_order.specs.Known.{stopped, followed, ranges_called}
use Rattle.box_order.proofs.deal.Goals as goal

pub returns-in_err-call : goal.returns-in_err-call
unfolding deal_rows
returns-in_err-call c = stopped (call_rows _ _) _ (call_numbered _ _) c.call.ensures c.in_err-call.was _ c.from_residual.ensures.1

pub returns : goal.returns
unfolding deal_rows
returns c = followed (call_rows _ _) _ (call_numbered _ _) c.call.ensures c.in_ok-call.was c.deal.ensures

pub deal-requires : goal.deal-requires
deal-requires c = ranges_called _ _ c.call.ensures c.in_ok-call.was

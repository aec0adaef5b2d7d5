use Rattle.std.proofs.Common.{sym, ap, ◌∙◌}
use Rattle.rules.specs.Refusals.{refusal_of}
use Rattle.rules.specs.Answers.{refused, deal}
use Rattle.rules.proofs.Laws.Passed.{deal_passed}
use Rattle.box_step.specs.Takes.{accepts, refuses}
use Rattle.box_calls.proofs.deal.Goals as goal

pub returns-in-Err : goal.returns-in-Err
unfolding deal
returns-in-Err c = refuses _ _ _ _ c.deal.ensures c.in-Err.is (c.refuse.ensures ∙ ap (λ n. refused n c.args.x) c.number.ensures)

pub take_deal-requires : goal.take_deal-requires
take_deal-requires c = deal_passed _ _ _ _ (sym c.deal.ensures ∙ ap refusal_of c.in-Ok.is)

pub returns-in-Ok : goal.returns-in-Ok
unfolding deal
returns-in-Ok c = accepts _ _ _ _ c.deal.ensures c.in-Ok.is c.take_deal.ensures c.accept.ensures

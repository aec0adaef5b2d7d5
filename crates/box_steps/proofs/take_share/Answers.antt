use Rattle.std.proofs.Common.{ap, ◌∙◌, lit≤}
use Rattle.rules.specs.Steps.{heard, recovering, sharing, share_step}
use Rattle.box_step.specs.Takes.{made}
use Rattle.box_steps.specs.Laws.{ranges, place}
use Rattle.box_steps.proofs.take_share.Goals as goal

pub bounds-shares-m : goal.bounds-shares-m
bounds-shares-m c = place c.requires

pub heard_for-requires : goal.heard_for-requires
heard_for-requires c = record { low = lit≤ tt; high = lit≤ tt; place = place c.requires }

pub recovering-requires : goal.recovering-requires
unfolding heard
recovering-requires c = rw c.heard_for.ensures (ranges c.requires)

pub returns : goal.returns
unfolding share_step heard
returns c =
    let a = c.args in
    c.recovering.ensures ∙ ap (λ y. made (recovering y (sharing a.x a.m a.pair))) c.heard_for.ensures

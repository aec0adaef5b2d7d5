use Rattle.std.proofs.Common.{◌≡◌, sym, ap₂, ◌∙◌}
use borrow.Author.Tests.{eq-eqb}
use Rattle.rules.specs.Record.{shares_kept}
use Rattle.rules.specs.Steps.{recovered_from, recovering}
use Rattle.box_step.specs.Takes.{made}
use Rattle.box_steps.specs.Laws.{all-taken}
use Rattle.box_steps.proofs.recovering.Goals as goal

pub returns : goal.returns
unfolding made recovering
returns c =
    let a = c.args in
    let all : shares_kept a.shares ≡ a.x.setup.k = sym c.count_shares.ensures ∙ c.if-count_shares-u.false in
    let found =
    c.recovered_from.ensures
    ∙ ap₂ (λ G. recovered_from G.q) c.group_of-group.ensures (all-taken a.shares a.x.setup.k all) in
    rw (c.quiet-2.ensures, c.with_shares-2.ensures, found, eq-eqb _ _ all)

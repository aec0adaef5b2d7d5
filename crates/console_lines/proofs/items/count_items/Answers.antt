use Rattle.std.proofs.Common.{◌≡◌, eqb, ◌∙◌, rules}
use Rattle.std.specs.List.{count_by}
use Rattle.folds.specs.Chains.{count_places}
use Rattle.rules.specs.Text.{space}
use Rattle.console_lines.specs.Items.{items}
use Rattle.console_lines.proofs.items.count_items.Goals as goal

pub returns : goal.returns
unfolding items
returns c =
    let spaces : c.count.result ≡ count_by (λ x. eqb x space) c.args.line.now = search rules in
    spaces ∙ count_places (λ x. eqb x space) 0 c.args.line.now

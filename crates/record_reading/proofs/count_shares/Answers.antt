use Rattle.std.proofs.Common.{rules, ◌≡◌, ◌∙◌, length}
use Rattle.std.specs.Prelude.{count_by, is_some}
use Rattle.folds.specs.Chains.{count_places}
use Rattle.rules.specs.Record.{nothing, shares_kept}
use Rattle.record_reading.proofs.count_shares.Goals as goal

pub returns : goal.returns
unfolding shares_kept
returns c =
    let counted : c.count.result ≡ count_by is_some c.args.shares = search rules in
    let ten : length c.args.shares ≡ 10 = search rules in
    counted ∙ count_places is_some nothing c.args.shares ∙ rw ten

use Rattle.std.proofs.Common.{rules, ◌≡◌, ◌∙◌, length}
use Rattle.std.specs.Prelude.{count_by, false}
use Rattle.folds.specs.Chains.{count_places}
use Rattle.record_reading.specs.Slots.{count_marks}
use Rattle.record_reading.proofs.count_marks.Goals as goal

pub returns : goal.returns
unfolding count_marks
returns c =
    let counted : c.count.result ≡ count_by (λ mark. mark) c.args.marks.at = search rules in
    let ten : length c.args.marks.at ≡ 10 = search rules in
    counted ∙ count_places (λ mark. mark) false c.args.marks.at ∙ rw ten

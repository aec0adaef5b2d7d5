use Rattle.std.proofs.Common.{eqb, not, sym, ap, ◌∙◌}
use Rattle.text.specs.Decimals.{some_decimal, none_decimal}
use Rattle.sheet_reasons.specs.Reasons.{other_box}
use Rattle.sheet_reasons.proofs.reasons.other_box.Goals as goal

pub returns-in_default : goal.returns-in_default
unfolding other_box
returns-in_default c = rw (none_decimal _ _ (sym c.in_default.is ∙ c.decimal_at.ensures)).stands

pub returns : goal.returns
unfolding other_box
returns c =
    let read = some_decimal _ _ (sym c.in-Ok.is ∙ c.decimal_at.ensures) in
    rw read.stands (ap (λ n. not (eqb n c.args.m)) (c.from.ensures ∙ read.number))

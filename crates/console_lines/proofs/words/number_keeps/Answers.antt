use Rattle.std.proofs.Common.{leb, sym, ap, ◌∙◌}
use Rattle.std.proofs.Common.{eq-eqb, ne_eqb}
use Rattle.rules.specs.Text.{digits_end}
use Rattle.text.specs.Decimals.{some_decimal, none_decimal}
use Rattle.console_lines.specs.Items.{item_end}
use Rattle.console_lines.specs.Words.{number_keeps}
use Rattle.console_lines.proofs.words.number_keeps.Goals as goal

pub returns-in_default : goal.returns-in_default
unfolding number_keeps
returns-in_default c = rw (none_decimal c.args.line.now c.args.from (sym c.in_default.is ∙ c.decimal_at.ensures)).stands

pub returns-then-x-end : goal.returns-then-x-end
unfolding number_keeps
returns-then-x-end c =
    let b = c.args.line.now in
    let i = c.args.from in
    let read = some_decimal b i (sym c.in-Ok.is ∙ c.decimal_at.ensures) in
    rw (read.stands, eq-eqb (digits_end b i) (item_end b i) (sym read.end ∙ c.if-x-end.true ∙ c.requires))
    (ap (λ n. leb n c.args.limit) read.number)

pub returns-else-x-end : goal.returns-else-x-end
unfolding number_keeps
returns-else-x-end c =
    let b = c.args.line.now in
    let i = c.args.from in
    let read = some_decimal b i (sym c.in-Ok.is ∙ c.decimal_at.ensures) in
    ne_eqb _ _ c.if-x-end.false
    ∙ sym (rw (read.stands, ne_eqb (digits_end b i) (item_end b i) (λ e. c.if-x-end.false (read.end ∙ e ∙ sym c.requires))))

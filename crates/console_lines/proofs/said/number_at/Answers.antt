use Rattle.std.proofs.Common.{sym, ◌∙◌}
use Rattle.folds.specs.Tests.{pick_true, pick-false}
use Rattle.rules.specs.Text.{decimal_at, is_decimal}
use Rattle.text.specs.Decimals.{some_decimal, none_decimal}
use Rattle.console_lines.specs.Says.{number_at}
use Rattle.console_lines.proofs.said.number_at.Goals as goal

pub returns-in-Ok : goal.returns-in-Ok
unfolding number_at
returns-in-Ok c =
    let b = c.args.line.now in
    let i = c.args.place in
    let read = some_decimal b i (sym c.in-Ok.is ∙ c.decimal_at.ensures) in
    read.number ∙ sym (pick_true (is_decimal b i) (decimal_at b i) 0 read.stands)

pub returns-in-Err : goal.returns-in-Err
unfolding number_at
returns-in-Err c =
    let b = c.args.line.now in
    let i = c.args.place in
    sym (pick-false (is_decimal b i) (decimal_at b i) 0 (none_decimal b i (sym c.in-Err.is ∙ c.decimal_at.ensures)).stands)

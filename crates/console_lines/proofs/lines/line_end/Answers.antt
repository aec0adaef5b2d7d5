use Rattle.std.proofs.Common.{◌-◌, eqb, ap, ◌∙◌, take, arith}
use Rattle.std.proofs.lemmas.List.{length-take-le, get_or-take}
use Rattle.rules.specs.Text.{newline}
use Rattle.folds.specs.Below.{first_from}
use Rattle.text.specs.Finds.{byte_from}
use Rattle.console_lines.specs.Lines.{is_newline, line_end, first_same}
use Rattle.console_lines.proofs.lines.line_end.Goals as goal

pub returns : goal.returns
unfolding line_end byte_from
returns c =
    let buf = c.args.buf.now in
    let from = c.args.from in
    let to = c.args.to in
    c.byte_from.ensures
    ∙ ap (λ n. first_from (n - from) from (is_newline (take to buf))) (length-take-le to buf c.requires.1)
    ∙ first_same (is_newline (take to buf)) (is_newline buf) (to - from) from
    (λ j l g. ap (λ x. eqb x newline) (get_or-take to buf j 0 (omega arith)))

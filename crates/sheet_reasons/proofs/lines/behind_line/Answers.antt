use Rattle.std.proofs.Common.{◌+◌, leb, sym, ap, ◌∙◌, length}
use Rattle.std.proofs.Common.{le-leb}
use Rattle.std.proofs.lemmas.Bool.{lt-leb}
use Rattle.rules.specs.Text.{text}
use Rattle.sheet_reasons.specs.Lines.{behind_line}
use Rattle.sheet_reasons.proofs.lines.behind_line.Goals as goal

pub returns-then-b-end : goal.returns-then-b-end
unfolding behind_line text
returns-then-b-end c = rw (ap (leb (length c.args.b.now)) (sym c.first_word-end.ensures) ∙ le-leb _ _ c.if-b-end.true) c.first_word-end.ensures

pub returns-else-b-end : goal.returns-else-b-end
unfolding behind_line text
returns-else-b-end c =
    rw (ap (leb (length c.args.b.now)) (sym c.first_word-end.ensures) ∙ lt-leb _ _ c.if-b-end.false) (ap (λ e. e + 1) c.first_word-end.ensures)

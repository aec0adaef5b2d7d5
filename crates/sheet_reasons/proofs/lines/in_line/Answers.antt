use Rattle.std.proofs.Common.{ltb, ap₂}
use Rattle.rules.specs.Text.{text}
use Rattle.sheet_reasons.specs.Lines.{in_line}
use Rattle.sheet_reasons.proofs.lines.in_line.Goals as goal

pub returns : goal.returns
unfolding in_line text
returns c = ap₂ ltb c.first_word.ensures c.first_word-2.ensures

use Rattle.rules.specs.Dealing.{σ_equation, share_check}
use Rattle.checking.proofs.Lines.{column_line, column_opens}
use Rattle.checking.proofs.share_check.Goals as goal

pub line_opens-requires : goal.line_opens-requires
line_opens-requires c = rw c.column.ensures (column_line c.requires 0 (λ some. some))

pub returns : goal.returns
unfolding σ_equation share_check
returns c = column_opens c.requires _ _ _ c.line_opens.ensures 0 c.column.ensures

use Rattle.rules.specs.Dealing.{l_equation}
use Rattle.checking.proofs.Lines.{column_line, column_opens}
use Rattle.checking.proofs.l_equation.Goals as goal

pub line_opens-requires : goal.line_opens-requires
line_opens-requires c = rw c.column.ensures (column_line c.requires.0 _ (λ some. c.requires.1))

pub returns : goal.returns
unfolding l_equation
returns c = column_opens c.requires.0 _ _ _ c.line_opens.ensures _ c.column.ensures

use Rattle.checking.proofs.Lines.{row_line}
use Rattle.checking.proofs.j_equation.Goals as goal

pub line_opens-requires : goal.line_opens-requires
line_opens-requires c = row_line c.requires.0 _ c.requires.1

-- `put_line` adds line n, or nothing where there are fewer lines. Assumes nothing.
use Rattle.console_shows.specs.Help.{line_missed}
use Rattle.console_shows.proofs.help.put_line.Goals as goal

pub returns-in_default : goal.returns-in_default
returns-in_default g c = line_missed c.args.b.now c.args.n c.line_place-start.ensures c.line_end.ensures c.in_default.ensures.lookup.0 _

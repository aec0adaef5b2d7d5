-- `command` is the command of a word, arm by arm. Assumes nothing.
use mathlib.Core.Path.{subst}
use borrow.Author.Rules.{rules}
use Rattle.console_lines.specs.Reading.{Formed}
use Rattle.console_lines.specs.Laws.{deliver_keeps, read_keeps}
use Rattle.console_lines.proofs.said.command.Goals as goal

pub read_bytes-n-requires : goal.read_bytes-n-requires
read_bytes-n-requires c =
    let lent = c.requires.lent in
    let line = c.args.line.now in
    record {
      item = record { short = lent.short; few = search rules };
      keeps = deliver_keeps line (subst (Formed line) c.in-Deliver.is c.requires.formed);
      room = lent.bytes_room;
    }

pub read_bytes-requires : goal.read_bytes-requires
read_bytes-requires c =
    let lent = c.requires.lent in
    let line = c.args.line.now in
    record {
      item = record { short = lent.short; few = search rules };
      keeps = read_keeps line (subst (Formed line) c.in-Read.is c.requires.formed);
      room = lent.bytes_room;
    }

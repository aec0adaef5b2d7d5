use Rattle.std.proofs.Common.{arith}
use Rattle.rules.specs.Text.{text}
use Rattle.text.specs.Pages.{adds_then, adds_room}
use Rattle.console_lines.proofs.reasons.put.Goals as goal

pub returns-in-Space : goal.returns-in-Space
unfolding text
returns-in-Space g c = rw c.in-Space.is (adds_room (adds_then c.put_numbered-in-Space.ensures c.put_word-in-Space.ensures) (omega arith))

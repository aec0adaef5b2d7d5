-- `put_read` adds what bytes say. Assumes nothing.
use Rattle.std.proofs.Common.{rules, sym, ◌∙◌, arith}
use Rattle.rules.specs.Text.{text}
use Rattle.text.specs.Pages.{adds_room}
use Rattle.console_page.specs.Reading.{read_line}
use Rattle.console_page.specs.Widths.{width_formed, width_few}
use Rattle.console_page.proofs.reading.put_read.Goals as goal

pub put_said-requires : goal.put_said-requires
put_said-requires g c =
    let found = sym c.width_in.ensures ∙ c.in-Some.is in
    (search rules, rw c.of_width.ensures ((width_few c.args.s.now found).1, width_formed c.args.s.now found, c.requires))

pub returns-in-Some : goal.returns-in-Some
unfolding read_line
returns-in-Some g c = rw (sym c.width_in.ensures ∙ c.in-Some.is) (rw c.of_width.ensures at c.put_said.ensures)

pub returns-in-None : goal.returns-in-None
unfolding read_line text
returns-in-None g c = rw (sym c.width_in.ensures ∙ c.in-None.is) (adds_room c.put_word.ensures (omega arith))

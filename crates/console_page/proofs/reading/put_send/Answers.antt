-- `put_send` adds the line of a send. Assumes nothing.
use Rattle.rules.specs.Text.{text}
use Rattle.text.specs.Pages.{adds_then}
use Rattle.console_page.specs.Reading.{send_line}
use Rattle.console_page.proofs.reading.put_send.Goals as goal

pub returns : goal.returns
unfolding send_line text
returns g c =
    adds_then
    (adds_then (adds_then c.put_head.ensures (rw c.read_matrix.ensures at c.put_matrix.ensures)) (rw c.read_polynomials.ensures at c.put_polynomials.ensures))
    c.put_word.ensures

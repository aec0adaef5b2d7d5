-- `put_boxes` adds the marked boxes, or `none`. Assumes nothing.
use Rattle.std.proofs.Common.{◌∙◌, sym, arith}
use Rattle.rules.specs.Text.{text}
use Rattle.rules.specs.Record.{marked}
use Rattle.text.specs.Pages.{runs_none, runs_more, runs_all}
use Rattle.console_shows.specs.Parts.{box_in, boxes_text, adds_if, adds_unless, some_added}
use Rattle.console_shows.proofs.parts.put_boxes.Goals.{then-marked, else-marked}
use Rattle.console_shows.proofs.parts.put_boxes.Goals as goal

pub loop-m-init : goal.loop-m-init
loop-m-init g c = runs_none

pub loop-m-preserved : goal.loop-m-preserved
unfolding box_in text
loop-m-preserved g c =
    let here = marked c.args.marks c.loop-m.m in
    runs_more c.loop-m.invariant
    (elim c.if-marked.branch [
      | then-marked w ↦ rw w.page-is (adds_if here w.if-marked.true w.put_numbered.ensures)
      | else-marked w ↦ adds_unless here _ 6 w.if-marked.false w.page-is
    ])

pub returns-else-len-before : goal.returns-else-len-before
unfolding boxes_text
returns-else-len-before g c =
    some_added (runs_all c.loop-m.invariant 10 60 (omega arith) (omega arith))
    (λ e. c.if-len-before.false (c.len.ensures.value ∙ e ∙ sym c.len-before.ensures.value))

-- `put_numbers` adds numbers. Assumes nothing.
use Rattle.rules.specs.Text.{text}
use Rattle.text.specs.Pages.{adds_byte, adds_then, runs_none, runs_more}
use Rattle.text.proofs.page.put_numbers.Goals as goal

pub loop-number-init : goal.loop-number-init
loop-number-init g c = runs_none

pub loop-number-preserved : goal.loop-number-preserved
unfolding text
loop-number-preserved g c = runs_more c.loop-number.invariant (rw (← c.from.ensures) (adds_then (adds_byte _ c.push.ensures.items) c.put_decimal.ensures))

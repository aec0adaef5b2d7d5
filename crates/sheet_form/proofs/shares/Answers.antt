use Rattle.std.proofs.Common.{sym, ◌∙◌}
use Rattle.folds.specs.Loops.{filling_none}
use Rattle.sheet_form.specs.Laws.{line_place-zero}
use Rattle.sheet_form.proofs.shares.Goals as goal

pub loop-m-init : goal.loop-m-init
loop-m-init c = (c.boxes_place-i.ensures ∙ sym (line_place-zero _ _), filling_none)

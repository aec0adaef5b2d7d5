use Rattle.std.proofs.Common.{rules, tests}
use Rattle.folds.specs.Chains.{position_of_slice}
use Rattle.console_lines.specs.Judging.{is_outside, bad_byte}
use Rattle.console_lines.proofs.judging.bad_byte.Goals as goal

pub returns : goal.returns
unfolding bad_byte
returns c = position_of_slice is_outside 0 c.args.line.now _ c.position.ensures.ran c.iter.ensures.rest (λ x b q k. search (rules, tests))

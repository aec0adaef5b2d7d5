use Rattle.std.proofs.Common.{refl, length, rules, tests}
use Rattle.folds.specs.Chains.{find_of_range}
use Rattle.console_lines.specs.Judging.{is_stray, bad_space}
use Rattle.console_lines.proofs.judging.bad_space.Goals as goal

pub returns : goal.returns
unfolding bad_space
returns c = find_of_range (is_stray c.args.line.now) (length c.args.line.now) _ c.find.ensures.ran refl (λ x b q k. search (rules, tests))

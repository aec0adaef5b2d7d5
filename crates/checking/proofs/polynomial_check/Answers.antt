use Rattle.std.proofs.Common.{rules, refl, sym, ◌∙◌}
use borrow.Author.Tests.{tests}
use Rattle.folds.specs.Chains.{all_of_range}
use Rattle.rules.specs.Dealing.{l_equation, j_equation, polynomial_check}
use Rattle.checking.proofs.polynomial_check.Goals as goal

pub returns-then-all : goal.returns-then-all
unfolding polynomial_check
returns-then-all c =
    rw (sym (all_of_range (l_equation c.args.group c.args.k c.args.c c.args.i c.args.all) c.args.k _ c.all.ensures.ran refl (λ x b q k. search (rules, tests))) ∙ c.if-all.true)
    (all_of_range (j_equation c.args.group c.args.k c.args.c c.args.i c.args.all) c.args.k _ c.all-then-all.ensures.ran refl (λ x b q k. search (rules, tests)))

pub returns-else-all : goal.returns-else-all
unfolding polynomial_check
returns-else-all c =
    rw (sym (all_of_range (l_equation c.args.group c.args.k c.args.c c.args.i c.args.all) c.args.k _ c.all.ensures.ran refl (λ x b q k. search (rules, tests))) ∙ c.if-all.false)
    c.if-all.false

use Rattle.std.specs.Prelude.{◌%◌, ◌^◌}
use Rattle.std.proofs.Common.{ap, ◌∙◌, one-mul}
use Rattle.folds.specs.Below.{prod_below_same}
use Rattle.rules.specs.Numbers.{element}
use Rattle.checking.specs.Equations.{element_at}
use Rattle.checking.proofs.opened_line.Goals as goal

pub returns : goal.returns
returns c =
    let a = c.args in
    c.opened_part.ensures
    ∙ ap (λ t. element (t % a.group.p)) (prod_below_same _ _ a.k (λ l h. ap (λ t. element_at a.c l ^ t) (one-mul (a.x ^ l))))

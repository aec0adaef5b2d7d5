use Rattle.std.proofs.Common.{ℕ, ◌+◌, not, ap, ◌∙◌, refl, rules, tests}
use Rattle.std.specs.Option.{unwrap_or}
use Rattle.folds.specs.Chains.{find_of_range}
use Rattle.text.proofs.Places.{found_or}
use Rattle.sheet_reasons.specs.Reasons.{front_keeps, good_lines}
use Rattle.sheet_reasons.proofs.bad.good_lines.Goals as goal

pub returns : goal.returns
unfolding good_lines
returns c =
    let fails = λ (m : ℕ). not (front_keeps c.args.b.now c.args.k m) in
    let most = c.args.n + 1 in
    c.unwrap_or.ensures ∙ ap (λ o. unwrap_or o most) (find_of_range fails most _ c.find.ensures.ran refl (λ x b q k. search (rules, tests))) ∙ found_or most fails

use Rattle.std.proofs.Common.{ℕ, ◌≡◌, true, false, ap, ◌∙◌, length, rules, tests}
use Rattle.std.specs.Option.{unwrap_or}
use Rattle.std.proofs.lemmas.Iterator.{first_from_Range}
use Rattle.rules.specs.Text.{word_at}
use Rattle.sheet_reasons.specs.Lines.{first_word}
use Rattle.sheet_reasons.proofs.Finds.{found_first}
use Rattle.sheet_reasons.proofs.lines.first_word.Goals as goal

pub returns : goal.returns
unfolding first_word
returns c =
    let test = λ (j : ℕ). word_at c.args.b.now j c.args.w.now in
    c.unwrap_or.ensures
    ∙ ap (unwrap_or c.find.result) c.max.ensures
    ∙ found_first test (length c.args.b.now) c.args.i c.find.result
    (first_from_Range _ _ _ c.find.result (λ j. test j ≡ true) (λ j. test j ≡ false) c.find.ensures.ran (λ x q k. search (rules, tests)) (λ x q k. search (rules, tests)))

use Rattle.std.proofs.Common.{rules, refl, ◌≡◌, ◌∙◌}
use Rattle.std.specs.Prelude.{Bool, true, false, [], ltb, get_or}
use borrow.Author.Tests.{tests}
use Rattle.folds.specs.Tests.{◌and◌, ◌or◌}
use Rattle.folds.specs.Below.{all_below_same}
use Rattle.folds.specs.Chains.{all_of_range}
use Rattle.rules.specs.Record.{matrix_of, entries_zero}
use Rattle.record_clauses.specs.Clauses.{row_zero}
use Rattle.record_clauses.proofs.entries_zero.Goals as goal

regroup : (a b c d : Bool) → ((a and b) and c) or d ≡ (a and (b and c)) or d
regroup true b c d = refl
regroup false b c d = refl

pub returns : goal.returns
unfolding entries_zero matrix_of row_zero
returns c =
    let a = c.args in
    all_of_range (λ j. row_zero (a.slot.used and ltb j a.k) a.k (get_or a.slot.rows j [])) 8 _ c.all.ensures.ran refl (λ x b q k. search (rules, tests))
    ∙ all_below_same _ _ 8 (λ j l. all_below_same _ _ 8 (λ i h. regroup a.slot.used (ltb j a.k) (ltb i a.k) _))

use Rattle.std.proofs.Common.{rules, ◌≡◌, length}
use borrow.Author.Tests.{tests}
use Rattle.std.specs.Prelude.{get_or}
use Rattle.folds.specs.Below.{any_below}
use Rattle.folds.specs.Chains.{any_of_slice}
use Rattle.rules.specs.declared.Place.{Place}
use Rattle.rules.specs.Record.{silent, is_held}
use Rattle.record_clauses.specs.Clauses.{any_held}
use Rattle.record_clauses.proofs.any_held.Goals as goal

pub returns : goal.returns
unfolding any_held
returns c =
    let ten : length c.args.slot.places ≡ 10 = search rules in
    let all : c.any.result ≡ any_below (length c.args.slot.places) (λ m. is_held (get_or c.args.slot.places m silent).point) = any_of_slice (λ (p : Place). is_held p.point) silent c.args.slot.places _ c.any.ensures.ran (cc) (λ x b q k. search (rules, tests)) in
    rw ten at all

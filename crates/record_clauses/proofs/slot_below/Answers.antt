use Rattle.std.proofs.Common.{rules, ◌≡◌, ◌∙◌, sym, length}
use Rattle.std.specs.Prelude.{get_or}
use borrow.Author.Tests.{tests}
use Rattle.folds.specs.Below.{all_below}
use Rattle.folds.specs.Chains.{all_of_slice}
use Rattle.rules.specs.declared.Place.{Place}
use Rattle.rules.specs.Record.{silent, point_below, slot_below}
use Rattle.record_clauses.proofs.slot_below.Goals as goal

pub returns-then-all : goal.returns-then-all
unfolding slot_below
returns-then-all c =
    let ten : length c.args.slot.places ≡ 10 = search rules in
    let points : c.all.result ≡ all_below (length c.args.slot.places) (λ m. point_below c.args.q (get_or c.args.slot.places m silent).point) =
    all_of_slice (λ (p : Place). point_below c.args.q p.point) silent c.args.slot.places _ c.all.ensures.ran (cc) (λ x b q k. search (rules, tests)) in
    let whole = rw ten at points in
    rw (sym whole ∙ c.if-all.true) c.kept_below.ensures

pub returns-else-all : goal.returns-else-all
unfolding slot_below
returns-else-all c =
    let ten : length c.args.slot.places ≡ 10 = search rules in
    let points : c.all.result ≡ all_below (length c.args.slot.places) (λ m. point_below c.args.q (get_or c.args.slot.places m silent).point) =
    all_of_slice (λ (p : Place). point_below c.args.q p.point) silent c.args.slot.places _ c.all.ensures.ran (cc) (λ x b q k. search (rules, tests)) in
    let whole = rw ten at points in
    rw (sym whole ∙ c.if-all.false) c.if-all.false

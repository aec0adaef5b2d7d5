use Rattle.std.proofs.Common.{rules, ◌≡◌, length}
use Rattle.std.specs.Prelude.{not, get_or}
use borrow.Author.Tests.{tests}
use Rattle.folds.specs.Below.{all_below}
use Rattle.folds.specs.Chains.{all_of_slice}
use Rattle.rules.specs.declared.Marks.{Marks}
use Rattle.rules.specs.Record.{no_marks, marked}
use Rattle.record_soundness.specs.Clauses.{heard_clear}
use Rattle.record_soundness.proofs.clauses.heard_clear.Goals as goal

pub returns : goal.returns
unfolding heard_clear
returns c =
    let four : length c.args.heard.now ≡ 4 = search rules in
    let all : c.all.result ≡ all_below (length c.args.heard.now) (λ t. not (marked (get_or c.args.heard.now t no_marks) c.args.m)) =
    all_of_slice (λ (marks : Marks). not (marked marks c.args.m)) no_marks c.args.heard.now _ c.all.ensures.ran (cc) (λ x b q k. search (rules, tests)) in
    rw four at all

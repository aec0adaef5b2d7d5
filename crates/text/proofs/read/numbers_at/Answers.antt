use Rattle.std.proofs.Common.{◌≡◌, sym, ◌∙◌, arith}
use Rattle.folds.specs.Below.{all_below-zero, all_below_more, all_below_not}
use Rattle.rules.specs.Text.{numbers_at}
use Rattle.text.specs.Lines.{behind, number_place-zero, number_none, number_behind, number_next, behind_last, behind_more}
use Rattle.text.proofs.read.numbers_at.Goals as goal
use Rattle.text.proofs.read.numbers_at.Goals.{then-j-m, else-j-m}

pub loop-j-init : goal.loop-j-init
loop-j-init c = (sym (number_place-zero _ _), all_below-zero _)

pub returns-in_default : goal.returns-in_default
unfolding numbers_at
returns-in_default c =
    sym (all_below_not _ c.args.m c.loop-j.j c.loop-j-test.true (number_none _ _ _ _ c.loop-j.invariant.0 (sym c.in_default.is ∙ c.decimal_at.ensures)))

pub returns-then-not-byte_at : goal.returns-then-not-byte_at
unfolding numbers_at
returns-then-not-byte_at c =
    let m = c.args.m in
    let j = c.loop-j.j in
    let last : c.if-j-m.behind ≡ behind m j =
    elim c.if-j-m.branch [ then-j-m w ↦ w.behind-is ∙ behind_last j m w.if-j-m.true | else-j-m w ↦ w.behind-is ∙ behind_more j m w.if-j-m.false ] in
    let tested = number_behind _ _ m j c.loop-j.invariant.0 (sym c.in-Ok.is ∙ c.decimal_at.ensures) last in
    sym (all_below_not _ _ _ c.loop-j-test.true (tested ∙ sym c.byte_at.ensures ∙ c.if-not-byte_at.true))

pub loop-j-preserved : goal.loop-j-preserved
loop-j-preserved c =
    let m = c.args.m in
    let j = c.loop-j.j in
    let read = sym c.in-Ok.is ∙ c.decimal_at.ensures in
    let last : c.if-j-m.behind ≡ behind m j =
    elim c.if-j-m.branch [ then-j-m w ↦ w.behind-is ∙ behind_last j m w.if-j-m.true | else-j-m w ↦ w.behind-is ∙ behind_more j m w.if-j-m.false ] in
    let tested = number_behind _ _ m j c.loop-j.invariant.0 read last in
    (number_next _ _ m _ c.loop-j.invariant.0 read, all_below_more _ _ c.loop-j.invariant.1 (tested ∙ sym c.byte_at.ensures ∙ c.if-not-byte_at.false))

pub returns : goal.returns
unfolding numbers_at
returns c =
    let all : c.loop-j.j ≡ c.args.m = omega arith in
    sym (rw all at c.loop-j.invariant.1)

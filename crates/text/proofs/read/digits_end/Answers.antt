-- `digits_end` is the first place where no digit stands. Assumes nothing.
use Rattle.std.proofs.Common.{◌≡◌, refl, sym, ap, arith, ◌∙◌, length, max, not}
use Rattle.folds.specs.Below.{first_from_here, first_from_skip, first_from_none}
use Rattle.rules.specs.Text.{digits_end}
use Rattle.text.proofs.Places.{digit_there}
use Rattle.text.proofs.read.digits_end.Goals as goal

pub loop-j-init : goal.loop-j-init
unfolding digits_end
loop-j-init c = (refl, λ l. refl)

pub returns-then-not-is_ascii_digit : goal.returns-then-not-is_ascii_digit
returns-then-not-is_ascii_digit c =
    let b = c.args.b.now in
    let j = c.loop-j.j in
    let here = digit_there b j c.loop-j-test.true ∙ ap not (sym c.is_ascii_digit.ensures.value ∙ c.if-not-is_ascii_digit.true) in
    sym (first_from_here _ _ _ c.loop-j-test.true here) ∙ c.loop-j.invariant.0

pub loop-j-preserved : goal.loop-j-preserved
loop-j-preserved c =
    let b = c.args.b.now in
    let j = c.loop-j.j in
    let within = c.loop-j.auto.j in
    let past = digit_there b j c.loop-j-test.true ∙ ap not (sym c.is_ascii_digit.ensures.value ∙ c.if-not-is_ascii_digit.false) in
    (sym (first_from_skip _ _ _ c.loop-j-test.true past) ∙ c.loop-j.invariant.0, λ l. omega (arith, c.loop-j-test.true))

pub returns : goal.returns
returns c =
    let start = c.loop-j.auto.j in
    let within = c.loop-j.auto.j-end in
    let behind = c.loop-j.invariant.1 in
    let past = c.loop-j-test.false in
    let e : max c.args.i (length c.args.b.now) ≡ c.loop-j.j = grind (arith) in
    c.max.ensures ∙ e ∙ sym (first_from_none _ _ _ (omega arith)) ∙ c.loop-j.invariant.0

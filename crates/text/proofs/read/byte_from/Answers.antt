-- `byte_from` is the first place where the byte stands. Assumes nothing.
use Rattle.std.proofs.Common.{◌≡◌, refl, sym, arith, ◌∙◌, length, max, eq-eqb, ne_eqb}
use Rattle.folds.specs.Below.{first_from_here, first_from_skip, first_from_none}
use Rattle.text.specs.Finds.{byte_from}
use Rattle.text.proofs.read.byte_from.Goals as goal

pub loop-j-init : goal.loop-j-init
unfolding byte_from
loop-j-init c = (refl, λ l. refl)

pub returns-then-b-j : goal.returns-then-b-j
returns-then-b-j c = sym (first_from_here _ _ _ c.loop-j-test.true (eq-eqb _ _ c.if-b-j.true)) ∙ c.loop-j.invariant.0

pub loop-j-preserved : goal.loop-j-preserved
loop-j-preserved c =
    let within = c.loop-j.auto.j in
    (sym (first_from_skip _ _ _ c.loop-j-test.true (ne_eqb _ _ c.if-b-j.false)) ∙ c.loop-j.invariant.0, λ l. omega (arith, c.loop-j-test.true))

pub returns : goal.returns
returns c =
    let start = c.loop-j.auto.j in
    let within = c.loop-j.auto.j-end in
    let behind = c.loop-j.invariant.1 in
    let past = c.loop-j-test.false in
    let e : max c.args.i (length c.args.b.now) ≡ c.loop-j.j = grind (arith) in
    c.max.ensures ∙ e ∙ sym (first_from_none _ _ _ (omega arith)) ∙ c.loop-j.invariant.0

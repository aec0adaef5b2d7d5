use Rattle.std.proofs.Common.{◌+◌, ◌*◌, ap, ◌∙◌, arith}
use Rattle.std.proofs.Common.{eq-eqb, ne_eqb, le-leb}
use Rattle.std.proofs.lemmas.Bool.{lt-leb}
use Rattle.rules.proofs.Laws.Matrices.{square_small}
use Rattle.sheet_reasons.specs.Lines.{spaces_in_le}
use Rattle.sheet_reasons.specs.Reasons.{count_reason, own_reason}
use Rattle.sheet_reasons.proofs.bad.own_reason.Goals as goal

pub overflow_add-numbers : goal.overflow_add-numbers
overflow_add-numbers c =
    let at = c.requires.0 in
    omega (arith, c.spaces_in-numbers.ensures, spaces_in_le c.args.b.now c.args.i at.place, at.size)

pub overflow_mul-k : goal.overflow_mul-k
overflow_mul-k c = omega (arith, square_small c.args.k c.requires.1)

pub returns-then-m-eq0 : goal.returns-then-m-eq0
unfolding own_reason
returns-then-m-eq0 c =
    rw (eq-eqb _ _ c.if-m-eq0.true) (c.count_reason.ensures ∙ ap (λ s. count_reason (c.args.k * c.args.k) (s + 1)) c.spaces_in-numbers.ensures)

pub returns-then-m-n : goal.returns-then-m-n
unfolding own_reason
returns-then-m-n c = rw (ne_eqb _ _ c.if-m-eq0.false, le-leb _ _ c.if-m-n.true) c.box_reason.ensures

pub returns-else-m-n : goal.returns-else-m-n
unfolding own_reason
returns-else-m-n c = rw (ne_eqb _ _ c.if-m-eq0.false, lt-leb _ _ c.if-m-n.false)

use Rattle.std.proofs.Common.{sym, ap, arith, ℕ, ◌%◌, ◌<◌}
use native.Mathlib.Nat.{mod-lt}
use Rattle.algebra.proofs.Fields.{inverse_small, inverse_step}
use Rattle.rules.specs.Numbers.{exponent}
use Rattle.arithmetic.proofs.+inverted.Goals as goal

pub returns-then-x-le1 : goal.returns-then-x-le1
returns-then-x-le1 t c = ap exponent (sym (inverse_small _ _ c.if-x-le1.true))

pub inverted-rest-requires : goal.inverted-rest-requires
inverted-rest-requires t c =
    let less : c.args.q % c.args.x.0 < c.args.x.0 = mod-lt _ (omega arith) in
    (omega (arith, c.decreases), c.requires)

pub returns : goal.returns
returns t c = rw (c.product.ensures, c.inverted-rest.ensures) (ap exponent (sym (inverse_step _ _ c.if-x-le1.false)))

use Rattle.std.specs.Prelude.{◌≡◌, ◌*◌, ◌%◌, ◌^◌}
use Rattle.folds.specs.Below.{prod_below}
use Rattle.checking.proofs.Lines.{row_part}
use Rattle.checking.proofs.opened_at.Given as goal

-- what is made is the product of the rows before j modulo p, and the power is x^j modulo q
abbrev pub invariant-loop-j : goal.invariant-loop-j
invariant-loop-j l =
    (l.made.0 ≡ prod_below l.j (row_part l.k l.c l.x l.y) % l.group.p) × (l.power.0 % l.group.q ≡ (1 * l.x ^ l.j) % l.group.q)

use Rattle.std.specs.Prelude.{◌≡◌, ◌*◌, ◌%◌, ◌^◌}
use Rattle.checking.specs.Equations.{along_part}
use Rattle.checking.proofs.opened_part.Given as goal

-- what is made is the product before l modulo p, and the power is w x^l modulo q
abbrev pub invariant-loop-l : goal.invariant-loop-l
invariant-loop-l l =
    (l.made.0 ≡ along_part l.l l.c l.fn.w.0 l.x % l.group.p) × (l.power.0 % l.group.q ≡ (l.fn.w.0 * l.x ^ l.l) % l.group.q)

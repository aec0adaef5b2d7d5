use Rattle.arithmetic.proofs.+inverted.Given as goal

-- q modulo x is less than x
abbrev pub decreases-inverted : goal.decreases-inverted
decreases-inverted l = l.x.0

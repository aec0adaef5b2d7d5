-- What a contract names beside the definitions of `rules`: what dealing asks, and zeros for the boxes behind n.
-- Assumes nothing.
use Rattle.std.specs.Prelude.{ℕ, ◌<◌, ◌≤◌, replicate}
use Rattle.rules.specs.declared.Polynomials.{Polynomials}
use Rattle.rules.specs.Numbers.{exponent}

-- what is asked where something is worked out for boxes 1 to n
pub record ForBoxes (q k n : ℕ) : Type 0 where
  pub some : 0 < q
  pub high : k ≤ 8
  pub boxes : n ≤ 10

abbrev pub zero_polynomials : Polynomials
zero_polynomials =
    record { a = replicate 8 (exponent 0); a2 = replicate 8 (exponent 0); b = replicate 8 (exponent 0); b2 = replicate 8 (exponent 0) }

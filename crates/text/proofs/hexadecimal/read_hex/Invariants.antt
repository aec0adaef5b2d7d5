use Rattle.std.proofs.Common.{◌+◌, ◌*◌, [], ◌∷◌}
use Rattle.text.specs.Puts.{PutRuns}
use Rattle.text.specs.Hexadecimal.{hex_said}
use Rattle.text.proofs.hexadecimal.read_hex.Given as goal

-- the first j bytes are stored
abbrev pub invariant-loop-j : goal.invariant-loop-j
invariant-loop-j l = PutRuns (λ k. hex_said l.b (l.i + 2 * k) ∷ []) 1 l.n 0 l.initial.out l.out l.j l.j

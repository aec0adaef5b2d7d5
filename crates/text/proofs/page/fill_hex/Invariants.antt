-- `fill_hex` puts digits, two for each byte. The loop's invariant: those of the bytes so far stand at the front. Assumes nothing.
use Rattle.std.proofs.Common.{◌+◌, ◌*◌, length, get_or}
use Rattle.text.specs.Hexadecimal.{hex_pair}
use Rattle.text.specs.Puts.{PutRuns}
use Rattle.text.proofs.page.fill_hex.Given as goal

abbrev pub invariant-loop-j : goal.invariant-loop-j
invariant-loop-j l = PutRuns (λ j. hex_pair (get_or l.bytes (0 + j) 0)) 2 (length l.bytes) 0 l.initial.out l.out (2 * l.j) l.j

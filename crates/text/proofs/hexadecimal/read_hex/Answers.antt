use Rattle.std.proofs.Common.{arith}
use Rattle.text.specs.Puts.{puts_byte, runs_none, runs_more, runs_all}
use Rattle.text.specs.Hexadecimal.{hex_bytes, hex_one, hex_within}
use Rattle.text.proofs.hexadecimal.read_hex.Goals as goal

pub loop-j-init : goal.loop-j-init
loop-j-init c = runs_none _ 1 _ 0 _

pub overflow_add-i : goal.overflow_add-i
overflow_add-i c = omega (arith, hex_within _ _ (hex_one _ _ _ _ c.requires.0 c.loop-j-test.true) 0 (omega arith))

pub hex_byte-requires : goal.hex_byte-requires
hex_byte-requires c = hex_one _ _ _ _ c.requires.0 c.loop-j-test.true

pub loop-j-preserved : goal.loop-j-preserved
loop-j-preserved c = runs_more c.loop-j.invariant c.loop-j-test.true (puts_byte c.loop-j.out _ c.hex_byte.ensures)

pub returns : goal.returns
unfolding hex_bytes
returns c = (runs_all c.loop-j.invariant c.loop-j-test.false).2

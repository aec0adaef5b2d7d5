use Rattle.std.proofs.Common.{arith, add-zero}
use Rattle.text.specs.Hexadecimal.{hex_within, hex_digit_at}
use Rattle.text.proofs.hexadecimal.hex_byte.Goals as goal

pub bounds-b-i : goal.bounds-b-i
bounds-b-i c = omega (arith, hex_within _ _ c.requires 0 (omega arith))

pub hex_digit-requires : goal.hex_digit-requires
hex_digit-requires c = rw add-zero at (hex_digit_at _ _ c.requires 0 (omega arith))

pub overflow_add-i : goal.overflow_add-i
overflow_add-i c = omega (arith, hex_within _ _ c.requires 1 (omega arith))

pub bounds-b-i-2 : goal.bounds-b-i-2
bounds-b-i-2 c = hex_within _ _ c.requires 1 (omega arith)

pub hex_digit-requires-2 : goal.hex_digit-requires-2
hex_digit-requires-2 c = hex_digit_at _ _ c.requires 1 (omega arith)

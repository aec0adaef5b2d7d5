-- The numbers of the refusals, as document 01's table has them.
-- Assumes nothing.
use Rattle.std.specs.Prelude.{ℕ, Result, Ok, Err}
use Rattle.rules.specs.declared.Refusal.{Refusal}
use Rattle.rules.specs.declared.Refusal.TheVariants.{NoBox, Malformed, Foreign, NotTheDealer, ShareEarly, ShareLate, AlreadyHeard, MatrixEntry, ExponentHigh, CheckFails, NoGroup, RuleBroken, OutOfTurn, SecretOrCoins, BufferShort}

abbrev pub refusal_number : Refusal → ℕ
refusal_number NoBox = 1
refusal_number Malformed = 2
refusal_number Foreign = 3
refusal_number NotTheDealer = 4
refusal_number ShareEarly = 5
refusal_number ShareLate = 6
refusal_number AlreadyHeard = 7
refusal_number MatrixEntry = 8
refusal_number ExponentHigh = 9
refusal_number CheckFails = 10
refusal_number NoGroup = 11
refusal_number RuleBroken = 12
refusal_number OutOfTurn = 13
refusal_number SecretOrCoins = 14
refusal_number BufferShort = 15

-- the number of what a test of rows gave: 0 where none holds
abbrev pub refusal_of : Result Unit Refusal → ℕ
refusal_of (Ok _) = 0
refusal_of (Err refusal) = refusal_number refusal

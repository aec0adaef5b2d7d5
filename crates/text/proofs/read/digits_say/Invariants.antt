use Rattle.std.proofs.Common.{◌≡◌, ◌+◌, ◌*◌, ◌^◌, ◌≤◌}
use Rattle.rules.specs.Text.{digits_say}
use Rattle.text.proofs.read.digits_say.Given as goal

-- so far below 23 times a power of ten, so that it fits: five digits at most, of 207 each at most
abbrev pub invariant-loop-x : goal.invariant-loop-x
invariant-loop-x l = (l.said ≡ digits_say l.b l.i l.x-index) × (l.said + 23 ≤ 23 * 10 ^ l.x-index)

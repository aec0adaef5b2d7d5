use Rattle.std.specs.Prelude.{ℕ, ◌*◌, ◌≤◌}
use Rattle.rules.specs.declared.Message.{Message}
use Rattle.message_writing.specs.Written.{EachWrites}
use Rattle.message_writing.specs.Laws.{Sent}
use Rattle.message_writing.proofs.write_each.Given as goal

-- whatever messages the calls write
abbrev pub invariant-loop-j : goal.invariant-loop-j
invariant-loop-j g l =
    record {
      room : l.at ≤ 199 * l.j;
      sent : (m : ℕ → Message) → EachWrites l.fn.u m (goal.F-post g l.write) → Sent l.fn.u m l.fn.out l.out l.at l.j;
    }

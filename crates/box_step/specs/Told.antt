-- The steps that code makes, and the outcome of one that is accepted.
-- Assumes nothing.
use Rattle.std.specs.Prelude.{false, ℕ}
use Rattle.std.specs.Prelude.{None, is_some}
use Rattle.rules.specs.declared.Outcome.{Outcome}
use Rattle.rules.specs.declared.Record.{Record}
use Rattle.rules.specs.declared.Sent.{Sent}
use Rattle.rules.specs.declared.Sent.TheVariants.{Nothing}
use Rattle.rules.specs.Answers.{pair_told}
use Rattle.box_step.specs.declared.Step.{Step}

abbrev pub sends : Record → Sent → ℕ → Step
sends x what n = record { after = x; sent = what; bytes = n; completed = false; recovered = None }

abbrev pub quietly : Record → Step
quietly x = sends x Nothing 0

abbrev pub told : Step → Outcome
told s =
    record {
      answer = record {
        no = 0;
        sent = s.sent;
        bytes = s.bytes;
        completed = s.completed;
        recovered = is_some s.recovered;
        pair = pair_told s.recovered;
      };
      next = s.after;
    }

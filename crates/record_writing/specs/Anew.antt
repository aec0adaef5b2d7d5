-- Who is heard after one more, and the record after a deal and after a recovery command.
-- Assumes nothing.
use Rattle.std.specs.Prelude.{◌≡◌, true, List, ℕ, ◌-◌, ◌<◌, get_or, set}
use Rattle.std.proofs.Common.{arith}
use Rattle.rules.specs.declared.Marks.{Marks}
use Rattle.rules.specs.declared.Record.{Record}
use Rattle.rules.specs.declared.Side.{Side}
use Rattle.rules.specs.declared.Side.TheVariants.{ByEcho, ByReady}
use Rattle.rules.specs.Messages.{side_tag}
use Rattle.rules.specs.Record.{no_marks}
use Rattle.rules.specs.Steps.{mark, with_progress}
use Rattle.rules.specs.Laws.Shape.{HasMark}

-- an echo and a ready have their mark
pub side_heard : (b : Side) {t m : ℕ} → t ≡ side_tag b → m < 10 → HasMark t m
side_heard ByEcho e l = record { low = omega arith; high = omega arith; place = l }
side_heard ByReady e l = record { low = omega arith; high = omega arith; place = l }

abbrev pub heard_marks : List Marks → ℕ → ℕ → List Marks
heard_marks l tag m = set l (tag - 1) (mark (get_or l (tag - 1) no_marks) m)

unfoldable pub dealt_after : Record → Record
dealt_after x = with_progress x (record { dealt = true; completion = x.progress.completion; commanded = x.progress.commanded })

unfoldable pub commanded_after : Record → Record
commanded_after x = with_progress x (record { dealt = x.progress.dealt; completion = x.progress.completion; commanded = true })

-- `put_each` adds a line for each message. The loop's invariant: the first j lines are added. Assumes nothing.
use Rattle.std.proofs.Common.{◌+◌, ◌*◌}
use Rattle.text.specs.Pages.{AddsRuns}
use Rattle.console_page.specs.Answers.{message_line}
use Rattle.console_page.proofs.answers.put_each.Given as goal

abbrev pub invariant-loop-j : goal.invariant-loop-j
invariant-loop-j g l =
    AddsRuns (λ j. message_line (j + 1) l.buffer (j * l.size) l.size) (10 + 2 * l.size) l.initial.page l.j l.page

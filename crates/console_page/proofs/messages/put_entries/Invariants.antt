-- `put_entries` adds the rows of a matrix. The loop's invariant: those so far are added. Assumes nothing.
use Rattle.std.proofs.Common.{[], get_or}
use Rattle.text.specs.Pages.{AddsRuns}
use Rattle.console_page.specs.Reading.{numbers_text, row_number}
use Rattle.console_page.proofs.messages.put_entries.Given as goal

abbrev pub invariant-loop-row : goal.invariant-loop-row
invariant-loop-row g l = AddsRuns (λ j. numbers_text l.k (row_number (get_or l.fn.c j []))) 48 l.initial.page l.row-index l.page

-- `put_matrix` adds the first k rows and columns of a matrix. The loop's invariant: the rows so far are added. Assumes nothing.
use Rattle.std.proofs.Common.{[], get_or}
use Rattle.text.specs.Pages.{AddsRuns}
use Rattle.console_shows.specs.Show.{row_text}
use Rattle.console_shows.proofs.places.put_matrix.Given as goal

abbrev pub invariant-loop-row : goal.invariant-loop-row
invariant-loop-row g l = AddsRuns (λ j. row_text l.width (get_or l.fn.c j [])) 48 l.initial.page l.row-index l.page

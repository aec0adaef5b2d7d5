-- `put_numbers` adds numbers. The loop's invariant: those so far are added. Assumes nothing.
use Rattle.text.specs.Pages.{AddsRuns, number_of}
use Rattle.text.proofs.page.put_numbers.Given as goal

abbrev pub invariant-loop-number : goal.invariant-loop-number
invariant-loop-number g l = AddsRuns (number_of l.numbers) 6 l.initial.page l.number-index l.page

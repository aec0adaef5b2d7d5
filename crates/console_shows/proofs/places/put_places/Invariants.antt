-- `put_places` adds a line for each place in use. The loop's invariant: those of the places so far are added. Assumes nothing.
use Rattle.std.proofs.Common.{[]}
use Rattle.folds.specs.Tests.{pick}
use Rattle.text.specs.Pages.{AddsRuns}
use Rattle.record_reading.specs.Slots.{slot_in}
use Rattle.console_shows.specs.Show.{place_line}
use Rattle.console_shows.proofs.places.put_places.Given as goal

abbrev pub invariant-loop-s : goal.invariant-loop-s
invariant-loop-s g l = AddsRuns (λ s. pick (slot_in l.fn.slots s).used (place_line l.k s (slot_in l.fn.slots s)) []) 419 l.initial.page l.s l.page

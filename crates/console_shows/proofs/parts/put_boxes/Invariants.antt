-- `put_boxes` adds the marked boxes, or `none`. The loop's invariant: those of the boxes so far are added. Assumes nothing.
use Rattle.text.specs.Pages.{AddsRuns}
use Rattle.console_shows.specs.Parts.{box_in}
use Rattle.console_shows.proofs.parts.put_boxes.Given as goal

abbrev pub invariant-loop-m : goal.invariant-loop-m
invariant-loop-m g l = AddsRuns (box_in l.fn.marks) 6 l.initial.page l.m l.page

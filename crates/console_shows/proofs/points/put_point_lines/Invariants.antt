-- `put_point_lines` adds a line for each of boxes 1 to n. The loop's invariant: those so far are added. Assumes nothing.
use Rattle.text.specs.Pages.{AddsRuns}
use Rattle.console_shows.specs.Points.{point_line}
use Rattle.console_shows.proofs.points.put_point_lines.Given as goal

abbrev pub invariant-loop-m : goal.invariant-loop-m
invariant-loop-m g l = AddsRuns (point_line l.slot) 41 l.initial.page l.m l.page

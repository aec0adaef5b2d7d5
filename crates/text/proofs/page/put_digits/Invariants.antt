-- `put_digits` adds digits. The loop's invariant: those for the j highest powers are added. Assumes nothing.
use Rattle.text.specs.Pages.{AddsRuns, digit_for}
use Rattle.text.proofs.page.put_digits.Given as goal

abbrev pub invariant-loop-j : goal.invariant-loop-j
invariant-loop-j g l = AddsRuns (digit_for l.n l.x) 1 l.initial.page l.j l.page

-- `line_place` is where a line starts. Assumes nothing.
use Rattle.std.proofs.Common.{◌+◌, ◌≤◌, ◌≡◌, ◌∙◌, sym, ap, arith}
use Rattle.console_shows.specs.Help.{line_end, line_end_high, line_place-zero, line_place_more}
use Rattle.console_shows.proofs.help.line_place.Goals as goal

-- where the line ends
ends : (c : goal.After-line_end-place) → c.line_end-place.result ≤ 65535 + c.loop.counter
ends c = omega (arith, line_end_high c.args.b.now c.loop.place, c.line_end-place.ensures, c.loop.invariant.1, c.requires)

pub loop-init : goal.loop-init
loop-init c = (sym (line_place-zero _), omega arith)

pub overflow_add-place : goal.overflow_add-place
overflow_add-place c = omega (arith, ends c)

pub loop-preserved : goal.loop-preserved
loop-preserved c =
    (ap (λ n. n + 1) (c.line_end-place.ensures ∙ ap (line_end _) c.loop.invariant.0) ∙ sym (line_place_more _ _), omega (arith, ends c))

pub returns : goal.returns
returns c = let all : c.loop.counter ≡ c.args.n = omega arith in rw all at c.loop.invariant.0

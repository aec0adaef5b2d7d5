-- `front_keeps` tests whether the first m + 2 lines are a whole sheet of m boxes. Assumes nothing.
use Rattle.std.proofs.Common.{◌≡◌, List, ℕ, sym, ap, ◌∙◌, ◌+◌, length, take, arith}
use lib.Seq.{length-take-le}
use Rattle.rules.specs.Sheet.{first_line_keeps, rest_keeps}
use Rattle.sheet_reasons.specs.Lines.{line_start, line_start_le}
use Rattle.sheet_reasons.specs.Reasons.{front_keeps}
use Rattle.sheet_reasons.proofs.bad.front_keeps.Goals as goal

-- the lines end within the text
within : (b : List ℕ) (m : ℕ) {end : ℕ} → end ≡ line_start b (m + 2) → end ≡ length (take end b)
within b m e = sym (length-take-le _ _ (omega (arith, e, line_start_le b (m + 2))))

pub slice_bounds-first_line_keeps-end : goal.slice_bounds-first_line_keeps-end
slice_bounds-first_line_keeps-end c = within c.args.b.now c.args.m c.line_start-end.ensures

pub slice_bounds-rest_keeps-end : goal.slice_bounds-rest_keeps-end
slice_bounds-rest_keeps-end c = within c.args.b.now c.args.m c.line_start-end.ensures

pub returns-then-first_line_keeps : goal.returns-then-first_line_keeps
unfolding front_keeps
returns-then-first_line_keeps c =
    rw (ap (λ e. first_line_keeps (take e c.args.b.now)) (sym c.line_start-end.ensures) ∙ sym c.if-first_line_keeps.ensures)
    (c.rest_keeps.ensures ∙ ap (λ e. rest_keeps (take e c.args.b.now) c.args.m c.args.k) c.line_start-end.ensures)

pub returns-else-first_line_keeps : goal.returns-else-first_line_keeps
unfolding front_keeps
returns-else-first_line_keeps c =
    let failed = sym c.first_line_keeps.ensures ∙ c.if-first_line_keeps.false in
    c.if-first_line_keeps.false ∙ sym (rw (ap (λ e. first_line_keeps (take e c.args.b.now)) (sym c.line_start-end.ensures) ∙ failed))

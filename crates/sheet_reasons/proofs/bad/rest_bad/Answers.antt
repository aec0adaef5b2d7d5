use Rattle.std.proofs.Common.{ℕ, List, ◌≡◌, ◌+◌, ◌≤◌, leb, true, sym, ◌∙◌, length, arith}
use Rattle.std.proofs.Common.{leb-true}
use Rattle.folds.specs.Tests.{and_left}
use Rattle.rules.specs.Sheet.{first_line_keeps}
use Rattle.sheet_reasons.specs.Lines.{line_start_le}
use Rattle.sheet_reasons.specs.Reasons.{good_lines, good_lines_le, rest_bad}
use Rattle.sheet_reasons.proofs.bad.rest_bad.Goals as goal

-- a sheet has few lines and few bytes
few : (b : List ℕ) (n k : ℕ) {m : ℕ} → m ≡ good_lines b n k → n ≤ 10 → m ≤ 11
few b n k e h = omega (arith, e, good_lines_le b n k)

small : (b : List ℕ) → first_line_keeps b ≡ true → length b ≤ 4096
unfolding first_line_keeps
small b h = leb-true (length b) 4096 (and_left (leb (length b) 4096) _ h)

pub returns-then-rest_keeps : goal.returns-then-rest_keeps
unfolding rest_bad
returns-then-rest_keeps c = rw (sym c.rest_keeps.ensures ∙ c.if-rest_keeps.true)

pub overflow_add-before : goal.overflow_add-before
overflow_add-before c = omega (arith, few _ _ _ c.good_lines-m.ensures c.requires.boxes)

pub own_reason-own-requires : goal.own_reason-own-requires
own_reason-own-requires c = (
  record {
    size = small c.args.b.now c.requires.keeps;
    place = omega (arith, c.line_start-i.ensures, line_start_le c.args.b.now (c.good_lines-m.result + 1));
  },
  c.requires.high,
)

pub overflow_cast-result : goal.overflow_cast-result
overflow_cast-result c = omega (arith, few _ _ _ c.good_lines-m.ensures c.requires.boxes)

pub returns : goal.returns
unfolding rest_bad
returns c =
    rw (
      sym c.rest_keeps.ensures ∙ c.if-rest_keeps.false,
      c.line_reason.ensures,
      c.own_reason-own.ensures,
      c.line_start-i.ensures,
      c.good_lines-m.ensures,
    )

use Rattle.std.proofs.Common.{Some, sym, ap, ◌∙◌}
use Rattle.std.proofs.Common.{lt-ltb, le-ltb}
use Rattle.rules.specs.Numbers.{group_keeps, sizes_keep}
use Rattle.rules.specs.declared.SetUp.{SetUp}
use Rattle.rules.proofs.Laws.Numbers.{sizes}
use Rattle.sheet_reasons.specs.Reasons.{line_reason, rest_bad, sheet_bad}
use Rattle.sheet_reasons.specs.declared.bad.Bad.TheVariants.{Line}
use Rattle.sheet_reasons.proofs.bad.sheet_bad.Goals as goal
use Rattle.sheet_reasons.proofs.bad.sheet_bad.Goals.{then-not-group_keeps-via-then-not-group_keeps, then-not-group_keeps-via-else-not-group_keeps+then-not-sizes_keep}

pub returns-then-b-gt-BYTES : goal.returns-then-b-gt-BYTES
unfolding sheet_bad
returns-then-b-gt-BYTES c = rw (lt-ltb _ _ c.if-b-gt-BYTES.true)

pub returns-then-not-first_line_keeps : goal.returns-then-not-first_line_keeps
unfolding sheet_bad
returns-then-not-first_line_keeps c =
    rw (le-ltb _ _ c.if-b-gt-BYTES.false, sym c.if-not-first_line_keeps.ensures)
    (ap (λ r. Some (Line 0 r)) (c.line_reason-reason.ensures ∙ ap (line_reason c.args.b.now 0) c.first_reason-own.ensures))

pub returns-then-not-group_keeps : goal.returns-then-not-group_keeps
unfolding sheet_bad
returns-then-not-group_keeps c =
    let u = c.set_up-u.ensures in
    rw (le-ltb _ _ c.if-b-gt-BYTES.false, sym c.if-not-first_line_keeps.ensures)
    (elim c.then-not-group_keeps.branch [
      | then-not-group_keeps-via-then-not-group_keeps w ↦ rw (ap group_keeps (sym u) ∙ sym c.group_keeps.ensures ∙ w.if-not-group_keeps.true)
      | then-not-group_keeps-via-else-not-group_keeps+then-not-sizes_keep w ↦ rw (
        ap group_keeps (sym u) ∙ sym c.group_keeps.ensures ∙ w.if-not-group_keeps.false,
        ap (λ (u : SetUp). sizes_keep u.n u.t u.k) (sym u) ∙ sym w.sizes_keep.ensures ∙ w.if-not-sizes_keep.true,
      )
    ])

pub rest_bad-requires : goal.rest_bad-requires
rest_bad-requires c =
    let s = sizes _ _ _ (sym c.if-not-sizes_keep.ensures) in
    record { keeps = sym c.if-not-first_line_keeps.ensures; boxes = s.boxes; high = s.high }

pub returns : goal.returns
unfolding sheet_bad
returns c =
    let u = c.set_up-u.ensures in
    rw (
      le-ltb _ _ c.if-b-gt-BYTES.false,
      sym c.if-not-first_line_keeps.ensures,
      ap group_keeps (sym u) ∙ sym c.if-not-group_keeps.ensures,
      ap (λ (u : SetUp). sizes_keep u.n u.t u.k) (sym u) ∙ sym c.if-not-sizes_keep.ensures,
    )
    (c.rest_bad.ensures ∙ ap (λ (u : SetUp). rest_bad c.args.b.now u.n u.k) u)

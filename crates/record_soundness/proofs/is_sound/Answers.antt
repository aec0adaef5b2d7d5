use Rattle.std.proofs.Common.{◌∙◌, sym, ap, arith}
use Rattle.std.specs.Prelude.{◌<◌}
use Rattle.rules.specs.declared.Group.{Group}
use Rattle.rules.specs.Numbers.{group_of}
use Rattle.rules.proofs.Laws.Numbers.{bounds, group_rule}
use Rattle.record_soundness.specs.Clauses.{tests_pass}
use Rattle.record_soundness.specs.Sound.{sound_is}
use Rattle.record_soundness.proofs.is_sound.Goals as goal

pub returns-then-not-group_keeps : goal.returns-then-not-group_keeps
returns-then-not-group_keeps c = rw (sound_is c.args.x, ← c.group_keeps.ensures, c.if-not-group_keeps.true)

pub tests_pass-requires : goal.tests_pass-requires
tests_pass-requires c =
    let u = c.args.x.setup in
    let twice = (group_rule u (sym c.group_keeps.ensures ∙ c.if-not-group_keeps.false)).twice in
    let p : 0 < (group_of u.group).p = omega arith in
    (rw c.group_of.ensures p, (bounds u (sym c.numbers_keep.ensures ∙ c.if-numbers_keep.true)).sizes)

pub returns-then-numbers_keep : goal.returns-then-numbers_keep
returns-then-numbers_keep c =
    rw (sound_is c.args.x, ← c.group_keeps.ensures, c.if-not-group_keeps.false, ← c.numbers_keep.ensures, c.if-numbers_keep.true)
    (c.tests_pass.ensures ∙ ap (λ (G : Group). tests_pass G c.args.x) c.group_of.ensures)

pub returns-else-numbers_keep : goal.returns-else-numbers_keep
returns-else-numbers_keep c =
    rw (sound_is c.args.x, ← c.group_keeps.ensures, c.if-not-group_keeps.false, ← c.numbers_keep.ensures, c.if-numbers_keep.false)

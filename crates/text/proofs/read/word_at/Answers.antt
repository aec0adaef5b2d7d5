use Rattle.std.proofs.Common.{ℕ, List, length, take, eqb, ap, ◌∙◌}
use Rattle.std.specs.Cmp.Lexicographic.{pointwise}
use Rattle.text.proofs.Places.{word_starts}
use Rattle.text.proofs.read.word_at.Goals as goal

pub returns : goal.returns
returns c =
    let w = c.args.w.now in
    c.starts_with.ensures.value
    ∙ ap (λ (s : List ℕ). pointwise eqb w (take (length w) s)) c.rest.ensures
    ∙ word_starts c.args.b.now c.args.i w

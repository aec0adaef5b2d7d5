use Rattle.std.proofs.Common.{sym, ap, ◌∙◌, length}
use Rattle.console_lines.specs.Items.{place_at, place_out}
use Rattle.console_lines.specs.Judging.{bad_byte, bad_space, judged_begin, judged}
use Rattle.console_lines.proofs.judging.judge.Goals as goal

pub returns-then-is_quiet : goal.returns-then-is_quiet
unfolding judged
returns-then-is_quiet c = rw (sym c.is_quiet.ensures ∙ c.if-is_quiet.true)

pub returns-in-Some : goal.returns-in-Some
unfolding judged
returns-in-Some c =
    let b = c.args.line.now in
    let there = place_at (length b) (bad_byte b) (sym c.in-Some.is ∙ c.bad_byte.ensures) in
    rw (sym c.is_quiet.ensures ∙ c.if-is_quiet.false, there.0, there.1)

pub returns-in-Some-bad_space : goal.returns-in-Some-bad_space
unfolding judged
returns-in-Some-bad_space c =
    let b = c.args.line.now in
    let there = place_at (length b) (bad_space b) (sym c.in-Some-bad_space.is ∙ c.bad_space.ensures) in
    rw (
      sym c.is_quiet.ensures ∙ c.if-is_quiet.false,
      place_out (length b) (bad_byte b) (sym c.in_default.is ∙ c.bad_byte.ensures),
      there.0,
      there.1,
    )

pub returns-in-Some-word_of : goal.returns-in-Some-word_of
unfolding judged
returns-in-Some-word_of c =
    let b = c.args.line.now in
    rw (
      sym c.is_quiet.ensures ∙ c.if-is_quiet.false,
      place_out (length b) (bad_byte b) (sym c.in_default.is ∙ c.bad_byte.ensures),
      place_out (length b) (bad_space b) (sym c.in_default-bad_space.is ∙ c.bad_space.ensures),
    )
    (c.judge_word.ensures ∙ ap (judged_begin b) (sym c.in-Some-word_of.is ∙ c.word_of.ensures))

pub returns-in-None : goal.returns-in-None
unfolding judged
returns-in-None c =
    let b = c.args.line.now in
    rw (
      sym c.is_quiet.ensures ∙ c.if-is_quiet.false,
      place_out (length b) (bad_byte b) (sym c.in_default.is ∙ c.bad_byte.ensures),
      place_out (length b) (bad_space b) (sym c.in_default-bad_space.is ∙ c.bad_space.ensures),
    )
    (ap (judged_begin b) (sym c.in-None.is ∙ c.word_of.ensures))

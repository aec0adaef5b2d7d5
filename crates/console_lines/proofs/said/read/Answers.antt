use Rattle.std.proofs.Common.{Some, None, Ok, Err, sym, ap, ◌∙◌, refl}
use Rattle.console_lines.specs.Laws.{judged_formed, spoken}
use Rattle.console_lines.proofs.said.read.Goals as goal

pub command-requires : goal.command-requires
command-requires c =
    record { lent = c.requires; formed = judged_formed c.args.line.now _ (sym c.judge.ensures ∙ c.in-Ok-Some.is ∙ ap Ok c.in-Ok-Some.field-0-is) }

pub returns-in-Ok-None : goal.returns-in-Ok-None
returns-in-Ok-None c =
    spoken c.args.line.now c.requires.short (Ok None) (sym c.judge.ensures ∙ c.in-Ok-None.is ∙ ap Ok c.in-Ok-None.field-0-is)
    (record { answers = refl; coins_put = refl; bytes_put = refl })

pub returns-in-Ok-Some : goal.returns-in-Ok-Some
returns-in-Ok-Some c =
    spoken c.args.line.now c.requires.short (Ok (Some c.in-Ok-Some.word)) (sym c.judge.ensures ∙ c.in-Ok-Some.is ∙ ap Ok c.in-Ok-Some.field-0-is) c.command.ensures

pub returns-in-Err : goal.returns-in-Err
returns-in-Err c =
    spoken c.args.line.now c.requires.short (Err c.in-Err.reason) (sym c.judge.ensures ∙ c.in-Err.is)
    (record { answers = refl; coins_put = refl; bytes_put = refl })

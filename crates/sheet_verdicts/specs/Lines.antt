-- The lines that the contracts of the writers name beside those of `rules`.
-- Assumes nothing.
use Rattle.std.specs.Prelude.{List, ◌++◌, ℕ}
use Rattle.rules.specs.declared.Pair.{Pair}
use Rattle.rules.specs.declared.Verdict.{Verdict}
use Rattle.rules.specs.Text.{text, decimal}
use Rattle.rules.specs.Sheet.{verdict_text}
use Rattle.text.specs.Pages.{numbers_of}

unfoldable pub box_line : ℕ → Verdict → List ℕ
box_line number v = decimal number ++ text " " ++ verdict_text v

unfoldable pub secret_text : Pair → List ℕ → List ℕ
secret_text s boxes =
    text "secret " ++ decimal s.first.0 ++ text " " ++ decimal s.second.0 ++ text " from" ++ numbers_of boxes ++ text "\n"

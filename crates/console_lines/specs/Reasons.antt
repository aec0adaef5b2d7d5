-- The line that says why a line is bad.
-- Assumes nothing.
use Rattle.std.specs.Prelude.{List, ◌++◌, ℕ}
use Rattle.rules.specs.Text.{text, decimal}
use Rattle.console_lines.specs.declared.reasons.Reason.{Reason}
use Rattle.console_lines.specs.declared.reasons.Reason.TheVariants.{TooLong, CutOff, Byte, Space, NoSuchWord, Items, Item}

abbrev pub reason_line : Reason → List ℕ
reason_line TooLong = text "bad line: too long\n"
reason_line CutOff = text "bad line: cut off\n"
reason_line (Byte value place) = text "bad line: byte " ++ decimal value ++ text " at " ++ decimal place ++ text "\n"
reason_line (Space place) = text "bad line: space at " ++ decimal place ++ text "\n"
reason_line NoSuchWord = text "bad line: no such word\n"
reason_line Items = text "bad line: items\n"
reason_line (Item j) = text "bad line: item " ++ decimal j ++ text "\n"

-- What is written for a call, and for `lend`.
--
-- In order: the line of an answer; the messages; a call; `lend`.
-- Assumes nothing.
use Rattle.std.specs.Prelude.{Bool, true, false, List, [], ◌++◌, ℕ, suc, ◌+◌, ◌*◌, ◌/◌, ◌<◌, ◌≤◌, leb, length}
use Rattle.std.proofs.Common.{suc-mul, mul-le-mul_right}
use Rattle.folds.specs.Tests.{◌and◌, pick}
use Rattle.folds.specs.Runs.{gather}
use Rattle.rules.specs.declared.Answer.{Answer}
use Rattle.rules.specs.declared.Sent.{Sent}
use Rattle.rules.specs.declared.Sent.TheVariants.{Nothing, Send, Echo, Ready, Recovery}
use Rattle.rules.specs.Text.{text, decimal}
use Rattle.text.specs.Hexadecimal.{hex_of}
use Rattle.console_page.specs.Numerals.{two_text, numeral}

-- ---- the line of an answer

unfoldable pub sent_text : Sent → List ℕ
sent_text Nothing = text " nothing"
sent_text Send = text " send"
sent_text Echo = text " echo"
sent_text Ready = text " ready"
sent_text Recovery = text " recovery"

unfoldable pub flag_text : Bool → List ℕ
flag_text true = text " yes"
flag_text false = text " no"

-- answer NO SENT BYTES
unfoldable pub told_text : Answer → List ℕ
told_text a = text "answer " ++ decimal a.no ++ sent_text a.sent ++ text " " ++ numeral a.bytes

-- and behind that COMPLETED RECOVERED S S'
unfoldable pub answer_line : Answer → List ℕ
answer_line a =
    told_text a ++ flag_text a.completed ++ flag_text a.recovered
    ++ (text " " ++ two_text a.pair.first.0 a.pair.second.0) ++ text "\n"

-- ---- the messages

-- to J HEX: `size` bytes of the buffer
unfoldable pub message_line : ℕ → List ℕ → ℕ → ℕ → List ℕ
message_line j buffer from size = text "to " ++ decimal j ++ text " " ++ hex_of buffer from size ++ text "\n"

-- "n messages, to box 1 first, each directly behind the one before"
unfoldable pub each_line : ℕ → ℕ → List ℕ → List ℕ
each_line n size buffer = gather n (λ j. message_line (j + 1) buffer (j * size) size)

-- message j ends within the n
pub message_within : (j n size : ℕ) → j < n → j * size + size ≤ n * size
message_within j n size l = rw (← suc-mul j size) (mul-le-mul_right {m = suc j} {n = n} size l)

-- bytes were written: no call has written more than the buffer has, or to more than ten boxes
abbrev pub wrote : ℕ → ℕ → List ℕ → Bool
wrote n bytes buffer = leb 1 n and leb n 10 and leb 1 bytes and leb bytes (length buffer)

-- the messages of a call that wrote so many bytes
unfoldable pub message_lines : ℕ → ℕ → List ℕ → List ℕ
message_lines n bytes buffer = pick (wrote n bytes buffer) (each_line n (bytes / n) buffer) []

-- ---- a call

unfoldable pub call_lines : ℕ → Answer → List ℕ → List ℕ
call_lines n a buffer = answer_line a ++ message_lines n a.bytes buffer

-- ---- `lend`

-- lent L
unfoldable pub lent_line : ℕ → List ℕ
lent_line lent = text "lent " ++ numeral lent ++ text "\n"

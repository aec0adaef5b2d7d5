-- The definitions here at work: lines that the console prints.
--
-- In order: all definitions at once; what `read` prints; the lines of a call; numbers.
-- Assumes nothing.
use Rattle.std.specs.Prelude.{true, false, List, [], ◌≡◌, refl, ℕ, ◌/◌, length}
use Prim.Native.String.{String}
use Rattle.rules.specs.declared.Answer.{Answer}
use Rattle.rules.specs.declared.Sent.TheVariants.{Nothing, Recovery}
use Rattle.rules.specs.Numbers.{exponent}
use Rattle.rules.specs.Text.{text}
use Rattle.rules.specs.Computed.{computed}
use Rattle.text.specs.Hexadecimal.{hex_bytes, hex_of}
use Rattle.console_page.specs.Numerals.{two_text, numeral}
use Rattle.console_page.specs.Answers.{sent_text, flag_text, told_text, answer_line, message_line, each_line, message_lines, call_lines, lent_line}
use Rattle.console_page.specs.Reading.{width_in, numbers_text, entries_text, matrix_text, polynomials_text, four_text, head_text, send_line, point_line, share_line, message_text, read_line}

-- a statement about closed values that says `unfolding printed` is decided by computing
unfoldable printed : Unit {0}
unfolding computed hex_bytes hex_of two_text numeral sent_text flag_text told_text answer_line message_line each_line message_lines call_lines lent_line width_in numbers_text entries_text matrix_text polynomials_text four_text head_text send_line point_line share_line message_text read_line
printed = tt

-- the bytes that hexadecimal says
abbrev bytes : String → List ℕ
bytes h = hex_bytes (text h) 0 (length (text h) / 2)

-- ---- what `read` prints

pub record ReadLines : Type 0 where
  -- of each tag, at k = 2
  pub send_2 : read_line (bytes "01001c010007020004000d0008000c00070007000800040008000600070005")
      ≡ text "send dealer 1 session 7 k 2 matrix 4 13 8 12 a 7 7 a' 8 4 b 8 6 b' 7 5\n"
  pub echo_2 : read_line (bytes "020014010007020004000d0008000c00090006000a0005")
      ≡ text "echo dealer 1 session 7 k 2 matrix 4 13 8 12 alpha 9 6 beta 10 5\n"
  pub ready_2 : read_line (bytes "030014010007020004000d0008000c00090006000a0005")
      ≡ text "ready dealer 1 session 7 k 2 matrix 4 13 8 12 alpha 9 6 beta 10 5\n"
  -- a recovery share has no k
  pub share : read_line (bytes "04000701000700070008") ≡ text "recovery dealer 1 session 7 share 7 8\n"
  -- at k = 3, rows and coefficients in order; numbers that no box would take
  pub send_3 : read_line (bytes "01002e03030103000100020003000400050006000700080009006500ca012f019401f9025e02c30328038d03f2045704bc")
      ≡ text "send dealer 3 session 769 k 3 matrix 1 2 3 4 5 6 7 8 9 a 101 202 303 a' 404 505 606 b 707 808 909 b' 1010 1111 1212\n"
  pub share_large : read_line (bytes "040007ffffffffff0000") ≡ text "recovery dealer 255 session 65535 share 65535 0\n"
  -- refused at every k: no bytes, another tag, a byte too many, a k byte that is not that of the length, k = 1
  pub empty : read_line [] ≡ text "no message\n"
  pub tag_5 : read_line (bytes "05000701000700070008") ≡ text "no message\n"
  pub too_long : read_line (bytes "0400070100070007000800") ≡ text "no message\n"
  pub other_k : read_line (bytes "020014010007030004000d0008000c00090006000a0005") ≡ text "no message\n"
  pub one_k : read_line (bytes "02000e01000701000400090006000a0005") ≡ text "no message\n"

pub read_lines : ReadLines
unfolding printed
read_lines =
    record {
      send_2 = refl;
      echo_2 = refl;
      ready_2 = refl;
      share = refl;
      send_3 = refl;
      share_large = refl;
      empty = refl;
      tag_5 = refl;
      too_long = refl;
      other_k = refl;
      one_k = refl;
    }

-- ---- the lines of a call

abbrev refusal : Answer
refusal = record { no = 12; sent = Nothing; bytes = 0; completed = false; recovered = false; pair = record { first = exponent 0; second = exponent 0 } }

abbrev command : Answer
command = record { no = 0; sent = Recovery; bytes = 20; completed = true; recovered = true; pair = record { first = exponent 5; second = exponent 1 } }

pub record CallLines : Type 0 where
  -- no messages, whatever the buffer holds
  pub refused : call_lines 2 refusal (bytes "04000701000700070008") ≡ text "answer 12 nothing 0 no no 0 0\n"
  -- to box 1 first; what stands behind the messages is not printed
  pub sent : call_lines 2 command (bytes "04000701000700070008040007010007000900ffee00")
      ≡ text "answer 0 recovery 20 yes yes 5 1\nto 1 04000701000700070008\nto 2 040007010007000900ff\n"
  -- ---- numbers: at the edge of a decimal, and the largest
  pub lent : lent_line 4096 ≡ text "lent 4096\n"
  pub edge : numeral 99999 ≡ text "99999"
  pub over : numeral 100000 ≡ text "100000"
  pub largest : numeral 18446744073709551615 ≡ text "18446744073709551615"

pub call_lines_lem : CallLines
unfolding printed
call_lines_lem = record { refused = refl; sent = refl; lent = refl; edge = refl; over = refl; largest = refl }

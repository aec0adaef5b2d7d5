-- `read`: what a message says, whatever the box.
--
-- In order: its k; the numbers in it; the line of each message; the line of any bytes.
-- Assumes nothing.
use Rattle.std.specs.Prelude.{not, List, [], ◌++◌, ℕ, Option, Some, None, get_or}
use Rattle.std.specs.List.{find, range_with_len}
use Rattle.folds.specs.Runs.{gather}
use Rattle.rules.specs.declared.Element.{Element}
use Rattle.rules.specs.declared.Four.{Four}
use Rattle.rules.specs.declared.Pair.{Pair}
use Rattle.rules.specs.declared.Polynomials.{Polynomials}
use Rattle.rules.specs.declared.SetUp.{SetUp}
use Rattle.rules.specs.Numbers.{element}
use Rattle.rules.specs.Matrices.{coefficient, α, α', β, β'}
use Rattle.rules.specs.declared.Message.{Message}
use Rattle.rules.specs.declared.Message.TheVariants.{Send as send, Echo as echo, Ready as ready, Recovery as recovery}
use Rattle.rules.specs.Messages.{word, malformed, message_in}
use Rattle.rules.specs.Text.{text, decimal}
use Rattle.console_page.specs.Numerals.{two_text}

-- ---- its k

-- a set-up with this k, which is all that refusal 2 looks at
abbrev pub of_width : ℕ → SetUp
of_width k = record { group = 0; n = 0; t = 0; k = k; i = 0; d = 0; session = 0 }

-- the lowest k from 2 to 8 at which refusal 2 does not hold: the only one but for a recovery share, which has no k. None where it
-- holds at every k
unfoldable pub width_in : List ℕ → Option ℕ
width_in s = find (λ k. not (malformed (of_width k) s)) (range_with_len 2 7)

-- ---- the numbers in it

-- f 0, .. f (k - 1), a space before each
unfoldable pub numbers_text : ℕ → (ℕ → ℕ) → List ℕ
numbers_text k f = gather k (λ l. text " " ++ decimal (f l))

-- entry l of a row
abbrev pub row_number : List Element → ℕ → ℕ
row_number row l = (get_or row l (element 0)).0

unfoldable pub entries_text : ℕ → List (List Element) → List ℕ
entries_text k C = gather k (λ j. numbers_text k (row_number (get_or C j [])))

unfoldable pub matrix_text : ℕ → List (List Element) → List ℕ
matrix_text k C = text " k " ++ decimal k ++ text " matrix" ++ entries_text k C

unfoldable pub polynomials_text : ℕ → Polynomials → List ℕ
polynomials_text k P =
    (text " a" ++ numbers_text k (coefficient P.a))
    ++ (text " a'" ++ numbers_text k (coefficient P.a2))
    ++ (text " b" ++ numbers_text k (coefficient P.b))
    ++ (text " b'" ++ numbers_text k (coefficient P.b2))

unfoldable pub four_text : Four → List ℕ
four_text f = (text " alpha " ++ two_text (α f) (α' f)) ++ (text " beta " ++ two_text (β f) (β' f))

-- ---- the line of each message

-- its kind, dealer and session, which every message has in one place
unfoldable pub head_text : List ℕ → List ℕ → List ℕ
head_text kind s = kind ++ decimal (get_or s 3 0) ++ (text " session " ++ decimal (word s 4))

unfoldable pub send_line : SetUp → List ℕ → List (List Element) → Polynomials → List ℕ
send_line u s C P = head_text (text "send dealer ") s ++ matrix_text u.k C ++ polynomials_text u.k P ++ text "\n"

-- an echo or a ready
unfoldable pub point_line : List ℕ → SetUp → List ℕ → List (List Element) → Four → List ℕ
point_line kind u s C f = head_text kind s ++ matrix_text u.k C ++ four_text f ++ text "\n"

unfoldable pub share_line : List ℕ → Pair → List ℕ
share_line s p = head_text (text "recovery dealer ") s ++ (text " share " ++ two_text p.first.0 p.second.0) ++ text "\n"

unfoldable pub message_text : SetUp → List ℕ → Message → List ℕ
message_text u s (send C P) = send_line u s C P
message_text u s (echo C f) = point_line (text "echo dealer ") u s C f
message_text u s (ready C f) = point_line (text "ready dealer ") u s C f
message_text u s (recovery p) = share_line s p

-- ---- the line of any bytes

-- bytes that refusal 2 does not refuse at this k
abbrev pub said_line : SetUp → List ℕ → List ℕ
said_line u s = message_text u s (message_in u s)

-- what they say at the k that was found
abbrev pub line_at : List ℕ → Option ℕ → List ℕ
line_at s None = text "no message\n"
line_at s (Some k) = said_line (of_width k) s

unfoldable pub read_line : List ℕ → List ℕ
read_line s = line_at s (width_in s)

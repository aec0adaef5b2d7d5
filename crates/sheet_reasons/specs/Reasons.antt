-- What is said of a sheet for which `printed` is "bad sheet": the number of the first line that is not of its form, and the
-- first reason that holds of it.
--
-- In order: the reasons of a line; the first bad line; the words.
-- Assumes nothing.
use Rattle.std.specs.Prelude.{Bool, not, List, [], ◌++◌, ℕ, ◌+◌, ◌*◌, ◌≤◌, eqb, leb, ltb, length, take, Option, Some, None}
use Rattle.std.proofs.Common.{arith}
use Rattle.folds.specs.Tests.{◌and◌, pick}
use Rattle.folds.specs.Below.{first_from, first_from_le}
use Rattle.rules.specs.Numbers.{group_keeps, sizes_keep}
use Rattle.rules.specs.Text.{text, word_at, digits_end, decimal_at, is_decimal, decimal}
use Rattle.rules.specs.Sheet.{sheet_set_up, first_line_keeps, rest_keeps}
use Rattle.sheet_reasons.specs.Lines.{first_word, line_end, line_start, in_line, spaces_in}
use Rattle.sheet_reasons.specs.declared.bad.Bad.{Bad}
use Rattle.sheet_reasons.specs.declared.bad.Bad.TheVariants.{TooLong, Line}
use Rattle.sheet_reasons.specs.declared.reasons.Reason.{Reason}
use Rattle.sheet_reasons.specs.declared.reasons.Reason.TheVariants.{Missing, CarriageReturn, NoNewline, TwoSpaces, SpaceAtEdge, NotSheet, OutOfOrder, NotSilent, TooFew, TooMany, NoDecimal, LineTooMany}

-- ---- the reasons of a line

-- of any line: it is not there; a carriage return, no newline, two spaces or a space at its start or end; else its own
unfoldable pub line_reason : List ℕ → ℕ → Reason → Reason
line_reason b i own =
    pick (leb (length b) i) Missing
    (pick (in_line b i (text "\r")) CarriageReturn
    (pick (leb (length b) (line_end b i)) NoNewline
    (pick (in_line b i (text "  ")) TwoSpaces
    (pick (word_at b i (text " ")) SpaceAtEdge
    (pick (in_line b i (text " \n")) SpaceAtEdge own)))))

-- of numbers that are so many and not all decimals, or not so many
unfoldable pub count_reason : ℕ → ℕ → Reason
count_reason want have = pick (ltb have want) TooFew (pick (ltb want have) TooMany NoDecimal)

-- of the first line: four numbers behind "sheet"
unfoldable pub first_reason : List ℕ → Reason
first_reason b =
    pick (word_at b 0 (text "sheet\n")) TooFew
    (pick (not (word_at b 0 (text "sheet "))) NotSheet
    (count_reason 4 (spaces_in b 0)))

-- of the line of box m: it starts with another number; one item that is no number and not "silent" stands behind its number; or
-- not two numbers
unfoldable pub other_box : List ℕ → ℕ → ℕ → Bool
other_box b i m = is_decimal b i and not (eqb (decimal_at b i) m)

abbrev pub item_place : List ℕ → ℕ → ℕ
item_place b i = first_word b i (text " ") + 1

unfoldable pub box_reason : List ℕ → ℕ → ℕ → Reason
box_reason b i m =
    pick (other_box b i m) OutOfOrder
    (pick (word_at b (item_place b i) (text "silent\n")) (count_reason 1 (spaces_in b i))
    (pick (not (eqb (spaces_in b i) 1)) (count_reason 2 (spaces_in b i))
    (pick (eqb (digits_end b (item_place b i)) (item_place b i)) NotSilent TooFew)))

-- a place in a text of the size of a sheet
pub record Placed (b : List ℕ) (i : ℕ) : Type 0 where
  pub size : length b ≤ 4096
  pub place : i ≤ length b

-- ---- the first bad line

-- the first m + 2 lines are a whole sheet of m boxes
abbrev pub front : List ℕ → ℕ → List ℕ
front b m = take (line_start b (m + 2)) b

unfoldable pub front_keeps : List ℕ → ℕ → ℕ → Bool
front_keeps b k m = first_line_keeps (front b m) and rest_keeps (front b m) m k

-- how many lines behind the first are of their form: the matrix and the boxes before the first that is not
unfoldable pub good_lines : List ℕ → ℕ → ℕ → ℕ
good_lines b n k = first_from (n + 1) 0 (λ m. not (front_keeps b k m))

pub good_lines_le : (b : List ℕ) (n k : ℕ) → good_lines b n k ≤ n + 1
unfolding good_lines
good_lines_le b n k = let z = first_from_le (λ m. not (front_keeps b k m)) (n + 1) 0 in omega arith

-- the own reason of the line behind m of them, which starts at i: of the matrix, of box m, or that it is one too many
unfoldable pub own_reason : List ℕ → ℕ → ℕ → ℕ → ℕ → Reason
own_reason b n k m i =
    pick (eqb m 0) (count_reason (k * k) (spaces_in b i + 1))
    (pick (leb m n) (box_reason b i m) LineTooMany)

unfoldable pub rest_bad : List ℕ → ℕ → ℕ → Option Bad
rest_bad b n k =
    let m = good_lines b n k in
    let i = line_start b (m + 1) in
    pick (rest_keeps b n k) None (Some (Line (m + 1) (line_reason b i (own_reason b n k m i))))

-- the tests are those of `printed`, in its order
unfoldable pub sheet_bad : List ℕ → Option Bad
sheet_bad b =
    pick (ltb 4096 (length b)) (Some TooLong)
    (pick (not (first_line_keeps b)) (Some (Line 0 (line_reason b 0 (first_reason b))))
    (pick (not (group_keeps (sheet_set_up b))) None
    (pick (not (sizes_keep (sheet_set_up b).n (sheet_set_up b).t (sheet_set_up b).k)) None
    (rest_bad b (sheet_set_up b).n (sheet_set_up b).k))))

-- ---- the words

abbrev pub reason_text : Reason → List ℕ
reason_text Missing = text "missing\n"
reason_text CarriageReturn = text "a carriage return\n"
reason_text NoNewline = text "no newline at its end\n"
reason_text TwoSpaces = text "two spaces\n"
reason_text SpaceAtEdge = text "a space at its start or end\n"
reason_text NotSheet = text "another word than sheet\n"
reason_text OutOfOrder = text "a box out of order\n"
reason_text NotSilent = text "another word than silent\n"
reason_text TooFew = text "too few numbers\n"
reason_text TooMany = text "too many numbers\n"
reason_text NoDecimal = text "not a decimal up to 65,535 without leading zeros\n"
reason_text LineTooMany = text "a line too many\n"

-- a line is named by its number, from 1 on
unfoldable pub line_text : ℕ → Reason → List ℕ
line_text before reason = text "sheet: line " ++ decimal (before + 1) ++ text ": " ++ reason_text reason

unfoldable pub bad_text : Option Bad → List ℕ
bad_text None = []
bad_text (Some TooLong) = text "sheet: over 4,096 bytes\n"
bad_text (Some (Line before reason)) = line_text before reason

-- the page has room for any of them
pub record Room (page : List ℕ) : Type 0 where
  pub bytes : 128 ≤ length page

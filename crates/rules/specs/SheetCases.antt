-- Document 01, "The recovery sheet": each text that is printed, the form of a sheet on its boundaries, and the order of the tests.
--
-- In order: sheets of the class of the hand sums; the verdicts and the last line; the form; the order of the tests.
-- Assumes nothing.
use Rattle.std.specs.Prelude.{◌≡◌, refl, List, ◌++◌, ℕ, replicate}
use Prim.Native.String.{String}
use Rattle.rules.specs.Text.{text, decimal}
use Rattle.rules.specs.Sheet.{printed, page}
use Rattle.rules.specs.Computed.{computed}

-- ---- sheets

abbrev PrintsSheet : String → String → Type 0
PrintsSheet sheet lines = printed (text sheet) ≡ text lines

-- the sheet of document 01 with these lines for its boxes, and with this matrix
abbrev PrintsBoxes : String → String → Type 0
PrintsBoxes lines out = printed (text "sheet 1 4 1 2\n4 13 8 12\n" ++ text lines) ≡ text out

abbrev PrintsMatrix : String → String → Type 0
PrintsMatrix line out = printed (text "sheet 1 4 1 2\n" ++ text line ++ text "\n1 7 8\n2 silent\n3 0 0\n4 2 1\n") ≡ text out

abbrev IsBadSheet : String → Type 0
IsBadSheet sheet = PrintsSheet sheet "bad sheet\n"

abbrev IsBadBoxes : String → Type 0
IsBadBoxes lines = PrintsBoxes lines "bad sheet\n"

-- a first line of group 3, and spaces up to so many bytes
abbrev long : ℕ → List ℕ
long spaces = text "sheet 3 4 1 2\n" ++ replicate spaces 32

-- ---- the verdicts and the last line

pub record SheetLines : Type 0 where
  -- "One line a box, then the pair and the k lowest verified boxes." Boxes 4, and then 1, say the pair of another secret that
  -- passes too (P8)
  pub k_lowest : (PrintsBoxes "1 7 8\n2 9 4\n3 0 0\n4 7 5\n" "1 verified\n2 verified\n3 verified\n4 verified\nsecret 5 1 from 1 2\n")
      × (PrintsBoxes "1 1 6\n2 9 4\n3 0 0\n4 2 7\n" "1 verified\n2 verified\n3 verified\n4 verified\nsecret 4 8 from 1 2\n")
      × (PrintsBoxes "1 silent\n2 silent\n3 0 0\n4 2 7\n" "1 silent\n2 silent\n3 verified\n4 verified\nsecret 5 1 from 3 4\n")
  -- "With v < k verified the last line is "no secret, v of k" with both numbers."
  pub none_of_2 : PrintsBoxes "1 silent\n2 silent\n3 silent\n4 silent\n" "1 silent\n2 silent\n3 silent\n4 silent\nno secret, 0 of 2\n"
  pub two_of_3 : PrintsSheet "sheet 1 5 1 3\n1 1 1 1 1 1 1 1 1\n1 0 0\n2 0 0\n3 silent\n4 silent\n5 1 0\n"
      "1 verified\n2 verified\n3 silent\n4 silent\n5 refused 10\nno secret, 2 of 3\n"
  -- "A box's number pair with a number ≥ q prints "refused 9" on its line.": q in either number, the largest decimal; q - 1 is none
  pub refused_9 : PrintsBoxes "1 11 8\n2 9 11\n3 10 10\n4 65535 65535\n" "1 refused 9\n2 refused 9\n3 refused 10\n4 refused 9\nno secret, 0 of 2\n"
  -- group 2: numbers of four digits, q and q - 1
  pub group_2 : PrintsSheet "sheet 2 4 1 2\n1798 58 236 1435\n1 1002 607\n2 1018 1018\n3 1019 0\n4 1008 369\n"
      "1 verified\n2 refused 10\n3 refused 9\n4 verified\nsecret 1000 7 from 1 4\n"
  -- decimals "without leading zeros"
  pub decimals : (decimal 0 ≡ text "0") × (decimal 10 ≡ text "10") × (decimal 909 ≡ text "909") × (decimal 65535 ≡ text "65535")
  -- box 10
  pub ten_boxes : PrintsSheet "sheet 1 10 1 2\n4 13 8 12\n1 silent\n2 silent\n3 silent\n4 silent\n5 silent\n6 silent\n7 silent\n8 silent\n9 1 9\n10 3 5\n"
      "1 silent\n2 silent\n3 silent\n4 silent\n5 silent\n6 silent\n7 silent\n8 silent\n9 verified\n10 verified\nsecret 5 1 from 9 10\n"
  -- the page: fewer than 512 lent bytes stay as they are; else what is printed, and behind it the lent bytes
  pub page_511 : page (text "sheet 3 4 1 2\n") (replicate 511 7) ≡ record { count = 0; bytes = replicate 511 7 }
  pub page_512 : page (text "sheet 3 4 1 2\n") (replicate 512 7) ≡ record { count = 11; bytes = text "refused 11\n" ++ replicate 501 7 }

pub sheet_lines_lem : SheetLines
unfolding computed
sheet_lines_lem =
    record {
      k_lowest = (refl, refl, refl);
      none_of_2 = refl;
      two_of_3 = refl;
      refused_9 = refl;
      group_2 = refl;
      decimals = (refl, refl, refl, refl);
      ten_boxes = refl;
      page_511 = refl;
      page_512 = refl;
    }

-- ---- the form

pub record SheetForm : Type 0 where
  -- "a first line of another form, "bad sheet"": the word, a number too few or too many, a space or a newline
  pub first_line : IsBadSheet ""
      × IsBadSheet "shee 1 4 1 2\n" × IsBadSheet "Sheet 1 4 1 2\n" × IsBadSheet "sheet1 4 1 2\n"
      × IsBadSheet "sheet 3 4 1\n" × IsBadSheet "sheet 3 4 1 2 2\n"
      × IsBadSheet "sheet 3 4 1 2" × IsBadSheet "sheet 3 4 1 2 " × IsBadSheet "sheet 3 4 1 2 \n" × IsBadSheet "sheet  3 4 1 2\n" × IsBadSheet "sheet 3 4  1 2\n" × IsBadSheet "sheet 3\n4 1 2\n"
  -- "decimals up to 65,535 without leading zeros"
  pub decimals : PrintsSheet "sheet 65535 4 1 2\n" "refused 11\n"
      × IsBadSheet "sheet 65536 4 1 2\n" × IsBadSheet "sheet 100000 4 1 2\n" × IsBadSheet "sheet 03 4 1 2\n" × IsBadSheet "sheet 00 4 1 2\n" × PrintsSheet "sheet 0 4 1 2\n" "refused 11\n"
      × IsBadSheet "sheet / 4 1 2\n" × IsBadSheet "sheet : 4 1 2\n" × IsBadSheet "sheet -1 4 1 2\n"
  -- "then the k² entries of C on one line"
  pub entries : PrintsMatrix "4 13 8" "bad sheet\n" × PrintsMatrix "4 13 8 12 1" "bad sheet\n" × PrintsMatrix "4 13\n8 12" "bad sheet\n" × PrintsMatrix "4 13  8 12" "bad sheet\n"
      × PrintsMatrix "04 13 8 12" "bad sheet\n" × PrintsMatrix "65536 13 8 12" "bad sheet\n" × PrintsMatrix "65535 13 8 12" "refused 8\n"
  -- "then for each box in order its number and either two numbers or "silent"": another number, a leading zero, two spaces, a
  -- number too few or too many, another word
  pub box_lines_lem : IsBadBoxes "1 7 8\n3 0 0\n2 silent\n4 2 1\n" × IsBadBoxes "0 7 8\n2 silent\n3 0 0\n4 2 1\n"
      × IsBadBoxes "01 7 8\n2 silent\n3 0 0\n4 2 1\n" × IsBadBoxes "1 07 8\n2 silent\n3 0 0\n4 2 1\n" × IsBadBoxes "1 7 8\n2 silent\n3 0 00\n4 2 1\n"
      × IsBadBoxes "1  7 8\n2 silent\n3 0 0\n4 2 1\n" × IsBadBoxes "1 7  8\n2 silent\n3 0 0\n4 2 1\n" × IsBadBoxes "1 7 8\n2  silent\n3 0 0\n4 2 1\n"
      × IsBadBoxes "1 7\n2 silent\n3 0 0\n4 2 1\n" × IsBadBoxes "1 7 8 9\n2 silent\n3 0 0\n4 2 1\n" × IsBadBoxes "1 7 8\n2\n3 0 0\n4 2 1\n"
      × IsBadBoxes "1 7 8\n2 Silent\n3 0 0\n4 2 1\n" × IsBadBoxes "1 7 8\n2 silent \n3 0 0\n4 2 1\n" × IsBadBoxes "1 65536 8\n2 silent\n3 0 0\n4 2 1\n"
  -- "a line too many", a line too few, no last newline
  pub lines : IsBadBoxes "1 7 8\n2 silent\n3 0 0\n4 2 1\n5 2 1\n" × IsBadBoxes "1 7 8\n2 silent\n3 0 0\n4 2 1\n\n" × IsBadBoxes "1 7 8\n2 silent\n3 0 0\n"
      × IsBadBoxes "1 7 8\n2 silent\n3 0 0\n4 2 1" × IsBadBoxes "1 7 8\n2 silent\n3 0 0\n4 silent"

pub sheet_form : SheetForm
unfolding computed
sheet_form =
    record {
      first_line = (refl, refl, refl, refl, refl, refl, refl, refl, refl, refl, refl, refl);
      decimals = (refl, refl, refl, refl, refl, refl, refl, refl, refl);
      entries = (refl, refl, refl, refl, refl, refl, refl);
      box_lines_lem = (refl, refl, refl, refl, refl, refl, refl, refl, refl, refl, refl, refl, refl, refl);
      lines = (refl, refl, refl, refl, refl);
    }

-- ---- the order of the tests: "Tests in order, each printing only its line"

pub record SheetOrder : Type 0 where
  -- "input over 4,096 bytes .., "bad sheet"; group, "refused 11""
  pub bytes_4096 : printed (long 4082) ≡ text "refused 11\n"
  pub bytes_4097 : printed (long 4083) ≡ text "bad sheet\n"
  -- the first line before the group, the group before n, t, k
  pub group_second : IsBadSheet "sheet 3 4 1 2 x\n" × PrintsSheet "sheet 3 11 1 2\n" "refused 11\n"
  -- "n, t, k, "refused 12"", before the rest: n 11, t 0, k = t, n - 2t < k; n 10 and k 8 are taken
  pub sizes_third : PrintsSheet "sheet 1 11 1 2\nx\n" "refused 12\n" × PrintsSheet "sheet 1 4 0 2\n" "refused 12\n" × PrintsSheet "sheet 1 7 2 2\n" "refused 12\n"
      × PrintsSheet "sheet 2 4 1 3\n" "refused 12\n" × IsBadSheet "sheet 1 10 1 8\n"
  -- "the rest of another form .., "bad sheet"", before "matrix, "refused 8""; and this before any line of a box
  pub rest_fourth : IsBadSheet "sheet 1 4 1 2\n0 13 8 12\n1 7 8\n2 silent\n3 0 0\n5 2 1\n"
  pub matrix_fifth : PrintsSheet "sheet 1 4 1 2\n0 13 8 12\n1 11 8\n2 silent\n3 0 0\n4 2 1\n" "refused 8\n"
      × PrintsMatrix "4 13 8 23" "refused 8\n" × PrintsMatrix "4 22 8 12" "refused 8\n" × PrintsMatrix "4 13 24 12" "refused 8\n"

pub sheet_order : SheetOrder
unfolding computed
sheet_order =
    record {
      bytes_4096 = refl;
      bytes_4097 = refl;
      group_second = (refl, refl);
      sizes_third = (refl, refl, refl, refl, refl);
      rest_fourth = refl;
      matrix_fifth = (refl, refl, refl, refl);
    }

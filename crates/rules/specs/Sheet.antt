-- Document 01, "The recovery sheet": what the program prints for each input.
--
-- In order: the parts of a sheet; its form; the verdict on each box; the lines; what is printed, and the promise of the call,
-- which determines it.
-- Assumes nothing.
use Rattle.std.specs.Prelude.{◌≡◌, Bool, true, false, not, List, ◌++◌, map, ℕ, zero, suc, ◌+◌, ◌*◌, eqb, leb, ltb, length, get_or, replicate, take}
use Rattle.std.proofs.Common.{sym, ap, ◌∙◌}
use Rattle.folds.specs.Tests.{◌and◌, ◌or◌, pick}
use Rattle.folds.specs.Below.{all_below}
use Rattle.folds.specs.Stores.{stores}
use Rattle.folds.specs.Runs.{gather}
use Rattle.rules.specs.declared.Element.{Element}
use Rattle.rules.specs.declared.Group.{Group}
use Rattle.std.specs.Prelude.{Option, Some, None}
use Rattle.rules.specs.declared.Pair.{Pair}
use Rattle.rules.specs.declared.SetUp.{SetUp}
use Rattle.rules.specs.declared.Verdict.{Verdict}
use Rattle.rules.specs.declared.Verdict.TheVariants.{Silent, Verified, Refused}
use Rattle.rules.specs.declared.Refusal.TheVariants.{ExponentHigh, CheckFails}
use Rattle.rules.specs.Refusals.{refusal_number}
use Rattle.rules.specs.Numbers.{exponent, element, group_of, group_keeps, sizes_keep}
use Rattle.rules.specs.Matrices.{matrix}
use Rattle.rules.specs.Messages.{written}
use Rattle.rules.specs.Dealing.{matrix_passes, pair_below, share_check}
use Rattle.rules.specs.Record.{nothing, share_at}
use Rattle.rules.specs.Steps.{Said, share_points, recovered_from}
use Rattle.rules.specs.Text.{text, space, byte_at, word_at, digits_end, decimal_at, is_decimal, number_place, number_at, numbers_at, decimal}

-- ---- the parts of a sheet

-- ""sheet", group, n, t, k": the numbers stand from place 6 on. A sheet names no box's own number, dealer or session.
unfoldable pub sheet_set_up : List ℕ → SetUp
sheet_set_up b =
    record { group = number_at b 6 0; n = number_at b 6 1; t = number_at b 6 2; k = number_at b 6 3; i = 0; d = 0; session = 0 }

-- "then the k² entries of C on one line, row by row"
abbrev pub matrix_place : List ℕ → ℕ
matrix_place b = number_place b 6 4

unfoldable pub sheet_matrix : List ℕ → ℕ → ℕ → List (List Element)
sheet_matrix b i k = matrix k (element 0) (λ j l. element (number_at b i (j * k + l)))

abbrev pub boxes_place : List ℕ → ℕ → ℕ
boxes_place b k = number_place b (matrix_place b) (k * k)

-- "then for each box in order its number and either two numbers or "silent"": what stands behind the number of a line from i on
abbrev pub says_place : List ℕ → ℕ → ℕ
says_place b i = digits_end b i + 1

abbrev pub is_silent : List ℕ → ℕ → Bool
is_silent b i = word_at b (says_place b i) (text "silent\n")

-- where the next line starts
unfoldable pub next_line : List ℕ → ℕ → ℕ
next_line b i = pick (is_silent b i) (says_place b i + 7) (number_place b (says_place b i) 2)

-- where the line of box m + 1 starts
unfoldable pub line_place : List ℕ → ℕ → ℕ → ℕ
line_place b i zero = i
line_place b i (suc m) = next_line b (line_place b i m)

-- what the box of the line from i on says: its pair, or nothing
unfoldable pub said_at : List ℕ → ℕ → Option Pair
said_at b i =
    pick (is_silent b i) None
    (Some (record { first = exponent (number_at b (says_place b i) 0); second = exponent (number_at b (says_place b i) 1) }))

-- what boxes 1 to n say
unfoldable pub sheet_shares : List ℕ → ℕ → ℕ → List (Option Pair)
sheet_shares b i n = stores n (λ m. said_at b (line_place b i m)) (replicate 10 nothing)

-- ---- its form

-- "at most 4,096 bytes", and the first line
unfoldable pub first_line_keeps : List ℕ → Bool
first_line_keeps b = leb (length b) 4096 and word_at b 0 (text "sheet ") and numbers_at b 6 4

-- the line of box m + 1
unfoldable pub box_line_keeps : List ℕ → ℕ → ℕ → Bool
box_line_keeps b i m =
    is_decimal b i
    and eqb (decimal_at b i) (m + 1)
    and byte_at b (digits_end b i) space
    and (is_silent b i or numbers_at b (says_place b i) 2)

-- the matrix, a line for each box, and no "line too many"
unfoldable pub rest_keeps : List ℕ → ℕ → ℕ → Bool
rest_keeps b n k =
    numbers_at b (matrix_place b) (k * k)
    and all_below n (λ m. box_line_keeps b (line_place b (boxes_place b k) m) m)
    and eqb (line_place b (boxes_place b k) n) (length b)

-- ---- the verdict on each box

-- the share check for box m: "A box's number pair with a number ≥ q prints "refused 9" on its line."
abbrev pub verdict : Group → ℕ → List (List Element) → ℕ → Option Pair → Verdict
verdict G k C m None = Silent
verdict G k C m (Some s) = pick (not (pair_below G.q s)) (Refused ExponentHigh) (pick (not (share_check G k C m s)) (Refused CheckFails) Verified)

abbrev pub is_verified : Verdict → Bool
is_verified Silent = false
is_verified Verified = true
is_verified (Refused x) = false

-- what boxes 1 to n say, of those that are verified
unfoldable pub verified_shares : Group → ℕ → List (List Element) → ℕ → List (Option Pair) → List (Option Pair)
verified_shares G k C n shares =
    stores n
    (λ m. (pick (is_verified (verdict G k C (m + 1) (share_at shares m))) (share_at shares m) None))
    (replicate 10 nothing)

-- ---- the lines

abbrev pub verdict_text : Verdict → List ℕ
verdict_text Silent = text "silent\n"
verdict_text Verified = text "verified\n"
verdict_text (Refused x) = text "refused " ++ decimal (refusal_number x) ++ text "\n"

-- "One line a box"
unfoldable pub box_lines : Group → ℕ → List (List Element) → ℕ → List (Option Pair) → List ℕ
box_lines G k C n shares = gather n (λ m. decimal (m + 1) ++ text " " ++ verdict_text (verdict G k C (m + 1) (share_at shares m)))

-- "then the pair and the k lowest verified boxes"
unfoldable pub secret_line : Pair → List (Said Pair) → List ℕ
secret_line s ps =
    text "secret "
    ++ decimal s.first.0
    ++ text " "
    ++ decimal s.second.0
    ++ text " from"
    ++ gather (length ps) (λ j. text " " ++ decimal (get_or (map (λ p. p.box) ps) j 0))
    ++ text "\n"

-- "With v < k verified the last line is "no secret, v of k" with both numbers."
unfoldable pub no_secret_line : ℕ → ℕ → List ℕ
no_secret_line v k = text "no secret, " ++ decimal v ++ text " of " ++ decimal k ++ text "\n"

-- from the verified shares, lowest box first
unfoldable pub last_line : ℕ → ℕ → List (Said Pair) → List ℕ
last_line q k ps = pick (ltb (length ps) k) (no_secret_line (length ps) k) (secret_line (recovered_from q (take k ps)) (take k ps))

-- ---- what is printed

-- the lines of a sheet that passes every test
unfoldable pub sheet_lines : Group → ℕ → List (List Element) → ℕ → List (Option Pair) → List ℕ
sheet_lines G k C n shares = box_lines G k C n shares ++ last_line G.q k (share_points (verified_shares G k C n shares))

-- the sheet of a group and sizes that keep their rules
unfoldable pub body_printed : List ℕ → SetUp → List ℕ
body_printed b u =
    pick (not (rest_keeps b u.n u.k)) (text "bad sheet\n")
    (pick (not (matrix_passes (group_of u.group) u.k (sheet_matrix b (matrix_place b) u.k))) (text "refused 8\n")
    (sheet_lines (group_of u.group) u.k (sheet_matrix b (matrix_place b) u.k) u.n (sheet_shares b (boxes_place b u.k) u.n)))

-- "Tests in order, each printing only its line: input over 4,096 bytes or a first line of another form, "bad sheet"; group,
-- "refused 11"; n, t, k, "refused 12"; the rest of another form .., "bad sheet"; matrix, "refused 8"."
unfoldable pub printed : List ℕ → List ℕ
printed b =
    pick (not (first_line_keeps b)) (text "bad sheet\n")
    (pick (not (group_keeps (sheet_set_up b))) (text "refused 11\n")
    (pick (not (sizes_keep (sheet_set_up b).n (sheet_set_up b).t (sheet_set_up b).k)) (text "refused 12\n")
    (body_printed b (sheet_set_up b))))

-- how many bytes are printed, and the lent page at exit; a page of fewer than 512 bytes stays as it is
pub record Page : Type 0 where
  pub count : ℕ
  pub bytes : List ℕ

unfoldable pub page : List ℕ → List ℕ → Page
page b lent =
    pick (ltb (length lent) 512)
    (record { count = 0; bytes = lent })
    (record { count = length (printed b); bytes = written (printed b) lent })

-- the promise of the sheet
abbrev pub Prints : List ℕ → List ℕ → ℕ → List ℕ → Type 0
Prints b lent count lent' = record { count = count; bytes = lent' } ≡ page b lent

-- two outcomes that the promise allows are equal
pub prints_unique : (b lent : List ℕ) (n n' : ℕ) (lent' lent'' : List ℕ) → Prints b lent n lent' → Prints b lent n' lent'' → (n ≡ n') × (lent' ≡ lent'')
prints_unique b lent n n' lent' lent'' p q = (ap (λ (x : Page). x.count) (p ∙ sym q), ap (λ (x : Page). x.bytes) (p ∙ sym q))

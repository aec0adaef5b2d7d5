-- Something is said of a sheet exactly where a test fails for which "bad sheet" is printed.
--
-- In order: no reason of a line is without words; what is said of a bad sheet; that nothing is said of any other.
-- Assumes nothing.
use Rattle.std.specs.Prelude.{Bool, not, ◌≡◌, ℕ, ◌+◌, ◌*◌, ◌<◌, eqb, leb, ltb, length, Option, Some, None}
use Rattle.std.proofs.Math.Bool.{true, false}
use mathlib.Core.List.{List, [], ◌++◌}
use Rattle.std.proofs.Math.Path.{refl}
use Rattle.std.proofs.Common.{arith, length-append}
use borrow.Author.Tests.{leb-true, le-ltb}
use Rattle.folds.specs.Tests.{◌and◌, pick, pick-either, and_left, true≢false}
use Rattle.rules.specs.Numbers.{group_keeps, sizes_keep}
use Rattle.rules.specs.Text.{text, word_at, digits_end, decimal}
use Rattle.rules.specs.Sheet.{sheet_set_up, first_line_keeps, rest_keeps, body_printed, printed}
use Rattle.sheet_reasons.specs.Lines.{line_end, line_start, in_line, spaces_in}
use Rattle.sheet_reasons.specs.Reasons.{line_reason, count_reason, first_reason, other_box, item_place, box_reason, good_lines, own_reason, rest_bad, sheet_bad, reason_text, line_text, bad_text}
use Rattle.sheet_reasons.specs.declared.bad.Bad.{Bad}
use Rattle.sheet_reasons.specs.declared.bad.Bad.TheVariants.{TooLong, Line}
use Rattle.sheet_reasons.specs.declared.reasons.Reason.{Reason}

-- ---- no reason of a line is without words

record Worded (r : Reason) : Type 0 where
  some : 0 < length (reason_text r)

worded : {r : Reason} → 0 < length (reason_text r) → Worded r
worded h = record { some = h }

either : (t : Bool) {x y : Reason} → Worded x → Worded y → Worded (pick t x y)
either true h g = h
either false h g = g

count_worded : (want have : ℕ) → Worded (count_reason want have)
unfolding count_reason text
count_worded want have = either (ltb have want) (worded (omega arith)) (either (ltb want have) (worded (omega arith)) (worded (omega arith)))

line_worded : (b : List ℕ) (i : ℕ) (own : Reason) → Worded own → Worded (line_reason b i own)
unfolding line_reason text
line_worded b i own h =
    either (leb (length b) i) (worded (omega arith))
    (either (in_line b i (text "\r")) (worded (omega arith))
    (either (leb (length b) (line_end b i)) (worded (omega arith))
    (either (in_line b i (text "  ")) (worded (omega arith))
    (either (word_at b i (text " ")) (worded (omega arith))
    (either (in_line b i (text " \n")) (worded (omega arith)) h)))))

first_worded : (b : List ℕ) → Worded (first_reason b)
unfolding first_reason text
first_worded b =
    either (word_at b 0 (text "sheet\n")) (worded (omega arith))
    (either (not (word_at b 0 (text "sheet "))) (worded (omega arith)) (count_worded 4 (spaces_in b 0)))

box_worded : (b : List ℕ) (i m : ℕ) → Worded (box_reason b i m)
unfolding box_reason text
box_worded b i m =
    either (other_box b i m) (worded (omega arith))
    (either (word_at b (item_place b i) (text "silent\n")) (count_worded 1 (spaces_in b i))
    (either (not (eqb (spaces_in b i) 1)) (count_worded 2 (spaces_in b i))
    (either (eqb (digits_end b (item_place b i)) (item_place b i)) (worded (omega arith)) (worded (omega arith)))))

own_worded : (b : List ℕ) (n k m i : ℕ) → Worded (own_reason b n k m i)
unfolding own_reason text
own_worded b n k m i =
    either (eqb m 0) (count_worded (k * k) (spaces_in b i + 1)) (either (leb m n) (box_worded b i m) (worded (omega arith)))

-- ---- what is said of a bad sheet

abbrev Says : Option Bad → Type 0
Says x = 0 < length (bad_text x)

says_long : Says (Some TooLong)
unfolding bad_text text
says_long = omega arith

says_words : (before : ℕ) (r : Reason) → Worded r → Says (Some (Line before r))
unfolding bad_text line_text
says_words before r h =
    let said = text "sheet: line " ++ decimal (before + 1) ++ text ": " in
    let some = h.some in
    omega (arith, length-append said (reason_text r))

module _ (b : List ℕ) where
  -- the first line is of another form, or there are too many bytes
  pub first_line_said : first_line_keeps b ≡ false → (printed b ≡ text "bad sheet\n") × (0 < length (bad_text (sheet_bad b)))
  unfolding printed sheet_bad text
  first_line_said e = (
    (rw e),
    (pick-either Says (ltb 4096 (length b)) (Some TooLong) _ (λ t. says_long) (λ t. rw e (says_words 0 _ (line_worded b 0 (first_reason b) (first_worded b))))),
  )

  module _ (first : first_line_keeps b ≡ true) where
    small : ltb 4096 (length b) ≡ false
    unfolding first_line_keeps
    small = le-ltb 4096 (length b) (leb-true (length b) 4096 (and_left (leb (length b) 4096) _ first))

    -- the rest is
    pub rest_said : group_keeps (sheet_set_up b) ≡ true → sizes_keep (sheet_set_up b).n (sheet_set_up b).t (sheet_set_up b).k ≡ true
        → rest_keeps b (sheet_set_up b).n (sheet_set_up b).k ≡ false → (printed b ≡ text "bad sheet\n") × (0 < length (bad_text (sheet_bad b)))
    unfolding printed body_printed sheet_bad rest_bad
    rest_said g s e =
        let n = (sheet_set_up b).n in
        let k = (sheet_set_up b).k in
        let m = good_lines b n k in
        let i = line_start b (m + 1) in (
          (rw (first, g, s, e)),
          (rw (small, first, g, s, e) (says_words (m + 1) _ (line_worded b i (own_reason b n k m i) (own_worded b n k m i)))),
        )

    -- ---- nothing is said of any other

    pub refused_unsaid : group_keeps (sheet_set_up b) and sizes_keep (sheet_set_up b).n (sheet_set_up b).t (sheet_set_up b).k ≡ false → bad_text (sheet_bad b) ≡ []
    unfolding sheet_bad bad_text
    refused_unsaid e = rw (small, first) (go (group_keeps (sheet_set_up b)) (sizes_keep (sheet_set_up b).n (sheet_set_up b).t (sheet_set_up b).k) e)
      where
        go : (g s : Bool) → g and s ≡ false
            → bad_text (pick (not g) None (pick (not s) None (rest_bad b (sheet_set_up b).n (sheet_set_up b).k))) ≡ []
        go false s e = refl
        go true false e = refl
        go true true e = absurd (true≢false e)

    pub whole_unsaid : group_keeps (sheet_set_up b) ≡ true → sizes_keep (sheet_set_up b).n (sheet_set_up b).t (sheet_set_up b).k ≡ true
        → rest_keeps b (sheet_set_up b).n (sheet_set_up b).k ≡ true → bad_text (sheet_bad b) ≡ []
    unfolding sheet_bad rest_bad bad_text
    whole_unsaid g s e = rw (small, first, g, s, e)

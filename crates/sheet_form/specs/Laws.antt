-- Laws that the proofs of the readers share: the tests of a sheet, once they pass; where its lines stand.
-- Assumes nothing.
use Rattle.std.specs.Prelude.{Bool, true, false, List, ◌≡◌, ℕ, ◌+◌, ◌*◌, ◌<◌, ◌≤◌, eqb, leb, length, get_or, Option, Some, None, Ok, Err}
use Rattle.std.proofs.Math.Path.{refl}
use Rattle.std.proofs.Common.{sym, ap, ◌∙◌, add-one, arith, eq-eqb, ne_eqb}
use Rattle.folds.specs.Tests.{◌and◌, ◌or◌, pick, and_left, and_right, true≢false}
use Rattle.folds.specs.Below.{all_below, all_below_at}
use Rattle.rules.specs.Text.{text, space, byte_at, word_at, digits_end, decimal_at, is_decimal, number_at, number_place, numbers_at}
use Rattle.rules.specs.Sheet.{said_at, matrix_place, boxes_place, says_place, is_silent, next_line, line_place, first_line_keeps, box_line_keeps, rest_keeps}
use Rattle.text.specs.declared.read.Decimal.{Decimal}
use Rattle.text.specs.Decimals.{decimal_in, byte_within, some_decimal, none_decimal}
use Rattle.rules.specs.Numbers.{exponent}
use Rattle.sheet_form.specs.declared.Line.{Line}
use Rattle.sheet_form.specs.Reading.{Entries, Whole, line_of, line_in}

-- ---- the tests of a sheet, once they pass

pub first_numbers : (b : List ℕ) → first_line_keeps b ≡ true → numbers_at b 6 4 ≡ true
unfolding first_line_keeps
first_numbers b h = and_right (word_at b 0 (text "sheet ")) _ (and_right (leb (length b) 4096) _ h)

-- the line of a box: a byte stands behind its number, and two numbers behind that if it is not silent
pub record BoxLine (b : List ℕ) (i : ℕ) : Type 0 where
  pub within : digits_end b i < length b
  pub pair : is_silent b i ≡ false → numbers_at b (says_place b i) 2 ≡ true

pub box_line_lem : (b : List ℕ) (i m : ℕ) → box_line_keeps b i m ≡ true → BoxLine b i
unfolding box_line_keeps
box_line_lem b i m h =
    let says = is_silent b i or numbers_at b (says_place b i) 2 in
    let h₁ = and_right (is_decimal b i) (eqb (decimal_at b i) (m + 1) and byte_at b (digits_end b i) space and says) h in
    let h₂ = and_right (eqb (decimal_at b i) (m + 1)) (byte_at b (digits_end b i) space and says) h₁ in
    record {
      within = byte_within b (digits_end b i) space (and_left (byte_at b (digits_end b i) space) says h₂);
      pair = other (is_silent b i) (numbers_at b (says_place b i) 2) (and_right (byte_at b (digits_end b i) space) says h₂);
    }
  where
    other : (x y : Bool) → x or y ≡ true → x ≡ false → y ≡ true
    other true y e f = absurd (true≢false f)
    other false y e f = e

-- "silent" and its newline stand within the text
pub silent_within : (b : List ℕ) (i : ℕ) → is_silent b i ≡ true → says_place b i + 7 ≤ length b
unfolding word_at text
silent_within b i h =
    let w = text "silent\n" in
    let last = all_below_at (λ j. byte_at b (says_place b i + j) (get_or w j 0)) 7 6 h (omega arith) in
    omega (arith, byte_within b (says_place b i + 6) 10 last)

-- what is read behind digits that have been found
pub silent_read : (b : List ℕ) (i : ℕ) {end : ℕ} {r : Bool} → end ≡ digits_end b i → r ≡ word_at b (end + 1) (text "silent\n") → r ≡ is_silent b i
silent_read b i e h = h ∙ ap (λ n. word_at b (n + 1) (text "silent\n")) e

some_none : {l : Line} → ◌≡◌ {A = Option Line} (Some l) None → ⊥
some_none e = cc

-- the line of box m + 1: a number is read there or none is, and what is made of it
module _ (b : List ℕ) (i m : ℕ) where
  line_none : box_line_keeps b i m ≡ false → None ≡ line_in b i m
  unfolding line_in
  line_none h = rw h

  pub no_number : {end : ℕ} → decimal_in b i ≡ Err end → None ≡ line_in b i m
  unfolding box_line_keeps
  no_number h = line_none (rw (none_decimal b i (sym h)).stands)

  module _ {d : Decimal} (read : decimal_in b i ≡ Ok d) where
    line_read : box_line_keeps b i m
        ≡ (eqb d.number (m + 1) and byte_at b d.end space and (word_at b (d.end + 1) (text "silent\n") or numbers_at b (d.end + 1) 2))
    unfolding box_line_keeps
    line_read = let r = some_decimal b i (sym read) in rw (r.stands, ← r.number, ← r.end)

    pub other_number : (d.number ≡ m + 1 → ⊥) → None ≡ line_in b i m
    other_number n = line_none (rw (line_read, ne_eqb d.number (m + 1) n))

    module _ (n : d.number ≡ m + 1) where
      pub no_space : byte_at b d.end space ≡ false → None ≡ line_in b i m
      no_space e = line_none (rw (line_read, eq-eqb d.number (m + 1) n, e))

      module _ (e : byte_at b d.end space ≡ true) where
        pub then_says : box_line_keeps b i m ≡ (word_at b (d.end + 1) (text "silent\n") or numbers_at b (d.end + 1) 2)
        then_says = rw (line_read, eq-eqb d.number (m + 1) n, e)

        pub silent_line : word_at b (d.end + 1) (text "silent\n") ≡ true → Some (record { said = None; next = d.end + 1 + 7 }) ≡ line_in b i m
        unfolding line_in said_at next_line
        silent_line h = let r = some_decimal b i (sym read) in rw (then_says, ← r.end, h)

        module _ (h : word_at b (d.end + 1) (text "silent\n") ≡ false) where
          pub no_pair : numbers_at b (d.end + 1) 2 ≡ false → None ≡ line_in b i m
          no_pair g = line_none (rw (then_says, h, g))

          pub pair_line : numbers_at b (d.end + 1) 2 ≡ true
              → Some (record {
                said = Some (record { first = exponent (number_at b (d.end + 1) 0); second = exponent (number_at b (d.end + 1) 1) });
                next = number_place b (d.end + 1) 2;
              }) ≡ line_in b i m
          unfolding line_in said_at next_line
          pair_line g = let r = some_decimal b i (sym read) in rw (then_says, ← r.end, h, g)

-- a line that was read, or was not
module _ (b : List ℕ) (i m : ℕ) where
  pub record ReadLine (l : Line) : Type 0 where
    pub keeps : box_line_keeps b i m ≡ true
    pub said : l.said ≡ said_at b i
    pub next : l.next ≡ next_line b i

  pub some_line : {l : Line} → Some l ≡ line_in b i m → ReadLine l
  unfolding line_in
  some_line {l} = go (box_line_keeps b i m) refl
    where
      go : (t : Bool) → box_line_keeps b i m ≡ t → Some l ≡ pick t (Some (line_of b i)) None → ReadLine l
      go true h e = record { keeps = h; said = cc; next = cc }
      go false h e = absurd (some_none e)

  pub none_line : None ≡ line_in b i m → box_line_keeps b i m ≡ false
  unfolding line_in
  none_line = go (box_line_keeps b i m)
    where
      go : (t : Bool) → None ≡ pick t (Some (line_of b i)) None → t ≡ false
      go true e = absurd (some_none (sym e))
      go false e = refl

  pub line_there : box_line_keeps b i m ≡ true → line_in b i m ≡ Some (line_of b i)
  unfolding line_in
  line_there h = rw h

-- the parts of a whole sheet: its entries, and the line of each box
abbrev pub line_keeps : List ℕ → ℕ → ℕ → Bool
line_keeps b k m = box_line_keeps b (line_place b (boxes_place b k) m) m

abbrev lines_keep : List ℕ → ℕ → ℕ → Bool
lines_keep b n k = all_below n (line_keeps b k) and eqb (line_place b (boxes_place b k) n) (length b)

module _ (b : List ℕ) (n k : ℕ) (h : Whole b n k) where
  pub whole_entries : Entries b k
  unfolding rest_keeps
  whole_entries =
      record {
        first = h.line.keeps;
        high = h.line.high;
        stand = and_left (numbers_at b (matrix_place b) (k * k)) (lines_keep b n k) h.rest;
      }

  pub whole_line : (m : ℕ) → m < n → line_keeps b k m ≡ true
  unfolding rest_keeps
  whole_line m lt =
      all_below_at (line_keeps b k) n m
      (and_left (all_below n (line_keeps b k)) (eqb (line_place b (boxes_place b k) n) (length b)) (and_right (numbers_at b (matrix_place b) (k * k)) (lines_keep b n k) h.rest)) lt

-- ---- where its lines stand

module _ (b : List ℕ) (i : ℕ) where
  pub line_place-zero : line_place b i 0 ≡ i
  unfolding line_place
  line_place-zero = refl

  pub line_place_more : (m : ℕ) → line_place b i (m + 1) ≡ next_line b (line_place b i m)
  unfolding line_place
  line_place_more m = rw (add-one m)

-- What the lines are made of.
--
-- In order: numbers; a word and a number; the boxes of a list; a pair; laws of the writers.
-- Assumes nothing.
use Rattle.std.specs.Prelude.{Bool, true, false, List, [], ◌∷◌, ◌++◌, ◌≡◌, refl, ℕ, ◌+◌, ◌-◌, ◌*◌, ◌/◌, ◌^◌, ◌<◌, ◌≤◌, eqb, leb, ltb, length, Option, Some, None}
use Prim.Native.Nat.{min}
use Rattle.std.proofs.Common.{ap, ◌∙◌, arith, append-nil, length-append, div-one, eq-eqb, ne_eqb, lt-ltb, le-ltb, ltb-true, ltb-false, leb-true, leb-false}
use Rattle.std.proofs.Math.Nat.{min-eq_left, min-eq_right, div-div-eq-div-mul}
use Rattle.std.proofs.lemmas.List.{nil_from_length}
use Rattle.arrayvec.specs.ArrayVec.{ArrayVec, array_vec_len}
use Rattle.folds.specs.Tests.{pick, pick-either, iff_same}
use Rattle.folds.specs.Runs.{gather}
use Rattle.rules.specs.declared.Marks.{Marks}
use Rattle.rules.specs.declared.Pair.{Pair}
use Rattle.rules.specs.Record.{marked}
use Rattle.rules.specs.Text.{text, digit_of, decimal}
use Rattle.text.specs.Pages.{Adds, adds_none, digits}

-- ---- numbers

-- the lowest five digits, zeros too
unfoldable pub five_digits : ℕ → List ℕ
five_digits x = gather 4 (λ j. digit_of x (10 ^ (4 - j)) ∷ []) ++ (digit_of x 1 ∷ [])

-- x of up to ten digits: a set-up number of any record, sound or not
unfoldable pub wide : ℕ → List ℕ
wide x = pick (ltb x 100000) (decimal x) (decimal (x / 100000) ++ five_digits x)

-- the record's arrays have room for 8 rows and columns and for 10 boxes: how many of them k or n has in use, in any record
abbrev pub least : ℕ → ℕ → ℕ
least x most = pick (leb x most) x most

-- ---- a word and a number

abbrev pub numbered : List ℕ → ℕ → List ℕ
numbered word x = word ++ decimal x

abbrev pub widely : List ℕ → ℕ → List ℕ
widely word x = word ++ wide x

-- ---- the boxes of a list, rising

unfoldable pub box_in : Marks → ℕ → List ℕ
box_in marks m = pick (marked marks m) (numbered (text " ") (m + 1)) []

unfoldable pub or_none : List ℕ → List ℕ
or_none boxes = pick (eqb (length boxes) 0) (text " none") boxes

unfoldable pub boxes_text : Marks → List ℕ
boxes_text marks = or_none (gather 10 (box_in marks))

-- ---- a pair

-- that of a word, and its newline; or the line that there is none
abbrev pub kept_text : List ℕ → List ℕ → Option Pair → List ℕ
kept_text word none None = none
kept_text word none (Some s) = numbered word s.first.0 ++ numbered (text " ") s.second.0 ++ text "\n"

-- ---- laws of the writers

-- the digits of a number of ten at most
five_behind : (l : List ℕ) (a b c d e : ℕ) → l ++ a ∷ [] ++ b ∷ [] ++ c ∷ [] ++ d ∷ [] ++ e ∷ [] ≡ l ++ (a ∷ b ∷ c ∷ d ∷ e ∷ [])
five_behind [] a b c d e = refl
five_behind (x ∷ l) a b c d e = ap (λ (t : List ℕ). x ∷ t) (five_behind l a b c d e)

module _ (x : ℕ) where
  -- one below 100,000 has none for the five highest powers of ten
  few : x < 100000 → digits 9 x ≡ decimal x
  unfolding digits decimal gather
  few l =
      rw (
        lt-ltb x 1000000000 (omega arith),
        lt-ltb x 100000000 (omega arith),
        lt-ltb x 10000000 (omega arith),
        lt-ltb x 1000000 (omega arith),
        lt-ltb x 100000 l,
      ) refl

  same_test : (p : ℕ) → ltb (x / 100000) p ≡ ltb x (100000 * p)
  same_test p =
      iff_same (ltb (x / 100000) p) (ltb x (100000 * p))
      (λ g. let i = ltb-true (x / 100000) p g in lt-ltb x (100000 * p) (omega arith))
      (λ g. let i = ltb-true x (100000 * p) g in lt-ltb (x / 100000) p (omega arith))

  -- another has those of x / 100000 there, and one for each of the others
  many : 100000 ≤ x → digits 9 x ≡ decimal (x / 100000) ++ five_digits x
  unfolding digits decimal five_digits gather
  many l =
      rw (
        le-ltb x 100000 l,
        le-ltb x 10000 (omega arith),
        le-ltb x 1000 (omega arith),
        le-ltb x 100 (omega arith),
        le-ltb x 10 (omega arith),
        same_test 10000,
        same_test 1000,
        same_test 100,
        same_test 10,
        div-div-eq-div-mul x 100000 10000,
        div-div-eq-div-mul x 100000 1000,
        div-div-eq-div-mul x 100000 100,
        div-div-eq-div-mul x 100000 10,
        div-one (x / 100000),
      ) (five_behind _ (digit_of x 10000) (digit_of x 1000) (digit_of x 100) (digit_of x 10) (digit_of x 1))

  pub digits_wide : digits 9 x ≡ wide x
  unfolding wide
  digits_wide =
      pick-either (λ (r : List ℕ). digits 9 x ≡ r) (ltb x 100000) (decimal x) (decimal (x / 100000) ++ five_digits x)
      (λ e. few (ltb-true x 100000 e))
      (λ e. many (ltb-false x 100000 e))

-- the lesser of two
pub min_least : (x most : ℕ) → min x most ≡ least x most
min_least x most =
    pick-either (λ (r : ℕ). min x most ≡ r) (leb x most) x most
    (λ e. min-eq_left (leb-true x most e))
    (λ e. let l = leb-false x most e in min-eq_right (omega arith))

-- where the test holds, a run; and else nothing
module _ {page page' : ArrayVec ℕ} (holds : Bool) where
  pub adds_if : {a : List ℕ} {most : ℕ} → holds ≡ true → Adds page a most page' → Adds page (pick holds a []) most page'
  adds_if e h = rw e h

  pub adds_unless : (a : List ℕ) (most : ℕ) → holds ≡ false → page' ≡ page → Adds page (pick holds a []) most page'
  adds_unless a most e h = rw e (adds_none h most)

-- `none` where no box was added
module _ {page next : ArrayVec ℕ} {boxes : List ℕ} {most : ℕ} (h : Adds page boxes most next) where
  grown : array_vec_len next ≡ array_vec_len page + length boxes
  grown = ap length h.put ∙ length-append page.items boxes

  pub none_added : {page' : ArrayVec ℕ} → array_vec_len next ≡ array_vec_len page → Adds next (text " none") 5 page' → 5 ≤ most
      → Adds page (or_none boxes) most page'
  unfolding or_none
  none_added e g l =
      let none : length boxes ≡ 0 = omega (arith, grown) in
      let r = g.room in
      rw (eq-eqb (length boxes) 0 none)
      (record {
        put = g.put
            ∙ ap (λ (t : List ℕ). t ++ text " none") (h.put ∙ ap (λ (t : List ℕ). page.items ++ t) (nil_from_length boxes none) ∙ append-nil page.items);
        room = omega arith;
      })

  pub some_added : (array_vec_len next ≡ array_vec_len page → ⊥) → Adds page (or_none boxes) most next
  unfolding or_none
  some_added n = rw (ne_eqb (length boxes) 0 (λ z. n (omega (arith, grown)))) h

-- Where the lines of a text stand, whatever their form, and what stands in one.
--
-- In order: where a word stands; the lines; what is in a line; the laws that the proofs share.
-- Assumes nothing.
use Rattle.std.specs.Prelude.{Bool, List, ◌≡◌, ltb}
use Rattle.std.proofs.Math.Bool.{true, false}
use Rattle.std.proofs.Math.Path.{refl}
use Prim.Native.Nat.{ℕ, zero, suc, ◌+◌, ◌-◌, ◌<◌, ◌≤◌}
use Rattle.std.proofs.Common.{add-one}
use native.Mathlib.Omega.{arith}
use Rattle.std.proofs.Math.Dec.{leb}
use Rattle.std.proofs.Math.ListN.{length}
use borrow.Author.Tests.{leb-false}
use Rattle.folds.specs.Tests.{pick}
use Rattle.folds.specs.Below.{first_from, first_from_le, count_below, count_below_le}
use Rattle.rules.specs.Text.{text, space, byte_at, word_at}

-- the first place from i on where this word stands; else the end of the text
unfoldable pub first_word : List ℕ → ℕ → List ℕ → ℕ
first_word b i w = first_from (length b - i) i (λ j. word_at b j w)

-- the end of the line from i on: its newline, or the end of the text
abbrev pub line_end : List ℕ → ℕ → ℕ
line_end b i = first_word b i (text "\n")

-- where the line behind it starts
unfoldable pub behind_line : List ℕ → ℕ → ℕ
behind_line b i = pick (leb (length b) (line_end b i)) (line_end b i) (line_end b i + 1)

-- where the line behind l lines starts
unfoldable pub line_start : List ℕ → ℕ → ℕ
line_start b zero = 0
line_start b (suc l) = behind_line b (line_start b l)

-- this word starts in the line from i on; how many spaces stand in it
unfoldable pub in_line : List ℕ → ℕ → List ℕ → Bool
in_line b i w = ltb (first_word b i w) (line_end b i)

unfoldable pub spaces_in : List ℕ → ℕ → ℕ
spaces_in b i = count_below (line_end b i - i) (λ j. byte_at b (i + j) space)

-- ---- the laws

module _ (b : List ℕ) (i : ℕ) where
  pub first_word_le : (w : List ℕ) → i ≤ length b → first_word b i w ≤ length b
  unfolding first_word
  first_word_le w h = let z = first_from_le (λ (j : ℕ). word_at b j w) (length b - i) i in omega arith

  pub first_word_near : (w : List ℕ) → i < first_word b i w → first_word b i w ≤ length b
  unfolding first_word
  first_word_near w h = let z = first_from_le (λ (j : ℕ). word_at b j w) (length b - i) i in omega arith

  behind_line_le : i ≤ length b → behind_line b i ≤ length b
  unfolding behind_line
  behind_line_le h = go (leb (length b) (line_end b i)) refl (first_word_le (text "\n") h)
    where
      go : (t : Bool) → leb (length b) (line_end b i) ≡ t → line_end b i ≤ length b → pick t (line_end b i) (line_end b i + 1) ≤ length b
      go true e l = l
      go false e l = let z = leb-false (length b) (line_end b i) e in omega arith

  pub spaces_in_le : i ≤ length b → spaces_in b i ≤ length b
  unfolding spaces_in
  spaces_in_le h =
      let z = count_below_le (λ (j : ℕ). byte_at b (i + j) space) (line_end b i - i) in
      let e = first_word_le (text "\n") h in
      omega arith

module _ (b : List ℕ) where
  pub line_start-zero : line_start b 0 ≡ 0
  unfolding line_start
  line_start-zero = refl

  pub line_start_more : (l : ℕ) → line_start b (l + 1) ≡ behind_line b (line_start b l)
  unfolding line_start
  line_start_more l = rw (add-one l)

  pub line_start_le : (l : ℕ) → line_start b l ≤ length b
  unfolding line_start
  line_start_le zero = omega arith
  line_start_le (suc l) = behind_line_le b (line_start b l) (line_start_le l)

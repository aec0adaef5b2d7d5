-- The next line of the input, in a buffer that keeps what has come. What the operating system gives is in no promise; what is done with
-- it is.
--
-- In order: where a line ends, and what is held; what is asked and promised; the laws.
-- Assumes nothing.
use Rattle.std.specs.Prelude.{Bool, List, ◌⊎◌, ◌≡◌, eqb, ltb, length, get_or, take, drop}
use Rattle.std.proofs.Math.Bool.{true, false}
use Rattle.std.proofs.Common.{inl, inr, ◌∙◌, length-drop, length-take-le, get_or-take, get_or-drop, ltb-true, ltb-false}
use Rattle.std.proofs.Math.Path.{refl, sym, ap, ap₂}
use Prim.Native.Nat.{ℕ, zero, suc, ◌+◌, ◌-◌, ◌<◌, ◌≤◌}
use native.Mathlib.Omega.{arith}
use Rattle.std.proofs.Math.ListN.{get_or-append}
use Rattle.std.proofs.lemmas.List.Edits.{sets}
use Rattle.std.proofs.Math.Seq.{length-sets}
use Rattle.folds.specs.Tests.{pick, true≢false, decide}
use Rattle.folds.specs.Below.{first_from, first_from_le, first_from_passes, first_from_before}
use Rattle.folds.specs.Runs.{sets-front}
use Rattle.rules.specs.Text.{newline}
use Rattle.console_lines.specs.Items.{first_least}
use Rattle.console_lines.specs.declared.lines.Held.{Held}
use Rattle.console_lines.specs.declared.lines.Line.{Line}
use Rattle.console_lines.specs.declared.lines.Line.TheVariants.{Whole, TooLong, Cut, End}

abbrev pub is_newline : List ℕ → ℕ → Bool
is_newline b i = eqb (get_or b i 0) newline

-- where the line that starts at `from` ends: at its newline, or with the bytes that have come
unfoldable pub line_end : List ℕ → ℕ → ℕ → ℕ
line_end b from to = first_from (to - from) from (is_newline b)

-- the bytes that are held
abbrev pub held_bytes : List ℕ → ℕ → ℕ → List ℕ
held_bytes b from to = take (to - from) (drop from b)

-- ---- what is asked and promised

pub record Within (b : List ℕ) (from to : ℕ) : Type 0 where
  pub order : from ≤ to
  pub room : to ≤ length b

-- so many bytes came behind the first `at`, which keep their values
pub record Fills (b : List ℕ) (at got : ℕ) (out : List ℕ) : Type 0 where
  pub room : at + got ≤ length b
  pub same : length out ≡ length b
  pub front : take at out ≡ take at b

-- the first `kept` bytes of a line that has no newline yet
pub record Unended (b : List ℕ) (kept : ℕ) : Type 0 where
  pub room : kept ≤ length b
  pub none : line_end b 0 kept ≡ kept

-- the line ends at the first newline of all that has come, and what is behind that is held
pub record Ends (out : List ℕ) (from to : ℕ) (held : Held) : Type 0 where
  pub newline_there : to < held.to
  pub first : to ≡ line_end out from held.to
  pub behind : held.from ≡ to + 1
  pub room : held.to ≤ length out

-- the line from the front on, of which the first `kept` bytes had come: they keep their values
abbrev pub FilledLine : List ℕ → ℕ → Line → Held → List ℕ → Type 0
FilledLine b kept (Whole from to) held out = (from ≡ 0) × Ends out 0 to held × (kept ≤ held.to) × (take kept out ≡ take kept b)
FilledLine b kept TooLong held out = Within out held.from held.to
FilledLine b kept Cut held out = (held.from ≡ 0) × (held.to ≡ 0)
FilledLine b kept End held out = (held.from ≡ 0) × (held.to ≡ 0) × (kept ≡ 0)

-- a line that is skipped to its end
abbrev pub Skipped : Line → Held → List ℕ → Type 0
Skipped (Whole from to) held out = ⊥
Skipped TooLong held out = Within out held.from held.to
Skipped Cut held out = (held.from ≡ 0) × (held.to ≡ 0)
Skipped End held out = ⊥

pub skipped_filled : (b : List ℕ) (kept : ℕ) (line : Line) (held : Held) (out : List ℕ) → Skipped line held out → FilledLine b kept line held out
skipped_filled b kept (Whole from to) held out h = absurd h
skipped_filled b kept TooLong held out h = h
skipped_filled b kept Cut held out h = h
skipped_filled b kept End held out h = absurd h

pub record Filled (b : List ℕ) (kept : ℕ) (line : Line) (held : Held) (out : List ℕ) : Type 0 where
  pub same : length out ≡ length b
  pub is : FilledLine b kept line held out

-- a line stands in the buffer, and so does its newline
abbrev pub Inside : List ℕ → Line → Type 0
Inside out (Whole from to) = (from ≤ to) × (to < length out)
Inside out TooLong = Unit
Inside out Cut = Unit
Inside out End = Unit

-- Where the newline of a line was held the line is up to it, and nothing is read; else what was held went to the front, and more came
-- behind it.
pub record NextIs (b : List ℕ) (before : Held) (line : Line) (held : Held) (out : List ℕ) : Type 0 where
  pub same : length out ≡ length b
  pub within : Within out held.from held.to
  pub inside : Inside out line
  pub there : let end = line_end b before.from before.to in
      end < before.to → (out ≡ b) × (line ≡ Whole before.from end) × (held.from ≡ end + 1) × (held.to ≡ before.to)
  pub more : before.to ≤ line_end b before.from before.to
      → Filled (sets b 0 (held_bytes b before.from before.to)) (before.to - before.from) line held out

-- ---- the laws

-- the first of two ranges has none: the first is in the second
module _ (p : ℕ → Bool) where
  pub first_on : (m k i : ℕ) → first_from m i p ≡ i + m → first_from (m + k) i p ≡ first_from k (i + m) p
  unfolding first_from
  first_on zero k i h = ap₂ (λ (n j : ℕ). first_from n j p) (let e : 0 + k ≡ k = omega arith in e) (let e : i ≡ i + 0 = omega arith in e)
  first_on (suc m) k i h =
      let more : suc m + k ≡ suc (m + k) = omega arith in
      let on : i + 1 + m ≡ i + suc m = omega arith in
      ap (λ (n : ℕ). first_from n i p) more ∙ go (p i) h (first_on m k (i + 1)) ∙ ap (λ (j : ℕ). first_from k j p) on
    where
      go : (t : Bool) → pick t i (first_from m (i + 1) p) ≡ i + suc m → (first_from m (i + 1) p ≡ i + 1 + m → first_from (m + k) (i + 1) p ≡ first_from k (i + 1 + m) p)
          → pick t i (first_from (m + k) (i + 1) p) ≡ first_from k (i + 1 + m) p
      go true e ih = absurd (omega arith)
      go false e ih = ih (omega arith)

  pub first_same : (q : ℕ → Bool) (n i : ℕ) → ((j : ℕ) → i ≤ j → j < i + n → p j ≡ q j) → first_from n i p ≡ first_from n i q
  unfolding first_from
  first_same q zero i h = refl
  first_same q (suc n) i h = ap₂ (λ (t : Bool) (j : ℕ). pick t i j) (h i (omega arith) (omega arith)) (first_same q n (i + 1) (λ j a b. h j (omega arith) (omega arith)))

module _ (b : List ℕ) (mid to : ℕ) (h : line_end b 0 mid ≡ mid) (l : mid ≤ to) where
  -- no newline before `mid`: the line ends where the rest of it does
  pub line_end_on : line_end b mid to ≡ line_end b 0 to
  unfolding line_end
  line_end_on =
      let all : mid - 0 ≡ mid = omega arith in
      let both : mid + (to - mid) ≡ to - 0 = omega arith in
      let g : first_from mid 0 (is_newline b) ≡ 0 + mid = sym (ap (λ (n : ℕ). first_from n 0 (is_newline b)) all) ∙ h ∙ (let e : mid ≡ 0 + mid = omega arith in e) in
      let e : 0 + mid ≡ mid = omega arith in
      sym (first_on (is_newline b) mid (to - mid) 0 g ∙ ap (λ (j : ℕ). first_from (to - mid) j (is_newline b)) e)
      ∙ ap (λ (n : ℕ). first_from n 0 (is_newline b)) both

-- a line ends by the bytes that it has
pub line_end_same : (b out : List ℕ) (to : ℕ) → take to out ≡ take to b → line_end out 0 to ≡ line_end b 0 to
unfolding line_end
line_end_same b out to e =
    first_same (is_newline out) (is_newline b) (to - 0) 0
    (λ j a l. let lt : j < to = omega arith in ap (λ (x : ℕ). eqb x newline) (sym (get_or-take to out j 0 lt) ∙ ap (λ (t : List ℕ). get_or t j 0) e ∙ get_or-take to b j 0 lt))

module _ (b : List ℕ) (from to : ℕ) (h : Within b from to) where
  pub line_end_least : from ≤ line_end b from to
  unfolding line_end
  line_end_least = first_least (is_newline b) (to - from) from

  pub line_end_most : line_end b from to ≤ to
  unfolding line_end
  line_end_most = let order = h.order in omega (arith, first_from_le (is_newline b) (to - from) from)

  -- a byte that went to the front
  moved_at : (k : ℕ) → k < to - from → get_or (sets b 0 (held_bytes b from to)) k 0 ≡ get_or b (from + k) 0
  moved_at k l =
      let room = h.room in
      let n = length-take-le (to - from) (drop from b) (let e = length-drop from b in let z : to - from ≤ length (drop from b) = omega arith in z) in
      let w = held_bytes b from to in
      ap (λ (t : List ℕ). get_or t k 0) (sets-front b w (omega arith))
      ∙ get_or-append w (drop (length w) b) 0 k (omega arith)
      ∙ get_or-take (to - from) (drop from b) k 0 l
      ∙ get_or-drop from b k 0

  -- what is held has no newline, so it has none at the front
  pub moved_unended : to ≤ line_end b from to → Unended (sets b 0 (held_bytes b from to)) (to - from)
  unfolding line_end
  moved_unended g =
      let w = held_bytes b from to in
      let n = length-sets b 0 w in
      let room = h.room in
      record { room = omega arith; none = go (decide (ltb front (to - from))) }
    where
      front : ℕ
      front = first_from (to - from - 0) 0 (is_newline (sets b 0 (held_bytes b from to)))

      go : (ltb front (to - from) ≡ true) ⊎ (ltb front (to - from) ≡ false) → front ≡ to - from
      go (inl e) =
          let l = ltb-true front (to - from) e in
          let there = first_from_passes (is_newline (sets b 0 (held_bytes b from to))) (to - from - 0) 0 (let z : front < 0 + (to - from - 0) = omega arith in z) in
          let not_there = first_from_before (is_newline b) (to - from) from (from + front) (let z : from ≤ from + front = omega arith in z) (let z : from + front < first_from (to - from) from (is_newline b) = omega arith in z) in
          absurd (true≢false (sym there ∙ ap (λ (x : ℕ). eqb x newline) (moved_at front l) ∙ not_there))
      go (inr e) =
          let l = ltb-false front (to - from) e in
          omega (arith, first_from_le (is_newline (sets b 0 (held_bytes b from to))) (to - from - 0) 0)

-- a line that was filled from such a front
pub filled_from : {b b' out : List ℕ} {kept kept' : ℕ} {line : Line} {held : Held} → b ≡ b' → kept ≡ kept' → Filled b kept line held out
    → Filled b' kept' line held out
filled_from p q h = rw (← p, ← q) h

pub unended_from : {b b' : List ℕ} {kept kept' : ℕ} → b ≡ b' → kept ≡ kept' → Unended b' kept' → Unended b kept
unended_from p q h = rw (p, q) h

-- what is held behind it is in the buffer, and so is it
module _ {b out : List ℕ} {kept : ℕ} {line : Line} {held : Held} (h : Filled b kept line held out) where
  pub filled_within : Within out held.from held.to
  filled_within = go line h.is
    where
      go : (l : Line) → FilledLine b kept l held out → Within out held.from held.to
      go (Whole from to) g = let e = g.1 in record { order = omega arith; room = e.room }
      go TooLong g = g
      go Cut g = record { order = omega arith; room = omega arith }
      go End g = record { order = omega arith; room = omega arith }

  pub filled_inside : Inside out line
  filled_inside = go line h.is
    where
      go : (l : Line) → FilledLine b kept l held out → Inside out l
      go (Whole from to) g = let e = g.1 in (omega arith, omega arith)
      go TooLong g = tt
      go Cut g = tt
      go End g = tt

-- What a writer does: it puts bytes from a place on, and hands the place behind them back.
--
-- In order: one run of bytes; runs put one behind the other; a loop that puts them; what was put at the front.
-- Assumes nothing.
use Rattle.std.specs.Prelude.{List, [], ◌∷◌, ◌++◌, ◌≡◌, refl, ℕ, ◌+◌, ◌*◌, ◌<◌, ◌≤◌, length, get_or, set, take}
use Rattle.std.proofs.Common.{append_assoc, sym, ap, ◌∙◌, add-one, arith, length-append, take-suc, length-take-le}
use Rattle.std.proofs.lemmas.List.Edits.{sets}
use Rattle.std.proofs.Math.Seq.{length-sets}
use Rattle.folds.specs.Runs.{gather, gather-zero, length-gather_more, sets_then, sets-gather, sets-front}
use Rattle.rules.specs.Messages.{written}

-- these bytes from a place on, at most so many, and the place behind them
abbrev pub Puts : List ℕ → ℕ → List ℕ → ℕ → ℕ → List ℕ → Type 0
Puts out at bytes most next out' = (next ≡ at + length bytes) × (next ≤ at + most) × (out' ≡ sets out at bytes)

-- and the same of a word, whose length is known
abbrev pub PutsWord : List ℕ → ℕ → List ℕ → ℕ → List ℕ → Type 0
PutsWord out at w next out' = (next ≡ at + length w) × (out' ≡ sets out at w)

-- ---- one run

module _ (out : List ℕ) (at : ℕ) where
  -- a byte
  pub puts_byte : {x y : ℕ} → x ≡ y → Puts out at (y ∷ []) 1 (at + 1) (set out at x)
  puts_byte e = (refl, omega arith, ap (set out at) e)

  -- a word takes its length
  pub puts_word : (w : List ℕ) {next : ℕ} {out' : List ℕ} → PutsWord out at w next out' → Puts out at w (length w) next out'
  puts_word w h = (h.0, (let e = h.0 in omega arith), h.1)

  -- a run may be given more than it takes
  pub puts_room : (a : List ℕ) (m n : ℕ) {next : ℕ} {out' : List ℕ} → m ≤ n → Puts out at a m next out' → Puts out at a n next out'
  puts_room a m n l h = (h.0, (let e = h.1 in omega arith), h.2)

  pub puts_word_room : (w : List ℕ) (n : ℕ) {next : ℕ} {out' : List ℕ} → length w ≤ n → PutsWord out at w next out' → Puts out at w n next out'
  puts_word_room w n l h = puts_room w (length w) n l (puts_word w h)

-- ---- runs put one behind the other

module _ (out : List ℕ) (at : ℕ) where
  pub puts_then : (a b : List ℕ) (m n : ℕ) {p next : ℕ} {out₁ out' : List ℕ} → Puts out at a m p out₁ → Puts out₁ p b n next out'
      → Puts out at (a ++ b) (m + n) next out'
  puts_then a b m n {p} h g = (
    (let e = h.0 in let f = g.0 in omega (arith, length-append a b)),
    (let e = h.1 in let f = g.1 in omega arith),
    g.2 ∙ ap (λ (t : List ℕ). sets t p b) h.2 ∙ sets_then out at p a b h.0,
  )

  -- a word behind a run; a run of two parts behind one
  pub puts_then_word : (a w : List ℕ) (m : ℕ) {p next : ℕ} {out₁ out' : List ℕ} → Puts out at a m p out₁ → PutsWord out₁ p w next out'
      → Puts out at (a ++ w) (m + length w) next out'
  puts_then_word a w m {p} {next} {out₁} h g = puts_then a w m (length w) h (puts_word out₁ p w g)

  pub puts_then_two : (a b c : List ℕ) (m n : ℕ) {p next : ℕ} {out₁ out' : List ℕ} → Puts out at a m p out₁ → Puts out₁ p (b ++ c) n next out'
      → Puts out at (a ++ b ++ c) (m + n) next out'
  puts_then_two a b c m n {p} {next} {out₁} {out'} h g =
      let both : Puts out at (a ++ (b ++ c)) (m + n) next out' = puts_then a (b ++ c) m n h g in
      rw append_assoc both

-- ---- a loop that puts them

-- one more of the bytes of a word
pub word_more : (out₀ w : List ℕ) (at j : ℕ) {out : List ℕ} → j < length w → out ≡ sets out₀ at (take j w)
    → set out (at + j) (get_or w j 0) ≡ sets out₀ at (take (j + 1) w)
word_more out₀ w at j h e =
    let n = length-take-le j w (let z : j ≤ length w = omega arith in z) in
    ap (λ (t : List ℕ). sets t (at + j) (get_or w j 0 ∷ [])) e
    ∙ sets_then out₀ at (at + j) (take j w) (get_or w j 0 ∷ []) (omega arith)
    ∙ ap (sets out₀ at) (sym (ap (λ (n : ℕ). take n w) (add-one j) ∙ take-suc w j 0 h))

-- f 0, .. f (n - 1), w bytes each at most, from `at` on: j of them are put
pub record PutRuns (f : ℕ → List ℕ) (w n at : ℕ) (out₀ out : List ℕ) (next j : ℕ) : Type 0 where
  pub within : j ≤ n
  pub place : next ≡ at + length (gather j f)
  pub room : next ≤ at + j * w
  pub same : length out ≡ length out₀
  pub bytes : out ≡ sets out₀ at (gather j f)

pub runs_none : (f : ℕ → List ℕ) (w n at : ℕ) (out : List ℕ) → PutRuns f w n at out out at 0
runs_none f w n at out =
    record {
      within = omega arith;
      place = let e = ap length (gather-zero f) in omega arith;
      room = omega arith;
      same = refl;
      bytes = rw (gather-zero f);
    }

module _ {f : ℕ → List ℕ} {w n at next j : ℕ} {out₀ out : List ℕ} (h : PutRuns f w n at out₀ out next j) where
  pub runs_more : {next' : ℕ} {out' : List ℕ} → j < n → Puts out next (f j) w next' out' → PutRuns f w n at out₀ out' next' (j + 1)
  runs_more {next'} {out'} lt g =
      let more = length-gather_more f j in
      let e = g.0 in
      let r = g.1 in
      let place = h.place in
      let room = h.room in
      record {
        within = omega arith;
        place = omega arith;
        room = omega arith;
        same = ap length g.2 ∙ length-sets out next (f j) ∙ h.same;
        bytes = g.2 ∙ ap (λ (t : List ℕ). sets t next (f j)) h.bytes ∙ sets-gather f out₀ at next j h.place;
      }

  pub runs_all : n ≤ j → Puts out₀ at (gather n f) (n * w) next out
  runs_all l =
      let within = h.within in
      let e : j ≡ n = omega arith in
      rw (← e) (h.place, h.room, h.bytes)

-- ---- what was put at the front is written there

-- these bytes in front, and how many
abbrev pub Writes : List ℕ → List ℕ → ℕ → List ℕ → Type 0
Writes out bytes count out' = (count ≡ length bytes) × (out' ≡ written bytes out)

pub puts_written : (out a : List ℕ) (most : ℕ) {next : ℕ} {out' : List ℕ} → most ≤ length out → Puts out 0 a most next out' → Writes out a next out'
unfolding written
puts_written out a most l h =
    let e = h.0 in
    let r = h.1 in
    (omega arith, h.2 ∙ sets-front out a (omega arith))

pub word_written : (out w : List ℕ) {next : ℕ} {out' : List ℕ} → length w ≤ length out → PutsWord out 0 w next out' → Writes out w next out'
word_written out w l h = puts_written out w (length w) l (puts_word out 0 w h)

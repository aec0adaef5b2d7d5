-- The k that `read` prints: that of the message, and none exactly for bytes that refusal 2 refuses at every k from 2 to 8.
-- Assumes nothing.
use Rattle.std.specs.Prelude.{Bool, List, ◌≡◌, ℕ, zero, suc, ◌+◌, ◌≤◌, ◌<◌, Option, Some, None, ◌⊎◌, cond, get_or}
use Rattle.std.specs.List.{find, range_with_len}
use Rattle.std.proofs.Math.Bool.{true, false, not}
use Rattle.std.proofs.Math.Path.{refl}
use Rattle.std.proofs.Common.{ap, arith, inl, inr, eq-or-lt_of_le}
use borrow.Author.Tests.{not-true}
use Rattle.folds.specs.Tests.{not_true_and_false}
use Rattle.rules.specs.Messages.{tag_in, malformed}
use Rattle.rules.specs.Text.{text}
use Rattle.rules.proofs.Laws.RoundTrip.{formed}
use Rattle.console_page.specs.Reading.{of_width, width_in, line_at, read_line}

module _ (p : ℕ → Bool) where
  -- what is found in a range passes and lies in it
  found_in : (n a : ℕ) {k : ℕ} → find p (range_with_len a n) ≡ Some k → (p k ≡ true) × (a ≤ k) × (k < a + n)
  found_in zero a h = cc
  found_in (suc n) a {k} h = go (p a) refl (found_in n (a + 1)) h
    where
      go : (b : Bool) → p a ≡ b → (find p (range_with_len (a + 1) n) ≡ Some k → (p k ≡ true) × (a + 1 ≤ k) × (k < a + 1 + n))
          → cond b (Some a) (find p (range_with_len (a + 1) n)) ≡ Some k → (p k ≡ true) × (a ≤ k) × (k < a + suc n)
      go true e ih g = let same : a ≡ k = cc in rw (← same) (e, omega arith, omega arith)
      go false e ih g = let w = ih g in (w.0, omega arith, omega arith)

  -- and where nothing is, nothing in it passes
  none_in : (n a : ℕ) → find p (range_with_len a n) ≡ None → (k : ℕ) → a ≤ k → k < a + n → p k ≡ false
  none_in zero a h k low high = absurd (omega arith)
  none_in (suc n) a h k low high = go (p a) refl (none_in n (a + 1)) h (eq-or-lt_of_le low)
    where
      go : (b : Bool) → p a ≡ b → (find p (range_with_len (a + 1) n) ≡ None → (k : ℕ) → a + 1 ≤ k → k < a + 1 + n → p k ≡ false)
          → cond b (Some a) (find p (range_with_len (a + 1) n)) ≡ None → (a ≡ k) ⊎ (a < k) → p k ≡ false
      go true e ih g w = cc
      go false e ih g (inl same) = rw (← same) e
      go false e ih g (inr above) = ih g k (omega arith) (omega arith)

module _ (s : List ℕ) where
  abbrev formed_at : ℕ → Bool
  formed_at k = not (malformed (of_width k) s)

  -- refusal 2 does not hold at the k that is found, one of the seven, which is the k byte of a send, an echo and a ready
  pub width_formed : {k : ℕ} → width_in s ≡ Some k → malformed (of_width k) s ≡ false
  unfolding width_in
  width_formed h = not-true _ (found_in formed_at 7 2 h).0

  pub width_few : {k : ℕ} → width_in s ≡ Some k → (2 ≤ k) × (k ≤ 8)
  unfolding width_in
  width_few h = let w = found_in formed_at 7 2 h in (w.1, omega arith)

  pub width_byte : {k : ℕ} → width_in s ≡ Some k → tag_in s ≤ 3 → get_or s 6 0 ≡ k
  width_byte {k} h l = (formed (of_width k) s (width_formed h)).k_byte l

  -- one is found where there is one
  pub width_found : (k : ℕ) → 2 ≤ k → k ≤ 8 → malformed (of_width k) s ≡ false → (j : ℕ) × (width_in s ≡ Some j)
  unfolding width_in
  width_found k low high e = go (width_in s) refl
    where
      go : (o : Option ℕ) → width_in s ≡ o → (j : ℕ) × (o ≡ Some j)
      go (Some j) h = (j, refl)
      go None h = absurd (not_true_and_false (formed_at k) (ap not e) (none_in formed_at 7 2 h k low (omega arith)))

  -- and none where refusal 2 holds at every k
  pub no_message : ((k : ℕ) → 2 ≤ k → k ≤ 8 → malformed (of_width k) s ≡ true) → read_line s ≡ text "no message\n"
  unfolding read_line
  no_message refused = go (width_in s) refl
    where
      go : (o : Option ℕ) → width_in s ≡ o → line_at s o ≡ text "no message\n"
      go None h = refl
      go (Some k) h = let few = width_few h in absurd (not_true_and_false (malformed (of_width k) s) (refused k few.0 few.1) (width_formed h))

-- What `find` gives over a range that starts anywhere, as the first place of `Below`.
-- Assumes nothing.
use Rattle.std.specs.Prelude.{Bool, true, false, ◌⊎◌, ◌≡◌, ℕ, zero, suc, ltb, ◌+◌, ◌-◌, ◌<◌, ◌≤◌, max, Option, Some, None}
use Rattle.std.proofs.Common.{inl, inr, arith, sym, ◌∙◌, ltb-true, ltb-false}
use Rattle.std.specs.Option.{MatchOption, unwrap_or}
use Rattle.folds.specs.Tests.{pick, true≢false, decide}
use Rattle.folds.specs.Below.{first_from, first_from_le, first_from_passes, first_from_before}

module _ (p : ℕ → Bool) where
  least : (m i : ℕ) → i ≤ first_from m i p
  unfolding first_from
  least zero i = omega arith
  least (suc m) i = go (p i) (least m (i + 1))
    where
      go : (t : Bool) → i + 1 ≤ first_from m (i + 1) p → i ≤ pick t i (first_from m (i + 1) p)
      go true h = omega arith
      go false h = omega arith

  pub found_first : (n i : ℕ) (r : Option ℕ)
      → MatchOption r ((k : ℕ) → i ≤ k → k < n → p k ≡ false) (λ j. (i ≤ j) × (j < n) × (p j ≡ true) × ((k : ℕ) → i ≤ k → k < j → p k ≡ false))
      → unwrap_or r (max i n) ≡ first_from (n - i) i p
  found_first n i None h = go (decide (ltb (first_from (n - i) i p) (i + (n - i))))
    where
      go : (ltb (first_from (n - i) i p) (i + (n - i)) ≡ true) ⊎ (ltb (first_from (n - i) i p) (i + (n - i)) ≡ false) → max i n ≡ first_from (n - i) i p
      go (inl e) =
          let l = ltb-true (first_from (n - i) i p) (i + (n - i)) e in
          let m = least (n - i) i in
          absurd (true≢false (sym (first_from_passes p (n - i) i l) ∙ h (first_from (n - i) i p) m (omega arith)))
      go (inr e) =
          let l = ltb-false (first_from (n - i) i p) (i + (n - i)) e in
          let m = first_from_le p (n - i) i in
          omega arith
  found_first n i (Some j) h = go (decide (ltb (first_from (n - i) i p) j)) (decide (ltb j (first_from (n - i) i p)))
    where
      go : (ltb (first_from (n - i) i p) j ≡ true) ⊎ (ltb (first_from (n - i) i p) j ≡ false)
          → (ltb j (first_from (n - i) i p) ≡ true) ⊎ (ltb j (first_from (n - i) i p) ≡ false) → j ≡ first_from (n - i) i p
      go (inl e) q =
          let l = ltb-true (first_from (n - i) i p) j e in
          let m = least (n - i) i in
          let within = h.1 in
          absurd (true≢false (sym (first_from_passes p (n - i) i (let z : first_from (n - i) i p < i + (n - i) = omega arith in z)) ∙ h.3 (first_from (n - i) i p) m l))
      go (inr e) (inl q) = absurd (true≢false (sym h.2 ∙ first_from_before p (n - i) i j h.0 (ltb-true j (first_from (n - i) i p) q)))
      go (inr e) (inr q) =
          let l = ltb-false (first_from (n - i) i p) j e in
          let m = ltb-false j (first_from (n - i) i p) q in
          omega arith

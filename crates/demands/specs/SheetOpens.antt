-- The recovery sheet: the pair that it prints opens the first entry of the matrix printed on it, and is that of the verified
-- boxes alone.
--
-- In order: what is verified of what a box says; a sheet that prints a secret; the statements.
-- Assumes nothing.
use Rattle.std.specs.Prelude.{◌≡◌, refl, Bool, true, false, not, List, ◌++◌, ℕ, ◌+◌, ◌<◌, ◌≤◌, replicate, take}
use Rattle.std.proofs.Common.{sym, ◌∙◌, arith}
use Rattle.std.proofs.Math.Path.{ap}
use Rattle.std.proofs.Math.Decide.{dec_lt}
use Rattle.std.proofs.Math.ListN.{get_or-replicate}
use borrow.Author.Tests.{le-ltb}
use Rattle.folds.specs.Tests.{pick, true≢false}
use Rattle.folds.specs.Stores.{get_or-stores, get_or-stores_behind}
use Rattle.rules.specs.declared.Element.{Element}
use Rattle.rules.specs.declared.Group.{Group}
use Rattle.std.specs.Prelude.{Option, Some, None, is_some}
use Rattle.rules.specs.declared.Pair.{Pair}
use Rattle.rules.specs.declared.Verdict.TheVariants.{Verified, Refused}
use Rattle.rules.specs.declared.Refusal.TheVariants.{ExponentHigh, CheckFails}
use Rattle.rules.specs.Numbers.{group_of}
use Rattle.rules.specs.Matrices.{entry}
use Rattle.rules.specs.Dealing.{committed, pair_below, share_check}
use Rattle.rules.specs.Record.{nothing, share_at}
use Rattle.rules.specs.Steps.{share_points}
use Rattle.rules.specs.Sheet.{verdict, is_verified, verified_shares, box_lines, secret_line, last_line, sheet_lines, body_printed, printed}
use Rattle.demands.specs.Sharing.{shares_open}
use Rattle.demands.specs.Lives.Points.{lowest_differ}
use Rattle.demands.specs.Terms.Sheet.{numbers, matrix, says, verified, secret, Opens}

-- ---- what is verified

module _ (G : Group) (k : ℕ) (C : List (List Element)) (m : ℕ) where
  abbrev verified_of : Option Pair → Option Pair
  verified_of said = pick (is_verified (verdict G k C m said)) said None

  verified_passes : (said : Option Pair) (p : Pair) → verified_of said ≡ Some p → (said ≡ Some p) × (share_check G k C m p ≡ true)
  verified_passes None p e = absurd (true≢false (sym (ap is_some e)))
  verified_passes (Some s) p e = go (pair_below G.q s) (share_check G k C m s) refl e
    where
      go : (a b : Bool) → share_check G k C m s ≡ b
          → pick (is_verified (pick (not a) (Refused ExponentHigh) (pick (not b) (Refused CheckFails) Verified))) (Some s) None ≡ Some p
          → (Some s ≡ Some p) × (share_check G k C m p ≡ true)
      go true true h e = let same : s ≡ p = cc in (e, rw same at h)
      go true false h e = absurd (true≢false (sym (ap is_some e)))
      go false b h e = absurd (true≢false (sym (ap is_some e)))

module _ (b : List ℕ) where
  -- ---- the statements

  -- such a sheet prints a line for each box and the secret's
  pub sheet_prints : Opens b → printed b ≡ box_lines (group_of (numbers b).group) (numbers b).k (matrix b) (numbers b).n (says b)
      ++ secret_line (secret b) (take (numbers b).k (share_points (verified b)))
  unfolding printed body_printed sheet_lines last_line
  sheet_prints o = rw (o.first, o.group, o.sizes, o.rest, o.passes, le-ltb _ _ o.enough)

  -- what is verified of a box of the sheet, and of one above n
  verified_at : (m : ℕ) → m < 10 → m < (numbers b).n
      → share_at (verified b) m ≡ verified_of (group_of (numbers b).group) (numbers b).k (matrix b) (m + 1) (share_at (says b) m)
  unfolding verified_shares
  verified_at m l h = ap (λ (v : Option Pair). v) (get_or-stores _ (replicate 10 nothing) (numbers b).n m nothing h l)

  verified_above : (m : ℕ) → m < 10 → (numbers b).n ≤ m → share_at (verified b) m ≡ None
  unfolding verified_shares
  verified_above m l h =
      ap (λ (v : Option Pair). v)
      (get_or-stores_behind _ (replicate 10 nothing) (numbers b).n m nothing h ∙ get_or-replicate 10 m nothing nothing l)

  -- a box is verified only by a pair of its own that passes the share check: a silent box adds no point
  pub sheet_verified : (m : ℕ) (p : Pair) → m < 10 → share_at (verified b) m ≡ Some p
      → (share_at (says b) m ≡ Some p) × (share_check (group_of (numbers b).group) (numbers b).k (matrix b) (m + 1) p ≡ true)
  sheet_verified m p l e = go (dec_lt m (numbers b).n)
    where
      go : Dec (m < (numbers b).n)
          → (share_at (says b) m ≡ Some p) × (share_check (group_of (numbers b).group) (numbers b).k (matrix b) (m + 1) p ≡ true)
      go (yes h) =
          verified_passes (group_of (numbers b).group) (numbers b).k (matrix b) (m + 1) (share_at (says b) m) p (sym (verified_at m l h) ∙ e)
      go (no h) = absurd (true≢false (sym (ap is_some e) ∙ ap is_some (verified_above m l (omega arith))))

  pub sheet_silent : (m : ℕ) → m < 10 → share_at (says b) m ≡ None → share_at (verified b) m ≡ None
  sheet_silent m l e = go (dec_lt m (numbers b).n)
    where
      go : Dec (m < (numbers b).n) → share_at (verified b) m ≡ None
      go (yes h) = verified_at m l h ∙ ap (verified_of (group_of (numbers b).group) (numbers b).k (matrix b) (m + 1)) e
      go (no h) = verified_above m l (omega arith)

  -- the pair that it prints opens the first entry of its matrix
  pub sheet_opens : Opens b → committed (group_of (numbers b).group) (secret b).first.0 (secret b).second.0 ≡ entry (matrix b) 0 0
  sheet_opens o =
      shares_open (numbers b) (record { group_keeps_lem = o.group; sizes_keep_lem = o.sizes }) (matrix b) o.passes
      (take (numbers b).k (share_points (verified b)))
      (lowest_differ (numbers b) (verified b) (λ m p. share_check (group_of (numbers b).group) (numbers b).k (matrix b) m p ≡ true)
      (λ m l h. ap is_some (verified_above m l h)) (λ m p l e. (sheet_verified m p l e).1) o.enough)

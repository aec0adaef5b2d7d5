-- Points and shares that a record holds are those of different boxes, lowest first.
--
-- In order: runs in which box m + 1 has one element or none; the points of a slot; the recovery shares.
-- Assumes nothing.
use Rattle.std.specs.Prelude.{◌≡◌, refl, false, get_or, take}
use Rattle.std.proofs.Common.{sym, ap, ◌∙◌, arith, length-append, get_or-take, length-take-le, take_all}
use Rattle.std.proofs.Math.Path.{subst}
use mathlib.Core.List.{List, [], ◌∷◌, ◌++◌}
use Prim.Native.Nat.{ℕ, zero, suc, ◌+◌, ◌<◌, ◌≤◌}
use Rattle.std.proofs.Math.Decide.{dec_lt}
use Rattle.std.proofs.Math.ListN.{length, get_or-append}
use Rattle.std.proofs.Math.Seq.{get_or-append_seam}
use Rattle.folds.specs.Tests.{pick}
use Rattle.folds.specs.Below.{count_below, passes_below}
use Rattle.folds.specs.Runs.{gather, length-gather_count, Every, every_nil, every_cons, every_gather_below, every_take}
use Rattle.rules.specs.declared.Four.{Four}
use Rattle.std.specs.Prelude.{Option, Some, None, is_some}
use Rattle.rules.specs.declared.Pair.{Pair}
use Rattle.rules.specs.declared.Point.{Point}
use Rattle.rules.specs.declared.Point.TheVariants.{Silent, Held}
use Rattle.rules.specs.declared.SetUp.{SetUp}
use Rattle.rules.specs.declared.Slot.{Slot}
use Rattle.rules.specs.Matrices.{zero_four}
use Rattle.rules.specs.Record.{place_at, share_at, is_held, held, shares_kept}
use Rattle.rules.specs.Steps.{Said, held_at, points, kept_at, share_points}
use Rattle.rules.specs.Answers.{no_pair}
use Rattle.demands.specs.Terms.Dealing.{Different, none}

-- ---- runs of one element or none for each box

-- box m + 1 has said nothing; or it is a box of the class and has said something that keeps P
data Piece {A : Type 0} (u : SetUp) (P : ℕ → A → Type 0) (m : ℕ) : List (Said A) → Type 0 where
  mute : Piece u P m []
  one : (a : A) → m < u.n → P (m + 1) a → Piece u P m (record { box = m + 1; says = a } ∷ [])

module _ {A : Type 0} (u : SetUp) (z : A) (P : ℕ → A → Type 0) where
  abbrev Rising : List (Said A) → Type 0
  Rising ps = (i j : ℕ) → i < j → j < length ps → (get_or ps i (none z)).box < (get_or ps j (none z)).box

  abbrev Low : ℕ → Said A → Type 0
  Low n p = p.box ≤ n

  abbrev Fine : Said A → Type 0
  Fine p = (1 ≤ p.box) × (p.box ≤ u.n) × P p.box p.says

  piece_low : (m n : ℕ) (l : List (Said A)) → m < n → Piece u P m l → Every (Low n) (none z) l
  piece_low m n l h mute = every_nil (Low n) (none z)
  piece_low m n l h (one a b c) =
      every_cons (Low n) (none z) (record { box = m + 1; says = a }) [] (omega arith) (every_nil (Low n) (none z))

  piece_fine : (m : ℕ) (l : List (Said A)) → Piece u P m l → Every Fine (none z) l
  piece_fine m l mute = every_nil Fine (none z)
  piece_fine m l (one a b c) =
      every_cons Fine (none z) (record { box = m + 1; says = a }) [] (omega arith, omega arith, c) (every_nil Fine (none z))

  -- one more piece
  rising_more : (n : ℕ) (ps l : List (Said A)) → Every (Low n) (none z) ps → Rising ps → Piece u P n l → Rising (ps ++ l)
  rising_more n ps l b r c i j lt le = go l c (dec_lt j (length ps)) le
    where
      go : (l : List (Said A)) → Piece u P n l → Dec (j < length ps) → j < length (ps ++ l)
          → (get_or (ps ++ l) i (none z)).box < (get_or (ps ++ l) j (none z)).box
      go l c (yes h) g = rw (get_or-append ps l (none z) j h, get_or-append ps l (none z) i (omega arith)) (r i j lt h)
      go l mute (no h) g = let e = length-append ps [] in absurd (omega arith)
      go l (one a d p) (no h) g =
          let last : Said A = record { box = n + 1; says = a } in
          let e = length-append ps (last ∷ []) in
          let q : j ≡ length ps = omega arith in
          let low : (get_or ps i (none z)).box ≤ n = b i (omega arith) in
          rw (q, get_or-append_seam ps last [] (none z), get_or-append ps (last ∷ []) (none z) i (omega arith)) (omega arith)

  module _ (f : ℕ → List (Said A)) (pieces : (m : ℕ) → m < 10 → Piece u P m (f m)) where
    rising_gather : (n : ℕ) → n ≤ 10 → Rising (gather n f)
    unfolding gather
    rising_gather zero h = λ i j lt le. absurd (omega arith)
    rising_gather (suc n) h =
        rising_more n (gather n f) (f n) (every_gather_below (Low n) (none z) f n (λ m l. piece_low m n (f m) l (pieces m (omega arith))))
        (rising_gather n (omega arith)) (pieces n (omega arith))

    -- the first k of a run of k at least
    first_differ : u.k ≤ length (gather 10 f) → Different u z (take u.k (gather 10 f)) P
    first_differ h =
        let ps : List (Said A) = gather 10 f in
        let n : length (take u.k ps) ≡ u.k = length-take-le u.k ps h in
        let fine : Every Fine (none z) (take u.k ps)
        = every_take Fine (none z) u.k ps (every_gather_below Fine (none z) f 10 (λ m l. piece_fine m (f m) (pieces m l))) in
        record {
          count = n;
          boxes = λ i l. let w = fine i (omega arith) in (w.0, w.1);
          apart = λ i j l g q.
              let w = rising_gather 10 (omega arith) i j l (omega arith) in
              let a = get_or-take u.k ps i (none z) (omega arith) in
              let b = get_or-take u.k ps j (none z) g in
              let bad : ⊥ = ne w (sym (ap (λ (p : Said A). p.box) a) ∙ q ∙ ap (λ (p : Said A). p.box) b) in bad;
          each = λ i l. (fine i (omega arith)).2;
        }
      where
        ne : {a b : ℕ} → a < b → a ≡ b → ⊥
        ne l e = omega arith

-- ---- the points of a slot

module _ (u : SetUp) (slot : Slot) (P : ℕ → Four → Type 0) (above : (m : ℕ) → m < 10 → u.n ≤ m → held slot m ≡ false)
    (each : (m : ℕ) (f : Four) → m < 10 → (place_at slot m).point ≡ Held f → P (m + 1) f) where
  point_piece : (m : ℕ) → m < 10 → (p : Point) → (place_at slot m).point ≡ p → Piece u P m (held_at m p)
  point_piece m l Silent e = mute
  point_piece m l (Held f) e = one f (passes_below m u.n (held slot m) (ap is_held e) (above m l)) (each m f l e)

  point-length : (m : ℕ) (p : Point) → length (held_at m p) ≡ pick (is_held p) 1 0
  point-length m Silent = refl
  point-length m (Held f) = refl

  -- Where k are held at least, the k lowest are those of different boxes.
  pub points_differ : u.k ≤ count_below 10 (held slot) → Different u zero_four (take u.k (points slot.places)) P
  unfolding points
  points_differ h =
      let f : ℕ → List (Said Four) = λ m. held_at m (place_at slot m).point in
      let n = length-gather_count f (held slot) (λ m. point-length m (place_at slot m).point) 10 in
      first_differ u zero_four P f (λ m l. point_piece m l (place_at slot m).point refl) (omega arith)

-- ---- the recovery shares

module _ (u : SetUp) (shares : List (Option Pair)) (P : ℕ → Pair → Type 0) (above : (m : ℕ) → m < 10 → u.n ≤ m → is_some (share_at shares m) ≡ false)
    (each : (m : ℕ) (s : Pair) → m < 10 → share_at shares m ≡ Some s → P (m + 1) s) where
  share_piece : (m : ℕ) → m < 10 → (p : Option Pair) → share_at shares m ≡ p → Piece u P m (kept_at m p)
  share_piece m l None e = mute
  share_piece m l (Some s) e = one s (passes_below m u.n (is_some (share_at shares m)) (ap is_some e) (above m l)) (each m s l e)

  share-length : (m : ℕ) (p : Option Pair) → length (kept_at m p) ≡ pick (is_some p) 1 0
  share-length m None = refl
  share-length m (Some s) = refl

  -- Where k are kept at least, the k lowest are those of different boxes.
  pub lowest_differ : u.k ≤ length (share_points shares) → Different u no_pair (take u.k (share_points shares)) P
  unfolding share_points
  lowest_differ h =
      first_differ u no_pair P (λ m. kept_at m (share_at shares m)) (λ m l. share_piece m l (share_at shares m) refl) h

  -- Where k are kept, they are.
  pub shares_differ : shares_kept shares ≡ u.k → Different u no_pair (share_points shares) P
  unfolding share_points shares_kept
  shares_differ h =
      let n : length (share_points shares) ≡ u.k
      = length-gather_count _ (λ m. is_some (share_at shares m)) (λ m. share-length m (share_at shares m)) 10 ∙ h in
      subst (λ (ps : List (Said Pair)). Different u no_pair ps P) (take_all u.k (share_points shares) (omega arith))
      (lowest_differ (omega arith))

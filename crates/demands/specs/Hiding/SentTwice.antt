-- What a box that keeps the rules has sent in two runs: sends, echoes and readies for the dealt matrix, the second run's moved.
--
-- In order: a message that such a box sends; it is read as it was written; to the set it is the same bytes; what one call sent to each box,
-- and the message to one of them; all that a box has sent.
-- Assumes nothing.
use Rattle.std.specs.Prelude.{◌≡◌, true, length, get_or}
use Rattle.std.proofs.Math.Path.{refl, ap}
use Rattle.std.proofs.Common.{sym, ◌∙◌, not-suc-le-zero, le_of_suc-le-suc, arith, ltb-true}
use mathlib.Core.List.{List, [], ◌∷◌, ◌++◌}
use Prim.Native.Nat.{ℕ, zero, suc, ◌+◌, ◌*◌, ◌%◌, ◌<◌, ◌≤◌}
use Rattle.folds.specs.Tests.{and_left, and_right}
use Rattle.folds.specs.Below.{all_below_at}
use Rattle.folds.specs.Runs.{gather-same}
use Rattle.rules.specs.declared.Exponent.{Exponent}
use Rattle.rules.specs.declared.Four.{Four}
use Rattle.rules.specs.declared.Polynomials.{Polynomials}
use Rattle.rules.specs.Matrices.{coefficient}
use Rattle.rules.specs.declared.Message.{Message}
use Rattle.rules.specs.declared.Message.TheVariants.{Send as send, Echo as echo, Ready as ready, Recovery as recovery}
use Rattle.rules.specs.Messages.{two_bytes, matrix_bytes, coefficient_bytes, polynomial_bytes, tag_of, body_of, framed, bytes_of, to_each}
use Rattle.rules.specs.Dealing.{coefficients_below, polynomials_below, four_below}
use Rattle.rules.proofs.Laws.Lengths.{length-to_each}
use Rattle.rules.proofs.Laws.RoundTrip.{MatrixFits, PolynomialFits, PolynomialsFit, FourFits, Fits}
use Rattle.rules.proofs.Laws.Ranges.{four_room, remainders_room, dealt_room}
use Rattle.demands.specs.Terms.Histories.{message_to}
use Rattle.demands.specs.MessageTo.{message_to_lem}
use Rattle.demands.specs.Terms.Secrets.{z, difference, difference'}
use Rattle.demands.specs.Hiding.Moves.{Twice, numbers, in_set, q, dealt, zed, moved_by, moved_polynomials, moved_message}
use Rattle.demands.specs.Hiding.Hypotheses.{Given, size}
use Rattle.demands.specs.Hiding.Values.{coefficient_moved}
use Rattle.demands.specs.Hiding.Unseen.{moved_four_below, moved_polynomials_below, number_still, four_still}

-- ---- a message that box i sends

abbrev pub Proper : Twice → ℕ → Message → Type 0
Proper t i (send C P) =
    (i ≡ (numbers t).d) × (C ≡ dealt t) × (polynomials_below (q t) (numbers t).k P ≡ true) × PolynomialsFit (numbers t).k P
Proper t i (echo C f) = (C ≡ dealt t) × (four_below (q t) f ≡ true)
Proper t i (ready C f) = (C ≡ dealt t) × (four_below (q t) f ≡ true)
Proper t i (recovery s) = ⊥

pub moved_tag : (t : Twice) (i j : ℕ) (m : Message) → tag_of (moved_message t i j m) ≡ tag_of m
unfolding tag_of
moved_tag t i j (send C P) = refl
moved_tag t i j (echo C f) = refl
moved_tag t i j (ready C f) = refl
moved_tag t i j (recovery s) = refl

module _ (t : Twice) (h : Given t) where
  -- ---- it is read as it was written

  dealt_fits : MatrixFits (numbers t).k (dealt t)
  dealt_fits = dealt_room (numbers t) h.group_keeps_lem (size t h).high _ _

  four_fits : (f : Four) → four_below (q t) f ≡ true → FourFits f
  four_fits = four_room (numbers t) h.group_keeps_lem (size t h).high

  side_fits : (d j : ℕ) (a : List Exponent) → PolynomialFits (numbers t).k (moved_by t (λ w x. (x + d * w) % q t) j a)
  unfolding moved_by
  side_fits d j a = remainders_room (numbers t) h.group_keeps_lem (size t h).high _

  pub proper_fits : (i : ℕ) (m : Message) → Proper t i m → Fits (numbers t) m
  proper_fits i (send C P) p = (rw p.1 dealt_fits, p.3)
  proper_fits i (echo C f) p = (rw p.0 dealt_fits, four_fits f p.1)
  proper_fits i (ready C f) p = (rw p.0 dealt_fits, four_fits f p.1)
  proper_fits i (recovery s) p = absurd p

  pub moved_proper : (i j : ℕ) (m : Message) → Proper t i m → Proper t i (moved_message t i j m)
  moved_proper i j (send C P) p =
      let fits : PolynomialsFit (numbers t).k (moved_polynomials t j P) =
      record { a = side_fits _ j _; a2 = side_fits _ j _; b = side_fits _ j _; b2 = side_fits _ j _ } in
      (p.0, p.1, moved_polynomials_below t h j P, fits)
  moved_proper i j (echo C f) p = (p.0, moved_four_below t h _ f)
  moved_proper i j (ready C f) p = (p.0, moved_four_below t h _ f)
  moved_proper i j (recovery s) p = absurd p

  -- ---- to the set it is the same bytes

  module _ (i j : ℕ) (still : zed t j ≡ 0) where
    none : (w : ℕ) → w * zed t j ≡ 0
    none w = ap (λ v. w * v) still ∙ omega arith

    nil : (w : ℕ) → zed t j * w ≡ 0
    nil w = ap (λ v. v * w) still ∙ omega arith

    side_still : (d : ℕ) (a : List Exponent) → coefficients_below (q t) (numbers t).k a ≡ true
        → coefficient_bytes (numbers t).k (moved_by t (λ w x. (x + d * w) % q t) j a) ≡ coefficient_bytes (numbers t).k a
    unfolding coefficient_bytes coefficients_below
    side_still d a b =
        gather-same _ _ (numbers t).k (λ l lt. ap two_bytes (coefficient_moved t h (λ w x. (x + d * w) % q t) j a l lt
        ∙ number_still t h d (zed t j * z (numbers t) (in_set t) l) (coefficient a l) (nil _)
        (ltb-true _ _ (all_below_at _ (numbers t).k l b lt))))

    polynomials_still : (P : Polynomials) → polynomials_below (q t) (numbers t).k P ≡ true
        → polynomial_bytes (numbers t) (moved_polynomials t j P) ≡ polynomial_bytes (numbers t) P
    unfolding polynomial_bytes polynomials_below
    polynomials_still P b =
        let b1 = and_right (coefficients_below (q t) (numbers t).k P.a) _ b in
        let b2 = and_right (coefficients_below (q t) (numbers t).k P.a2) _ b1 in
        let δ = difference (numbers t) t.s t.s' in
        let δ' = difference' (numbers t) t.s t.s' in
        rw (
          side_still δ P.a (and_left _ _ b),
          side_still δ' P.a2 (and_left _ _ b1),
          side_still δ P.b (and_left _ _ b2),
          side_still δ' P.b2 (and_right (coefficients_below (q t) (numbers t).k P.b) _ b2),
        )

    pub set-bytes : (m : Message) → Proper t i m → bytes_of (numbers t) (moved_message t i j m) ≡ bytes_of (numbers t) m
    unfolding bytes_of body_of tag_of
    set-bytes (send C P) p =
        ap (λ (r : List ℕ). framed 1 ((numbers t).d ∷ two_bytes (numbers t).session ++ ((numbers t).k ∷ matrix_bytes (numbers t).k C ++ r)))
        (polynomials_still P p.2)
    set-bytes (echo C f) p =
        ap (λ (g : Four). bytes_of (numbers t) (echo C g)) (four_still t h (zed t i * zed t j) f (none (zed t i)) p.1)
    set-bytes (ready C f) p =
        ap (λ (g : Four). bytes_of (numbers t) (ready C g)) (four_still t h (zed t i * zed t j) f (none (zed t i)) p.1)
    set-bytes (recovery s) p = refl

-- ---- what one call sent

-- box i sent this to each box in the one run, and that in the other
pub record Twin (t : Twice) (i : ℕ) (run run' : List ℕ) : Type 0 where
  pub says : ℕ → Message
  pub tag : ℕ
  pub one_tag : (j : ℕ) → tag_of (says j) ≡ tag
  pub proper : (j : ℕ) → Proper t i (says j)
  pub first : run ≡ to_each (numbers t) says
  pub second : run' ≡ to_each (numbers t) (λ j. moved_message t i j (says j))

pub twin_to : (t : Twice) (i : ℕ) (run run' : List ℕ) (w : Twin t i run run') (j : ℕ) → 1 ≤ j → j ≤ (numbers t).n
    → (message_to (numbers t).n run j ≡ bytes_of (numbers t) (w.says j))
    × (message_to (numbers t).n run' j ≡ bytes_of (numbers t) (moved_message t i j (w.says j)))
twin_to t i run run' w j a b =
    let u = numbers t in (
      ap (λ (r : List ℕ). message_to u.n r j) w.first ∙ message_to_lem u w.says w.tag w.one_tag j a b,
      ap (λ (r : List ℕ). message_to u.n r j) w.second
          ∙ message_to_lem u (λ j. moved_message t i j (w.says j)) w.tag (λ j. moved_tag t i j (w.says j) ∙ w.one_tag j) j a b,
    )

-- the runs are of one length
pub twin_length : (t : Twice) (i : ℕ) (run run' : List ℕ) → Twin t i run run' → length run ≡ length run'
twin_length t i run run' w =
    ap length w.first
    ∙ length-to_each (numbers t) w.says w.tag w.one_tag
    ∙ sym (length-to_each (numbers t) (λ j. moved_message t i j (w.says j)) w.tag (λ j. moved_tag t i j (w.says j) ∙ w.one_tag j))
    ∙ ap length (sym w.second)

-- ---- all that a box has sent

unfoldable pub Twins : Twice → ℕ → List (List ℕ) → List (List ℕ) → Type 0
Twins t i [] [] = Unit {0}
Twins t i [] (b ∷ m) = ⊥
Twins t i (a ∷ l) [] = ⊥
Twins t i (a ∷ l) (b ∷ m) = Twin t i a b × Twins t i l m

module _ (t : Twice) (i : ℕ) where
  pub twins_none : Twins t i [] []
  unfolding Twins
  twins_none = tt

  pub twins_more : (l m : List (List ℕ)) (a b : List ℕ) → Twins t i l m → Twin t i a b → Twins t i (l ++ a ∷ []) (m ++ b ∷ [])
  unfolding Twins
  twins_more [] [] a b w v = (v, tt)
  twins_more [] (y ∷ m) a b w v = absurd w
  twins_more (x ∷ l) [] a b w v = absurd w
  twins_more (x ∷ l) (y ∷ m) a b w v = (w.0, twins_more l m a b w.1 v)

  pub twins_length : (l m : List (List ℕ)) → Twins t i l m → length l ≡ length m
  unfolding Twins
  twins_length [] [] w = refl
  twins_length [] (y ∷ m) w = absurd w
  twins_length (x ∷ l) [] w = absurd w
  twins_length (x ∷ l) (y ∷ m) w = ap suc (twins_length l m w.1)

  pub twins_at : (l m : List (List ℕ)) → Twins t i l m → (p : ℕ) → p < length l → Twin t i (get_or l p []) (get_or m p [])
  unfolding Twins
  twins_at [] [] w p h = absurd (not-suc-le-zero h)
  twins_at [] (y ∷ m) w p h = absurd w
  twins_at (x ∷ l) [] w p h = absurd w
  twins_at (x ∷ l) (y ∷ m) w zero h = w.0
  twins_at (x ∷ l) (y ∷ m) w (suc p) h = twins_at l m w.1 p (le_of_suc-le-suc h)

-- What a box sends from moved polynomials and from moved points moves as stated.
--
-- In order: points and pairs that are the same number by number; from moved polynomials; from moved points.
-- Assumes nothing.
use Rattle.std.specs.Prelude.{◌≡◌}
use Rattle.std.proofs.Math.Path.{refl, ap, ap₂}
use Rattle.std.proofs.Common.{sym, ◌∙◌, mul_comm}
use mathlib.Core.List.{List, map, map-map}
use Prim.Native.Nat.{ℕ, ◌+◌, ◌*◌, ◌%◌, ◌<◌}
use native.Mathlib.Omega.{arith}
use Rattle.std.proofs.Math.ListN.{length, get_or, get_or-map}
use Rattle.std.proofs.lemmas.List.{length-map}
use Rattle.folds.specs.Stores.{map_at}
use Rattle.algebra.proofs.Sums.{sum_moves}
use Rattle.algebra.specs.Interpolation.{interpolate}
use Rattle.algebra.proofs.Interpolation.{interpolate_cong, interpolate_moves}
use Rattle.rules.specs.declared.Exponent.{Exponent}
use Rattle.rules.specs.declared.Four.{Four}
use Rattle.rules.specs.declared.Pair.{Pair}
use Rattle.rules.specs.declared.Polynomials.{Polynomials}
use Rattle.rules.specs.Numbers.{exponent}
use Rattle.rules.specs.Matrices.{coefficient, α, α', β, β', zero_four}
use Rattle.rules.specs.Dealing.{value_at}
use Rattle.rules.specs.Steps.{Said, through, pair_from, ready_four, echo_four}
use Rattle.rules.proofs.Laws.Matrices.{coefficient_at}
use Rattle.demands.specs.Terms.Dealing.{none, Different}
use Rattle.demands.specs.Sharing.{box_at, say_at, places, through_boxes}
use Rattle.demands.specs.Terms.Secrets.{z, difference, difference'}
use Rattle.demands.specs.Matching.{z_at}
use Rattle.demands.specs.Hiding.Moves.{Twice, numbers, in_set, q, zed, moved_four, moved_pair, moved_by, moved_polynomials, moved_said}
use Rattle.demands.specs.Hiding.Hypotheses.{Given, size, q_prime, sound_numbers}

-- ---- number by number

four_same : (a b c d a' b' c' d' : ℕ) → a ≡ a' → b ≡ b' → c ≡ c' → d ≡ d'
    → ◌≡◌ {A = Four} (record { alpha = exponent a; alpha2 = exponent b; beta = exponent c; beta2 = exponent d })
    (record { alpha = exponent a'; alpha2 = exponent b'; beta = exponent c'; beta2 = exponent d' })
four_same a b c d a' b' c' d' e f g h = rw (e, f, g, h)

pair_same : (a b a' b' : ℕ) → a ≡ a' → b ≡ b'
    → ◌≡◌ {A = Pair} (record { first = exponent a; second = exponent b }) (record { first = exponent a'; second = exponent b' })
pair_same a b a' b' e f = rw (e, f)

module _ (t : Twice) (h : Given t) where
  -- ---- from moved polynomials

  -- coefficient l of a moved polynomial
  pub coefficient_moved : (shift : ℕ → ℕ → ℕ) (j : ℕ) (a : List Exponent) (l : ℕ) → l < (numbers t).k
      → coefficient (moved_by t shift j a) l ≡ shift (zed t j * z (numbers t) (in_set t) l) (coefficient a l)
  unfolding moved_by
  coefficient_moved shift j a l lt =
      coefficient_at (numbers t).k (λ l. shift (zed t j * z (numbers t) (in_set t) l) (coefficient a l)) (size t h).high l lt

  module _ (d : ℕ) where
    abbrev by : ℕ → ℕ → ℕ
    by w x = (x + d * w) % q t

    value_moved : (i x : ℕ) (a : List Exponent)
        → value_at (q t) (numbers t).k (moved_by t by i a) x ≡ by (zed t i * zed t x) (value_at (q t) (numbers t).k a x)
    unfolding value_at z_at
    value_moved i x a =
        let k = (numbers t).k in
        let zs = z (numbers t) (in_set t) in
        sum_moves (q t) k d (zed t i) x (coefficient a) (coefficient (moved_by t by i a)) zs
        (λ l lt. coefficient_moved by i a l lt ∙ ap (λ v. (coefficient a l + d * v) % q t) (mul_comm (zed t i) (zs l)))
        ∙ ap (λ v. (value_at (q t) k a x + d * v) % q t) (mul_comm (zed t x) (zed t i))

    -- through the points of different boxes
    through_moved : {P : ℕ → Four → Type 0} (i x : ℕ) (ps : List (Said Four)) → Different (numbers t) zero_four ps P
        → (number : Four → ℕ) → number zero_four ≡ 0 → ((w : ℕ) (f : Four) → number (moved_four t w f) ≡ by w (number f))
        → through (q t) (map (moved_said t i) ps) number x ≡ by (zed t i * zed t x) (through (q t) ps number x)
    unfolding through z_at
    through_moved i x ps e number nought reads =
        let u = numbers t in
        let s = sound_numbers t h in
        let boxes : ℕ → ℕ = box_at u s e in
        let says : ℕ → ℕ = λ j. number (say_at u s e j) in
        let moved : List (Said Four) = map (moved_said t i) ps in
        ap (λ n. interpolate (q t) n (λ j. get_or (map (λ p. p.box) moved) j 0) (λ j. get_or (map (λ p. number p.says) moved) j 0) x)
        (length-map ps (moved_said t i) ∙ e.count)
        ∙ interpolate_cong (q t) u.k _ boxes _ (λ j. (says j + d * (zed t (boxes j) * zed t i)) % q t) x
        (λ j l.
        ap (λ (m : List ℕ). get_or m j 0) (map-map (λ (p : Said Four). p.box) (moved_said t i) ps)
        ∙ get_or-map (λ (p : Said Four). p.box) ps j (none zero_four))
        (λ j l.
        let n = e.count in
        let lt : j < length ps = omega arith in
        ap (λ v. v % q t)
        (ap (λ (m : List ℕ). get_or m j 0) (map-map (λ (p : Said Four). number p.says) (moved_said t i) ps)
        ∙ map_at (λ (p : Said Four). number (moved_said t i p).says) (none zero_four) 0 ps j lt
        ∙ reads (zed t i * zed t (boxes j)) (say_at u s e j)
        ∙ ap (λ v. (says j + d * v) % q t) (mul_comm (zed t i) (zed t (boxes j)))))
        ∙ interpolate_moves (q t) (q_prime t h) u.k boxes (places u s e) says (z u (in_set t)) d (zed t i) x
        ∙ ap₂ (λ v w. (v + d * w) % q t) (sym (through_boxes u s e number nought x)) (mul_comm (zed t x) (zed t i))

  abbrev δ : ℕ
  δ = difference (numbers t) t.s t.s'

  abbrev δ' : ℕ
  δ' = difference' (numbers t) t.s t.s'

  pub echo_moved : (i j : ℕ) (P : Polynomials)
      → echo_four (q t) (numbers t).k (moved_polynomials t i P) j ≡ moved_four t (zed t i * zed t j) (echo_four (q t) (numbers t).k P j)
  unfolding echo_four
  echo_moved i j P =
      four_same _ _ _ _ _ _ _ _
      (value_moved δ i j P.a) (value_moved δ' i j P.a2) (value_moved δ i j P.b) (value_moved δ' i j P.b2)

  -- ---- from moved points

  module _ {P : ℕ → Four → Type 0} (i : ℕ) (ps : List (Said Four)) (e : Different (numbers t) zero_four ps P) where
    pub ready_moved : (j : ℕ) → ready_four (q t) (map (moved_said t i) ps) j ≡ moved_four t (zed t i * zed t j) (ready_four (q t) ps j)
    unfolding ready_four
    ready_moved j =
        four_same _ _ _ _ _ _ _ _
        (through_moved δ i j ps e β refl (λ w f. refl)) (through_moved δ' i j ps e β' refl (λ w f. refl))
        (through_moved δ i j ps e α refl (λ w f. refl)) (through_moved δ' i j ps e α' refl (λ w f. refl))

    pub pair_moved : pair_from (q t) (map (moved_said t i) ps) ≡ moved_pair t (zed t i * zed t 0) (pair_from (q t) ps)
    unfolding pair_from
    pair_moved =
        pair_same _ _ _ _
        (through_moved δ i 0 ps e β refl (λ w f. refl)) (through_moved δ' i 0 ps e β' refl (λ w f. refl))

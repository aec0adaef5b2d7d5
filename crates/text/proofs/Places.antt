-- What the library says of a part of a text, said of places of the whole.
--
-- In order: bytes from a place on; the first of them that passes; a digit; a word that stands there; digits of a part; a number that
-- may not fit, and a word in place of a part; what stands behind a part, filled anew.
-- Assumes nothing.
use Rattle.std.specs.Prelude.{Bool, true, false, not, List, [], ◌∷◌, ◌≡◌, refl, ℕ, zero, suc, ◌+◌, ◌-◌, ◌*◌, ◌<◌, ◌≤◌, eqb, leb, ltb, length, get_or, take, drop, ◌++◌, Some, None, Result, Ok, Err}
use Rattle.std.proofs.Common.{sym, ap, ap₂, ◌∙◌, arith, length-drop, get_or-drop, length-take-le, get_or-take, drop-drop, drop_of_length-le, append_assoc, append-nil, length-append, eqb-true, eq-eqb, ltb-false}
use Rattle.std.proofs.Math.Seq.{take-append_seam, drop-append_seam, take-length}
use Rattle.std.specs.List.{refill}
use Rattle.folds.specs.Runs.{sets-front}
use Rattle.std.proofs.Math.Bool.{◌&&◌}
use Rattle.std.specs.Char.{is_ascii_digit}
use Rattle.std.specs.Option.{unwrap_or}
use Rattle.std.specs.Result.{OkIff}
use Rattle.std.proofs.lemmas.List.Edits.{sets, sets-eq}
use Rattle.std.specs.Cmp.Lexicographic.{pointwise}
use borrow.Author.Tests.{lt-ltb}
use Rattle.folds.specs.Tests.{◌and◌, pick, true≢false, and_right, iff_same}
use Rattle.folds.specs.Below.{first_from, first_from_le, found, all_below, all_below_at, all_below_all, all_below_same}
use Rattle.rules.specs.Text.{byte_at, digit_at, word_at}
use Rattle.text.specs.Decimals.{byte_there, byte_within}
use Rattle.text.specs.Hexadecimal.{is_hex_digit, hex_at, hex_stands, hex_there}

-- ---- from a place on

pub byte_behind_place : (b : List ℕ) (i j : ℕ) → get_or (drop i b) j 0 ≡ get_or b (i + j) 0
byte_behind_place b i j = get_or-drop i b j 0

pub part_at : (b : List ℕ) (i m j : ℕ) → j < m → get_or (take m (drop i b)) j 0 ≡ get_or b (i + j) 0
part_at b i m j l = get_or-take m (drop i b) j 0 l ∙ byte_behind_place b i j

-- ---- the first that passes, and a digit

-- the place that was found, or the end
pub found_or : (n : ℕ) (p : ℕ → Bool) → unwrap_or (found n p) n ≡ first_from n 0 p
found_or n p = go (ltb (first_from n 0 p) n) refl (first_from_le p n 0)
  where
    go : (t : Bool) → ltb (first_from n 0 p) n ≡ t → first_from n 0 p ≤ 0 + n → unwrap_or (pick t (Some (first_from n 0 p)) None) n ≡ first_from n 0 p
    go true e h = refl
    go false e h = let l = ltb-false (first_from n 0 p) n e in omega arith

-- a digit is one of the ten, as the library tests it
pub digit_there : (b : List ℕ) (j : ℕ) → j < length b → not (digit_at b j) ≡ not (is_ascii_digit (get_or b j 0))
digit_there b j l = ap (λ (t : Bool). not (t and leb 48 (get_or b j 0) and leb (get_or b j 0) 57)) (lt-ltb j (length b) l)

-- ---- a word

both : (p q : Bool) → (p && q) ≡ true → (p ≡ true) × (q ≡ true)
both true q h = (refl, h)
both false q h = absurd (true≢false (sym h))

pairs_at : (w s : List ℕ) → pointwise eqb w (take (length w) s) ≡ true → (j : ℕ) → j < length w → (j < length s) × (get_or s j 0 ≡ get_or w j 0)
pairs_at [] s e j l = absurd (omega arith)
pairs_at (x ∷ w) [] e j l = absurd (true≢false (sym e))
pairs_at (x ∷ w) (y ∷ s) e zero l = (omega arith, sym (eqb-true x y (both (eqb x y) (pointwise eqb w (take (length w) s)) e).0))
pairs_at (x ∷ w) (y ∷ s) e (suc j) l =
    let h = pairs_at w s (both (eqb x y) (pointwise eqb w (take (length w) s)) e).1 j (omega arith) in
    (omega (arith, h.0), h.1)

at_pairs : (w s : List ℕ) → ((j : ℕ) → j < length w → (j < length s) × (get_or s j 0 ≡ get_or w j 0)) → pointwise eqb w (take (length w) s) ≡ true
at_pairs [] s h = refl
at_pairs (x ∷ w) [] h = absurd (omega (arith, (h 0 (omega arith)).0))
at_pairs (x ∷ w) (y ∷ s) h =
    rw (eq-eqb x y (sym (h 0 (omega arith)).1))
    (at_pairs w s (λ j l. let g = h (suc j) (omega arith) in (omega (arith, g.0), g.1)))

pub word_starts : (b : List ℕ) (i : ℕ) (w : List ℕ) → pointwise eqb w (take (length w) (drop i b)) ≡ word_at b i w
unfolding word_at
word_starts b i w = iff_same _ _ to from
  where
    to : pointwise eqb w (take (length w) (drop i b)) ≡ true → all_below (length w) (λ j. byte_at b (i + j) (get_or w j 0)) ≡ true
    to e =
        all_below_all _ (length w)
        (λ j l.
        let h = pairs_at w (drop i b) e j l in
        let n = length-drop i b in
        let m = h.0 in
        byte_there b (i + j) (get_or w j 0) (omega arith) ∙ eq-eqb _ _ (sym (byte_behind_place b i j) ∙ h.1))

    from : all_below (length w) (λ j. byte_at b (i + j) (get_or w j 0)) ≡ true → pointwise eqb w (take (length w) (drop i b)) ≡ true
    from e =
        at_pairs w (drop i b)
        (λ j l.
        let h = all_below_at (λ j. byte_at b (i + j) (get_or w j 0)) (length w) j e l in
        let n = length-drop i b in
        let m = byte_within b (i + j) (get_or w j 0) h in
        (omega arith, byte_behind_place b i j ∙ eqb-true _ _ (and_right (ltb (i + j) (length b)) (eqb (get_or b (i + j) 0) (get_or w j 0)) h)))

-- ---- digits of a part

pub hex_part : (b : List ℕ) (i n m : ℕ) → m ≡ 2 * n → i + 2 * n ≤ length b
    → all_below (length (take m (drop i b))) (λ j. is_hex_digit (get_or (take m (drop i b)) j 0)) ≡ hex_at b i n
unfolding hex_at
hex_part b i n m e h =
    let long = length-drop i b in
    let width : length (take m (drop i b)) ≡ 2 * n = length-take-le m (drop i b) (omega arith) ∙ e in
    ap (λ (k : ℕ). all_below k (λ j. is_hex_digit (get_or (take m (drop i b)) j 0))) width
    ∙ all_below_same _ (hex_stands b i) (2 * n)
    (λ j l. ap is_hex_digit (part_at b i m j (omega arith)) ∙ sym (hex_there b i j (omega arith)))

-- ---- a number that may not fit, and a word in place of a part

pub narrow_ok : {E P : Type 0} {x : ℕ} (r : Result ℕ E) {n : ℕ} → OkIff r P x → r ≡ Ok n → P × (n ≡ x)
narrow_ok (Ok m) {n} h e = (h.0, let k : n ≡ m = cc in k ∙ h.1)
narrow_ok (Err z) h e = cc

pub narrow_err : {E P : Type 0} (x : ℕ) (r : Result ℕ E) {z : E} → OkIff r P x → r ≡ Err z → P → ⊥
narrow_err x (Ok m) h e p = cc
narrow_err x (Err z) h e p = h p

pub sets_mid : (xs ys w : List ℕ) (at k : ℕ) → ys ≡ w → k ≡ length w → at + length w ≤ length xs → take at xs ++ (ys ++ drop k (drop at xs)) ≡ sets xs at w
sets_mid xs ys w at k e n h =
    ap₂ (λ (v : List ℕ) (j : ℕ). take at xs ++ (v ++ drop j (drop at xs))) e n
    ∙ ap (λ (t : List ℕ). take at xs ++ (w ++ t)) (drop-drop (length w) at xs)
    ∙ sym (append_assoc (take at xs) w (drop (at + length w) xs))
    ∙ sym (sets-eq w xs at h)

-- what stands behind p, filled anew by as many
pub filled_behind : (p b h : List ℕ) {xs ys : List ℕ} {at : ℕ} → xs ≡ p ++ b → at ≡ length p → length h ≡ length b
    → ys ≡ sets (take (length xs - at) (drop at xs)) 0 h
    → refill (length xs) xs (take at xs ++ (ys ++ drop (length xs - at) (drop at xs))) ≡ p ++ h
filled_behind p b h {xs} {ys} {at} ex ea el ey =
    let long : length xs - at ≡ length b = omega (arith, ap length ex, length-append p b) in
    let front : take at xs ≡ p = ap₂ (λ (n : ℕ) (l : List ℕ). take n l) ea ex ∙ take-append_seam p b in
    let back : drop at xs ≡ b = ap₂ (λ (n : ℕ) (l : List ℕ). drop n l) ea ex ∙ drop-append_seam p b in
    let none : drop (length b) b ≡ [] = drop_of_length-le b (omega arith) in
    let filled : ys ≡ h =
    ey ∙ ap₂ (λ (n : ℕ) (l : List ℕ). sets (take n l) 0 h) long back ∙ ap (λ (l : List ℕ). sets l 0 h) (take-length b) ∙ sets-front b h (omega arith)
    ∙ ap (λ (n : ℕ). h ++ drop n b) el ∙ ap (λ (l : List ℕ). h ++ l) none ∙ append-nil h in
    let whole : take at xs ++ (ys ++ drop (length xs - at) (drop at xs)) ≡ p ++ h =
    ap₂ (λ (l m : List ℕ). l ++ m) front
    (ap₂ (λ (l m : List ℕ). l ++ m) filled (ap₂ (λ (n : ℕ) (l : List ℕ). drop n l) long back ∙ none) ∙ append-nil h) in
    let n : length (p ++ h) ≡ length xs = omega (arith, length-append p h, length-append p b, ap length ex) in
    ap (refill (length xs) xs) whole
    ∙ ap (λ (k : ℕ). take (length xs) ((p ++ h) ++ drop k xs)) n
    ∙ ap (λ (l : List ℕ). take (length xs) ((p ++ h) ++ l)) (drop_of_length-le xs (omega arith))
    ∙ ap (take (length xs)) (append-nil (p ++ h))
    ∙ ap (λ (k : ℕ). take k (p ++ h)) (sym n)
    ∙ take-length (p ++ h)

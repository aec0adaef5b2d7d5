-- Runs of bytes one behind the other (`gather`), and runs of stores (`sets` of std's `List.Edits`: l with vs stored from index i).
--
-- In order: the definition; stores behind stores; stores in a lent tail, said of the whole; a loop that writes one run after the other;
-- where a run stands in another (`Stands`); runs of one element each; what holds of every element (`Every`); the first k of one more
-- element; runs changed element by element.
-- Assumes nothing.
use Prim.Native.Nat.{ℕ, zero, suc, ◌+◌, ◌-◌, ◌*◌, ◌<◌, ◌≤◌, suc-le-suc}
use Rattle.std.proofs.Common.{le_refl, add-zero, add-suc, zero-mul, mul-one, not-suc-le-zero, le_of_suc-le-suc, eq-or-lt_of_le, add-one, ◌∙◌, length-take, length-drop, take-append-drop, drop_of_length-le, take_all, get_or-take, drop-drop, drop_at, drop-cons, get_or-drop, leb-true, leb-false}
use Rattle.std.proofs.Math.Nat.{suc-mul}
use native.Mathlib.Omega.{arith}
use Rattle.std.specs.Prelude.{Bool, true, false, ◌≡◌, leb, length, set, get_or, take, drop}
use Rattle.std.proofs.Math.Logic.{⊎_elim}
use Rattle.std.proofs.Math.Path.{refl, sym, ap, ap₂, subst}
use mathlib.Core.List.{List, [], ◌∷◌, ◌++◌, map, map-append, append_assoc, append-nil}
use Rattle.std.proofs.Math.ListN.{length-append}
use Rattle.std.proofs.lemmas.List.{take-append-le, drop-set-add, take-set-le}
use Rattle.std.proofs.lemmas.List.Edits.{sets, sets-eq}
use Rattle.folds.specs.Tests.{pick}
use Rattle.folds.specs.Below.{count_below}

-- f 0, f 1, .. f (n - 1), one behind the other
unfoldable pub gather : {A : Type 0} → ℕ → (ℕ → List A) → List A
gather zero f = []
gather (suc n) f = gather n f ++ f n

-- the same runs, one behind the other
pub gather-same : {A : Type 0} (f g : ℕ → List A) (n : ℕ) → ((i : ℕ) → i < n → f i ≡ g i) → gather n f ≡ gather n g
unfolding gather
gather-same f g zero h = refl
gather-same f g (suc n) h = ap₂ (λ a b. a ++ b) (gather-same f g n (λ i l. h i (omega arith))) (h n (omega arith))

module _ {A : Type 0} where
  -- a run of stores behind another is one run
  pub sets-append : (l : List A) (i : ℕ) (a b : List A) → sets (sets l i a) (i + length a) b ≡ sets l i (a ++ b)
  sets-append l i [] b = rw (add-zero i)
  sets-append l i (x ∷ a) b =
      let e : i + suc (length a) ≡ suc i + length a = omega arith in
      rw e (sets-append (set l i x) (suc i) a b)

  pub sets_then : (l : List A) (i j : ℕ) (a b : List A) → j ≡ i + length a → sets (sets l i a) j b ≡ sets l i (a ++ b)
  sets_then l i j a b e = ap (λ (n : ℕ). sets (sets l i a) n b) e ∙ sets-append l i a b

  -- a run of stores in the tail is one in the whole
  tail_from : (l : List A) (n i : ℕ) (vs : List A) → take n l ++ sets (drop n l) i vs ≡ sets l (n + i) vs
  tail_from l n i [] = take-append-drop n l
  tail_from l n i (v ∷ vs) =
      ap (λ (t : List A). t ++ sets (set (drop n l) i v) (suc i) vs) (sym (take-set-le n l (n + i) v (omega arith)))
      ∙ ap (λ (t : List A). take n (set l (n + i) v) ++ sets t (suc i) vs) (sym (drop-set-add n l i v))
      ∙ tail_from (set l (n + i) v) n (suc i) vs
      ∙ ap (λ (k : ℕ). sets (set l (n + i) v) k vs) (add-suc n i)

  pub sets_tail : (l : List A) (n : ℕ) (vs : List A) → take n l ++ sets (drop n l) 0 vs ≡ sets l n vs
  sets_tail l n vs = tail_from l n 0 vs ∙ ap (λ (k : ℕ). sets l k vs) (add-zero n)

  -- what a writer that was lent `&mut out[at..]` did in that part, said of the whole
  pub part_whole : (xs : List A) (at : ℕ) → take (length xs - at) (drop at xs) ≡ drop at xs
  part_whole xs at = take_all (length xs - at) (drop at xs) (rw (length-drop at xs) (le_refl _))

  pub sets_part : (xs : List A) (at : ℕ) (ys vs : List A) → ys ≡ sets (take (length xs - at) (drop at xs)) 0 vs
      → take at xs ++ (ys ++ drop (length xs - at) (drop at xs)) ≡ sets xs at vs
  sets_part xs at ys vs e =
      let none : drop (length xs - at) (drop at xs) ≡ [] = drop_of_length-le (drop at xs) {i = length xs - at} (rw (length-drop at xs) (le_refl _)) in
      ap (λ (t : List A). take at xs ++ (ys ++ t)) none
      ∙ ap (λ (t : List A). take at xs ++ t) (append-nil ys ∙ e ∙ ap (λ (t : List A). sets t 0 vs) (part_whole xs at))
      ∙ sets_tail xs at vs

  pub sets-front : (l vs : List A) → length vs ≤ length l → sets l 0 vs ≡ vs ++ drop (length vs) l
  sets-front l vs h =
      let e : 0 + length vs ≡ length vs = omega arith in
      let h' : 0 + length vs ≤ length l = omega arith in
      sets-eq vs l 0 h' ∙ ap (λ (k : ℕ). vs ++ drop k l) e

  module _ (f : ℕ → List A) where
    pub gather-zero : gather 0 f ≡ []
    unfolding gather
    gather-zero = refl

    pub gather-more : (i : ℕ) → gather (i + 1) f ≡ gather i f ++ f i
    unfolding gather
    gather-more i = rw (add-one i)

    pub length-gather : (w : ℕ) → ((i : ℕ) → length (f i) ≡ w) → (n : ℕ) → length (gather n f) ≡ n * w
    unfolding gather
    length-gather w h zero = sym (zero-mul w)
    length-gather w h (suc n) = length-append (gather n f) (f n) ∙ (rw (length-gather w h n, h n) (sym (suc-mul n w)))

    pub length-gather_le : (w : ℕ) → ((i : ℕ) → length (f i) ≤ w) → (n : ℕ) → length (gather n f) ≤ n * w
    unfolding gather
    length-gather_le w h zero = omega arith
    length-gather_le w h (suc n) =
        rw length-append (omega (arith, length-gather_le w h n, h n, suc-mul n w))

    -- where each piece has one element or none, the length is how many have one
    pub length-gather_count : (p : ℕ → Bool) → ((i : ℕ) → length (f i) ≡ pick (p i) 1 0) → (n : ℕ) → length (gather n f) ≡ count_below n p
    unfolding gather count_below
    length-gather_count p h zero = refl
    length-gather_count p h (suc n) = length-append (gather n f) (f n) ∙ ap₂ ◌+◌ (length-gather_count p h n) (h n)

    pub length-gather_more : (i : ℕ) → length (gather (i + 1) f) ≡ length (gather i f) + length (f i)
    length-gather_more i = ap length (gather-more i) ∙ length-append (gather i f) (f i)

    -- a turn of a loop that writes one more of the pieces
    pub sets-gather : (l : List A) (at j i : ℕ) → j ≡ at + length (gather i f) → sets (sets l at (gather i f)) j (f i) ≡ sets l at (gather (i + 1) f)
    sets-gather l at j i e = sets_then l at j (gather i f) (f i) e ∙ ap (sets l at) (sym (gather-more i))

-- r stands in s from p on
abbrev pub Stands : {A : Type 0} → List A → ℕ → List A → Type 0
Stands {A} s p r = (rest : List A) × (drop p s ≡ r ++ rest)

module _ {A : Type 0} (s : List A) where
  pub stands_at : (p q : ℕ) (r : List A) → p ≡ q → Stands s p r → Stands s q r
  stands_at p q r e h = subst (λ (i : ℕ). Stands s i r) e h

  -- a run that is one run behind another: the two, each at its place
  pub stands_left : (p : ℕ) (a b : List A) → Stands s p (a ++ b) → Stands s p a
  stands_left p a b h = (b ++ h.0, h.1 ∙ append_assoc a b h.0)

  behind : (p n : ℕ) (a rest : List A) → length a ≡ n → drop p s ≡ a ++ rest → drop (p + n) s ≡ rest
  behind p n a rest e h = sym (drop-drop n p s) ∙ ap (drop n) h ∙ drop_at a rest n e

  pub stands_right : (p n : ℕ) (a b : List A) → length a ≡ n → Stands s p (a ++ b) → Stands s (p + n) b
  stands_right p n a b e h = (h.0, behind p n a (b ++ h.0) e (h.1 ∙ append_assoc a b h.0))

  pub stands_both : (p n : ℕ) (a b : List A) → length a ≡ n → Stands s p a → Stands s (p + n) b → Stands s p (a ++ b)
  stands_both p n a b e h g =
      (g.0, h.1 ∙ ap (λ (t : List A). a ++ t) (sym (behind p n a h.0 e h.1) ∙ g.1) ∙ sym (append_assoc a b g.0))

  -- a run of pieces of one width: piece i, i widths further on
  module _ (f : ℕ → List A) (w : ℕ) (e : (i : ℕ) → length (f i) ≡ w) (p : ℕ) where
    pub stands_piece : (n i : ℕ) → i < n → Stands s p (gather n f) → Stands s (p + i * w) (f i)
    unfolding gather
    stands_piece zero i l h = absurd (not-suc-le-zero l)
    stands_piece (suc n) i l h =
        ⊎_elim
        (λ q. subst (λ (j : ℕ). Stands s (p + j * w) (f j)) (sym q) (stands_right p (n * w) (gather n f) (f n) (length-gather f w e n) h))
        (λ lt. stands_piece n i lt (stands_left p (gather n f) (f n) h))
        (eq-or-lt_of_le (le_of_suc-le-suc l))

    pub stands_gather : (n : ℕ) → ((i : ℕ) → i < n → Stands s (p + i * w) (f i)) → Stands s p (gather n f)
    unfolding gather
    stands_gather zero h = (drop p s, refl)
    stands_gather (suc n) h =
        stands_both p (n * w) (gather n f) (f n) (length-gather f w e n) (stands_gather n (λ i l. h i (omega arith))) (h n (omega arith))

  -- one element
  pub stands_reads : (p : ℕ) (x d : A) (r : List A) → Stands s p (x ∷ r) → get_or s p d ≡ x
  stands_reads p x d r h =
      ap (λ (i : ℕ). get_or s i d) (sym (add-zero p)) ∙ sym (get_or-drop p s 0 d) ∙ ap (λ (t : List A). get_or t 0 d) h.1

  pub stands_element : (p : ℕ) (d : A) → p < length s → Stands s p (get_or s p d ∷ [])
  stands_element p d l = (drop (suc p) s, drop-cons s p d l)

  -- a run that stands at the front and is as long is the whole
  pub stands_is : (r : List A) → length r ≡ length s → Stands s 0 r → r ≡ s
  stands_is r e h =
      let l = ap length h.1 ∙ length-append r h.0 in
      let none : length h.0 ≡ 0 = omega arith in
      sym (append-nil r) ∙ ap (λ (t : List A). r ++ t) (sym (empty h.0 none)) ∙ sym h.1
    where
      empty : (t : List A) → length t ≡ 0 → t ≡ []
      empty [] z = refl
      empty (x ∷ t) z = absurd (omega arith)

  -- four runs of one width, one behind the other, and the places p, q, r, t of each
  module _ (p q r t w : ℕ) (pq : p + w ≡ q) (qr : q + w ≡ r) (rt : r + w ≡ t) (a b c d : List A)
      (la : length a ≡ w) (lb : length b ≡ w) (lc : length c ≡ w) where
    length_two : length (a ++ b) ≡ w + w
    length_two = length-append a b ∙ ap₂ ◌+◌ la lb

    length_three : length (a ++ b ++ c) ≡ w + w + w
    length_three = length-append (a ++ b) c ∙ ap₂ ◌+◌ length_two lc

    pub stands_apart : Stands s p (a ++ b ++ c ++ d) → Stands s p a × Stands s q b × Stands s r c × Stands s t d
    stands_apart h =
        let h₃ = stands_left p (a ++ b ++ c) d h in
        let h₂ = stands_left p (a ++ b) c h₃ in (
          stands_left p a b h₂,
          stands_at (p + w) q b pq (stands_right p w a b la h₂),
          stands_at (p + (w + w)) r c (omega arith) (stands_right p (w + w) (a ++ b) c length_two h₃),
          stands_at (p + (w + w + w)) t d (omega arith) (stands_right p (w + w + w) (a ++ b ++ c) d length_three h),
        )

    pub stands_together : Stands s p a → Stands s q b → Stands s r c → Stands s t d → Stands s p (a ++ b ++ c ++ d)
    stands_together ha hb hc hd =
        stands_both p (w + w + w) (a ++ b ++ c) d length_three
        (stands_both p (w + w) (a ++ b) c length_two
        (stands_both p w a b la ha (stands_at q (p + w) b (sym pq) hb))
        (stands_at r (p + (w + w)) c (omega arith) hc))
        (stands_at t (p + (w + w + w)) d (omega arith) hd)

-- f 0, f 1, .. f (n - 1), an element each
module _ {A : Type 0} (n : ℕ) (f : ℕ → A) where
  pub length_singles : length (gather n (λ i. f i ∷ [])) ≡ n
  length_singles = length-gather (λ i. f i ∷ []) 1 (λ i. refl) n ∙ mul-one n

  pub get_or_singles : (i : ℕ) (d : A) → i < n → get_or (gather n (λ i. f i ∷ [])) i d ≡ f i
  get_or_singles i d l =
      let all = gather n (λ i. f i ∷ []) in
      let whole : Stands all 0 all = ([], sym (append-nil all)) in
      stands_reads all i (f i) d []
      (stands_at all (0 + i * 1) i (f i ∷ []) (omega arith) (stands_piece all (λ i. f i ∷ []) 1 (λ i. refl) 0 n i l whole))

-- every element has P
abbrev pub Every : {A : Type 0} → (A → Type 0) → A → List A → Type 0
Every P d l = (i : ℕ) → i < length l → P (get_or l i d)

module _ {A : Type 0} (P : A → Type 0) (d : A) where
  pub every_nil : Every P d []
  every_nil i l = absurd (not-suc-le-zero l)

  pub every_cons : (x : A) (a : List A) → P x → Every P d a → Every P d (x ∷ a)
  every_cons x a h g zero l = h
  every_cons x a h g (suc i) l = g i (le_of_suc-le-suc l)

  pub every_append : (a b : List A) → Every P d a → Every P d b → Every P d (a ++ b)
  every_append [] b h g = g
  every_append (x ∷ a) b h g = every_cons x (a ++ b) (h 0 (omega arith)) (every_append a b (λ i l. h (suc i) (suc-le-suc l)) g)

  pub every_gather : (f : ℕ → List A) → ((i : ℕ) → Every P d (f i)) → (n : ℕ) → Every P d (gather n f)
  unfolding gather
  every_gather f h zero = every_nil
  every_gather f h (suc n) = every_append (gather n f) (f n) (every_gather f h n) (h n)

  pub every_gather_below : (f : ℕ → List A) (n : ℕ) → ((i : ℕ) → i < n → Every P d (f i)) → Every P d (gather n f)
  unfolding gather
  every_gather_below f zero h = every_nil
  every_gather_below f (suc n) h = every_append (gather n f) (f n) (every_gather_below f n (λ i l. h i (omega arith))) (h n (omega arith))

  pub every_take : (k : ℕ) (l : List A) → Every P d l → Every P d (take k l)
  every_take k l h i lt =
      let e = length-take k l in
      let a : i < k = omega arith in
      let b : i < length l = omega arith in
      rw (get_or-take k l i d a) (h i b)

-- the first k of one more element: it counts where there are fewer than k
module _ {A : Type 0} (k : ℕ) (l : List A) where
  pub take_more : (x : A) → take k (l ++ x ∷ []) ≡ pick (leb k (length (take k l))) (take k l) (take k l ++ x ∷ [])
  take_more x = go (leb k (length (take k l))) refl
    where
      go : (b : Bool) → leb k (length (take k l)) ≡ b → take k (l ++ x ∷ []) ≡ pick b (take k l) (take k l ++ x ∷ [])
      go true e =
          let h = leb-true k _ e in
          let m = length-take k l in
          take-append-le k l (x ∷ []) (omega arith)
      go false e =
          let h = leb-false k _ e in
          let m = length-take k l in
          let n = length-append l (x ∷ []) in
          take_all k (l ++ x ∷ []) (omega arith) ∙ ap (λ (t : List A). t ++ x ∷ []) (sym (take_all k l (omega arith)))

-- each element changed: of the first k, and of runs one behind the other
module _ {A B : Type 0} (f : A → B) where
  pub map-take : (k : ℕ) (l : List A) → map f (take k l) ≡ take k (map f l)
  map-take zero l = refl
  map-take (suc k) [] = refl
  map-take (suc k) (x ∷ l) = ap (λ (t : List B). f x ∷ t) (map-take k l)

  pub map-gather : (g : ℕ → List A) (n : ℕ) → map f (gather n g) ≡ gather n (λ i. map f (g i))
  unfolding gather
  map-gather g zero = refl
  map-gather g (suc n) = map-append f (gather n g) (g n) ∙ ap (λ (t : List B). t ++ map f (g n)) (map-gather g n)

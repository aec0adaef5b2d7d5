-- Arrays filled from the front: `stores n f l` is l with f 0, f 1, .. f (n - 1) stored one after the other.
--
-- In order: the definition; what a loop that fills an array uses (`-zero`, `_more`, `_turn`, `_left`); its length; what stands at
-- each index; what one store leaves true of each index; an array filled from a list, and one more element of the list; arrays changed
-- element by element (`map`, and `map_from` by the index), and a store in them.
-- Assumes nothing.
use Prim.Native.Nat.{ℕ, zero, suc, ◌+◌, ◌<◌, ◌≤◌}
use Rattle.std.proofs.Common.{add-zero, le_of_suc-le-suc, not-suc-le-zero, eq-or-lt_of_le, add-one, subst, ◌∙◌, length-append, ext_get_or}
use Rattle.std.proofs.Math.Nat.{lt_irrefl}
use Rattle.std.proofs.Math.Decide.{ℕ_discrete}
use native.Mathlib.Omega.{arith}
use Rattle.std.proofs.Math.Logic.{⊎_elim}
use Rattle.std.specs.Prelude.{◌≡◌}
use Rattle.std.proofs.Math.Path.{refl, sym, ap, ap₂}
use mathlib.Core.List.{List, [], ◌∷◌, ◌++◌, map}
use Rattle.std.proofs.Math.ListN.{length, set, get_or, length-set}
use Rattle.std.proofs.Math.Seq.{get_or-set_same, get_or-set_other}

unfoldable pub stores : {A : Type 0} → ℕ → (ℕ → A) → List A → List A
stores zero f l = l
stores (suc n) f l = set (stores n f l) n (f n)

module _ {A : Type 0} (f : ℕ → A) (l : List A) where
  pub stores-zero : stores 0 f l ≡ l
  unfolding stores
  stores-zero = refl

  pub stores_more : (i : ℕ) → stores (i + 1) f l ≡ set (stores i f l) i (f i)
  unfolding stores
  stores_more i = rw (add-one i)

  -- a turn: the next one is stored
  pub stores_turn : (i : ℕ) {made : List A} {x : A} → made ≡ stores i f l → x ≡ f i → set made i x ≡ stores (i + 1) f l
  stores_turn i e h = ap₂ (λ (t : List A) (y : A). set t i y) e h ∙ sym (stores_more i)

  -- the loop is left
  pub stores_left : (i k : ℕ) {made : List A} → i ≤ k → k ≤ i → made ≡ stores i f l → made ≡ stores k f l
  stores_left i k a b e = let q : i ≡ k = omega arith in rw q at e

  pub length-stores : (n : ℕ) → length (stores n f l) ≡ length l
  unfolding stores
  length-stores zero = refl
  length-stores (suc n) = length-set (stores n f l) n (f n) ∙ length-stores n

  -- only what f is below n counts
  pub stores_same : (g : ℕ → A) (n : ℕ) → ((i : ℕ) → i < n → f i ≡ g i) → stores n f l ≡ stores n g l
  unfolding stores
  stores_same g zero h = refl
  stores_same g (suc n) h = ap₂ (λ (t : List A) (x : A). set t n x) (stores_same g n (λ i lt. h i (omega arith))) (h n (omega arith))

  -- what was stored, and what was not
  pub get_or-stores : (n i : ℕ) (d : A) → i < n → i < length l → get_or (stores n f l) i d ≡ f i
  unfolding stores
  get_or-stores zero i d h g = absurd (not-suc-le-zero h)
  get_or-stores (suc n) i d h g =
      ⊎_elim
      (λ e. ap (λ (k : ℕ). get_or (set (stores n f l) n (f n)) k d) e ∙ get_or-set_same (stores n f l) n (f n) d (let w = length-stores n in let z : n < length (stores n f l) = omega arith in z) ∙ ap f (sym e))
      (λ lt. get_or-set_other (stores n f l) n i (f n) d (λ e. lt_irrefl n (subst (λ (k : ℕ). k < n) e lt)) ∙ get_or-stores n i d lt g)
      (eq-or-lt_of_le (le_of_suc-le-suc h))

  pub get_or-stores_behind : (n i : ℕ) (d : A) → n ≤ i → get_or (stores n f l) i d ≡ get_or l i d
  unfolding stores
  get_or-stores_behind zero i d h = refl
  get_or-stores_behind (suc n) i d h =
      get_or-set_other (stores n f l) n i (f n) d (λ e. let w : ⊥ = omega arith in w) ∙ get_or-stores_behind n i d (omega arith)

  -- a list whose every element was stored
  pub stores_is : (n : ℕ) (xs : List A) (d : A) → length l ≡ n → length xs ≡ n → ((i : ℕ) → i < n → f i ≡ get_or xs i d) → stores n f l ≡ xs
  stores_is n xs d e g h =
      let w = length-stores n in
      ext_get_or d (stores n f l) xs (w ∙ e ∙ sym g) (λ i lt. let z : i < n = omega arith in get_or-stores n i d z (omega arith) ∙ h i z)

-- an element anew: what holds of it there and of each other one holds of each
pub set-each {ℓ} : {A : Type 0} (P : ℕ → A → Type ℓ) (l : List A) (s : ℕ) (v d : A) → s < length l → P s v → ((r : ℕ) → (r ≡ s → ⊥) → P r (get_or l r d))
    → (r : ℕ) → P r (get_or (set l s v) r d)
set-each P l s v d g own others r = go (ℕ_discrete r s)
  where
    go : Dec (r ≡ s) → P r (get_or (set l s v) r d)
    go (yes e) = rw (e, get_or-set_same l s v d g) own
    go (no n) = rw (get_or-set_other l s r v d n) (others r n)

-- an array filled from a list: one more element is one more store
module _ {A B : Type 0} (f : A → B) (d : B) where
  get_or-map_front : (l r : List A) (i : ℕ) → i < length l → get_or (map f (l ++ r)) i d ≡ get_or (map f l) i d
  get_or-map_front [] r i h = absurd (not-suc-le-zero h)
  get_or-map_front (x ∷ l) r zero h = refl
  get_or-map_front (x ∷ l) r (suc i) h = get_or-map_front l r i (le_of_suc-le-suc h)

  get_or-map_seam : (l : List A) (x : A) → get_or (map f (l ++ x ∷ [])) (length l) d ≡ f x
  get_or-map_seam [] x = refl
  get_or-map_seam (y ∷ l) x = get_or-map_seam l x

  pub stores_list_more : (a : List B) (l : List A) (x : A)
      → stores (length (l ++ x ∷ [])) (λ i. get_or (map f (l ++ x ∷ [])) i d) a ≡ set (stores (length l) (λ i. get_or (map f l) i d) a) (length l) (f x)
  stores_list_more a l x =
      let all : ℕ → B = λ i. get_or (map f (l ++ x ∷ [])) i d in
      ap (λ (n : ℕ). stores n all a) (length-append l (x ∷ []))
      ∙ stores_more all a (length l)
      ∙ ap₂ (λ (t : List B) (y : B). set t (length l) y)
      (stores_same all a (λ i. get_or (map f l) i d) (length l) (λ i h. get_or-map_front l (x ∷ []) i h))
      (get_or-map_seam l x)

-- a part of what stands at an index
pub get_or-map_part : {A B C : Type 0} (f : A → B) (g : B → C) (d : B) (l : List A) (i : ℕ) → g (get_or (map f l) i d) ≡ get_or (map (λ a. g (f a)) l) i (g d)
get_or-map_part f g d [] i = refl
get_or-map_part f g d (x ∷ l) zero = refl
get_or-map_part f g d (x ∷ l) (suc i) = get_or-map_part f g d l i

module _ {A B : Type 0} (f : A → B) where
  pub map-set : (l : List A) (i : ℕ) (v : A) → map f (set l i v) ≡ set (map f l) i (f v)
  map-set [] i v = refl
  map-set (x ∷ l) zero v = refl
  map-set (x ∷ l) (suc i) v = ap (λ (t : List B). f x ∷ t) (map-set l i v)

  -- within the list no default counts
  pub map_at : (d : A) (e : B) (l : List A) (i : ℕ) → i < length l → get_or (map f l) i e ≡ f (get_or l i d)
  map_at d e [] i h = absurd (not-suc-le-zero h)
  map_at d e (x ∷ l) zero h = refl
  map_at d e (x ∷ l) (suc i) h = map_at d e l i (le_of_suc-le-suc h)

-- f m, f (m + 1), .. of the elements, one after the other
unfoldable pub map_from : {A : Type 0} → (ℕ → A → A) → ℕ → List A → List A
map_from f m [] = []
map_from f m (x ∷ l) = f m x ∷ map_from f (suc m) l

module _ {A : Type 0} (f : ℕ → A → A) where
  pub get_or-map_from : (d : A) → ((m : ℕ) → f m d ≡ d) → (l : List A) (m i : ℕ) → get_or (map_from f m l) i d ≡ f (m + i) (get_or l i d)
  unfolding map_from
  get_or-map_from d h [] m i = sym (h (m + i))
  get_or-map_from d h (x ∷ l) m zero = ap (λ (j : ℕ). f j x) (sym (add-zero m))
  get_or-map_from d h (x ∷ l) m (suc i) =
      let e : suc m + i ≡ m + suc i = omega arith in
      get_or-map_from d h l (suc m) i ∙ ap (λ (j : ℕ). f j (get_or l i d)) e

  pub map_from-set : (l : List A) (m i : ℕ) (v : A) → map_from f m (set l i v) ≡ set (map_from f m l) i (f (m + i) v)
  unfolding map_from
  map_from-set [] m i v = refl
  map_from-set (x ∷ l) m zero v = ap (λ (j : ℕ). f j v ∷ map_from f (suc m) l) (sym (add-zero m))
  map_from-set (x ∷ l) m (suc i) v =
      let e : suc m + i ≡ m + suc i = omega arith in
      ap (λ (t : List A). f m x ∷ t) (map_from-set l (suc m) i v ∙ ap (λ (j : ℕ). set (map_from f (suc m) l) i (f j v)) e)

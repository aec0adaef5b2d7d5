-- What points give: the product over the other boxes, factor by factor; and the weighted sums are the values of the polynomials
-- through the list that the points say.
-- Assumes nothing.
use mathlib.Core.List.{List, [], ◌∷◌, map}
use mathlib.Core.Path.{◌≡◌, ap, sym, ◌∙◌}
use mathlib.Core.Logic.{◌≢◌}
use Prim.Native.Nat.{ℕ, ◌+◌, ◌-◌, ◌*◌, ◌%◌, ◌≤◌, ◌<◌}
use native.Mathlib.Nat.{mul-one}
use native.Mathlib.Omega.{arith}
use lib.Dec.{eqb}
use lib.ListN.{length, get_or, get_or-map}
use lib.Seq.{ext_get_or}
use Rattle.std.proofs.lemmas.List.{length-map}
use borrow.Author.Tests.{eq-eqb, ne_eqb}
use Rattle.folds.specs.Tests.{pick}
use Rattle.folds.specs.Below.{prod_below, prod_below_more}
use Rattle.folds.specs.Runs.{gather, length_singles, get_or_singles}
use Rattle.folds.specs.Stores.{map_at}
use Rattle.algebra.proofs.Residues.{mod-mul-mod}
use Rattle.algebra.proofs.Sums.{sum_cong, prod_mod_more_mod}
use Rattle.algebra.specs.Interpolation.{weight, interpolate}
use Rattle.algebra.proofs.Interpolation.{interpolate_cong}
use Rattle.rules.specs.declared.Exponent.{Exponent}
use Rattle.rules.specs.declared.Pair.{Pair}
use Rattle.rules.specs.Matrices.{coefficient}
use Rattle.rules.specs.Steps.{Said, through}
use Rattle.rules.proofs.Laws.Matrices.{coefficient_at}
use Rattle.interpolation.specs.declared.Points.{Points}
use Rattle.interpolation.specs.Points.{nothing, nobody, boxes_of, firsts_of, seconds_of, box_at, said_at, said_by}
use Rattle.interpolation.specs.Lagrange.{Based, inverse_at, inverse_row, weight_row, weighted_sum, weighted_pair, pair_through}

-- an array that holds what f makes of each element of another
pub map_is : {A B : Type 0} {n : ℕ} (f : A → B) (d : A) (xs : List A) (ys : List B) → length xs ≡ n → length ys ≡ n
    → ((i : ℕ) → i < n → get_or ys i (f d) ≡ f (get_or xs i d)) → ys ≡ map f xs
map_is f d xs ys long same each =
    ext_get_or (f d) ys (map f xs) (same ∙ sym (length-map xs f ∙ long)) (λ i l. each i (rw same at l) ∙ sym (get_or-map f xs i d))

-- the box that the code reads
pub number_at : (p : Points) (j : ℕ) → (get_or p.said j nothing).number ≡ box_at (boxes_of p) j
number_at p j = sym (get_or-map (λ s. s.number) p.said j nothing)

-- the inverse that stands at i
pub under_at : (q : ℕ) (all : Points) (under : List Exponent) → Based q all under → (i : ℕ) → i < all.count
    → coefficient under i ≡ (inverse_at q all.count (boxes_of all) i).0
unfolding inverse_row
under_at q all under b i l =
    ap (λ (r : List Exponent). coefficient r i) b.inverses ∙ coefficient_at all.count (λ i. (inverse_at q all.count (boxes_of all) i).0) b.fit.few i l

-- x - x_j, or 1 for j = i
abbrev pub factor : ℕ → (ℕ → ℕ) → ℕ → ℕ → ℕ → ℕ
factor q xs i x j = pick (eqb j i) 1 (x + (q - xs j))

module _ (q : ℕ) (xs : ℕ → ℕ) (i x j : ℕ) where
  -- one more factor
  pub another : j ≢ i → (prod_below j (factor q xs i x) % q * ((x + (q - xs j)) % q)) % q ≡ prod_below (j + 1) (factor q xs i x) % q
  another n =
      ap (λ b. (prod_below j (factor q xs i x) % q * (pick b 1 (x + (q - xs j)) % q)) % q) (sym (ne_eqb j i n))
      ∙ prod_mod_more_mod q (factor q xs i x) j

  -- i itself is left out
  pub own : j ≡ i → prod_below j (factor q xs i x) % q ≡ prod_below (j + 1) (factor q xs i x) % q
  own e = ap (λ t. t % q) (sym (prod_below_more (factor q xs i x) j ∙ (rw (eq-eqb j i e) (mul-one _))))

-- The sum that Lagrange's weights weigh is the interpolation.
weighted_interpolates : (q count : ℕ) (boxes : List ℕ) (x : ℕ) (y : List Exponent) → count ≤ 8
    → weighted_sum q count (weight_row q count boxes x) y ≡ interpolate q count (box_at boxes) (coefficient y) x
unfolding weighted_sum weight_row interpolate
weighted_interpolates q count boxes x y h =
    let w = weight q count (box_at boxes) x in
    sum_cong q count _ _
    (λ i l. ap (λ t. (t * coefficient y i) % q) (coefficient_at count (λ i. w i % q) h i l) ∙ mod-mul-mod (w i) (coefficient y i) q)

-- The interpolation over the arrays, in one number of each point, is that through the list that they say.
said_through : (q : ℕ) (p : Points) (number : Pair → Exponent) (x : ℕ)
    → interpolate q p.count (box_at (boxes_of p)) (λ i. (number (said_at p i).says).0) x ≡ through q (said_by p) (λ s. (number s).0) x
unfolding through said_by
said_through q p number x =
    let said = gather p.count (λ i. said_at p i ∷ []) in
    interpolate_cong q p.count _ (λ i. get_or (map (λ s. s.box) said) i 0) _ (λ i. get_or (map (λ s. (number s.says).0) said) i 0) x
    (λ i l. sym (at (λ s. s.box) i l))
    (λ i l. ap (λ t. t % q) (sym (at (λ s. (number s.says).0) i l)))
    ∙ ap
    (λ n. interpolate q n (λ i. get_or (map (λ s. s.box) said) i 0) (λ i. get_or (map (λ s. (number s.says).0) said) i 0) x)
    (sym (length_singles p.count (said_at p)))
  where
    at : (f : Said Pair → ℕ) (i : ℕ) → i < p.count → get_or (map f (gather p.count (λ i. said_at p i ∷ []))) i 0 ≡ f (said_at p i)
    at f i l =
        let e = length_singles p.count (said_at p) in
        map_at f nobody 0 (gather p.count (λ i. said_at p i ∷ [])) i (omega arith) ∙ ap f (get_or_singles p.count (said_at p) i nobody l)

-- What the weights at x make of the points is the pair of values at x.
pub weighted_through : (q : ℕ) (p : Points) (x : ℕ) → p.count ≤ 8 → weighted_pair q (weight_row q p.count (boxes_of p) x) p ≡ pair_through q (said_by p) x
unfolding weighted_pair pair_through
weighted_through q p x h =
    rw (
      weighted_interpolates q p.count (boxes_of p) x (firsts_of p) h,
      weighted_interpolates q p.count (boxes_of p) x (seconds_of p) h,
      said_through q p (λ (s : Pair). s.first) x,
      said_through q p (λ (s : Pair). s.second) x,
    )

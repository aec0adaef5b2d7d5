-- Arrays whose first n places are filled and whose rest is zero: what stands at each place says which array it is.
-- Assumes nothing.
use Rattle.std.specs.Prelude.{◌≡◌, List, ℕ, ◌<◌, ◌≤◌, length, get_or, replicate}
use Rattle.std.proofs.Common.{sym, ◌∙◌, arith, ext_get_or}
use Rattle.std.proofs.Math.Decide.{dec_lt}
use Rattle.std.proofs.Math.ListN.{get_or-replicate, length-replicate}
use Rattle.folds.specs.Stores.{stores, get_or-stores, get_or-stores_behind, length-stores}

pub filled_is : {A : Type 0} {N n : ℕ} {zero : A} {xs : List A} (f : ℕ → A) → n ≤ N → length xs ≡ N
    → ((i : ℕ) → i < n → get_or xs i zero ≡ f i) → ((i : ℕ) → n ≤ i → get_or xs i zero ≡ zero) → xs ≡ stores n f (replicate N zero)
filled_is {A} {N} {n} {zero} {xs} f few long made rest =
    let all : length (stores n f (replicate N zero)) ≡ N = length-stores f (replicate N zero) n ∙ length-replicate N zero in
    ext_get_or zero xs (stores n f (replicate N zero)) (long ∙ sym all) (λ i l. go i (omega arith) (dec_lt i n))
  where
    go : (i : ℕ) → i < N → Dec (i < n) → get_or xs i zero ≡ get_or (stores n f (replicate N zero)) i zero
    go i l (yes h) =
        let all : length (replicate N zero) ≡ N = length-replicate N zero in
        made i h ∙ sym (get_or-stores f (replicate N zero) n i zero h (omega arith))
    go i l (no h) =
        rest i (omega arith) ∙ sym (get_or-stores_behind f (replicate N zero) n i zero (omega arith) ∙ get_or-replicate N i zero zero l)

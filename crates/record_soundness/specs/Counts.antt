-- Some index passes exactly if the number of those that pass is not 0.
-- Assumes nothing.
use Rattle.std.specs.Prelude.{◌≡◌, Bool, ℕ, ltb}
use Rattle.std.proofs.Common.{sym, ap, ◌∙◌, ⊎_elim, lt-ltb}
use Rattle.folds.specs.Tests.{decide, false_unless, true≢false}
use Rattle.folds.specs.Below.{any_below, any_below_here, any_below_some, count_below, count_below_none, count_below_some}

pub any_counted : (p : ℕ → Bool) (n : ℕ) → any_below n p ≡ ltb 0 (count_below n p)
any_counted p n =
    ⊎_elim
    (λ e. let w = any_below_some p n e in e ∙ sym (lt-ltb 0 (count_below n p) (count_below_some p n w.0 w.1 w.2)))
    (λ e.
    let none = count_below_none p n (λ i l. false_unless (p i) (λ h. true≢false (sym (any_below_here p n i l h) ∙ e))) in
    e ∙ sym (ap (ltb 0) none))
    (decide (any_below n p))

use Rattle.std.specs.Prelude.{◌≡◌, ℕ, ◌≤◌, ◌<◌, get_or}
use Rattle.matrices.proofs.filled.Given as goal

abbrev pub invariant-loop-i : goal.invariant-loop-i
invariant-loop-i g l =
    ((i : ℕ) → i < l.i → goal.F-post g l.f i (get_or l.made i l.fn.zero))
    × ((i : ℕ) → l.i ≤ i → get_or l.made i l.fn.zero ≡ l.fn.zero)

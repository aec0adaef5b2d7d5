use Rattle.std.specs.Prelude.{List, ◌≡◌, ℕ, ◌+◌, ◌*◌}
use Rattle.rules.specs.declared.Exponent.{Exponent}
use Rattle.rules.specs.declared.SetUp.{SetUp}
use Rattle.rules.specs.Messages.{polynomials_in, coefficients_in, end_place}
use Rattle.message_reading.proofs.read_polynomials.Goals as goal

-- the four, each read where it stands
four : (u : SetUp) (s : List ℕ) {p : ℕ} {a a2 b b2 : List Exponent} → p ≡ end_place u
    → a ≡ coefficients_in u.k s p → a2 ≡ coefficients_in u.k s (p + 2 * u.k)
    → b ≡ coefficients_in u.k s (p + 4 * u.k) → b2 ≡ coefficients_in u.k s (p + 6 * u.k)
    → record { a = a; a2 = a2; b = b; b2 = b2 } ≡ polynomials_in u s
unfolding polynomials_in
four u s e f g h i = cc

pub returns : goal.returns
unfolding coefficients_in
returns c = four _ _ c.end_place-p.ensures.0 c.read_row.ensures c.read_row-2.ensures c.read_row-3.ensures c.read_row-4.ensures

-- The message to one box (`message_to` of `Histories`) out of the n that a call has written.
-- Assumes nothing.
use Rattle.std.specs.Prelude.{◌≡◌, List, ℕ, ◌*◌, ◌-◌, ◌/◌, ◌≤◌, length, take, drop}
use Rattle.std.proofs.Common.{ap, ◌∙◌, arith}
use Rattle.std.proofs.Math.Nat.{mul-div_cancel_left}
use Rattle.rules.specs.declared.SetUp.{SetUp}
use Rattle.rules.specs.declared.Message.{Message}
use Rattle.rules.specs.Messages.{tag_of, bytes_of, whole_length, to_each}
use Rattle.rules.proofs.Laws.Lengths.{length-to_each, piece_to_each}
use Rattle.demands.specs.Terms.Histories.{message_to}

pub message_to_lem : (u : SetUp) (f : ℕ → Message) (tag : ℕ) → ((j : ℕ) → tag_of (f j) ≡ tag) → (j : ℕ) → 1 ≤ j → j ≤ u.n
    → message_to u.n (to_each u f) j ≡ bytes_of u (f j)
unfolding message_to
message_to_lem u f tag same j a b =
    let run : List ℕ = to_each u f in
    let w : ℕ = whole_length u tag in
    let width : length run / u.n ≡ w = ap (λ v. v / u.n) (length-to_each u f tag same) ∙ mul-div_cancel_left w {n = u.n} (omega arith) in
    ap (λ v. take v (drop ((j - 1) * v) run)) width ∙ piece_to_each u f tag same j a b

-- The generators of a group of the table: the logarithm of h to g, and commitments as powers of g.
--
-- In order: the logarithm is from 1 to q - 1; a commitment is a power of g; exponents that move by d w and d' w, where
-- d + λ d' is zero modulo q, give the same commitment.
-- Assumes nothing.
use Rattle.std.specs.Prelude.{◌≡◌, ℕ, ◌+◌, ◌*◌, ◌%◌, ◌^◌, ◌≤◌, ◌<◌}
use Rattle.std.proofs.Common.{sym, ap, ◌∙◌, arith}
use Rattle.std.proofs.Math.Nat.{zero-add, mod-mod, mod-le, pow-zero}
use Rattle.std.proofs.Math.Decide.{ℕ_discrete}
use Rattle.std.proofs.Math.Dec.{eqb}
use Rattle.folds.specs.Below.{first_from_le}
use Rattle.algebra.proofs.Residues.{add_cong, mul-mod-mod, add-zero-mod, mul-zero-mod}
use Rattle.algebra.proofs.Powers.{pow-same}
use Rattle.algebra.proofs.Commitments.{commit_base}
use Rattle.rules.specs.declared.Group.{Group}
use Rattle.rules.specs.Numbers.{logarithm}
use Rattle.rules.specs.Dealing.{committed}
use Rattle.rules.proofs.Laws.Numbers.{GroupRule}

module _ (G : Group) (rule : GroupRule G) where
  log_le : logarithm G ≤ G.q
  unfolding logarithm
  log_le = rw zero-add at (first_from_le (λ x. eqb (G.g.0 ^ x % G.p) G.h.0) G.q 0)

  -- g^0 and g^q are 1, and h is not.
  pub logarithm_some : 0 < logarithm G
  logarithm_some = go (ℕ_discrete (logarithm G) 0)
    where
      go : Dec (logarithm G ≡ 0) → 0 < logarithm G
      go (yes e) =
          let one : G.h.0 ≡ 1 % G.p = sym rule.counted ∙ ap (λ t. G.g.0 ^ t % G.p) e ∙ ap (λ t. t % G.p) (pow-zero G.g.0) in
          let above = rule.h_order.above in
          absurd (omega (arith, mod-le 1 G.p))
      go (no n) = omega arith

  pub logarithm_below : logarithm G < G.q
  logarithm_below = go (ℕ_discrete (logarithm G) G.q)
    where
      go : Dec (logarithm G ≡ G.q) → logarithm G < G.q
      go (yes e) =
          let one : G.h.0 ≡ 1 = sym rule.counted ∙ ap (λ t. G.g.0 ^ t % G.p) e ∙ rule.g_order.power in
          let above = rule.h_order.above in
          absurd (omega arith)
      go (no n) = omega (arith, log_le)

  -- g^x h^y is g^(x + λ y).
  pub committed_power : (x y : ℕ) → committed G x y ≡ G.g.0 ^ (x + logarithm G * y) % G.p
  unfolding committed
  committed_power = commit_base G.p G.g.0 G.h.0 (logarithm G) (ap (λ t. t % G.p) (sym rule.counted) ∙ mod-mod _ G.p)

  -- A commitment does not see a move that λ takes back.
  pub committed_moves : (d d' : ℕ) → (d + logarithm G * d') % G.q ≡ 0 → (x y w : ℕ)
      → committed G ((x + d * w) % G.q) ((y + d' * w) % G.q) ≡ committed G x y
  committed_moves d d' e x y w =
      let q = G.q in
      let n = logarithm G in
      let apart : x + d * w + n * (y + d' * w) ≡ x + n * y + w * (d + n * d') = omega arith in
      committed_power _ _
      ∙ pow-same q G.p G.g.0 rule.g_order.power _ (x + n * y)
      (add_cong q _ (x + d * w) _ (n * (y + d' * w)) (mod-mod (x + d * w) q) (mul-mod-mod n (y + d' * w) q)
      ∙ ap (λ t. t % q) apart
      ∙ add-zero-mod q (x + n * y) _ (mul-zero-mod q w _ e))
      ∙ sym (committed_power x y)

-- What the numbers of a set-up and of its group keep to, as contracts ask for it. That the tests give it stands in proofs/Laws/Numbers.
-- Assumes nothing.
use Rattle.std.specs.Prelude.{◌≡◌, true, ℕ, ◌+◌, ◌*◌, ◌≤◌, ◌<◌}
use Rattle.rules.specs.declared.Group.{Group}
use Rattle.rules.specs.declared.SetUp.{SetUp}
use Rattle.rules.specs.Numbers.{group_of, group_keeps}

pub record Sizes (n t k : ℕ) : Type 0 where
  pub boxes : n ≤ 10
  pub faults : 1 ≤ t
  pub above : t < k
  pub rest : 2 * t + k ≤ n
  pub low : 2 ≤ k
  pub high : k ≤ 8

-- How large its numbers are: q is above every box number, and both are two-byte numbers.
pub record GroupRanges (G : Group) : Type 0 where
  pub modulus : 0 < G.p
  pub modulus_small : G.p < 65536
  pub some : 0 < G.q
  pub above : 10 < G.q
  pub small : G.q < 65536

-- How large set-up numbers that keep their rules are, and the numbers of their group: what code asks of them.
pub record Ranges (u : SetUp) : Type 0 where
  pub group : group_keeps u ≡ true
  pub numbers : GroupRanges (group_of u.group)
  pub boxes : u.n ≤ 10
  pub faults : u.t ≤ 10
  pub low : 2 ≤ u.k
  pub high : u.k ≤ 8
  pub own : u.i ≤ 10
  pub dealer : u.d < 256
  pub session : u.session < 65536

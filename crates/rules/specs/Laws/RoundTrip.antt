-- What a formed message is, and set-up numbers that have room in one, as contracts ask for it. That reading and writing undo one another stands in
-- proofs/Laws/RoundTrip. Assumes nothing.
use Rattle.std.specs.Prelude.{◌≡◌}
use mathlib.Core.List.{List}
use Prim.Native.Nat.{ℕ, ◌-◌, ◌<◌, ◌≤◌}
use Rattle.std.proofs.Math.ListN.{length, get_or}
use Rattle.rules.specs.declared.SetUp.{SetUp}
use Rattle.rules.specs.Messages.{whole_length, word, tag_in}

-- the set-up numbers that stand in a message have room there
pub record SetUpFits (u : SetUp) : Type 0 where
  pub k : u.k ≤ 8
  pub d : u.d < 256
  pub session : u.session < 65536

-- s is not malformed
pub record Formed (u : SetUp) (s : List ℕ) : Type 0 where
  pub long : 3 ≤ length s
  pub low : 1 ≤ tag_in s
  pub high : tag_in s ≤ 4
  pub size : word s 1 ≡ length s - 3
  pub whole : length s ≡ whole_length u (tag_in s)
  pub k_byte : tag_in s ≤ 3 → get_or s 6 0 ≡ u.k

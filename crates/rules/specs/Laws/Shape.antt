-- The lengths of a record's arrays. The declared types fix them; of a record as antt sees it they are a hypothesis. And the
-- numbers that have a mark in it.
-- Assumes nothing.
use Rattle.std.specs.Prelude.{[]}
use Rattle.std.specs.Prelude.{◌≡◌, ℕ, ◌<◌, ◌≤◌, length, get_or}
use Rattle.rules.specs.declared.Slot.{Slot}
use Rattle.rules.specs.declared.Record.{Record}
use Rattle.rules.specs.Record.{no_marks, slot_at}

pub record ShapedSlot (slot : Slot) : Type 0 where
  pub rows : length slot.rows ≡ 8
  pub row : (j : ℕ) → j < 8 → length (get_or slot.rows j []) ≡ 8
  pub places : length slot.places ≡ 10
  pub echoed : length slot.echoed.at ≡ 10
  pub readied : length slot.readied.at ≡ 10

pub record Shaped (x : Record) : Type 0 where
  pub slots : length x.slots ≡ 20
  pub slot : (s : ℕ) → s < 20 → ShapedSlot (slot_at x s)
  pub heard : length x.heard ≡ 4
  pub marks : (t : ℕ) → t < 4 → length (get_or x.heard t no_marks).at ≡ 10
  pub shares : length x.shares ≡ 10

-- a tag and a sender's index have their mark
pub record HasMark (tag m : ℕ) : Type 0 where
  pub low : 1 ≤ tag
  pub high : tag ≤ 4
  pub place : m < 10

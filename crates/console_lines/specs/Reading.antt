-- What the readers of a line ask and promise.
--
-- In order: a line that is taken; what is asked; what is promised.
-- Assumes nothing.
use Rattle.std.specs.Prelude.{true, List, ◌≡◌, ℕ, ◌+◌, ◌<◌, ◌≤◌, length}
use Rattle.std.proofs.lemmas.List.Edits.{sets}
use Rattle.console_lines.specs.Items.{item_place, items}
use Rattle.console_lines.specs.Words.{form_of, bytes_keep, item_keeps}
use Rattle.console_lines.specs.Says.{says, said_coins, said_bytes}
use Rattle.console_lines.specs.declared.said.Said.{Said}
use Rattle.console_lines.specs.declared.said.Said.TheVariants as said
use Rattle.console_lines.specs.declared.words.Word.{Word}
use Rattle.console_lines.specs.declared.words.Word.TheVariants as word

-- a line is taken by this word: the number of its items is right, and each is of its form
pub record Formed (b : List ℕ) (w : Word) : Type 0 where
  pub enough : (form_of w).least ≤ items b
  pub few : items b ≤ (form_of w).most
  pub keep : (j : ℕ) → j < items b → item_keeps b (form_of w) j (item_place b (j + 1)) ≡ true

-- ---- what is asked

-- of a line, and one of its items
pub record Short (b : List ℕ) (j : ℕ) : Type 0 where
  pub short : length b ≤ 8192
  pub few : j ≤ 8192

pub record HexItem (b : List ℕ) (j : ℕ) (bytes : List ℕ) : Type 0 where
  pub item : Short b j
  pub keeps : bytes_keep b (item_place b j) ≡ true
  pub room : length bytes ≡ 4096

pub record Dealt (b coins : List ℕ) : Type 0 where
  pub short : length b ≤ 8192
  pub formed : Formed b word.Deal
  pub room : length coins ≡ 4096

-- a line, and the space that is lent for what it says
pub record Lent (b coins bytes : List ℕ) : Type 0 where
  pub short : length b ≤ 8192
  pub coins_room : length coins ≡ 4096
  pub bytes_room : length bytes ≡ 4096

pub record Taken (b : List ℕ) (w : Word) (coins bytes : List ℕ) : Type 0 where
  pub lent : Lent b coins bytes
  pub formed : Formed b w

-- ---- what is promised

-- the answer; these coins and these bytes stand in front, and what is behind them keeps its value
pub record Answers (answer : Said) (coins bytes : List ℕ) (r : Said) (coins₀ coins₁ bytes₀ bytes₁ : List ℕ) : Type 0 where
  pub answers : r ≡ answer
  pub coins_put : coins₁ ≡ sets coins₀ 0 coins
  pub bytes_put : bytes₁ ≡ sets bytes₀ 0 bytes

-- what is said fits where it goes: 4,096 coins and bytes, the space to lend, an answer's number, a place's
abbrev pub Fits : Said → Type 0
Fits said.Nothing = Unit
Fits said.Quit = Unit
Fits said.Help = Unit
Fits (said.HelpOf n) = n ≤ 20
Fits (said.SetUp u) = Unit
Fits (said.Lend l) = l ≤ 4096
Fits (said.Deal s n) = n ≤ 4096
Fits (said.Deliver s n) = n ≤ 4096
Fits said.Recover = Unit
Fits said.Show = Unit
Fits (said.Read n) = n ≤ 4096
Fits (said.Points p) = p ≤ 19
Fits (said.Bad r) = Unit

pub record Speaks (b : List ℕ) (r : Said) (coins₀ coins₁ bytes₀ bytes₁ : List ℕ) : Type 0 where
  pub puts : Answers (says b) (said_coins b) (said_bytes b) r coins₀ coins₁ bytes₀ bytes₁
  pub fits : Fits r

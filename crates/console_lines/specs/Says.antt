-- What a line, given without its newline, says.
--
-- In order: what an item says; the command of a word, with its coins and bytes; a line.
-- Assumes nothing.
use Rattle.std.specs.Prelude.{List, [], ◌∷◌, ℕ, ◌+◌, ◌-◌, ◌/◌, eqb, Option, Some, None, Result, Ok, Err}
use Rattle.folds.specs.Tests.{pick}
use Rattle.folds.specs.Runs.{gather}
use Rattle.rules.specs.declared.SetUp.{SetUp}
use Rattle.rules.specs.Text.{decimal_at, is_decimal}
use Rattle.text.specs.Hexadecimal.{hex_bytes}
use Rattle.console_lines.specs.Items.{item_place, items}
use Rattle.console_lines.specs.Words.{item_width}
use Rattle.console_lines.specs.Judging.{judged}
use Rattle.console_lines.specs.declared.reasons.Reason.{Reason}
use Rattle.console_lines.specs.declared.said.Said.{Said}
use Rattle.console_lines.specs.declared.said.Said.TheVariants as said
use Rattle.console_lines.specs.declared.words.Word.{Word}
use Rattle.console_lines.specs.declared.words.Word.TheVariants as word

-- ---- what an item says

-- the number that stands at a place, and 0 where none does
unfoldable pub number_at : List ℕ → ℕ → ℕ
number_at b i = pick (is_decimal b i) (decimal_at b i) 0

unfoldable pub number_of : List ℕ → ℕ → ℕ
number_of b j = number_at b (item_place b j)

-- a byte for two digits; `-` is none
unfoldable pub byte_count : List ℕ → ℕ → ℕ
byte_count b j = item_width b (item_place b j) / 2

unfoldable pub bytes_in : List ℕ → ℕ → List ℕ
bytes_in b j = hex_bytes b (item_place b j) (byte_count b j)

-- ---- the command of a word

unfoldable pub set_up_of : List ℕ → SetUp
set_up_of b =
    record {
      group = number_of b 1;
      n = number_of b 2;
      t = number_of b 3;
      k = number_of b 4;
      i = number_of b 5;
      d = number_of b 6;
      session = number_of b 7;
    }

abbrev pub command_of : List ℕ → Word → Said
command_of b word.SetUp = said.SetUp (set_up_of b)
command_of b word.Lend = said.Lend (number_of b 1)
command_of b word.Deal = said.Deal (number_of b 1) (items b - 1)
command_of b word.Deliver = said.Deliver (number_of b 1) (byte_count b 2)
command_of b word.Recover = said.Recover
command_of b word.Show = said.Show
command_of b word.Help = pick (eqb (items b) 0) said.Help (said.HelpOf (number_of b 1))
command_of b word.Read = said.Read (byte_count b 1)
command_of b word.Points = said.Points (number_of b 1)
command_of b word.Quit = said.Quit

-- the first m numbers behind the secret
unfoldable pub coins_in : List ℕ → ℕ → List ℕ
coins_in b m = gather m (λ j. number_of b (j + 2) ∷ [])

abbrev pub coins_of : List ℕ → Word → List ℕ
coins_of b word.SetUp = []
coins_of b word.Lend = []
coins_of b word.Deal = coins_in b (items b - 1)
coins_of b word.Deliver = []
coins_of b word.Recover = []
coins_of b word.Show = []
coins_of b word.Help = []
coins_of b word.Read = []
coins_of b word.Points = []
coins_of b word.Quit = []

abbrev pub bytes_of : List ℕ → Word → List ℕ
bytes_of b word.SetUp = []
bytes_of b word.Lend = []
bytes_of b word.Deal = []
bytes_of b word.Deliver = bytes_in b 2
bytes_of b word.Recover = []
bytes_of b word.Show = []
bytes_of b word.Help = []
bytes_of b word.Read = bytes_in b 1
bytes_of b word.Points = []
bytes_of b word.Quit = []

-- ---- a line

-- a line that is judged so; the coins and the bytes that it says
abbrev pub says_of : List ℕ → Result (Option Word) Reason → Said
says_of b (Ok None) = said.Nothing
says_of b (Ok (Some w)) = command_of b w
says_of b (Err r) = said.Bad r

abbrev pub said_coins_of : List ℕ → Result (Option Word) Reason → List ℕ
said_coins_of b (Ok None) = []
said_coins_of b (Ok (Some w)) = coins_of b w
said_coins_of b (Err r) = []

abbrev pub said_bytes_of : List ℕ → Result (Option Word) Reason → List ℕ
said_bytes_of b (Ok None) = []
said_bytes_of b (Ok (Some w)) = bytes_of b w
said_bytes_of b (Err r) = []

unfoldable pub says : List ℕ → Said
says b = says_of b (judged b)

unfoldable pub said_coins : List ℕ → List ℕ
said_coins b = said_coins_of b (judged b)

unfoldable pub said_bytes : List ℕ → List ℕ
said_bytes b = said_bytes_of b (judged b)

-- The words that a line may begin with, and the items that each wants behind it.
--
-- In order: the words; the form of each word's items; the two forms of an item; the test of item j, and the first that fails.
-- Assumes nothing.
use Rattle.std.specs.Prelude.{Bool, not, List, [], ◌∷◌, ℕ, ◌+◌, ◌-◌, ◌/◌, ◌%◌, eqb, leb, ltb, length, Option, Some, None}
use Prim.Native.String.{String}
use Rattle.folds.specs.Tests.{◌and◌, pick}
use Rattle.folds.specs.Below.{first_from}
use Rattle.rules.specs.Text.{text, byte_at, word_at, digits_end, decimal_at, is_decimal}
use Rattle.text.specs.Hexadecimal.{hex_at}
use Rattle.console_lines.specs.Items.{item_end, item_place}
use Rattle.console_lines.specs.declared.words.Form.{Form}
use Rattle.console_lines.specs.declared.words.Word.{Word}
use Rattle.console_lines.specs.declared.words.Word.TheVariants.{SetUp, Lend, Deal, Deliver, Recover, Show, Help, Read, Points, Quit}

-- the line begins with this word
unfoldable pub word_is : List ℕ → List ℕ → Bool
word_is b w = word_at b 0 w and eqb (item_end b 0) (length w)

pub record Name : Type 0 where
  pub bytes : List ℕ
  pub word : Word

abbrev name : String → Word → Name
name s w = record { bytes = text s; word = w }

unfoldable pub names : List Name
names =
    name "setup" SetUp
    ∷ name "lend" Lend
    ∷ name "deal" Deal
    ∷ name "deliver" Deliver
    ∷ name "recover" Recover
    ∷ name "show" Show
    ∷ name "help" Help
    ∷ name "read" Read
    ∷ name "points" Points
    ∷ name "quit" Quit
    ∷ []

-- the first of these names that the line begins with
unfoldable pub word_in : List ℕ → List Name → Option Word
word_in b [] = None
word_in b (x ∷ rest) = pick (word_is b x.bytes) (Some x.word) (word_in b rest)

abbrev pub word_of : List ℕ → Option Word
word_of b = word_in b names

-- at least and at most so many items; the first so many of them are decimals up to the limit, the others hexadecimal
abbrev pub form : ℕ → ℕ → ℕ → ℕ → Form
form least most numbers limit = record { least = least; most = most; numbers = numbers; limit = limit }

-- a line has no room for 8,192 items
abbrev pub form_of : Word → Form
form_of SetUp = form 7 7 7 65535
form_of Lend = form 1 1 1 4096
form_of Deal = form 1 8192 8192 65535
form_of Deliver = form 2 2 1 65535
form_of Recover = form 0 0 0 0
form_of Show = form 0 0 0 0
form_of Help = form 0 1 1 20
form_of Read = form 1 1 0 0
form_of Points = form 1 1 1 19
form_of Quit = form 0 0 0 0

-- the item that starts at i is a decimal up to the limit
unfoldable pub number_keeps : List ℕ → ℕ → ℕ → Bool
number_keeps b i limit = is_decimal b i and eqb (digits_end b i) (item_end b i) and leb (decimal_at b i) limit

abbrev pub item_width : List ℕ → ℕ → ℕ
item_width b i = item_end b i - i

-- it is `-`, or an even number of digits
unfoldable pub bytes_keep : List ℕ → ℕ → Bool
bytes_keep b i =
    pick (eqb (item_width b i) 1) (byte_at b i 45) (eqb (item_width b i % 2) 0 and hex_at b i (item_width b i / 2))

-- the item that starts at i is of the form of item j behind the word, counted from 0
unfoldable pub item_keeps : List ℕ → Form → ℕ → ℕ → Bool
item_keeps b f j i = pick (ltb j f.numbers) (number_keeps b i f.limit) (bytes_keep b i)

-- the first of m items that is not of its form; m, where none is
unfoldable pub bad_item : List ℕ → Form → ℕ → ℕ
bad_item b f m = first_from m 0 (λ j. not (item_keeps b f j (item_place b (j + 1))))

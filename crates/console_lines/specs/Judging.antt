-- Whether a line, given without its newline, is taken: "the first of these that holds".
--
-- In order: bytes; spaces; the word and its items; a line.
-- Assumes nothing.
use Rattle.std.specs.Prelude.{Bool, List, ℕ, ◌+◌, ◌-◌, eqb, ltb, length, get_or, Option, Some, None, Result, Ok, Err}
use Rattle.folds.specs.Tests.{◌and◌, ◌or◌, pick}
use Rattle.folds.specs.Below.{first_from}
use Rattle.console_lines.specs.Items.{is_space, items}
use Rattle.console_lines.specs.Words.{word_of, form_of, bad_item}
use Rattle.console_lines.specs.declared.reasons.Reason.{Reason}
use Rattle.console_lines.specs.declared.reasons.Reason.TheVariants.{Byte, Space, NoSuchWord, Items, Item}
use Rattle.console_lines.specs.declared.words.Word.{Word}

-- "the first byte outside 32..126"
abbrev pub is_outside : ℕ → Bool
is_outside x = ltb x 32 or ltb 126 x

unfoldable pub bad_byte : List ℕ → ℕ
bad_byte b = first_from (length b) 0 (λ i. is_outside (get_or b i 0))

-- "a space at the start or the end, or behind another one; the first such"
unfoldable pub is_stray : List ℕ → ℕ → Bool
is_stray b i = is_space b i and (eqb i 0 or eqb (i + 1) (length b) or is_space b (i - 1))

unfoldable pub bad_space : List ℕ → ℕ
bad_space b = first_from (length b) 0 (is_stray b)

-- "items", "item J"
unfoldable pub judged_word : List ℕ → Word → Result (Option Word) Reason
judged_word b w =
    pick (ltb (items b) (form_of w).least) (Err Items)
    (pick (ltb (form_of w).most (items b)) (Err Items)
    (pick (ltb (bad_item b (form_of w) (items b)) (items b)) (Err (Item (bad_item b (form_of w) (items b) + 1)))
    (Ok (Some w))))

-- "no such word"
abbrev pub judged_begin : List ℕ → Option Word → Result (Option Word) Reason
judged_begin b None = Err NoSuchWord
judged_begin b (Some w) = judged_word b w

-- "an empty line and one that begins with #"
abbrev pub is_quiet : List ℕ → Bool
is_quiet b = eqb (length b) 0 or eqb (get_or b 0 0) 35

unfoldable pub judged : List ℕ → Result (Option Word) Reason
judged b =
    pick (is_quiet b) (Ok None)
    (pick (ltb (bad_byte b) (length b)) (Err (Byte (get_or b (bad_byte b) 0) (bad_byte b + 1)))
    (pick (ltb (bad_space b) (length b)) (Err (Space (bad_space b + 1)))
    (judged_begin b (word_of b))))

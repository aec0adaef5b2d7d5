-- What `help` says: the lines that the console takes, and what each answer number means and what the box did. In plain words after
-- document 01's table of answer numbers.
--
-- In order: the lines; the numbers; laws of the writers.
-- Assumes nothing.
use Rattle.std.specs.Prelude.{Bool, true, false, List, [], ◌++◌, ◌≡◌, ℕ, zero, suc, ◌+◌, ◌-◌, ◌<◌, ◌≤◌, ◌⊎◌, eqb, ltb, length, get_or, drop}
use Rattle.std.proofs.Math.Path.{refl}
use Rattle.std.proofs.Common.{add-one, ap, arith, ltb-false}
use Rattle.std.proofs.lemmas.List.{get_or_past, nil_from_length}
use Rattle.std.proofs.Math.ListN.{take, length-take, length-drop}
use Rattle.arrayvec.specs.ArrayVec.{ArrayVec}
use Rattle.folds.specs.Tests.{◌and◌, pick-either}
use Rattle.folds.specs.Below.{first_from, first_from_le}
use Rattle.rules.specs.Text.{text, newline, byte_at}
use Rattle.text.specs.Pages.{Adds, adds_none, adds_room}

unfoldable pub help_lines : List ℕ
help_lines =
    text "setup G N T K I D S       a new box: group, n, t, k, its number, dealer, session\n"
    ++ text "lend L                    the lent buffer has L bytes from now on, 0 to 4096\n"
    ++ text "deal SECRET COIN COIN ..  2 k k - 1 coins\n"
    ++ text "deliver SENDER HEX        a message of a sender; - for no bytes\n"
    ++ text "recover                   the recovery command\n"
    ++ text "show                      what the box holds\n"
    ++ text "points P                  what the senders' places of place P hold, 0 to 19\n"
    ++ text "read HEX                  what a message says, whatever the box\n"
    ++ text "help N                    what answer N means, 0 to 20\n"
    ++ text "# anything                no answer; neither has an empty line\n"
    ++ text "quit                      ends the program\n"

-- ---- the numbers

-- a line for each of 0 to 20; no call gives the last five
unfoldable pub answer_lines : List ℕ
answer_lines =
    text "answer 0: accepted; the box did what was asked, and a message's sender is heard for its tag from now on\n"
    ++ text "answer 1: the sender is 0 or above n; the message is dropped and the record is as it was\n"
    ++ text "answer 2: no message of this k: too short, or its tag, size, length or k is wrong; the message is dropped and the record is as it was\n"
    ++ text "answer 3: the dealer or the session is another; the message is dropped and the record is as it was\n"
    ++ text "answer 4: a send from a box other than the dealer; the message is dropped and the record is as it was\n"
    ++ text "answer 5: a recovery share before this box has completed and been commanded; the message is dropped and the record is as it was\n"
    ++ text "answer 6: a recovery share after the pair was given; the message is dropped and the record is as it was\n"
    ++ text "answer 7: the sender is already heard for this tag; the message is dropped and the record is as it was\n"
    ++ text "answer 8: a matrix entry is 0, is p or more, or is not in the group; the message is dropped, but its sender is heard for its tag from now on\n"
    ++ text "answer 9: an exponent is q or more; the message is dropped, but its sender is heard for its tag from now on, unless it is a recovery share\n"
    ++ text "answer 10: the check of its kind fails; the message is dropped, but its sender is heard for its tag from now on, unless it is a recovery share\n"
    ++ text "answer 11: a set-up with a group that is not 1 or 2; there is no box now\n"
    ++ text "answer 12: a set-up with a number that breaks its rule, and there is no box now; or another call on a record that is not sound, which stays\n"
    ++ text "answer 13: a deal by another box than the dealer or again, or a recovery command before completion or again; nothing is done\n"
    ++ text "answer 14: the secret or a coin is q or more, or the coins are not 2 k k - 1 in number; nothing is done and the record is as it was\n"
    ++ text "answer 15: the lent buffer has fewer than 2048 bytes; nothing is done and the record is as it was\n"
    ++ text "answer 16: no call gives this number yet\n"
    ++ text "answer 17: no call gives this number yet\n"
    ++ text "answer 18: no call gives this number yet\n"
    ++ text "answer 19: no call gives this number yet\n"
    ++ text "answer 20: no call gives this number yet\n"

-- where the line from i on ends: at its newline
unfoldable pub line_end : List ℕ → ℕ → ℕ
line_end b i = first_from (length b - i) i (λ j. byte_at b j newline)

-- where line n starts
unfoldable pub line_place : List ℕ → ℕ → ℕ
line_place b zero = 0
line_place b (suc n) = line_end b (line_place b n) + 1

-- line n without its newline; nothing where there are fewer lines
unfoldable pub line_of : List ℕ → ℕ → List ℕ
line_of b n = take (line_end b (line_place b n) - line_place b n) (drop (line_place b n) b)

unfoldable pub help_line : ℕ → List ℕ
help_line n = line_of answer_lines n ++ text "\n"

-- ---- laws of the writers

from_low : (p : ℕ → Bool) (n i : ℕ) → i ≤ first_from n i p
unfolding first_from
from_low p zero i = omega arith
from_low p (suc n) i =
    let later = from_low p n (i + 1) in
    pick-either (λ (r : ℕ). i ≤ r) (p i) i (first_from n (i + 1) p) (λ e. omega arith) (λ e. omega arith)

module _ (b : List ℕ) where
  -- behind the text no newline is read
  pub newline_at : (j : ℕ) → eqb (get_or b j 0) newline ≡ byte_at b j newline
  newline_at j = go (ltb j (length b)) refl
    where
      go : (t : Bool) → ltb j (length b) ≡ t → eqb (get_or b j 0) newline ≡ t and eqb (get_or b j 0) newline
      go true e = refl
      go false e = rw (get_or_past b j 0 (ltb-false j (length b) e)) refl

  pub line_end_low : (i : ℕ) → i ≤ line_end b i
  unfolding line_end
  line_end_low i = from_low (λ (j : ℕ). byte_at b j newline) (length b - i) i

  pub line_end_high : (i : ℕ) → line_end b i ≤ i + (length b - i)
  unfolding line_end
  line_end_high i = first_from_le (λ (j : ℕ). byte_at b j newline) (length b - i) i

  pub line_place-zero : line_place b 0 ≡ 0
  unfolding line_place
  line_place-zero = refl

  pub line_place_more : (n : ℕ) → line_place b (n + 1) ≡ line_end b (line_place b n) + 1
  unfolding line_place
  line_place_more n = rw (add-one n)

  -- a line that starts in the text, and one that starts behind it
  module _ (n : ℕ) {start end : ℕ} (at : start ≡ line_place b n) (to : end ≡ line_end b start) {page : ArrayVec ℕ} where
    pub line_added : {line : List ℕ} {page' : ArrayVec ℕ} → line ≡ take (end - start) (drop start b) → Adds page line (length line) page'
        → Adds page (line_of b n) (length b) page'
    unfolding line_of
    line_added e h =
        rw (← at, ← to, ← e) (adds_room h (omega (arith, ap length e, length-take (end - start) (drop start b), length-drop start b)))

    pub line_missed : (end < start) ⊎ (length b < end) → (most : ℕ) → Adds page (line_of b n) most page
    unfolding line_of
    line_missed out most =
        let low = line_end_low start in
        let high = line_end_high start in
        let none : take (end - start) (drop start b) ≡ [] =
        nil_from_length _ (omega (arith, out, to, low, high, length-take (end - start) (drop start b), length-drop start b)) in
        rw (← at, ← to, none) (adds_none refl most)

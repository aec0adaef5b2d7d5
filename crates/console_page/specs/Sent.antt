-- What a call that sends prints: a line a box, and on it the box's message.
-- Assumes nothing.
use Rattle.std.specs.Prelude.{true, ◌≡◌, ℕ, ◌+◌, ◌*◌, ◌-◌, ◌/◌, ◌<◌, ◌≤◌, drop}
use mathlib.Core.List.{List, ◌++◌}
use Rattle.std.proofs.Math.Path.{sym, ap}
use Rattle.std.proofs.Common.{◌∙◌, mul-le-mul, get_or-take, get_or-drop, le-leb}
use Rattle.std.proofs.Math.Nat.{mul-div_cancel_left}
use native.Mathlib.Omega.{arith}
use Rattle.std.proofs.Math.ListN.{length, get_or, take, get_or-append}
use Rattle.folds.specs.Tests.{pick_true}
use Rattle.folds.specs.Runs.{gather, gather-same}
use Rattle.rules.specs.declared.SetUp.{SetUp}
use Rattle.rules.specs.declared.Message.{Message}
use Rattle.rules.specs.Messages.{tag_of, bytes_of, whole_length, to_each, written}
use Rattle.rules.specs.Text.{text, decimal}
use Rattle.rules.proofs.Laws.Lengths.{whole_length_least, length-to_each, piece_to_each, length-written}
use Rattle.text.specs.Hexadecimal.{hex_pair, hex_of}
use Rattle.console_page.specs.Answers.{message_line, each_line, wrote, message_lines, message_within}

module _ (u : SetUp) (f : ℕ → Message) (tag : ℕ) (same : (j : ℕ) → tag_of (f j) ≡ tag) (buffer : List ℕ) (room : length (to_each u f) ≤ length buffer) where
  -- byte i of the message to box j + 1
  byte_sent : (j i : ℕ) → j < u.n → i < whole_length u tag
      → get_or (written (to_each u f) buffer) (j * whole_length u tag + i) 0 ≡ get_or (bytes_of u (f (j + 1))) i 0
  unfolding written
  byte_sent j i l h =
      let w = whole_length u tag in
      let all = to_each u f in
      let long = length-to_each u f tag same in
      let within = message_within j u.n w l in
      let back : j ≡ j + 1 - 1 = omega arith in
      get_or-append all (drop (length all) buffer) 0 (j * w + i) (omega arith)
      ∙ sym (get_or-drop (j * w) all i 0)
      ∙ sym (get_or-take w (drop (j * w) all) i 0 h)
      ∙ ap (λ (t : List ℕ). get_or t i 0)
      (ap (λ (m : ℕ). take w (drop (m * w) all)) back ∙ piece_to_each u f tag same (j + 1) (omega arith) (omega arith))

  line_sent : (j : ℕ) → j < u.n
      → message_line (j + 1) (written (to_each u f) buffer) (j * whole_length u tag) (whole_length u tag)
      ≡ message_line (j + 1) (bytes_of u (f (j + 1))) 0 (whole_length u tag)
  unfolding message_line hex_of
  line_sent j l =
      ap (λ (t : List ℕ). text "to " ++ decimal (j + 1) ++ text " " ++ t ++ text "\n")
      (gather-same _ _ (whole_length u tag)
      (λ i h. let z : i ≡ 0 + i = omega arith in ap hex_pair (byte_sent j i l h ∙ ap (λ (m : ℕ). get_or (bytes_of u (f (j + 1))) m 0) z)))

  bytes_sent : 1 ≤ u.n → u.n ≤ 10 → wrote u.n (length (to_each u f)) (written (to_each u f) buffer) ≡ true
  bytes_sent low high =
      let long = length-to_each u f tag same in
      let some = mul-le-mul low (whole_length_least u tag) in
      let whole = length-written (to_each u f) buffer room in
      rw (
        le-leb 1 u.n low,
        le-leb u.n 10 high,
        le-leb 1 (length (to_each u f)) (omega arith),
        le-leb (length (to_each u f)) (length (written (to_each u f) buffer)) (omega arith),
      )

  pub messages_sent : 1 ≤ u.n → u.n ≤ 10
      → message_lines u.n (length (to_each u f)) (written (to_each u f) buffer)
      ≡ gather u.n (λ j. message_line (j + 1) (bytes_of u (f (j + 1))) 0 (whole_length u tag))
  unfolding message_lines each_line
  messages_sent low high =
      let size : length (to_each u f) / u.n ≡ whole_length u tag =
      ap (λ (m : ℕ). m / u.n) (length-to_each u f tag same) ∙ mul-div_cancel_left (whole_length u tag) low in
      pick_true _ _ _ (bytes_sent low high)
      ∙ ap (λ (w : ℕ). each_line u.n w (written (to_each u f) buffer)) size
      ∙ gather-same _ _ u.n line_sent

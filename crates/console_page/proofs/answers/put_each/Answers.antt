-- `put_each` adds a line for each message. Assumes nothing.
use Rattle.std.proofs.Common.{List, ℕ, ◌≡◌, ◌+◌, ◌-◌, ◌*◌, ◌≤◌, ◌++◌, length, take, drop, ap, arith}
use Rattle.rules.specs.Text.{text, decimal}
use Rattle.text.specs.Pages.{runs_none, runs_more, length-part, hex_of_part}
use Rattle.console_page.specs.Answers.{message_line, message_within}
use Rattle.console_page.proofs.answers.put_each.Goals as goal

-- the line of a part of the buffer
line_of_part : (j i n : ℕ) (b : List ℕ) {m : ℕ} → m ≡ n → i + n ≤ length b
    → message_line j (take m (drop i b)) 0 (length (take m (drop i b))) ≡ message_line j b i n
unfolding message_line
line_of_part j i n b e h = ap (λ (t : List ℕ). text "to " ++ decimal j ++ text " " ++ t ++ text "\n") (hex_of_part b i n e h)

pub loop-j-init : goal.loop-j-init
loop-j-init g c = runs_none

pub loop-j-preserved : goal.loop-j-preserved
loop-j-preserved g c =
    let b = c.args.buffer.now in
    let from = c.loop-j.j * c.args.size in
    let h : from + c.args.size ≤ length b = let l = message_within c.loop-j.j c.args.n c.args.size c.loop-j-test.true in omega arith in
    let m : from + c.args.size - from ≡ c.args.size = omega arith in
    runs_more c.loop-j.invariant
    (rw (line_of_part (c.loop-j.j + 1) from c.args.size b m h, length-part b from c.args.size m h) at c.put_message.ensures)

use Rattle.std.proofs.Common.{ℕ, List, ◌≡◌, ◌+◌, ◌-◌, ◌≤◌, eqb, sym, ap, ◌∙◌, length, get_or, take, drop, arith, rules}
use Rattle.std.proofs.Common.{length-drop, length-take-le}
use Rattle.std.specs.List.{count_by}
use Rattle.folds.specs.Below.{count_below, count_below-zero, count_below_same}
use Rattle.folds.specs.Chains.{count_places}
use Rattle.rules.specs.Text.{text, space, byte_at}
use Rattle.text.specs.Decimals.{byte_there}
use Rattle.text.proofs.Places.{part_at}
use Rattle.sheet_reasons.specs.Lines.{line_end, spaces_in, first_word_near}
use Rattle.sheet_reasons.proofs.lines.spaces_in.Goals as goal

-- spaces of a part, and of the whole
spaces : (b : List ℕ) (i m end : ℕ) → m + i ≡ end → end ≤ length b → count_below (length (take m (drop i b))) (λ j. eqb (get_or (take m (drop i b)) j 0) space) ≡ count_below m (λ j. byte_at b (i + j) space)
spaces b i m end e l =
    let long = length-drop i b in
    let width = length-take-le m (drop i b) (omega arith) in
    ap (λ n. count_below n (λ j. eqb (get_or (take m (drop i b)) j 0) space)) width
    ∙ count_below_same (λ j. byte_at b (i + j) space) _ m (λ j h. ap (λ x. eqb x space) (part_at b i m j h) ∙ sym (byte_there b (i + j) space (omega arith)))

pub slice_bounds-iter-end : goal.slice_bounds-iter-end
unfolding text
slice_bounds-iter-end c =
    let near = first_word_near c.args.b.now c.args.i (text "\n") in
    omega (arith, c.first_word-end.ensures)

pub returns-then-end-i : goal.returns-then-end-i
unfolding spaces_in text
returns-then-end-i c =
    let none : line_end c.args.b.now c.args.i - c.args.i ≡ 0 = omega (arith, c.first_word-end.ensures) in
    sym (ap (λ n. count_below n (λ j. byte_at c.args.b.now (c.args.i + j) space)) none ∙ count_below-zero _)

pub returns : goal.returns
unfolding spaces_in text
returns c =
    let b = c.args.b.now in
    let i = c.args.i in
    let end = c.first_word-end.result in
    let near = first_word_near b i (text "\n") in
    let counted : c.count.result ≡ count_by (λ x. eqb x space) (take (end - i) (drop i b)) = search rules in
    counted
    ∙ count_places (λ x. eqb x space) 0 (take (end - i) (drop i b))
    ∙ spaces b i (end - i) end (omega arith) (omega (arith, c.first_word-end.ensures))
    ∙ ap (λ e. count_below (e - i) (λ j. byte_at b (i + j) space)) c.first_word-end.ensures

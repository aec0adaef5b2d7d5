use Rattle.std.proofs.Common.{ℕ, ◌≡◌, ◌+◌, ◌-◌, ◌≤◌, sym, ap, ◌∙◌, ◌++◌, refl, length, drop, arith}
use Rattle.std.proofs.Math.ListN.{length-drop}
use Rattle.std.proofs.lemmas.List.{length-take-le}
use Rattle.folds.specs.Runs.{sets-front}
use Rattle.console_lines.specs.Lines.{held_bytes}
use Rattle.console_lines.proofs.lines.move_front.Goals as goal

pub returns : goal.returns
returns c =
    let b = c.args.buf.now in
    let n = c.args.to - c.args.from in
    let w = held_bytes b c.args.from c.args.to in
    let some = c.requires.1 in
    let long = length-drop c.args.from b in
    let e = length-take-le n (drop c.args.from b) (omega arith) in
    let l : length w ≤ length b = omega arith in
    let z : length w ≡ 0 + n = omega arith in
    (refl, c.copy_within.ensures.after ∙ sym (sets-front b w l ∙ ap (λ (k : ℕ). w ++ drop k b) z))

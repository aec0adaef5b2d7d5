use Rattle.std.proofs.Common.{◌+◌, ◌-◌, ◌*◌, sym, ◌∙◌, arith, rules, tests, length, take, drop}
use Rattle.std.proofs.Math.Nat.{mul-div-le}
use Rattle.folds.specs.Chains.{all_of_slice}
use Rattle.text.specs.Hexadecimal.{is_hex_digit, hex_none, hex_short}
use Rattle.text.proofs.Places.{hex_part}
use Rattle.text.proofs.hexadecimal.hex_at.Goals as goal

pub returns-then-b-i : goal.returns-then-b-i
returns-then-b-i c = hex_none _ _ _ c.if-b-i.true

pub returns-then-b-i-2 : goal.returns-then-b-i-2
returns-then-b-i-2 c = sym (hex_short _ _ _ (omega arith) (omega arith))

pub returns : goal.returns
returns c =
    let b = c.args.b.now in
    let i = c.args.i in
    let n = c.args.n in
    let half = mul-div-le (length b - i) 2 in
    all_of_slice is_hex_digit 0 (take (i + 2 * n - i) (drop i b)) _ c.all.ensures.ran c.iter.ensures.rest (λ x b q k. search (rules, tests))
    ∙ hex_part b i n (i + 2 * n - i) (omega arith) (omega arith)

-- `fill_hex` puts digits, two for each byte. Assumes nothing.
use Rattle.std.proofs.Common.{ℕ, ◌+◌, ◌*◌, ◌/◌, ◌%◌, ◌∙◌, arith, ap, ap₂, get_or, set, add-one, zero-add}
use Rattle.text.specs.Hexadecimal.{glyph, hex_of}
use Rattle.text.specs.Puts.{runs_none, runs_more, runs_all}
use Rattle.text.proofs.page.fill_hex.Goals as goal

pub loop-j-init : goal.loop-j-init
loop-j-init c = runs_none _ 2 _ 0 _

pub loop-j-preserved : goal.loop-j-preserved
loop-j-preserved c =
    let j = c.loop-j.j in
    let both = ap₂ (λ (x y : ℕ). set (set c.loop-j.out (2 * j) x) (2 * j + 1) y) c.glyph.ensures c.glyph-in-loop-j.ensures in
    let x = get_or c.args.bytes.now j 0 in
    let next = ap (λ (n : ℕ). set (set c.loop-j.out (2 * j) (glyph (x / 16))) n (glyph (x % 16))) (add-one (2 * j)) in
    runs_more c.loop-j.invariant c.loop-j-test.true (rw (zero-add j) (omega arith, omega arith, both ∙ next))

pub returns : goal.returns
unfolding hex_of
returns c =
    let end = c.loop-j.auto.j-end in
    (runs_all c.loop-j.invariant c.loop-j-test.false).2

use Rattle.std.proofs.Common.{ℕ, ◌≡◌, ◌+◌, ◌-◌, ◌*◌, ◌^◌, refl, sym, ap, ap₂, ◌∙◌, arith, get_or, drop, length-drop, length-take-le, add-one, pow-suc}
use Rattle.rules.specs.Text.{digits_say}
use Rattle.text.specs.Decimals.{digits_say_more}
use Rattle.text.proofs.Places.{part_at}
use Rattle.text.proofs.read.digits_say.Goals as goal

pub loop-x-init : goal.loop-x-init
unfolding digits_say
loop-x-init c = (refl, omega arith)

pub loop-x-preserved : goal.loop-x-preserved
loop-x-preserved c =
    let b = c.args.b.now in
    let i = c.args.i in
    let j = c.loop-x.x-index in
    let long = length-drop i b in
    let width = length-take-le (i + c.args.n - i) (drop i b) (omega arith) in
    let digit : c.from.result ≡ get_or b (i + j) 0 - 48 =
    c.from.ensures ∙ c.saturating_sub.ensures ∙ ap (λ (x : ℕ). x - 48) (part_at b i (i + c.args.n - i) j (omega arith)) in
    let power : 10 ^ (j + 1) ≡ 10 ^ j * 10 = ap (λ n. 10 ^ n) (add-one j) ∙ pow-suc 10 j in
    (ap₂ (λ s d. s * 10 + d) c.loop-x.invariant.0 digit ∙ sym (digits_say_more _ _ _), omega arith)

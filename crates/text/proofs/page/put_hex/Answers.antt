-- `put_hex` adds digits, two for each byte: they fill the room that the bytes, put twice, have made. Assumes nothing.
use Rattle.std.proofs.Common.{List, ℕ, ◌≡◌, refl, ◌-◌, ◌*◌, ◌++◌, arith, ap, ◌∙◌, append_assoc, drop, length, length-append, length-drop, length-take-le}
use Rattle.folds.specs.Runs.{length-gather}
use Rattle.text.specs.Hexadecimal.{hex_of}
use Rattle.text.proofs.Places.{filled_behind}
use Rattle.text.proofs.page.put_hex.Goals as goal

-- the bytes stand behind the page, twice
twice : (p b : List ℕ) {xs ys zs : List ℕ} → xs ≡ ys → ys ≡ zs ++ b → zs ≡ p ++ b → xs ≡ p ++ (b ++ b)
twice p b e f g = e ∙ f ∙ ap (λ (t : List ℕ). t ++ b) g ∙ append_assoc p b b

pub fill_hex-requires : goal.fill_hex-requires
fill_hex-requires g c =
    let p = c.args.page.now.items in
    let b = c.args.bytes.now in
    let xs = c.as_mut_slice.result.now in
    let at = c.len-at.result in
    let start = c.len-at.ensures.value in
    let all = twice p b c.as_mut_slice.ensures.value c.put_word-2.ensures.put c.put_word.ensures.put in
    let long = length-drop at xs in
    length-take-le (length xs - at) (drop at xs) (omega arith) ∙ omega (arith, ap length all, length-append p (b ++ b), length-append b b)

pub returns : goal.returns
unfolding hex_of
returns g c =
    let p = c.args.page.now.items in
    let b = c.args.bytes.now in
    let digits = hex_of b 0 (length b) in
    let all = twice p b c.as_mut_slice.ensures.value c.put_word-2.ensures.put c.put_word.ensures.put in
    let long : length digits ≡ length b * 2 = length-gather _ 2 (λ j. refl) (length b) in
    let filled = filled_behind p (b ++ b) digits all c.len-at.ensures.value (omega (arith, long, length-append b b)) c.fill_hex.ensures in
    record {
      put = rw (← c.as_mut_slice.ensures.value) filled;
      room = rw (← c.as_mut_slice.ensures.value) (omega (arith, ap length filled, length-append p digits, long));
    }

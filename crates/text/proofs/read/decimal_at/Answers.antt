use Rattle.std.proofs.Common.{◌≡◌, ◌+◌, ◌-◌, true, not, Ok, Err, sym, ap, ap₂, ◌∙◌, arith, ltb-true, eq-eqb, eqb, lt_of_not-le, suc, ◌<◌}
use Rattle.folds.specs.Tests.{◌or◌, or_left, or_right}
use Rattle.rules.specs.Text.{byte_at, digits_end, digits_say, decimal_at}
use Rattle.text.specs.Decimals.{value, decimal_none, decimal_some, too_few, too_many, zero-first, too_large, tests_decimal, digits_end_within}
use Rattle.text.proofs.Places.{narrow_ok, narrow_err}
use Rattle.text.proofs.read.decimal_at.Goals as goal
use Rattle.text.proofs.read.decimal_at.Goals.{then-end-i-via-then-end-i, then-end-i-via-else-end-i+then-end-i-gt5, then-end-i-via-else-end-i+else-end-i-gt5+then-byte_at, then-end-i-gt1, else-end-i-gt1}

pub returns-then-end-i : goal.returns-then-end-i
returns-then-end-i c =
    let b = c.args.b.now in
    let i = c.args.i in
    let end = c.digits_end-end.ensures in
    ap Err end
    ∙ sym
    (decimal_none b i
    (elim c.then-end-i.branch [
      | then-end-i-via-then-end-i w ↦ too_few b i (omega arith)
      | then-end-i-via-else-end-i+then-end-i-gt5 w ↦ too_many b i (omega arith)
      | then-end-i-via-else-end-i+else-end-i-gt5+then-byte_at w ↦ elim w.if-end-i-gt1.branch [
        | then-end-i-gt1 v ↦ zero-first b i (omega arith) (sym v.byte_at.ensures ∙ sym v.value-is ∙ w.if-byte_at.true)
        | else-end-i-gt1 v ↦ absurd (omega (arith, ltb-true 1 (c.digits_end-end.result - i) (sym v.value-is ∙ w.if-byte_at.true)))
      ]
    ]))

pub digits_say-requires : goal.digits_say-requires
digits_say-requires c =
    let end = c.digits_end-end.ensures in
    let within = digits_end_within c.args.b.now c.args.i (omega arith) in
    (omega arith, omega arith)

pub returns-in-Err : goal.returns-in-Err
returns-in-Err c =
    let b = c.args.b.now in
    let i = c.args.i in
    let end = c.digits_end-end.ensures in
    let said : c.digits_say.result ≡ decimal_at b i = c.digits_say.ensures ∙ ap (λ n. digits_say b i (n - i)) end in
    let large : 65536 < suc c.digits_say.result = lt_of_not-le (narrow_err _ _ c.try_from.ensures c.in-Err.is) in
    ap Err end ∙ sym (decimal_none b i (too_large b i (omega arith)))

pub returns-in-Ok : goal.returns-in-Ok
returns-in-Ok c =
    let b = c.args.b.now in
    let i = c.args.i in
    let end = c.digits_end-end.ensures in
    let said : c.digits_say.result ≡ decimal_at b i = c.digits_say.ensures ∙ ap (λ n. digits_say b i (n - i)) end in
    let plain : eqb (digits_end b i) (i + 1) or not (byte_at b i 48) ≡ true =
    elim c.if-end-i-gt1.branch [
      | then-end-i-gt1 v ↦ or_right (eqb (digits_end b i) (i + 1)) (not (byte_at b i 48)) (ap not (sym v.byte_at.ensures ∙ sym v.value-is ∙ c.if-byte_at.false))
      | else-end-i-gt1 v ↦ or_left (eqb (digits_end b i) (i + 1)) (not (byte_at b i 48)) (eq-eqb (digits_end b i) (i + 1) (omega arith))
    ] in
    let fits = narrow_ok _ c.try_from.ensures c.in-Ok.is in
    let small = fits.0 in
    ap₂ (λ n e. Ok (value n e)) (fits.1 ∙ said) end
    ∙ sym (decimal_some b i (tests_decimal b i (record { some = omega arith; few = omega arith; plain = plain; small = omega arith })))

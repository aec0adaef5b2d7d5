use Rattle.std.proofs.Common.{◌≡◌, sym, ap, ◌∙◌}
use Rattle.rules.specs.Text.{digits_end, number_place, number_at}
use Rattle.text.specs.declared.read.Decimal.{Decimal}
use Rattle.text.specs.Decimals.{value}
use Rattle.text.specs.Lines.{number_in}
use Rattle.text.proofs.read.number_at.Goals as goal

pub unwrap-requires : goal.unwrap-requires
unwrap-requires c = rw (c.decimal_at.ensures ∙ number_in _ _ _ _ c.requires.0 c.requires.1 c.number_place.ensures)

pub returns : goal.returns
returns c =
    let b = c.args.b.now in
    let read = sym c.unwrap.ensures ∙ c.decimal_at.ensures ∙ number_in _ _ _ _ c.requires.0 c.requires.1 c.number_place.ensures in
    let e : c.unwrap.result ≡ value (number_at b c.args.i c.args.j) (digits_end b (number_place b c.args.i c.args.j)) = cc in
    ap (λ (d : Decimal). d.number) e

-- `read_bytes` reads the bytes that an item says: two digits a byte, where they stand. Assumes nothing.
use mathlib.Core.List.{List}
use mathlib.Core.Path.{◌≡◌, ap, ap₂, ◌∙◌}
use Prim.Native.Nat.{ℕ, ◌-◌, ◌/◌}
use native.Mathlib.Omega.{arith}
use lib.Seq.{sets}
use Rattle.text.specs.Hexadecimal.{hex_at, hex_bytes}
use Rattle.console_lines.specs.Items.{item_place, item_end, item_end_least}
use Rattle.console_lines.specs.Words.{item_width}
use Rattle.console_lines.specs.Says.{byte_count, bytes_in}
use Rattle.console_lines.specs.Laws.{hex_stands_lem, bytes_few}
use Rattle.console_lines.proofs.said.read_bytes.Goals as goal

-- the item that was found is item j, and so many bytes are its
width : (line : List ℕ) (j : ℕ) {from end : ℕ} → from ≡ item_place line j → end ≡ item_end line from
    → (end - from) / 2 ≡ item_width line (item_place line j) / 2
width line j place ended = ap₂ (λ e i. (e - i) / 2) (ended ∙ ap (item_end line) place) place

pub overflow_sub-n : goal.overflow_sub-n
overflow_sub-n c = omega (arith, c.item_end.ensures, item_end_least c.args.line.now c.item_place-from.result)

pub read_hex-requires : goal.read_hex-requires
read_hex-requires c =
    let line = c.args.line.now in
    let place = item_place line c.args.j in
    let n = width c.args.line.now c.args.j c.item_place-from.ensures c.item_end.ensures in (
      ap₂ (hex_at line) c.item_place-from.ensures n ∙ hex_stands_lem line place c.requires.keeps,
      omega (arith, n, bytes_few line place c.requires.item.short, c.requires.room),
    )

pub returns : goal.returns
unfolding byte_count bytes_in
returns c =
    let n = width c.args.line.now c.args.j c.item_place-from.ensures c.item_end.ensures in
    (n, c.read_hex.ensures ∙ ap₂ (λ i m. sets c.args.bytes.now 0 (hex_bytes c.args.line.now i m)) c.item_place-from.ensures n)

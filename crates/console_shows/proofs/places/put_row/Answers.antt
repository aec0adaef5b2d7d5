-- `put_row` adds the entries of a row. Assumes nothing.
use Rattle.std.proofs.Common.{rules, arith}
use borrow.Author.Tests.{tests}
use Rattle.rules.specs.Numbers.{element}
use Rattle.text.specs.Pages.{adds_room, numbers_of_map}
use Rattle.console_shows.specs.Show.{row_text}
use Rattle.console_shows.proofs.places.put_row.Goals as goal

pub returns : goal.returns
unfolding row_text
returns g c =
    let same = numbers_of_map (λ x. x.0) (element 0) c.args.width c.map.ensures.items (omega arith) (λ p q x y k. search (rules, tests)) in
    adds_room (rw (same.0, same.1) at c.put_numbers.ensures) (omega arith)

-- `put_polynomial` adds a word and coefficients. Assumes nothing.
use Rattle.std.proofs.Common.{rules, arith}
use borrow.Author.Tests.{tests}
use Rattle.rules.specs.Numbers.{exponent}
use Rattle.text.specs.Pages.{adds_room, adds_then, numbers_of_map}
use Rattle.console_page.specs.Reading.{numbers_text}
use Rattle.console_page.proofs.messages.put_polynomial.Goals as goal

pub returns : goal.returns
unfolding numbers_text
returns g c =
    let same = numbers_of_map (λ x. x.0) (exponent 0) c.args.k c.map.ensures.items (omega arith) (λ p q x y k. search (rules, tests)) in
    adds_then c.put_word.ensures (adds_room (rw (same.0, same.1) at c.put_numbers.ensures) (omega arith))

-- `width_in` finds the k of a message. Assumes nothing.
use Rattle.std.proofs.Common.{rules, refl, sym, ◌∙◌}
use Rattle.std.specs.Prelude.{not}
use Rattle.std.proofs.lemmas.Iterator.{YieldsList-from_range}
use Rattle.std.proofs.lemmas.Iterator.Adapters.{option_map_id}
use Rattle.std.proofs.lemmas.Iterator.Search.{find_from_yields_List}
use borrow.Author.Tests.{tests}
use Rattle.rules.specs.Messages.{malformed}
use Rattle.console_page.specs.Reading.{of_width, width_in}
use Rattle.console_page.proofs.reading.width_in.Goals as goal

pub returns : goal.returns
unfolding width_in
returns c =
    sym (option_map_id _)
    ∙ find_from_yields_List (λ k. not (malformed (of_width k) c.args.s.now)) _ _ _ c.find.ensures.ran (YieldsList-from_range 2 9 7 refl refl)
    (λ x b q k. search (rules, tests))

-- `kept_marks` marks the boxes whose recovery share is kept. Assumes nothing.
use Rattle.std.specs.Prelude.{◌≡◌, Bool, false, List, map, None, is_some, length, get_or}
use Rattle.std.proofs.Common.{ap, sym, ◌∙◌, rules}
use Rattle.std.proofs.Math.ListN.{get_or-map}
use Rattle.std.proofs.lemmas.List.{ext_get_or, length-map}
use Rattle.console_shows.proofs.show.kept_marks.Goals as goal

pub returns : goal.returns
returns c =
    let shares = c.args.shares in
    let made = c.map.result in
    let same = c.map.ensures.items in
    let ten : length shares ≡ 10 = search rules in
    ap (λ (at : List Bool). record { at = at })
    (ext_get_or false made (map (λ keep. is_some keep) shares) (same.long ∙ sym (length-map shares (λ keep. is_some keep) ∙ ten)) (λ i l.
    let called = same.at i None false (rw same.long at l) in
    let here : get_or made i false ≡ is_some (get_or shares i None) = search rules in
    here ∙ sym (get_or-map (λ keep. is_some keep) shares i None)))

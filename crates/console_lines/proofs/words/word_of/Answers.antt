use Rattle.std.proofs.Common.{ℕ, Bool, List, [], ◌∷◌, ◌≡◌, cond, true, false, Option, Some, None, sym, ap, ◌∙◌, refl, map, rules, tests}
use Rattle.std.specs.List.{find}
use Rattle.std.specs.Option.{option_map}
use Rattle.std.proofs.lemmas.Iterator.{YieldsList-from_slice}
use Rattle.std.proofs.lemmas.Iterator.Search.{find_from_yields_List}
use denote.Ref.{Bor}
use Rattle.folds.specs.Tests.{pick}
use Rattle.rules.specs.Text.{text}
use Rattle.console_lines.specs.declared.words.Word.{Word}
use Rattle.console_lines.specs.Words.{Name, word_is, names, word_in}
use Rattle.console_lines.proofs.words.word_of.Goals as goal

-- a row of the table, as a name; the test of it
abbrev named : Bor (List ℕ) × Word → Name
named y = record { bytes = y.0.now; word = y.1 }

abbrev tests_name : List ℕ → Bor (List ℕ) × Word → Bool
tests_name b y = word_is b y.0.now

found : (b : List ℕ) (xs : List (Bor (List ℕ) × Word)) → option_map (λ y. y.1) (find (tests_name b) xs) ≡ word_in b (map named xs)
unfolding word_in
found b [] = refl
found b (x ∷ xs) = go (word_is b x.0.now) (found b xs)
  where
    go : (t : Bool) → option_map (λ y. y.1) (find (tests_name b) xs) ≡ word_in b (map named xs)
        → option_map (λ y. y.1) (cond t (Some x) (find (tests_name b) xs)) ≡ pick t (Some x.1) (word_in b (map named xs))
    go true h = refl
    go false h = h

-- what `find` gave: the first row that passes, or none
module _ (b : List ℕ) (xs : List (Bor (List ℕ) × Word)) {r : Option (Bor (Bor (List ℕ) × Word))} (h : option_map (λ y. y.now) r ≡ find (tests_name b) xs) where
  found_some : {x : Bor (Bor (List ℕ) × Word)} → r ≡ Some x → Some x.now.1 ≡ word_in b (map named xs)
  found_some e = ap (λ o. option_map (λ y. y.1) (option_map (λ y. y.now) o)) (sym e) ∙ ap (option_map (λ y. y.1)) h ∙ found b xs

  found_none : r ≡ None → None ≡ word_in b (map named xs)
  found_none e = ap (λ o. option_map (λ y. y.1) (option_map (λ y. y.now) o)) (sym e) ∙ ap (option_map (λ y. y.1)) h ∙ found b xs

pub returns-in_err-x : goal.returns-in_err-x
unfolding names text
returns-in_err-x c =
    let b = c.args.line.now in
    let xs = c.iter.result.rest.now in
    let first = find_from_yields_List (tests_name b) _ _ c.find.result c.find.ensures.ran (YieldsList-from_slice xs refl) (λ x t q k. search (rules, tests)) in
    c.from_residual.ensures ∙ found_none b xs first c.in_err-x.was ∙ ap (λ l. word_in b (map named l)) c.iter.ensures.rest

pub returns : goal.returns
unfolding names text
returns c =
    let b = c.args.line.now in
    let xs = c.iter.result.rest.now in
    let first = find_from_yields_List (tests_name b) _ _ c.find.result c.find.ensures.ran (YieldsList-from_slice xs refl) (λ x t q k. search (rules, tests)) in
    found_some b xs first c.in_ok-x.was ∙ ap (λ l. word_in b (map named l)) c.iter.ensures.rest

-- What is known past parts of the table: the numbers of a record that is sound; rows 1 to 3.
--
-- In order: two tables one behind the other, by what the test of the first gave; past rows 15 and 12; past rows 1 to 3.
-- Assumes nothing.
use Rattle.std.specs.Prelude.{◌≡◌, refl, true, List, ◌++◌, ℕ, Result, Ok, Err, IsErrAnd}
use Rattle.std.proofs.Common.{sym, ap, ◌∙◌}
use Rattle.std.proofs.lemmas.Bool.{not-false}
use Rattle.std.proofs.lemmas.Result.{err_from_is_err_and}
use Rattle.rules.specs.declared.Record.{Record}
use Rattle.rules.specs.declared.Refusal.{Refusal}
use Rattle.rules.specs.declared.SetUp.{SetUp}
use Rattle.rules.specs.Refusals.{refusal_number, refusal_of}
use Rattle.rules.specs.Answers.{Row, first_of, call_rows, form_rows}
use Rattle.rules.specs.Laws.Numbers.{Ranges}
use Rattle.rules.proofs.Laws.RoundTrip.{formed}
use Rattle.rules.proofs.Laws.Sound.{sound_ranges}
use Rattle.rules.proofs.Laws.Table.{row, lacks, numbers, past, stops, goes_on, refusal_some}
use Rattle.rules.proofs.Laws.Passed.{called}
use Rattle.box_refusals.specs.Known.{InForm}

-- The test of the first table stops at a refusal, else that of the second goes on.
module _ (xs ys : List Row) (d : lacks 0 (numbers xs) ≡ true) {r : Result Unit Refusal} (is : refusal_of r ≡ first_of xs) where
  pub stays : {e : Refusal} → r ≡ Err e → refusal_of r ≡ first_of (xs ++ ys)
  stays {e} at = ap refusal_of at ∙ stops xs ys d (sym (ap refusal_of at) ∙ is) (refusal_some e)

  -- s is what `?` hands on
  pub stopped : {e : Refusal} → r ≡ Err e → (s : Result Unit Refusal) → IsErrAnd s (λ e'. e' ≡ e) → refusal_of s ≡ first_of (xs ++ ys)
  stopped at s same =
      let p = err_from_is_err_and s same in
      ap refusal_of p.1 ∙ ap refusal_number p.2 ∙ sym (ap refusal_of at) ∙ stays at

  pub followed : {v : Unit} → r ≡ Ok v → {n : ℕ} → n ≡ first_of ys → n ≡ first_of (xs ++ ys)
  followed none e = goes_on xs ys d (sym (ap refusal_of none) ∙ is) refl e

-- past rows 15 and 12
pub ranges_called : (x : Record) (lent : ℕ) {r : Result Unit Refusal} {v : Unit} → refusal_of r ≡ first_of (call_rows x lent) → r ≡ Ok v → Ranges x.setup
ranges_called x lent is none = sound_ranges x (called x lent (sym is ∙ ap refusal_of none)).is_sound

pub form_numbered : (u : SetUp) (sender : ℕ) (bytes : List ℕ) → lacks 0 (numbers (form_rows u sender bytes)) ≡ true
unfolding form_rows lacks
form_numbered u sender bytes = refl

-- past rows 1 to 3
pub in_form : (u : SetUp) (sender : ℕ) (bytes : List ℕ) {r : Result Unit Refusal} {v : Unit} → Ranges u
    → refusal_of r ≡ first_of (form_rows u sender bytes) → r ≡ Ok v → InForm u sender bytes
unfolding form_rows row lacks
in_form u sender bytes ranges is none =
    let row_of = past (form_rows u sender bytes) refl (sym is ∙ ap refusal_of none) in
    record { ranges = ranges; form = formed u bytes (row_of 2); box = not-false _ (row_of 1) }

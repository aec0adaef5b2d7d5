-- What holds of a call past rows of the table. Each fact is a row that does not hold (`past`).
--
-- In order: a deal and a recovery command that are accepted; a delivery that gets a hearing, one that is accepted, and one that
-- is refused at its hearing and marks its sender heard; the record after a refusal.
-- Assumes nothing.
use Rattle.std.specs.Prelude.{is_some}
use Rattle.std.specs.Prelude.{◌≡◌, true, List, ◌++◌, ◌≢◌, ℕ, eqb}
use Rattle.std.proofs.Math.Path.{refl, ap}
use Rattle.std.proofs.Common.{◌∙◌, arith}
use Rattle.std.proofs.Math.Bool.{false, not}
use borrow.Author.Tests.{le-leb, eq-eqb, eqb-true, ltb-false, not-false, ne_eqb}
use Rattle.folds.specs.Tests.{◌and◌, and_rest, or_false, false_unless}
use Rattle.rules.specs.declared.Record.{Record}
use Rattle.rules.specs.Messages.{tag_in, has_matrix}
use Rattle.rules.specs.Answers.{Row, first_row, first_of, call_rows, own_deal_rows, deal_rows, own_recover_rows, recover_rows, form_rows, turn_rows, hearing_tests, hearing_rows, early_rows, deliver_rows, refusal_heard}
use Rattle.rules.proofs.Laws.Numbers.{is_box_lem}
use Rattle.rules.proofs.Laws.RoundTrip.{formed}
use Rattle.rules.proofs.Laws.Table.{row, lacks, numbers, first_none, past, both_passed, marks_by, each, marking_by, nobody, marked_behind, first_before, first_behind, first_marks, unmarked}
use Rattle.rules.specs.Laws.Passed.{Called, DealPassed, RecoverPassed, Hearing, Passed}

-- ---- commands

pub called : (x : Record) (lent : ℕ) → first_of (call_rows x lent) ≡ 0 → Called x lent
unfolding call_rows row lacks
called x lent e =
    let row_of = past (call_rows x lent) refl e in
    record { room = ltb-false lent 2048 (row_of 15); is_sound = not-false _ (row_of 12) }

pub call_numbered : (x : Record) (lent : ℕ) → lacks 0 (numbers (call_rows x lent)) ≡ true
unfolding call_rows lacks
call_numbered x lent = refl

pub deal_passed : (x : Record) (secret : ℕ) (coins : List ℕ) (lent : ℕ) → first_of (deal_rows x secret coins lent) ≡ 0 → DealPassed x secret coins lent
unfolding deal_rows call_rows own_deal_rows row lacks
deal_passed x secret coins lent e =
    let row_of = past (deal_rows x secret coins lent) refl e in
    record {
      called = called x lent (both_passed (call_rows x lent) (own_deal_rows x secret coins) refl e).0;
      dealer = not-false _ (or_false (not (eqb x.setup.i x.setup.d)) _ (row_of 13)).0;
      first = (or_false (not (eqb x.setup.i x.setup.d)) _ (row_of 13)).1;
      keeps = not-false _ (row_of 14);
    }

pub recover_passed : (x : Record) (lent : ℕ) → first_of (recover_rows x lent) ≡ 0 → RecoverPassed x lent
unfolding recover_rows call_rows own_recover_rows row lacks
recover_passed x lent e =
    let row_of = past (recover_rows x lent) refl e in
    record {
      called = called x lent (both_passed (call_rows x lent) (own_recover_rows x) refl e).0;
      completed = not-false _ (or_false (not (is_some x.progress.completion)) _ (row_of 13)).0;
      first = (or_false (not (is_some x.progress.completion)) _ (row_of 13)).1;
    }

-- ---- delivery

module _ (x : Record) (sender : ℕ) (bytes : List ℕ) (lent : ℕ) where
  pub gets_hearing : first_of (early_rows x sender bytes lent) ≡ 0 → Called x lent × Hearing x sender bytes
  unfolding early_rows call_rows form_rows turn_rows row lacks
  gets_hearing e =
      let row_of = past (early_rows x sender bytes lent) refl e in
      let box = not-false _ (row_of 1) in
      let b = is_box_lem x.setup sender box in (
        called x lent (both_passed (call_rows x lent) _ refl e).0,
        record {
          is_sound = not-false _ (row_of 12);
          box = box;
          within = omega arith;
          form = formed x.setup bytes (row_of 2);
          ours = row_of 3;
          dealer = λ q. eqb-true _ _ (not-false _ (and_rest _ _ (row_of 4) (eq-eqb (tag_in bytes) 1 q)));
          commanded = λ q. not-false _ (and_rest _ _ (row_of 5) (eq-eqb (tag_in bytes) 4 q));
          unrecovered = λ q. and_rest _ _ (row_of 6) (eq-eqb (tag_in bytes) 4 q);
          unheard = row_of 7;
        },
      )

pub hearing_passed : (x : Record) (sender : ℕ) (bytes : List ℕ) → Hearing x sender bytes → first_of (hearing_rows x sender bytes) ≡ 0 → Passed x sender bytes
unfolding hearing_rows row lacks has_matrix
hearing_passed x sender bytes h e =
    let row_of = past (hearing_rows x sender bytes) refl e in
    record {
      hearing = h;
      passes = λ l. not-false _ (and_rest _ _ (row_of 8) (le-leb (tag_in bytes) 3 l));
      exponents = not-false _ (row_of 9);
      check = not-false _ (row_of 10);
    }

-- the rows before the hearing have numbers other than 0, and mark nobody
module _ (x : Record) (sender : ℕ) (bytes : List ℕ) (lent : ℕ) where
  pub early_numbered : lacks 0 (numbers (early_rows x sender bytes lent)) ≡ true
  unfolding early_rows call_rows form_rows turn_rows lacks
  early_numbered = refl

  pub early_quiet : nobody (early_rows x sender bytes lent) ≡ true
  unfolding early_rows call_rows form_rows turn_rows marks_by
  early_quiet = refl

pub rows_passed : (x : Record) (sender : ℕ) (bytes : List ℕ) (lent : ℕ) → first_of (deliver_rows x sender bytes lent) ≡ 0 → Passed x sender bytes
unfolding deliver_rows
rows_passed x sender bytes lent e =
    let each = both_passed (early_rows x sender bytes lent) (hearing_rows x sender bytes) (early_numbered x sender bytes lent) e in
    hearing_passed x sender bytes (gets_hearing x sender bytes lent each.0).1 each.1

-- A refusal that marks the sender heard is one at the hearing.
pub marked_hearing : (x : Record) (sender : ℕ) (bytes : List ℕ) (lent : ℕ) → (first_row (deliver_rows x sender bytes lent)).marks ≡ true → Hearing x sender bytes
unfolding deliver_rows
marked_hearing x sender bytes lent e =
    let early = early_rows x sender bytes lent in
    let none = marked_behind early (hearing_rows x sender bytes) (early_quiet x sender bytes lent) e in
    (gets_hearing x sender bytes lent ((first_none early (early_numbered x sender bytes lent)).1 none)).1

-- ---- the record after a refusal

-- at the hearing every row marks the sender heard, if the message has a matrix
hearing_marks : (x : Record) (sender : ℕ) (bytes : List ℕ)
    → (first_row (hearing_rows x sender bytes)).marks ≡ not (eqb (first_of (hearing_rows x sender bytes)) 0) and has_matrix (tag_in bytes)
unfolding hearing_rows each
hearing_marks x sender bytes =
    first_marks (λ n. not (eqb n 0) and has_matrix (tag_in bytes)) (hearing_rows x sender bytes) refl
    (marking_by (λ n. not (eqb n 0)) (has_matrix (tag_in bytes)) (hearing_tests x sender bytes) refl)

module _ (x : Record) (sender : ℕ) (bytes : List ℕ) (lent : ℕ) where
  -- before the hearing it is as it came,
  pub early_leaves : first_of (early_rows x sender bytes lent) ≢ 0
      → refusal_heard (first_row (deliver_rows x sender bytes lent)).marks x sender bytes ≡ x
  unfolding deliver_rows refusal_heard
  early_leaves some =
      let early = early_rows x sender bytes lent in
      let marks : (first_row (early ++ hearing_rows x sender bytes)).marks ≡ false =
      ap (λ (r : Row). r.marks)
      (first_before early (hearing_rows x sender bytes) (false_unless _ (λ h. some ((first_none early (early_numbered x sender bytes lent)).1 h))))
      ∙ unmarked early (early_quiet x sender bytes lent) in
      rw marks

  -- and at the hearing the sender is marked heard, but for a recovery share.
  pub hearing_leaves : first_of (early_rows x sender bytes lent) ≡ 0 → first_of (hearing_rows x sender bytes) ≢ 0
      → refusal_heard (first_row (deliver_rows x sender bytes lent)).marks x sender bytes ≡ refusal_heard (has_matrix (tag_in bytes)) x sender bytes
  unfolding deliver_rows
  hearing_leaves none some =
      let early = early_rows x sender bytes lent in
      ap (λ m. refusal_heard m x sender bytes)
      (ap (λ (r : Row). r.marks)
      (first_behind early (hearing_rows x sender bytes) ((first_none early (early_numbered x sender bytes lent)).0 none))
      ∙ hearing_marks x sender bytes ∙ ap (λ b. not b and has_matrix (tag_in bytes)) (ne_eqb _ 0 some))

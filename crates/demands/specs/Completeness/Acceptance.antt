-- What a message needs to be accepted: with that no row of the table holds.
--
-- In order: what it needs; that it is then accepted.
-- Assumes nothing.
use Rattle.std.specs.Prelude.{is_some}
use Rattle.std.specs.Prelude.{◌≡◌, refl, true, false, not, ℕ, ◌-◌, ◌≤◌, eqb, length, replicate}
use Rattle.std.proofs.Common.{sym, ap, ◌∙◌, arith, eqb-true, eq-eqb, le-ltb, leb-true}
use Rattle.std.proofs.lemmas.List.{length-replicate}
use Rattle.folds.specs.Tests.{◌and◌, and_intro, and_not, false_unless, and_left, and_right, true≢false}
use Rattle.rules.specs.declared.Record.{Record}
use Rattle.rules.specs.Numbers.{is_box}
use Rattle.rules.specs.declared.Message.{Message}
use Rattle.rules.specs.Messages.{tag_of, framed, bytes_of, has_matrix}
use Rattle.rules.specs.Dealing.{matrix_passes}
use Rattle.rules.specs.Record.{group_in, heard_for, sound}
use Rattle.rules.specs.Answers.{exponents_keep, checks, deliver_rows, call_rows, form_rows, turn_rows, hearing_rows, early_rows}
use Rattle.rules.proofs.Laws.Table.{none}
use Rattle.rules.proofs.Laws.DemandOne.{deliver_number}
use Rattle.rules.proofs.Laws.Sound.{sound_facts}
use Rattle.rules.proofs.Laws.RoundTrip.{Fits, setup_fits, message_formed, message_ours, message_there, matrix_part, matrix_there}
use Rattle.demands.specs.Terms.Histories.{gets, doing}

-- ---- what a message needs

pub record Welcome (x : Record) (sender : ℕ) (m : Message) : Type 0 where
  pub fits : Fits x.setup m
  pub dealer : tag_of m ≡ 1 → sender ≡ x.setup.d
  pub commanded : tag_of m ≡ 4 → is_some x.progress.completion and x.progress.commanded ≡ true
  pub unrecovered : tag_of m ≡ 4 → is_some x.recovered ≡ false
  pub unheard : heard_for x (tag_of m) (sender - 1) ≡ false
  pub matrix : tag_of m ≤ 3 → matrix_passes (group_in x) x.setup.k (matrix_part m) ≡ true
  pub exponents : exponents_keep x.setup m ≡ true
  pub check : checks x sender m ≡ true

-- ---- it is accepted

pub welcomed : (x : Record) (sender : ℕ) (m : Message) (lent : ℕ) → sound x ≡ true → is_box x.setup sender ≡ true → 2048 ≤ lent
    → Welcome x sender m → (doing x (gets sender (bytes_of x.setup m) lent)).outcome.answer.no ≡ 0
unfolding doing deliver_rows early_rows call_rows form_rows turn_rows hearing_rows none bytes_of framed has_matrix
welcomed x sender m lent all_sound sender-box long w =
    let u = x.setup in
    let bytes = bytes_of u m in
    let fit = setup_fits u (sound_facts x all_sound).numbers in
    let read = message_there u m w.fits in
    let n = length-replicate {A = ℕ} lent 0 in
    (deliver_number x sender bytes (replicate lent 0)).zero.1
    (and_intro _ _ (ap not (le-ltb (length {A = ℕ} (replicate lent 0)) 2048 (omega arith)))
    (and_intro _ _ (ap (λ b. not (not b)) all_sound)
    (and_intro _ _ (ap (λ b. not (not b)) sender-box)
    (and_intro _ _ (ap not (message_formed u m fit))
    (and_intro _ _ (ap not (message_ours u m fit))
    (and_intro _ _ (ap not (and_not _ _ (λ e. eq-eqb sender u.d (w.dealer (eqb-true (tag_of m) 1 e)))))
    (and_intro _ _ (ap not (and_not _ _ (λ e. w.commanded (eqb-true (tag_of m) 4 e))))
    (and_intro _ _ (ap not (false_unless _ (λ e. true≢false (sym (and_right (eqb (tag_of m) 4) _ e)
    ∙ w.unrecovered (eqb-true (tag_of m) 4 (and_left _ _ e))))))
    (and_intro _ _ (ap not w.unheard)
    (and_intro _ _ (ap not (and_not _ _ (λ e.
    let low = leb-true (tag_of m) 3 e in ap (matrix_passes (group_in x) u.k) (matrix_there u m low w.fits) ∙ w.matrix low)))
    (and_intro _ _ (ap (λ b. not (not b)) (ap (exponents_keep u) read ∙ w.exponents))
    (and_intro _ _ (ap (λ b. not (not b)) (ap (checks x sender) read ∙ w.check)) refl))))))))))))

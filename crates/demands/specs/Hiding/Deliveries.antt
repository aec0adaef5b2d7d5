-- A message delivered in two runs: the same answer, and moved what is left and sent.
--
-- In order: where ready is sent; the rows of the table; the step of an accepted message; the delivery.
-- Assumes nothing.
use Rattle.std.specs.Prelude.{◌≡◌, Bool, List, ℕ, ◌+◌, ◌*◌, ◌-◌, length}
use Rattle.std.proofs.Math.Path.{refl, sym, ap, subst}
use Rattle.std.proofs.Common.{ap₂, ◌∙◌, mul_comm, arith, eqb-true, eq-eqb}
use Rattle.std.proofs.Math.Bool.{true, false, not}
use Rattle.std.proofs.Math.Logic.{⊎_elim}
use Rattle.std.proofs.Math.Dec.{eqb}
use Rattle.std.proofs.lemmas.Bool.{not-false}
use Rattle.folds.specs.Tests.{◌and◌, pick, and_right, and_rest, true≢false}
use Rattle.std.specs.Prelude.{Option, Some, None, is_some}
use Rattle.rules.specs.declared.Element.{Element}
use Rattle.rules.specs.declared.Pair.{Pair}
use Rattle.rules.specs.declared.Record.{Record}
use Rattle.rules.specs.declared.SetUp.{SetUp}
use Rattle.rules.specs.declared.Slot.{Slot}
use Rattle.rules.specs.Numbers.{is_box}
use Rattle.rules.specs.declared.Message.{Message}
use Rattle.rules.specs.declared.Message.TheVariants.{Send as send, Echo as echo, Ready as ready, Recovery as recovery}
use Rattle.rules.specs.Messages.{tag_in, has_matrix, message_in, matrix_in, polynomials_in, four_in, whole_length, malformed}
use Rattle.rules.specs.Dealing.{matrix_passes, share_check}
use Rattle.rules.specs.Record.{group_in, slot_at, heard_for, matrix_of, sound}
use Rattle.rules.specs.Steps.{heard, own_slot, free_slot, slot_for, opened, message_step, point_step, taken, ready_due}
use Rattle.rules.specs.Answers.{first_of, exponents_keep, share_checks, checks, deliver_rows, refusal_heard, deliver, form_rows, turn_rows, hearing_rows, Row, first_row, early_rows, call_rows}
use Rattle.rules.proofs.Laws.Numbers.{is_box_lem}
use Rattle.rules.specs.declared.Side.{Side}
use Rattle.rules.specs.declared.Side.TheVariants.{ByEcho, ByReady}
use Rattle.rules.proofs.Laws.Facts.{ear}
use Rattle.rules.proofs.Laws.RoundTrip.{by_tag, is_send_lem, is_echo_lem, is_ready_lem}
use Rattle.rules.specs.Laws.Passed.{Passed}
use Rattle.rules.proofs.Laws.Passed.{rows_passed}
use Rattle.demands.specs.Terms.Histories.{own}
use Rattle.demands.specs.Hiding.Moves.{Twice, numbers, in_set, dealt, zed, moved_message, moved_record, slot_moved, moved_four}
use Rattle.demands.specs.Hiding.Hypotheses.{Given}
use Rattle.demands.specs.Hiding.Unseen.{point_unseen, polynomials_unseen}
use Rattle.demands.specs.Hiding.Steps.{MovedStep, matrix_moved, send_moved, Ripe, point_step_moved}
use Rattle.demands.specs.Hiding.Outcomes.{DoneAlike, answered_alike, row_alike, call_alike}
use Rattle.demands.specs.Hiding.Arrivals.{Arrives}
use Rattle.demands.specs.Own.{own_matrix, own_message, own_exponents}

-- ---- ready is sent

-- the slot that takes an echo or ready
abbrev pub taking : Record → ℕ → List ℕ → Side → Slot
taking x from bytes b =
    let C = matrix_in x.setup bytes in
    taken b (opened C (slot_at x (slot_for x C))) (from - 1) (four_in x.setup bytes)

-- where ready is sent it is for the dealt matrix, from k points
abbrev pub RipeIfSent : Twice → Record → ℕ → List ℕ → Type 0
RipeIfSent t x from bytes =
    (b : Side) → tag_in bytes ≡ ear b + 1 → ready_due x.setup b (taking x from bytes b) ≡ true → Ripe t (taking x from bytes b)

-- ---- the rows of the table

module _ (t : Twice) (h : Given t) (i : ℕ) (x : Record) (own_setup : x.setup ≡ own (numbers t) i) where
  abbrev x' : Record
  x' = moved_record t i x

  share_checks_lem : (c : Option ℕ) (m : ℕ) (s : Pair) → share_checks x' c m s ≡ share_checks x c m s
  share_checks_lem None m s = refl
  share_checks_lem (Some r) m s =
      ap (λ (C : List (List Element)). share_check (group_in x) x.setup.k C m s)
      (ap matrix_of (slot_moved t i x r) ∙ matrix_moved t i (slot_at x r))

  checks_moved : (from : ℕ) (msg : Message) → checks x' from (moved_message t from i msg) ≡ checks x from msg
  checks_moved from (send C P) = rw own_setup (polynomials_unseen t h C i i P)
  checks_moved from (echo C f) = rw own_setup (point_unseen t h C i from (zed t from * zed t i) f)
  checks_moved from (ready C f) = rw own_setup (point_unseen t h C i from (zed t from * zed t i) f)
  checks_moved from (recovery s) = share_checks_lem x.progress.completion from s

  own_keeps : (bytes : List ℕ) → exponents_keep (own (numbers t) i) (message_in (own (numbers t) i) bytes) ≡ exponents_keep (numbers t) (message_in (numbers t) bytes)
  own_keeps bytes = ap (exponents_keep (own (numbers t) i)) (own_message (numbers t) i bytes) ∙ own_exponents (numbers t) i (message_in (numbers t) bytes)

  own_box : (from : ℕ) → is_box x.setup from ≡ is_box (numbers t) from
  unfolding is_box
  own_box from = rw own_setup

  module _ (from : ℕ) (bytes bytes' : List ℕ) (a : Arrives t i from bytes bytes') where
    -- what the message says goes by the session's numbers, not by the box's own
    form_same : malformed x.setup bytes ≡ malformed x.setup bytes'
    unfolding malformed whole_length
    form_same = rw own_setup (sym a.form)

    matrix_same : matrix_in x.setup bytes ≡ matrix_in x.setup bytes'
    unfolding matrix_in
    matrix_same = rw own_setup (sym a.matrix)

    exponents_same : exponents_keep x.setup (message_in x.setup bytes) ≡ exponents_keep x.setup (message_in x.setup bytes')
    exponents_same = rw own_setup (own_keeps bytes ∙ sym a.exponents ∙ sym (own_keeps bytes'))

    said_moved : is_box x.setup from ≡ true → (tag_in bytes ≡ 1 → from ≡ x.setup.d)
        → exponents_keep x.setup (message_in x.setup bytes) ≡ true
        → message_in x.setup bytes' ≡ moved_message t from i (message_in x.setup bytes)
    unfolding is_box
    said_moved =
        subst
        (λ (u : SetUp). is_box u from ≡ true → (tag_in bytes ≡ 1 → from ≡ u.d)
        → exponents_keep u (message_in u bytes) ≡ true
        → message_in u bytes' ≡ moved_message t from i (message_in u bytes))
        (sym own_setup)
        (λ box dealer keeps.
        own_message (numbers t) i bytes' ∙ a.says box dealer (sym (own_keeps bytes) ∙ keeps) ∙ ap (moved_message t from i) (sym (own_message (numbers t) i bytes)))

    from_dealer : eqb (tag_in bytes) 1 and not (eqb from x.setup.d) ≡ false → tag_in bytes ≡ 1 → from ≡ x.setup.d
    from_dealer z e = eqb-true from x.setup.d (not-false _ (and_rest (eqb (tag_in bytes) 1) _ z (eq-eqb _ 1 e)))

    rows_same : sound x ≡ true → sound x' ≡ true → (buffer : List ℕ)
        → first_row (deliver_rows x from bytes (length buffer)) ≡ first_row (deliver_rows x' from bytes' (length buffer))
    unfolding deliver_rows early_rows call_rows form_rows turn_rows hearing_rows
    rows_same hx hy buffer =
        let tag = sym a.tag in
        let marks = ap has_matrix tag in
        call_alike x _ (length buffer) _ _ hx hy
        (row_alike _ _ _ _ refl refl refl (λ z1.
        row_alike _ _ _ _ refl refl form_same (λ z2.
        row_alike _ _ _ _ refl refl (rw own_setup (sym a.session)) (λ z3.
        row_alike _ _ _ _ refl refl (ap (λ v. eqb v 1 and not (eqb from x.setup.d)) tag) (λ z4.
        row_alike _ _ _ _ refl refl (ap (λ v. eqb v 4 and not (is_some x.progress.completion and x.progress.commanded)) tag) (λ z5.
        row_alike _ _ _ _ refl refl (ap (λ v. eqb v 4 and is_some x.recovered) tag) (λ z6.
        row_alike _ _ _ _ refl refl (ap (λ v. heard_for x v (from - 1)) tag) (λ z7.
        row_alike _ _ _ _ refl marks (ap₂ (λ v C. has_matrix v and not (matrix_passes (group_in x) x.setup.k C)) tag matrix_same) (λ z8.
        row_alike _ _ _ _ refl marks (ap not exponents_same) (λ z9.
        row_alike _ _ _ _ refl marks
        (ap not (sym (ap (checks x' from) (said_moved (not-false _ z1) (from_dealer z4) (not-false _ z9))
        ∙ checks_moved from (message_in x.setup bytes))))
        (λ z10. refl)))))))))))

    -- ---- the step of an accepted message

    module _ (c : Passed x from bytes) (ripe : RipeIfSent t x from bytes) (uncommanded : x.progress.commanded ≡ false) where
      Takes : Message → Type 0
      Takes msg = MovedStep t i (message_step x (from - 1) msg) (message_step x' (from - 1) (moved_message t from i msg))

      back : from - 1 + 1 ≡ from
      back = let w = is_box_lem x.setup from c.hearing.box in omega arith

      swapped : zed t i * zed t (from - 1 + 1) ≡ zed t from * zed t i
      swapped = ap (λ v. zed t i * zed t v) back ∙ mul_comm (zed t i) (zed t from)

      send_takes : tag_in bytes ≡ 1 → Takes (send (matrix_in x.setup bytes) (polynomials_in x.setup bytes))
      unfolding Takes heard
      send_takes e =
          let dealer : from ≡ (numbers t).d = c.hearing.dealer e ∙ ap (λ (u : SetUp). u.d) own_setup in
          let D : matrix_in x.setup bytes ≡ dealt t =
          ap (λ (u : SetUp). matrix_in u bytes) own_setup ∙ own_matrix (numbers t) i bytes
          ∙ ⊎_elim (λ w. absurd (true≢false (sym w ∙ ap (in_set t) dealer ∙ h.dealer))) (λ w. w)
          (a.whose (sym (own_box from) ∙ c.hearing.box) (omega arith)) in
          rw D (send_moved t h i (heard x 1 (from - 1)) own_setup (polynomials_in x.setup bytes))

      point_takes : (b : Side) → tag_in bytes ≡ ear b + 1
          → MovedStep t i (point_step b (heard x (ear b + 1) (from - 1)) (from - 1) (matrix_in x.setup bytes) (four_in x.setup bytes))
          (point_step b (heard x' (ear b + 1) (from - 1)) (from - 1) (matrix_in x.setup bytes) (moved_four t (zed t from * zed t i) (four_in x.setup bytes)))
      unfolding heard slot_for own_slot free_slot
      point_takes b e =
          rw (← swapped)
          (point_step_moved t h i (heard x (ear b + 1) (from - 1)) own_setup (from - 1) (matrix_in x.setup bytes) (four_in x.setup bytes) b
          (ripe b e))

      -- no recovery share is taken
      no_recovery : tag_in bytes ≡ 4 → ⊥
      no_recovery e =
          true≢false (sym (and_right (is_some x.progress.completion) _ (c.hearing.commanded e)) ∙ uncommanded)

      takes : Takes (message_in x.setup bytes)
      unfolding Takes
      takes =
          by_tag u bytes c.hearing.form (λ e. of _ (is_send_lem u bytes e) (send_takes e)) (λ e. of _ (is_echo_lem u bytes e) (point_takes ByEcho e))
          (λ e. of _ (is_ready_lem u bytes e) (point_takes ByReady e)) (λ e. absurd (no_recovery e))
        where
          u : SetUp
          u = x.setup

          of : (msg : Message) → message_in u bytes ≡ msg → Takes msg → Takes (message_in u bytes)
          of msg w = subst Takes (sym w)

    -- ---- the delivery

    refusal_moved : (m : Bool) → refusal_heard m x' from bytes' ≡ moved_record t i (refusal_heard m x from bytes)
    unfolding refusal_heard heard
    refusal_moved m =
        rw a.tag
        (elim m as (λ b. pick b (heard x' (tag_in bytes) (from - 1)) x' ≡ moved_record t i (pick b (heard x (tag_in bytes) (from - 1)) x))
        [ true ↦ refl | false ↦ refl ])

    pub deliver_alike : sound x ≡ true → sound x' ≡ true → (buffer : List ℕ)
        → (first_of (deliver_rows x from bytes (length buffer)) ≡ 0 → RipeIfSent t x from bytes) → x.progress.commanded ≡ false
        → DoneAlike t i (deliver x from bytes buffer) (deliver x' from bytes' buffer)
    unfolding deliver Takes
    deliver_alike hx hy buffer ripe uncommanded =
        let same = rows_same hx hy buffer in
        answered_alike t i (first_of (deliver_rows x from bytes (length buffer))) (first_of (deliver_rows x' from bytes' (length buffer))) _ _ _ _ buffer
        (ap (λ (r : Row). r.number) same)
        (λ e.
        let c = rows_passed x from bytes (length buffer) e in
        rw (said_moved c.hearing.box c.hearing.dealer c.exponents) (takes c (ripe e) uncommanded))
        (λ e. rw (← same) (refusal_moved (first_row (deliver_rows x from bytes (length buffer))).marks))

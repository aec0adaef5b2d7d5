-- Demand 1: every call gets a numbered answer; a refused call writes nothing, and changes the record only by the "heard" mark.
--
-- In order: (a) and (c), which number each call gives; an answer by its number; (b), what a refusal leaves; and that two outcomes
-- which a call's promise allows are equal. Who is heard after a delivery, mark by mark, stands in `Heard`.
-- Assumes nothing.
use Rattle.std.specs.Prelude.{◌≡◌, refl, Bool, true, false, List, [], ◌∷◌, ◌↔◌, ◌≢◌, ℕ, ◌-◌, ◌≤◌, eqb, leb, length}
use Rattle.std.proofs.Common.{sym, ap, ◌∙◌, subst, ⊎_elim, eqb-true, ne_eqb, le-leb, leb-true, eq-eqb}
use Rattle.std.proofs.Math.Decide.{ℕ_discrete}
use Rattle.folds.specs.Tests.{◌and◌, pick, pick_true, pick-false, and_left, and_right, and_intro, decide, true≢false}
use Rattle.rules.specs.declared.Record.{Record}
use Rattle.rules.specs.declared.SetUp.{SetUp}
use Rattle.rules.specs.declared.Sent.TheVariants.{Nothing}
use Rattle.rules.specs.declared.Answer.{Answer}
use Rattle.rules.specs.declared.Outcome.{Outcome}
use Rattle.rules.specs.Messages.{tag_in, has_matrix, written}
use Rattle.rules.specs.Record.{zero_record}
use Rattle.rules.specs.Steps.{Step, heard}
use Rattle.rules.specs.Answers.{Row, first_row, first_of, Done, done, no_pair, accepted, refused, outcome_of, answered, set_up_rows, set_up, SetsUp, call_rows, own_deal_rows, deal_rows, deal, Deals, own_recover_rows, recover_rows, recover, Recovers, form_rows, turn_rows, hearing_tests, hearing_rows, early_rows, deliver_rows, refusal_heard, deliver, Delivers, DeliversLent}
use Rattle.rules.proofs.Laws.Table.{row, none_before, none, lacks, distinct, numbers, first_row_lem, first_none, marks_by, first_marks, each, marking_by, among}

-- ---- (a) and (c): which number a call gives

-- the number n of an answer goes by the rows of a table, which stand in this order
pub record ByTable (order : List ℕ) (rows : List Row) (n : ℕ) : Type 0 where
  pub in_order : numbers rows ≡ order
  -- (a) number x is given exactly when row x holds and no row that comes before it
  pub given : (x : ℕ) → x ≢ 0 → (n ≡ x) ↔ ((row rows x ≡ true) × (none_before rows x ≡ true))
  -- (c) 0 is given exactly when no row holds
  pub zero : (n ≡ 0) ↔ (none rows ≡ true)

by_table : (order : List ℕ) (rows : List Row) (n : ℕ) → numbers rows ≡ order → distinct order ≡ true → lacks 0 order ≡ true → n ≡ first_of rows → ByTable order rows n
by_table order rows n o d l e =
    record {
      in_order = o;
      given = λ x z. subst (λ m. (m ≡ x) ↔ ((row rows x ≡ true) × (none_before rows x ≡ true))) (sym e) (first_row_lem rows (ap distinct o ∙ d) x z);
      zero = subst (λ m. (m ≡ 0) ↔ (none rows ≡ true)) (sym e) (first_none rows (ap (lacks 0) o ∙ l));
    }

-- the answer's number is that of the first row that holds
pub outcome_number : (n : ℕ) (x : Step) (after : Record) → (outcome_of n x after).answer.no ≡ n
unfolding outcome_of accepted refused
outcome_number n x after = go (eqb n 0) refl
  where
    go : (b : Bool) → eqb n 0 ≡ b → (pick b (accepted x) (refused n after)).answer.no ≡ n
    go true e = sym (eqb-true n 0 e)
    go false e = refl

-- "Order: set-up 11, 12."
pub set_up_number : (u : SetUp) → ByTable (11 ∷ 12 ∷ []) (set_up_rows u) (set_up u).answer.no
unfolding set_up set_up_rows distinct lacks
set_up_number u = by_table _ _ _ refl refl refl (outcome_number _ _ _)

-- "Commands 15, 12, 13, 14."
pub deal_number : (x : Record) (secret : ℕ) (coins buffer : List ℕ)
    → ByTable (15 ∷ 12 ∷ 13 ∷ 14 ∷ []) (deal_rows x secret coins (length buffer)) (deal x secret coins buffer).outcome.answer.no
unfolding deal deal_rows call_rows own_deal_rows answered distinct lacks
deal_number x secret coins buffer = by_table _ _ _ refl refl refl (outcome_number _ _ _)

pub recover_number : (x : Record) (buffer : List ℕ) → ByTable (15 ∷ 12 ∷ 13 ∷ []) (recover_rows x (length buffer)) (recover x buffer).outcome.answer.no
unfolding recover recover_rows call_rows own_recover_rows answered distinct lacks
recover_number x buffer = by_table _ _ _ refl refl refl (outcome_number _ _ _)

-- "Delivery 15, 12, then 1 to 10 by number."
pub deliver_number : (x : Record) (sender : ℕ) (bytes buffer : List ℕ)
    → ByTable (15 ∷ 12 ∷ 1 ∷ 2 ∷ 3 ∷ 4 ∷ 5 ∷ 6 ∷ 7 ∷ 8 ∷ 9 ∷ 10 ∷ []) (deliver_rows x sender bytes (length buffer)) (deliver x sender bytes buffer).outcome.answer.no
unfolding deliver deliver_rows early_rows call_rows form_rows turn_rows hearing_rows answered distinct lacks
deliver_number x sender bytes buffer = by_table _ _ _ refl refl refl (outcome_number _ _ _)

-- ---- an answer by its number

module _ (n : ℕ) (x : Step) (after : Record) (buffer : List ℕ) where
  -- It is the step's where the number is 0,
  pub answered_accepted : n ≡ 0 → answered n x after buffer ≡ done (accepted x) (written x.bytes buffer)
  unfolding answered outcome_of
  answered_accepted e = rw (eq-eqb n 0 e)

  -- else a refusal;
  pub answered_refused : n ≢ 0 → answered n x after buffer ≡ done (refused n after) buffer
  unfolding answered outcome_of
  answered_refused z = rw (ne_eqb n 0 z)

  -- so it is as both would be.
  pub answered_either : (P : Done → Type 0) → (n ≡ 0 → P (done (accepted x) (written x.bytes buffer))) → (n ≢ 0 → P (done (refused n after) buffer))
      → P (answered n x after buffer)
  answered_either P a b = go (ℕ_discrete n 0)
    where
      go : Dec (n ≡ 0) → P (answered n x after buffer)
      go (yes e) = subst P (sym (answered_accepted e)) (a e)
      go (no z) = subst P (sym (answered_refused z)) (b z)

-- ---- (b): what a refusal leaves

-- the answer is zero but for its number
pub record Zeros (o : Outcome) : Type 0 where
  pub sent : o.answer.sent ≡ Nothing
  pub bytes : o.answer.bytes ≡ 0
  pub completed : o.answer.completed ≡ false
  pub recovered : o.answer.recovered ≡ false
  pub pair : o.answer.pair ≡ no_pair

-- and the buffer is as it came, and the record is this one
pub record Refused (after : Record) (buffer : List ℕ) (d : Done) : Type 0 where
  pub left : d.buffer ≡ buffer
  pub zeros : Zeros d.outcome
  pub next : d.outcome.next ≡ after

refusing : (n : ℕ) (x : Step) (after : Record) → n ≢ 0 → (Zeros (outcome_of n x after)) × ((outcome_of n x after).next ≡ after)
unfolding outcome_of refused
refusing n x after z =
    rw (ne_eqb n 0 z) (record { sent = refl; bytes = refl; completed = refl; recovered = refl; pair = refl }, refl)

answering : (n : ℕ) (x : Step) (after : Record) (buffer : List ℕ) → n ≢ 0 → Refused after buffer (answered n x after buffer)
unfolding answered
answering n x after buffer z =
    record { left = rw (ne_eqb n 0 z); zeros = (refusing n x after z).0; next = (refusing n x after z).1 }

-- the number that a call answers is its table's
renumber : (n : ℕ) (x : Step) (after : Record) → (outcome_of n x after).answer.no ≢ 0 → n ≢ 0
renumber n x after z e = z (outcome_number n x after ∙ e)

-- "A refused set-up gives the all-zero record"
pub set_up_refused : (u : SetUp) → (set_up u).answer.no ≢ 0 → (Zeros (set_up u)) × ((set_up u).next ≡ zero_record)
unfolding set_up
set_up_refused u z = refusing _ _ _ (renumber _ _ _ z)

-- a refused command leaves the record as it came
pub deal_refused : (x : Record) (secret : ℕ) (coins buffer : List ℕ) → (deal x secret coins buffer).outcome.answer.no ≢ 0
    → Refused x buffer (deal x secret coins buffer)
unfolding deal answered
deal_refused x secret coins buffer z = answering _ _ _ _ (renumber _ _ _ z)

pub recover_refused : (x : Record) (buffer : List ℕ) → (recover x buffer).outcome.answer.no ≢ 0 → Refused x buffer (recover x buffer)
unfolding recover answered
recover_refused x buffer z = answering _ _ _ _ (renumber _ _ _ z)

-- "8, 9 and 10 on tags 1, 2, 3 mark that sender heard for that tag"
abbrev pub at_hearing : List ℕ
at_hearing = 8 ∷ 9 ∷ 10 ∷ []

abbrev pub Heard : ℕ → ℕ → Type 0
Heard n tag = (among at_hearing n ≡ true) × (tag ≤ 3)

abbrev pub to_hear : ℕ → ℕ → Bool
to_hear n tag = among at_hearing n and has_matrix tag

pub heard_test : (n tag : ℕ) → Heard n tag → to_hear n tag ≡ true
unfolding has_matrix
heard_test n tag h = and_intro _ _ h.0 (le-leb tag 3 h.1)

pub test_heard : (n tag : ℕ) → to_hear n tag ≡ true → Heard n tag
unfolding has_matrix
test_heard n tag t = (and_left _ (leb tag 3) t, leb-true tag 3 (and_right (among at_hearing n) (leb tag 3) t))

-- The rows of a delivery that mark the sender heard.
pub deliver_marks : (x : Record) (sender : ℕ) (bytes : List ℕ) (lent : ℕ)
    → (first_row (deliver_rows x sender bytes lent)).marks ≡ to_hear (first_of (deliver_rows x sender bytes lent)) (tag_in bytes)
unfolding deliver_rows early_rows call_rows form_rows turn_rows hearing_rows marks_by lacks each
deliver_marks x sender bytes lent =
    first_marks (λ n. to_hear n (tag_in bytes)) (deliver_rows x sender bytes lent) refl
    (marking_by (among at_hearing) (has_matrix (tag_in bytes)) (hearing_tests x sender bytes) refl)

pub marked_tag : (x : Record) (sender : ℕ) (bytes : List ℕ) (lent : ℕ) → (first_row (deliver_rows x sender bytes lent)).marks ≡ true → tag_in bytes ≤ 3
marked_tag x sender bytes lent e =
    (test_heard (first_of (deliver_rows x sender bytes lent)) (tag_in bytes) (sym (deliver_marks x sender bytes lent) ∙ e)).1

-- the refusal n of a delivery, where the record after it is this one
deliver_leaves : (n : ℕ) (m : Bool) (step : Step) (x after : Record) (sender : ℕ) (bytes buffer : List ℕ) → n ≢ 0 → refusal_heard m x sender bytes ≡ after
    → Refused after buffer (answered n step (refusal_heard m x sender bytes) buffer)
deliver_leaves n m step x after sender bytes buffer z e = rw e (answering n step after buffer z)

-- a refused delivery leaves the record as it came,
pub deliver_refused : (x : Record) (sender : ℕ) (bytes buffer : List ℕ) → (deliver x sender bytes buffer).outcome.answer.no ≢ 0
    → (Heard (deliver x sender bytes buffer).outcome.answer.no (tag_in bytes) → ⊥)
    → Refused x buffer (deliver x sender bytes buffer)
unfolding deliver answered refusal_heard
deliver_refused x sender bytes buffer z h =
    let n = first_of (deliver_rows x sender bytes (length buffer)) in
    let no≡ = outcome_number n _ _ in
    let m = (first_row (deliver_rows x sender bytes (length buffer))).marks in
    let marks = deliver_marks x sender bytes (length buffer) in
    deliver_leaves n m _ x x sender bytes buffer (renumber _ _ _ z)
    (⊎_elim (λ t. absurd (h (subst (λ m. Heard m (tag_in bytes)) (sym no≡) (test_heard n (tag_in bytes) t))))
    (λ f. pick-false m (heard x (tag_in bytes) (sender - 1)) x (marks ∙ f)) (decide (to_hear n (tag_in bytes))))

-- or marks its sender heard for its tag
pub deliver_heard : (x : Record) (sender : ℕ) (bytes buffer : List ℕ) → Heard (deliver x sender bytes buffer).outcome.answer.no (tag_in bytes)
    → Refused (heard x (tag_in bytes) (sender - 1)) buffer (deliver x sender bytes buffer)
unfolding deliver answered refusal_heard lacks
deliver_heard x sender bytes buffer h =
    let n = first_of (deliver_rows x sender bytes (length buffer)) in
    let h' : Heard n (tag_in bytes) = subst (λ m. Heard m (tag_in bytes)) (outcome_number n _ _) h in
    let m = (first_row (deliver_rows x sender bytes (length buffer))).marks in
    deliver_leaves n m _ x _ sender bytes buffer (λ e. nonzero h'.0 e)
    (pick_true m (heard x (tag_in bytes) (sender - 1)) x (deliver_marks x sender bytes (length buffer) ∙ heard_test n (tag_in bytes) h'))
  where
    nonzero : {n : ℕ} → among at_hearing n ≡ true → n ≡ 0 → ⊥
    nonzero h z = true≢false (sym (rw z at h))

-- ---- two outcomes that a call's promise allows are equal

both_equal : (o o' : Outcome) (b b' : List ℕ) (d : Done) → done o b ≡ d → done o' b' ≡ d → (o ≡ o') × (b ≡ b')
both_equal o o' b b' d p q = (ap (λ (d : Done). d.outcome) (p ∙ sym q), ap (λ (d : Done). d.buffer) (p ∙ sym q))

pub set_up_unique : (u : SetUp) (o o' : Outcome) → SetsUp u o → SetsUp u o' → o ≡ o'
set_up_unique u o o' p q = p ∙ sym q

pub deal_unique : (x : Record) (secret : ℕ) (coins buffer : List ℕ) (o o' : Outcome) (b b' : List ℕ)
    → Deals x secret coins buffer o b → Deals x secret coins buffer o' b' → (o ≡ o') × (b ≡ b')
deal_unique x secret coins buffer o o' b b' = both_equal o o' b b' _

pub recover_unique : (x : Record) (buffer : List ℕ) (o o' : Outcome) (b b' : List ℕ)
    → Recovers x buffer o b → Recovers x buffer o' b' → (o ≡ o') × (b ≡ b')
recover_unique x buffer o o' b b' = both_equal o o' b b' _

pub deliver_unique : (x : Record) (sender : ℕ) (bytes buffer : List ℕ) (o o' : Outcome) (b b' : List ℕ)
    → Delivers x sender bytes buffer o b → Delivers x sender bytes buffer o' b' → (o ≡ o') × (b ≡ b')
deliver_unique x sender bytes buffer o o' b b' = both_equal o o' b b' _

pub lent_unique : (x : Record) (sender : ℕ) (bytes buffer : List ℕ) (a a' : Answer) (y y' : Record) (b b' : List ℕ)
    → DeliversLent x sender bytes buffer a y b → DeliversLent x sender bytes buffer a' y' b' → (a ≡ a') × (y ≡ y') × (b ≡ b')
lent_unique x sender bytes buffer a a' y y' b b' p q =
    let same = deliver_unique x sender bytes buffer _ _ b b' p q in
    (ap (λ (o : Outcome). o.answer) same.0, ap (λ (o : Outcome). o.next) same.0, same.1)

-- What is known of a delivery at its hearing.
--
-- In order: row 8 of a message, and the rows of the hearing; what a check asks; what a delivery that gets a hearing has.
-- Assumes nothing.
use Rattle.std.specs.Prelude.{◌≡◌, Bool, true, false, not, List, ℕ, ◌≤◌}
use Rattle.std.proofs.Common.{arith, sym, ◌∙◌}
use borrow.Author.Tests.{not-false}
use Rattle.folds.specs.Tests.{◌and◌}
use Rattle.rules.specs.declared.Element.{Element}
use Rattle.rules.specs.declared.Group.{Group}
use Rattle.rules.specs.declared.Four.{Four}
use Rattle.rules.specs.declared.Polynomials.{Polynomials}
use Rattle.rules.specs.declared.Record.{Record}
use Rattle.rules.specs.declared.SetUp.{SetUp}
use Rattle.rules.specs.Numbers.{group_of}
use Rattle.rules.specs.declared.Message.{Message}
use Rattle.rules.specs.declared.Message.TheVariants.{Send as send, Echo as echo, Ready as ready, Recovery as recovery}
use Rattle.rules.specs.Messages.{tag_in, has_matrix, matrix_in, message_in}
use Rattle.rules.specs.Dealing.{matrix_passes}
use Rattle.rules.specs.Record.{sound}
use Rattle.rules.specs.Answers.{first_row, first_of, exponents_keep, checks, hearing_rows}
use Rattle.checking.specs.Equations.{Checkable}
use Rattle.rules.proofs.Laws.Numbers.{is_box_lem}
use Rattle.rules.specs.Laws.RoundTrip.{Formed}
use Rattle.rules.proofs.Laws.RoundTrip.{by_tag, is_send_lem, is_echo_lem, is_ready_lem, is_recovery_lem}
use Rattle.rules.specs.Laws.Passed.{Hearing}
use Rattle.rules.proofs.Laws.Sound.{sound_ranges}

-- ---- row 8

abbrev pub matrix_fails : SetUp → Message → Bool
matrix_fails u (send C P) = not (matrix_passes (group_of u.group) u.k C)
matrix_fails u (echo C f) = not (matrix_passes (group_of u.group) u.k C)
matrix_fails u (ready C f) = not (matrix_passes (group_of u.group) u.k C)
matrix_fails u (recovery s) = false

-- and what holds past it
pub record Checked (x : Record) (message : Message) : Type 0 where
  pub is_sound : sound x ≡ true
  pub passes : matrix_fails x.setup message ≡ false

-- as the table has it
pub matrix_row : (u : SetUp) (bytes : List ℕ) → Formed u bytes
    → matrix_fails u (message_in u bytes) ≡ has_matrix (tag_in bytes) and not (matrix_passes (group_of u.group) u.k (matrix_in u bytes))
unfolding has_matrix
matrix_row u bytes r =
    by_tag u bytes r
    (λ e. rw (is_send_lem u bytes e, e))
    (λ e. rw (is_echo_lem u bytes e, e))
    (λ e. rw (is_ready_lem u bytes e, e))
    (λ e. rw (is_recovery_lem u bytes e, e))

-- the rows of the hearing, one by one
module _ (x : Record) (sender : ℕ) (bytes : List ℕ) (r : Formed x.setup bytes) where
  pub row_8 : matrix_fails x.setup (message_in x.setup bytes) ≡ true → 8 ≡ first_of (hearing_rows x sender bytes)
  unfolding first_row hearing_rows
  row_8 fails = rw (sym (matrix_row x.setup bytes r) ∙ fails)

  module _ (passes : matrix_fails x.setup (message_in x.setup bytes) ≡ false) where
    pub row_9 : exponents_keep x.setup (message_in x.setup bytes) ≡ false → 9 ≡ first_of (hearing_rows x sender bytes)
    unfolding first_row hearing_rows
    row_9 fails = rw (sym (matrix_row x.setup bytes r) ∙ passes, fails)

    module _ (keeps : exponents_keep x.setup (message_in x.setup bytes) ≡ true) where
      pub row_10 : checks x sender (message_in x.setup bytes) ≡ false → 10 ≡ first_of (hearing_rows x sender bytes)
      unfolding first_row hearing_rows
      row_10 fails = rw (sym (matrix_row x.setup bytes r) ∙ passes, keeps, fails)

      pub no_row : checks x sender (message_in x.setup bytes) ≡ true → 0 ≡ first_of (hearing_rows x sender bytes)
      unfolding first_row hearing_rows
      no_row checked = rw (sym (matrix_row x.setup bytes r) ∙ passes, keeps, checked)

-- ---- what a check asks

checkable : (x : Record) {G : Group} {C : List (List Element)} → sound x ≡ true → G ≡ group_of x.setup.group
    → not (matrix_passes (group_of x.setup.group) x.setup.k C) ≡ false → Checkable G x.setup.k C
checkable x s e p =
    let r = sound_ranges x s in
    rw e (record { modulus = r.numbers.modulus; order = r.numbers.some; high = r.high; passes = not-false _ p })

module _ (x : Record) (m : Message) (G : Group) (C : List (List Element)) (h : Checked x m) (e : G ≡ group_of x.setup.group) where
  pub send_checkable : (P : Polynomials) → m ≡ send C P → Checkable G x.setup.k C
  send_checkable P said = checkable x h.is_sound e (rw said at h.passes)

  pub echo_checkable : (f : Four) → m ≡ echo C f → Checkable G x.setup.k C
  echo_checkable f said = checkable x h.is_sound e (rw said at h.passes)

  pub ready_checkable : (f : Four) → m ≡ ready C f → Checkable G x.setup.k C
  ready_checkable f said = checkable x h.is_sound e (rw said at h.passes)

-- ---- a delivery that gets a hearing

-- a sender's number is a small one
pub sender_small : {x : Record} {sender : ℕ} {bytes : List ℕ} → Hearing x sender bytes → sender ≤ 10
sender_small {x} {sender} h =
    let b = is_box_lem x.setup sender h.box in omega (arith, b.1, (sound_ranges x h.is_sound).boxes)

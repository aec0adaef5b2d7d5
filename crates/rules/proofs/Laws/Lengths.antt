-- How long a message is, how much a call sends, and what writing leaves of the lent buffer.
--
-- In order: whole lengths; room ("no call ever needs more than 1,990 bytes"), and where each of n messages stands; the lent buffer.
-- Assumes nothing.
use Rattle.rules.specs.declared.Pair.{Pair}
use Rattle.std.specs.Prelude.{Bool, true, false, List, ◌∷◌, ◌++◌, [], ◌≡◌, refl, ℕ, ◌+◌, ◌-◌, ◌*◌, ◌≤◌, eqb, get_or, take, drop}
use Rattle.std.proofs.Common.{append-nil, sym, ap, ◌∙◌, mul-le-mul, length-append, length-drop, get_or-append-add, get_or-drop, take_at}
use native.Mathlib.Omega.{arith}
use Rattle.std.proofs.Math.ListN.{length}
use Rattle.std.proofs.Math.Seq.{take-append_seam}
use Rattle.folds.specs.Tests.{pick, and_right}
use Rattle.folds.specs.Runs.{gather, length-gather, length-gather_le, stands_piece}
use Rattle.rules.specs.declared.Exponent.{Exponent}
use Rattle.rules.specs.declared.Element.{Element}
use Rattle.rules.specs.declared.Four.{Four}
use Rattle.rules.specs.declared.Polynomials.{Polynomials}
use Rattle.rules.specs.declared.SetUp.{SetUp}
use Rattle.rules.specs.declared.Side.{Side}
use Rattle.rules.specs.declared.Side.TheVariants.{ByEcho, ByReady}
use Rattle.rules.specs.declared.Slot.{Slot}
use Rattle.std.specs.Prelude.{Option, Some, None}
use Rattle.rules.specs.declared.Record.{Record}
use Rattle.rules.specs.Numbers.{group_keeps}
use Rattle.rules.specs.Matrices.{entry, coefficient}
use Rattle.rules.specs.declared.Message.{Message}
use Rattle.rules.specs.declared.Message.TheVariants.{Send as send, Echo as echo, Ready as ready, Recovery as recovery}
use Rattle.rules.specs.Messages.{two_bytes, matrix_bytes, coefficient_bytes, polynomial_bytes, four_bytes, pair_bytes, tag_of, body_of, framed, bytes_of, whole_length, to_each, written}
use Rattle.rules.specs.Record.{shares_kept, setup_keeps, sound}
use Rattle.rules.specs.Steps.{Step, Said, heard, quiet, with_slot, lowest, send_step, ready_sent, completed, ready_due, completion_due, point_at, point_step, recovering, share_step, message_step, deal_step, completed_share, share_bytes, recover_step}
use Rattle.rules.proofs.Laws.Numbers.{bounds}
use Rattle.rules.proofs.Laws.Clauses.{clauses}

-- ---- whole lengths

-- a run of n two-byte numbers
pub length-numbers : (v : ℕ → ℕ) (n : ℕ) → length (gather n (λ l. two_bytes (v l))) ≡ n * 2
unfolding two_bytes
length-numbers v n = length-gather (λ l. two_bytes (v l)) 2 (λ l. refl) n

pub length-matrix : (k : ℕ) (C : List (List Element)) → length (matrix_bytes k C) ≡ 2 * (k * k)
unfolding matrix_bytes
length-matrix k C = length-gather (λ j. gather k (λ l. two_bytes (entry C j l))) (k * 2) (λ j. length-numbers (entry C j) k) k ∙ (omega arith)

pub length-coefficients : (k : ℕ) (a : List Exponent) → length (coefficient_bytes k a) ≡ 2 * k
unfolding coefficient_bytes
length-coefficients k a = length-numbers (coefficient a) k ∙ (omega arith)

length_polynomials : (u : SetUp) (P : Polynomials) → length (polynomial_bytes u P) ≡ 8 * u.k
unfolding polynomial_bytes
length_polynomials u P = simp (length-append, length-coefficients) (omega arith)

-- what goes on with k and the matrix
length_body : (k : ℕ) (C : List (List Element)) (end : List ℕ) → length (k ∷ matrix_bytes k C ++ end) ≡ 1 + 2 * (k * k) + length end
length_body k C end = rw (length-append, length-matrix) (omega arith)

pub length_header : (u : SetUp) (m : Message) → length (bytes_of u m) ≡ 6 + length (body_of u m)
unfolding bytes_of framed two_bytes
length_header u m = omega arith

-- Whole lengths: send 7 + 2k² + 8k; echo and ready 15 + 2k²; recovery share 10.
pub length_message : (u : SetUp) (m : Message) → length (bytes_of u m) ≡ whole_length u (tag_of m)
unfolding body_of whole_length tag_of four_bytes pair_bytes two_bytes
length_message u (send C P) =
    omega (arith, length_header u (send C P), length_body u.k C (polynomial_bytes u P), length_polynomials u P)
length_message u (echo C f) = omega (arith, length_header u (echo C f), length_body u.k C (four_bytes f))
length_message u (ready C f) = omega (arith, length_header u (ready C f), length_body u.k C (four_bytes f))
length_message u (recovery s) = length_header u (recovery s)

-- No message is shorter than 7 bytes.
pub whole_length_least : (u : SetUp) (tag : ℕ) → 7 ≤ whole_length u tag
unfolding whole_length
whole_length_least u tag = go (eqb tag 1) (eqb tag 4)
  where
    go : (a b : Bool) → 7 ≤ pick a (7 + 2 * (u.k * u.k) + 8 * u.k) (pick b 10 (15 + 2 * (u.k * u.k)))
    go true b = omega arith
    go false true = omega arith
    go false false = omega arith

-- For k = 2 the whole lengths are 31, 23, 23, 10.
pub lengths_at_two : (u : SetUp) → u.k ≡ 2
    → (whole_length u 1 ≡ 31) × (whole_length u 2 ≡ 23) × (whole_length u 3 ≡ 23) × (whole_length u 4 ≡ 10)
unfolding whole_length
lengths_at_two u e = rw e (refl, refl, refl, refl)

-- ---- room

-- Ten sends at k = 8 need 1,990 bytes.
pub ten_sends : (u : SetUp) → u.k ≡ 8 → 10 * whole_length u 1 ≡ 1990
unfolding whole_length
ten_sends u e = rw e

-- no message at k ≤ 8 is longer than a send at 8
pub length_message_le : (u : SetUp) (m : Message) → u.k ≤ 8 → length (bytes_of u m) ≤ 199
unfolding tag_of whole_length
length_message_le u (send C P) h = omega (arith, length_message u (send C P), mul-le-mul h h)
length_message_le u (echo C f) h = omega (arith, length_message u (echo C f), mul-le-mul h h)
length_message_le u (ready C f) h = omega (arith, length_message u (ready C f), mul-le-mul h h)
length_message_le u (recovery s) h = omega (arith, length_message u (recovery s))

-- n messages of one tag are n times as long as one.
pub length-to_each : (u : SetUp) (f : ℕ → Message) (tag : ℕ) → ((j : ℕ) → tag_of (f j) ≡ tag) → length (to_each u f) ≡ u.n * whole_length u tag
unfolding to_each
length-to_each u f tag h =
    length-gather (λ j. bytes_of u (f (j + 1))) (whole_length u tag)
    (λ j. length_message u (f (j + 1)) ∙ ap (λ (t : ℕ). whole_length u t) (h (j + 1))) u.n

-- Of n messages of one tag, the one to box j stands behind j - 1 others.
pub piece_to_each : (u : SetUp) (f : ℕ → Message) (tag : ℕ) → ((j : ℕ) → tag_of (f j) ≡ tag) → (j : ℕ) → 1 ≤ j → j ≤ u.n
    → take (whole_length u tag) (drop ((j - 1) * whole_length u tag) (to_each u f)) ≡ bytes_of u (f j)
unfolding to_each
piece_to_each u f tag same j a b =
    let run : List ℕ = to_each u f in
    let w : ℕ = whole_length u tag in
    let each : (i : ℕ) → length (bytes_of u (f (i + 1))) ≡ w =
    λ i. length_message u (f (i + 1)) ∙ ap (λ v. whole_length u v) (same (i + 1)) in
    let piece = stands_piece run (λ i. bytes_of u (f (i + 1))) w each 0 u.n (j - 1) (omega arith) ([], sym (append-nil run)) in
    let at : (j - 1) * w ≡ 0 + (j - 1) * w = omega arith in
    let back : j - 1 + 1 ≡ j = omega arith in
    ap (λ v. take w (drop v run)) at
    ∙ ap (take w) piece.1
    ∙ take_at (bytes_of u (f (j - 1 + 1))) piece.0 w (each (j - 1))
    ∙ ap (λ v. bytes_of u (f v)) back

-- No n messages need more than 1,990 bytes.
pub to_each_room : (u : SetUp) (f : ℕ → Message) → u.n ≤ 10 → u.k ≤ 8 → length (to_each u f) ≤ 1990
unfolding to_each
to_each_room u f hn hk =
    omega (arith, length-gather_le (λ j. bytes_of u (f (j + 1))) 199 (λ j. length_message_le u (f (j + 1)) hk) u.n)

abbrev Room : Step → Type 0
Room x = length x.bytes ≤ 1990

pick_room : (b : Bool) (x y : Step) → Room x → Room y → Room (pick b x y)
pick_room true x y h g = h
pick_room false x y h g = g

module _ (x : Record) (hn : x.setup.n ≤ 10) (hk : x.setup.k ≤ 8) where
  send_step_room : (C : List (List Element)) (P : Polynomials) → Room (send_step x C P)
  unfolding send_step
  send_step_room C P = to_each_room x.setup _ hn hk

  ready_sent_room : (s : ℕ) (slot : Slot) (ps : List (Said Four)) → Room (ready_sent x s slot ps)
  unfolding ready_sent
  ready_sent_room s slot ps = to_each_room x.setup _ hn hk

  point_at_room : (b : Side) (s : ℕ) (slot : Slot) → Room (point_at b x s slot)
  unfolding point_at completed
  point_at_room b s slot =
      pick_room (ready_due x.setup b slot) _ _ (ready_sent_room s slot (lowest x slot))
      (pick_room (completion_due x.setup b slot) (completed (with_slot x s slot) s) (quiet (with_slot x s slot)) (omega arith) (omega arith))

  recovering_room : (shares : List (Option Pair)) → Room (recovering x shares)
  unfolding recovering
  recovering_room shares = pick_room (eqb (shares_kept shares) x.setup.k) _ _ (omega arith) (omega arith)

  -- The deal needs at most 1,990 bytes.
  pub deal_step_room : (secret : ℕ) (coins : List ℕ) → length (deal_step x secret coins).bytes ≤ 1990
  unfolding deal_step
  deal_step_room secret coins = to_each_room x.setup _ hn hk

  -- The recovery command needs at most 1,990 bytes.
  pub recover_step_room : length (recover_step x).bytes ≤ 1990
  unfolding recover_step
  recover_step_room = go (completed_share x x.progress.completion)
    where
      go : (s : Option Pair) → length (share_bytes x.setup s) ≤ 1990
      go None = omega arith
      go (Some s) = to_each_room x.setup (λ j. recovery s) hn hk

-- A checked message makes a box send at most 1,990 bytes.
pub message_step_room : (x : Record) → x.setup.n ≤ 10 → x.setup.k ≤ 8 → (m : ℕ) (msg : Message) → length (message_step x m msg).bytes ≤ 1990
unfolding heard point_step share_step
message_step_room x hn hk m (send C P) = send_step_room (heard x 1 m) hn hk C P
message_step_room x hn hk m (echo C f) = point_at_room (heard x 2 m) hn hk ByEcho _ _
message_step_room x hn hk m (ready C f) = point_at_room (heard x 3 m) hn hk ByReady _ _
message_step_room x hn hk m (recovery s) = recovering_room (heard x 4 m) hn hk _

-- No call on a sound record needs more than 1,990 bytes.
pub sound_room : (x : Record) → sound x ≡ true
    → ((secret : ℕ) (coins : List ℕ) → length (deal_step x secret coins).bytes ≤ 1990)
    × (length (recover_step x).bytes ≤ 1990)
    × ((m : ℕ) (msg : Message) → length (message_step x m msg).bytes ≤ 1990)
unfolding setup_keeps
sound_room x z =
    let c = (bounds x.setup (and_right (group_keeps x.setup) _ (clauses x z).setup)).sizes in
    (deal_step_room x c.boxes c.high, recover_step_room x c.boxes c.high, message_step_room x c.boxes c.high)

-- ---- the lent buffer

-- Writing leaves the buffer as long as it was.
pub length-written : (bytes buffer : List ℕ) → length bytes ≤ length buffer → length (written bytes buffer) ≡ length buffer
unfolding written
length-written bytes buffer h = simp (length-append, length-drop) (omega arith)

-- What is written stands in front.
pub take-written : (bytes buffer : List ℕ) → take (length bytes) (written bytes buffer) ≡ bytes
unfolding written
take-written bytes buffer = take-append_seam bytes (drop (length bytes) buffer)

-- Bytes behind the last keep their values.
pub behind_written : (bytes buffer : List ℕ) (i d : ℕ) → length bytes ≤ i → get_or (written bytes buffer) i d ≡ get_or buffer i d
unfolding written
behind_written bytes buffer i d h =
    let e : length bytes + (i - length bytes) ≡ i = omega arith in
    ap (λ (n : ℕ). get_or (bytes ++ drop (length bytes) buffer) n d) (sym e)
    ∙ get_or-append-add bytes (drop (length bytes) buffer) (i - length bytes) d
    ∙ get_or-drop (length bytes) buffer (i - length bytes) d
    ∙ ap (λ (n : ℕ). get_or buffer n d) e

-- Laws that the proofs of the steps share.
--
-- In order: a sender; a message to each box from ten places; the way that an echo or a ready goes, and a recovery share; a message
-- that was read; the coins of a deal.
-- Assumes nothing.
use Rattle.std.specs.Prelude.{Option, Some, None, is_some, take, true, false, List, [], ◌≡◌, refl, ℕ, ◌+◌, ◌-◌, ◌*◌, ◌<◌, ◌≤◌, length, replicate, eqb}
use Rattle.std.proofs.Math.Path.{ap}
use Rattle.std.proofs.Common.{ap₂, ◌∙◌, sym, subst}
use lib.Seq.{take_all}
use native.Mathlib.Omega.{arith}
use Rattle.std.proofs.Math.ListN.{get_or}
use Rattle.folds.specs.Runs.{gather-same, length-gather_count}
use Rattle.folds.specs.Stores.{get_or-stores}
use Rattle.rules.specs.declared.Element.{Element}
use Rattle.rules.specs.declared.Four.{Four}
use Rattle.rules.specs.declared.Group.{Group}
use Rattle.rules.specs.declared.Record.{Record}
use Rattle.rules.specs.declared.SetUp.{SetUp}
use Rattle.rules.specs.declared.Side.{Side}
use Rattle.rules.specs.declared.Slot.{Slot}
use Rattle.rules.specs.Numbers.{group_of}
use Rattle.rules.specs.Matrices.{to_boxes}
use Rattle.rules.specs.declared.Message.{Message}
use Rattle.rules.specs.Messages.{bytes_of, to_each, side_tag, tag_in, tag_of, message_in}
use Rattle.rules.specs.Dealing.{coins_keep}
use Rattle.rules.specs.Record.{slot_at, heard_for, shares_kept, share_at}
use Rattle.rules.specs.Steps.{heard, own_slot, free_slot, slot_for, opened, taken, with_slot, lowest, ready_sent, quiet, completed, ready_due, completion_due, point_at, point_step, sending, share_step, recovering, sharing, Step, kept_at, share_points}
use Rattle.rules.specs.Laws.Numbers.{GroupRanges, Ranges}
use Rattle.rules.specs.Laws.Passed.{Hearing, DealPassed}
use Rattle.rules.specs.Laws.RoundTrip.{Formed}
use Rattle.rules.proofs.Laws.RoundTrip.{by_tag, is_send_lem, is_echo_lem, is_ready_lem, is_recovery_lem}
use Rattle.rules.proofs.Laws.Room.{room}
use Rattle.rules.proofs.Laws.Matrices.{square_some}
use Rattle.rules.proofs.Laws.Sound.{sound_ranges}
use Rattle.rules.proofs.Laws.Dealing.{secret_low, coins_count}
use Rattle.message_writing.specs.Written.{to_box, Writes, CanSend}
use Rattle.box_step.specs.declared.Step.{Step as Made}
use Rattle.box_step.specs.Told.{sends}
use Rattle.box_step.specs.Takes.{made, Takes}
use Rattle.box_steps.specs.Sender.{Sender}
use Rattle.rules.proofs.Laws.Facts.{hears, ear}
use Rattle.rules.specs.declared.Side.TheVariants.{ByEcho, ByReady}
use Rattle.rules.specs.declared.Pair.{Pair}
use Rattle.rules.specs.declared.Sent.{Sent}
use Rattle.folds.specs.Tests.{pick, pick-either}

-- ---- a sender

module _ {x : Record} {m : ℕ} (s : Sender x m) where
  pub ranges : Ranges x.setup
  ranges = sound_ranges x s.is_sound

  -- its index has its place
  pub place : m < 10
  place = omega (arith, s.sender, ranges.boxes)

pub group_ranges : {u : SetUp} {G : Group} → Ranges u → G ≡ group_of u.group → GroupRanges G
group_ranges r e = rw e r.numbers

pub can_send : {u : SetUp} {out : List ℕ} → Ranges u → 2048 ≤ length out → CanSend u out
can_send r l = record { boxes = r.boxes; fits = record { k = r.high; d = r.dealer; session = r.session }; lent = l }

-- ---- a message to each box, from ten places of which the first n are filled

module _ {A : Type 0} (u : SetUp) (message : List (List Element) → A → Message) (blank none : A) (f : ℕ → A) where
  each_from : (C : List (List Element)) {all : List A} → u.n ≤ 10 → all ≡ to_boxes u.n blank f
      → to_each u (λ j. message C (to_box all none j)) ≡ to_each u (λ j. message C (f j))
  unfolding to_each to_boxes
  each_from C {all} l e =
      gather-same (λ j. bytes_of u (message C (to_box all none (j + 1)))) (λ j. bytes_of u (message C (f (j + 1)))) u.n
      (λ j lt.
      let back : j + 1 - 1 ≡ j = omega arith in
      ap (λ a. bytes_of u (message C a))
      (ap₂ (λ t i. get_or t i none) e back ∙ get_or-stores (λ i. f (i + 1)) (replicate 10 blank) u.n j none lt (omega arith)))

  -- what was written from the places is what the rule says
  pub each_written : {C D : List (List Element)} {all : List A} {n : ℕ} {buffer buffer' : List ℕ} → u.n ≤ 10 → C ≡ D
      → all ≡ to_boxes u.n blank f → Writes (to_each u (λ j. message C (to_box all none j))) buffer buffer' n
      → Writes (to_each u (λ j. message D (f j))) buffer buffer' n
  each_written {C} l c e h = rw (each_from C l e ∙ ap (λ M. to_each u (λ j. message M (f j))) c) at h

-- a step that sends what was written
pub tells : {x next : Record} {s : Made} (what : Sent) {bytes buffer buffer' : List ℕ} {n : ℕ} → s ≡ sends next what n → next ≡ x
    → Writes bytes buffer buffer' n → Takes (sending x what bytes) buffer s buffer'
unfolding made
tells what e same w = record { step = e ∙ ap₂ (λ y n. sends y what n) same w.counted; wrote = w.front }

-- ---- the way that an echo or a ready goes

-- one more sender heard changes no slot
pub heard_slot : (x : Record) (tag m : ℕ) (C : List (List Element)) → slot_for x C ≡ slot_for (heard x tag m) C
unfolding heard slot_for own_slot free_slot
heard_slot x tag m C = refl

pub side_hears : (b : Side) (x : Record) (m : ℕ) → heard_for x (side_tag b) m ≡ false → hears x (ear b) m ≡ false
side_hears ByEcho x m e = e
side_hears ByReady x m e = e

pub point_at_lem : (b : Side) (x : Record) (m : ℕ) (C : List (List Element)) (f : Four) {s : ℕ} {slot : Slot} → s ≡ slot_for x C
    → slot ≡ taken b (opened C (slot_at x s)) m f → point_step b x m C f ≡ point_at b x s slot
unfolding point_step
point_at_lem b x m C f found fresh = rw (fresh, found)

-- the slot is one of the twenty
pub slot_within : (x : Record) (m : ℕ) (b : Side) (C : List (List Element)) {s : ℕ} → Sender x m → heard_for x (side_tag b) m ≡ false
    → s ≡ slot_for x C → s < 20
slot_within x m b C here unheard e = rw e (room x m C here.is_sound here.sender b (side_hears b x m unheard)).within

-- the step goes by the slot as it now is
pub point_goes : (b : Side) (x : Record) (m : ℕ) (C : List (List Element)) (f : Four) {s : ℕ} {clear fresh : Slot} → s ≡ slot_for x C
    → clear ≡ opened C (slot_at x s) → fresh ≡ taken b clear m f
    → point_step b (heard x (side_tag b) m) m C f ≡ point_at b (heard x (side_tag b) m) s fresh
unfolding heard
point_goes b x m C f found anew made =
    point_at_lem b (heard x (side_tag b) m) m C f (found ∙ heard_slot x (side_tag b) m C) (made ∙ ap (λ slot. taken b slot m f) anew)

module _ (b : Side) (x : Record) (s : ℕ) (slot : Slot) where
  pub point_sends : ready_due x.setup b slot ≡ true → point_at b x s slot ≡ ready_sent x s slot (lowest x slot)
  unfolding point_at
  point_sends e = rw e

  pub point_completes : ready_due x.setup b slot ≡ false → completion_due x.setup b slot ≡ true → point_at b x s slot ≡ completed (with_slot x s slot) s
  unfolding point_at
  point_completes e h = rw (e, h)

  pub point_rests : ready_due x.setup b slot ≡ false → completion_due x.setup b slot ≡ false → point_at b x s slot ≡ quiet (with_slot x s slot)
  unfolding point_at
  point_rests e h = rw (e, h)

-- a recovery share sends nothing
pub share_silent : (x : Record) (m : ℕ) (s : Pair) → (share_step x m s).bytes ≡ []
unfolding share_step recovering
share_silent x m s =
    pick-either (λ (S : Step). S.bytes ≡ []) (eqb (shares_kept (sharing x m s)) x.setup.k) _ _ (λ e. refl) (λ e. refl)

-- there are as many points as shares kept
length-share_points : (keeps : List (Option Pair)) → length (share_points keeps) ≡ shares_kept keeps
unfolding share_points shares_kept
length-share_points keeps =
    length-gather_count (λ m. kept_at m (share_at keeps m)) (λ m. is_some (share_at keeps m)) (λ m. one m (share_at keeps m)) 10
  where
    one : (m : ℕ) (kept : Option Pair) → length (kept_at m kept) ≡ pick (is_some kept) 1 0
    one m None = refl
    one m (Some s) = refl

-- where k are kept, the first k are all
pub all-taken : (keeps : List (Option Pair)) (k : ℕ) → shares_kept keeps ≡ k → take k (share_points keeps) ≡ share_points keeps
all-taken keeps k e = take_all k (share_points keeps) (omega (arith, length-share_points keeps))

-- ---- a message that was read

-- its tag is that of its bytes
said_tag : (u : SetUp) (bytes : List ℕ) → Formed u bytes → tag_in bytes ≡ tag_of (message_in u bytes)
unfolding tag_of
said_tag u bytes r =
    by_tag u bytes r
    (λ e. rw (is_send_lem u bytes e, e))
    (λ e. rw (is_echo_lem u bytes e, e))
    (λ e. rw (is_ready_lem u bytes e, e))
    (λ e. rw (is_recovery_lem u bytes e, e))

-- for which its sender was not heard
pub unheard : (x : Record) (sender : ℕ) (bytes : List ℕ) {m : Message} → Hearing x sender bytes → m ≡ message_in x.setup bytes
    → heard_for x (tag_of m) (sender - 1) ≡ false
unheard x sender bytes h e =
    subst (λ t. heard_for x t (sender - 1) ≡ false) (said_tag x.setup bytes h.form ∙ ap tag_of (sym e)) h.unheard

-- ---- the coins of a deal

pub record CoinRanges (u : SetUp) (secret : ℕ) (coins : List ℕ) : Type 0 where
  pub below : secret < (group_of u.group).q
  pub first : 0 + u.k * u.k ≤ length coins + 1
  pub both : u.k * u.k + u.k * u.k ≤ length coins + 1

pub coin_ranges : (u : SetUp) (secret : ℕ) (coins : List ℕ) → 1 ≤ u.k → coins_keep u secret coins ≡ true → CoinRanges u secret coins
coin_ranges u secret coins l h =
    let count = coins_count u secret coins h in
    let some = square_some u.k l in
    record { below = secret_low u secret coins h; first = omega arith; both = omega arith }

pub deal_coins : {x : Record} {secret : ℕ} {coins : List ℕ} {lent : ℕ} → DealPassed x secret coins lent → CoinRanges x.setup secret coins
deal_coins {x} p = coin_ranges _ _ _ (omega (arith, (sound_ranges x p.called.is_sound).low)) p.keeps

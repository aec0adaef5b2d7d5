-- The step of a checked echo, ready or recovery share, part by part of the record.
--
-- In order: completion; the marks of a deal and of a command; an echo or a ready; a recovery share.
-- Assumes nothing.
use Rattle.std.specs.Prelude.{◌≡◌, Bool, true, false, not, List, [], ℕ, ◌+◌, eqb, set, take}
use Rattle.std.proofs.Math.Path.{refl}
use Rattle.std.proofs.Common.{sym, ◌∙◌, arith}
use Rattle.folds.specs.Tests.{◌and◌, ◌or◌, pick, true≢false}
use Rattle.std.specs.Prelude.{Option, Some, None, is_some}
use Rattle.rules.specs.declared.Element.{Element}
use Rattle.rules.specs.declared.Four.{Four}
use Rattle.rules.specs.declared.Pair.{Pair}
use Rattle.rules.specs.declared.Progress.{Progress}
use Rattle.rules.specs.declared.Record.{Record}
use Rattle.rules.specs.declared.Sent.{Sent}
use Rattle.rules.specs.declared.Sent.TheVariants.{Nothing, Ready}
use Rattle.rules.specs.declared.Slot.{Slot}
use Rattle.rules.specs.Record.{group_in, slot_at, shares_kept}
use Rattle.rules.specs.Steps.{Step, with_progress, with_shares, with_slot, heard, points, pair_from, own_slot, free_slot, slot_for, opened, taken, keeping, ready_sent, first_completion, completing, completed, ready_due, completion_due, point_at, point_step, recovered_from, share_points, sharing, recovering, share_step}
use Rattle.rules.specs.declared.Side.{Side}
use Rattle.rules.proofs.Laws.Facts.{ear}
use Rattle.demands.specs.Terms.Lives.{is_send, is_echo, is_ready, is_recovery}

-- ---- completion

-- the box completed just now exactly if it had not completed and now has
abbrev pub JustNow : Option ℕ → Option ℕ → Bool → Type 0
JustNow c c' now = now ≡ (not (is_some c) and is_some c')

-- a completion stays
abbrev pub Stays : Option ℕ → Option ℕ → Type 0
Stays c c' = (s : ℕ) → c ≡ Some s → c' ≡ Some s

pub as_before : (c : Option ℕ) → JustNow c c false
as_before None = refl
as_before (Some s) = refl

first_now : (c : Option ℕ) (s : ℕ) → JustNow c (first_completion c s) (not (is_some c))
first_now None s = refl
first_now (Some r) s = refl

first_stays : (c : Option ℕ) (s : ℕ) → Stays c (first_completion c s)
first_stays None s r e = let z : ◌≡◌ {A = ℕ} 0 1 = cc in absurd (omega arith)
first_stays (Some a) s r e = e

first_done : (c : Option ℕ) (s : ℕ) → is_some (first_completion c s) ≡ true
first_done None s = refl
first_done (Some r) s = refl

-- ---- the marks of a deal and of a command

-- a mark goes up with what is sent, from no mark, and else stays
pub record Once (sent was is : Bool) : Type 0 where
  pub now : is ≡ sent or was
  pub first : sent ≡ true → was ≡ false

-- a deal marks the dealer as having dealt, a command the box as commanded, and nothing else does
pub record OwnMarks (v v' : Progress) (sent : Sent) : Type 0 where
  pub dealt : Once (is_send sent) v.dealt v'.dealt
  pub commanded : Once (is_recovery sent) v.commanded v'.commanded

-- where neither is sent
pub marks_stay : (v v' : Progress) (sent : Sent) → v'.dealt ≡ v.dealt → v'.commanded ≡ v.commanded → is_send sent ≡ false → is_recovery sent ≡ false
    → OwnMarks v v' sent
marks_stay v v' _ d c a b =
    record {
      dealt = record { now = rw a d; first = λ e. absurd (true≢false (sym e ∙ a)) };
      commanded = record { now = rw b c; first = λ e. absurd (true≢false (sym e ∙ b)) };
    }

-- ---- an echo or a ready

-- the step of a checked message of side b
abbrev pub step_of : Side → Record → ℕ → List (List Element) → Four → Step
step_of b x m C f = point_step b (heard x (ear b + 1) m) m C f

-- a slot with the pair interpolated from its k lowest points
abbrev pub paired : Record → Slot → Slot
paired x v = keeping v (pair_from (group_in x).q (take x.setup.k (points v.places)))

-- slot v is put into place s, paired if ready is sent; else the box completes if that is due
pub record Stepped (x : Record) (b : Side) (m s : ℕ) (v : Slot) (sends due : Bool) (st : Step) : Type 0 where
  pub slots : st.after.slots ≡ set x.slots s (pick sends (paired x v) v)
  pub ready : is_ready st.sent ≡ sends
  pub echo : is_echo st.sent ≡ false
  pub marks : OwnMarks x.progress st.after.progress st.sent
  pub setup : st.after.setup ≡ x.setup
  pub ears : st.after.heard ≡ (heard x (ear b + 1) m).heard
  pub shares : st.after.shares ≡ x.shares
  pub recovered : st.after.recovered ≡ x.recovered
  pub done : JustNow x.progress.completion st.after.progress.completion st.completed
  pub still : Stays x.progress.completion st.after.progress.completion
  pub completes : sends ≡ false → due ≡ true → is_some st.after.progress.completion ≡ true

by_test : (P : Bool → Step → Type 0) (t : Bool) (a b : Step) → P true a → P false b → P t (pick t a b)
by_test P true a b h g = h
by_test P false a b h g = g

module _ (b : Side) (x : Record) (m s : ℕ) (v : Slot) where
  -- a step that puts this slot there, with this completion
  puts : (sends due : Bool) (c : Option ℕ) (sent : Sent) (bytes : List ℕ) (now : Bool)
      → is_ready sent ≡ sends → is_echo sent ≡ false → is_send sent ≡ false → is_recovery sent ≡ false
      → JustNow x.progress.completion c now → Stays x.progress.completion c
      → (sends ≡ false → due ≡ true → is_some c ≡ true)
      → Stepped x b m s v sends due
      (record {
        after = with_progress (with_slot (heard x (ear b + 1) m) s (pick sends (paired x v) v))
            (record { dealt = x.progress.dealt; completion = c; commanded = x.progress.commanded });
        sent = sent;
        bytes = bytes;
        completed = now;
        recovered = None;
      })
  unfolding heard
  puts sends due c _ bytes now ready echo no-send no_recovery done still completes =
      record {
        slots = refl;
        ready = ready;
        echo = echo;
        marks = marks_stay _ _ _ refl refl no-send no_recovery;
        setup = refl;
        ears = refl;
        shares = refl;
        recovered = refl;
        done = done;
        still = still;
        completes = completes;
      }

pub stepped : (b : Side) (x : Record) (m : ℕ) (C : List (List Element)) (f : Four)
    → Stepped x b m (slot_for x C) (taken b (opened C (slot_at x (slot_for x C))) m f)
    (ready_due x.setup b (taken b (opened C (slot_at x (slot_for x C))) m f))
    (completion_due x.setup b (taken b (opened C (slot_at x (slot_for x C))) m f)) (step_of b x m C f)
unfolding point_step point_at ready_sent completed completing heard slot_for own_slot free_slot
stepped b x m C f =
    let s = slot_for x C in
    let v = taken b (opened C (slot_at x s)) m f in
    let c = x.progress.completion in
    by_test (λ t. Stepped x b m s v t (completion_due x.setup b v)) (ready_due x.setup b v) _ _
    (puts b x m s v true _ c Ready _ false refl refl refl refl (as_before c) (λ a e. e) (λ e. absurd (true≢false e)))
    (by_test (Stepped x b m s v false) (completion_due x.setup b v) _ _
    (puts b x m s v false true _ Nothing [] (not (is_some c)) refl refl refl refl (first_now c s) (first_stays c s) (λ e q. first_done c s))
    (puts b x m s v false false c Nothing [] false refl refl refl refl (as_before c) (λ a e. e) (λ e q. absurd (true≢false (sym q)))))

-- ---- a recovery share

-- the share p of sender m + 1 is kept, and a pair recovered if it is the k-th
pub record Shared (x : Record) (m : ℕ) (p : Pair) (last : Bool) (st : Step) : Type 0 where
  pub slots : st.after.slots ≡ x.slots
  pub setup : st.after.setup ≡ x.setup
  pub ears : st.after.heard ≡ (heard x 4 m).heard
  pub progress : st.after.progress ≡ x.progress
  pub shares : st.after.shares ≡ sharing x m p
  pub recovered : st.after.recovered
      ≡ pick last (Some (recovered_from (group_in x).q (share_points (sharing x m p)))) x.recovered
  pub ready : is_ready st.sent ≡ false
  pub echo : is_echo st.sent ≡ false
  pub completed : st.completed ≡ false
  pub marks : OwnMarks x.progress st.after.progress st.sent

-- a step that keeps it, with this pair recovered
keeps : (x : Record) (m : ℕ) (p : Pair) (last : Bool) (w : Option Pair) (r : Option Pair)
    → w ≡ pick last (Some (recovered_from (group_in x).q (share_points (sharing x m p)))) x.recovered
    → Shared x m p last
    (record { after = with_shares (heard x 4 m) (sharing x m p) w; sent = Nothing; bytes = []; completed = false; recovered = r })
unfolding heard
keeps x m p last w r e =
    record {
      slots = refl;
      setup = refl;
      ears = refl;
      progress = refl;
      shares = refl;
      recovered = e;
      ready = refl;
      echo = refl;
      completed = refl;
      marks = marks_stay _ _ _ refl refl refl refl;
    }

pub shared : (x : Record) (m : ℕ) (p : Pair) → Shared x m p (eqb (shares_kept (sharing x m p)) x.setup.k) (share_step (heard x 4 m) m p)
unfolding share_step recovering heard
shared x m p =
    let pair = recovered_from (group_in x).q (share_points (sharing x m p)) in
    by_test (Shared x m p) (eqb (shares_kept (sharing x m p)) x.setup.k) _ _
    (keeps x m p true (Some pair) (Some pair) refl) (keeps x m p false x.recovered None refl)

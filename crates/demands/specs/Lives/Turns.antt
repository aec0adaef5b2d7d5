-- A step of a life, taken apart once and for all: what any call makes of a good record.
--
-- In order: what holds after every call; the three ways of a call (it takes nothing, it takes an echo or ready, it keeps a recovery share);
-- each call's way.
-- Assumes nothing.
use Rattle.std.specs.Prelude.{◌≡◌, Bool, true, false, List, ℕ, ◌+◌, ◌-◌, ◌<◌, eqb, replicate, length}
use Rattle.std.proofs.Math.Path.{refl}
use Rattle.std.proofs.Common.{sym, ap, ◌∙◌}
use Rattle.folds.specs.Tests.{◌and◌, pick, true≢false}
use Rattle.rules.specs.declared.Element.{Element}
use Rattle.rules.specs.declared.Four.{Four}
use Rattle.std.specs.Prelude.{Some, is_some}
use Rattle.rules.specs.declared.Outcome.{Outcome}
use Rattle.rules.specs.declared.Pair.{Pair}
use Rattle.rules.specs.declared.Progress.{Progress}
use Rattle.rules.specs.declared.Record.{Record}
use Rattle.rules.specs.declared.Sent.{Sent}
use Rattle.rules.specs.declared.Sent.TheVariants.{Send, Recovery}
use Rattle.rules.specs.Dealing.{matrix_passes, point_check}
use Rattle.rules.specs.Record.{group_in, slot_at, matrix_of, shares_kept, same_matrix}
use Rattle.rules.specs.Steps.{Step, heard, with_progress, sending, recovered_from, share_points, sharing, deal_step, recover_step}
use Rattle.rules.specs.Answers.{accepted, refused, answered, share_checks, deal, recover, Done}
use Rattle.rules.proofs.Laws.DemandOne.{answered_either}
use Rattle.rules.specs.declared.Side.{Side}
use Rattle.rules.proofs.Laws.Facts.{ear, hears}
use Rattle.rules.proofs.Laws.Sound.{facts_sound}
use Rattle.rules.proofs.Laws.Passed.{deal_passed, recover_passed}
use Rattle.rules.proofs.Laws.Kept.{deal_kept, recover_kept, good_of}
use Rattle.rules.proofs.Laws.Kept.Changes.{Good, hears_stays}
use Rattle.demands.specs.Terms.Histories.{Call, deals, commanded, doing}
use Rattle.demands.specs.Terms.Lives.{checks_now, sender_of, four_of, share_now, pair_of, is_echo, is_ready}
use Rattle.demands.specs.Lives.Stepped.{JustNow, Stays, as_before, OwnMarks, marks_stay}
use Rattle.demands.specs.Lives.Took.{Took}

-- ---- after every call

abbrev pub next : Record → Call → Record
next x c = (doing x c).outcome.next

-- what each way has in common
pub record Turned (x : Record) (c : Call) : Type 0 where
  pub setup : (next x c).setup ≡ x.setup
  pub done : JustNow x.progress.completion (next x c).progress.completion (doing x c).outcome.answer.completed
  pub still : Stays x.progress.completion (next x c).progress.completion
  -- a slot in use keeps its matrix
  pub stays : (r : ℕ) → (slot_at x r).used ≡ true
      → ((slot_at (next x c) r).used ≡ true) × (matrix_of (slot_at (next x c) r) ≡ matrix_of (slot_at x r))
  -- who is heard stays heard, and an echo is sent when the dealer is newly heard for a send
  pub ears : (a i : ℕ) → hears x a i ≡ true → hears (next x c) a i ≡ true
  pub echoes : is_echo (doing x c).outcome.answer.sent ≡ true
      → (hears x 0 (x.setup.d - 1) ≡ false) × (hears (next x c) 0 (x.setup.d - 1) ≡ true)
  pub marks : OwnMarks x.progress (next x c).progress (doing x c).outcome.answer.sent

-- ---- the ways of a call

-- it takes nothing
pub record Quiet (x : Record) (c : Call) : Type 0 where
  pub slots : (next x c).slots ≡ x.slots
  pub shares : (next x c).shares ≡ x.shares
  pub recovered : (next x c).recovered ≡ x.recovered
  pub ready : is_ready (doing x c).outcome.answer.sent ≡ false
  pub unchecked : (b : Side) (i : ℕ) (D : List (List Element)) → checks_now x c (ear b + 1) i D ≡ false
  pub unshared : (i : ℕ) → share_now x c i ≡ false

-- it is a checked echo or ready of sender m + 1
pub record Takes (x : Record) (c : Call) (b : Side) (m : ℕ) (C : List (List Element)) (f : Four) (sends : Bool) : Type 0 where
  pub low : m < 10
  pub new : hears x (ear b) m ≡ false
  pub took : Took x (next x c) b m C f sends
  pub shares : (next x c).shares ≡ x.shares
  pub recovered : (next x c).recovered ≡ x.recovered
  pub ready : is_ready (doing x c).outcome.answer.sent ≡ sends
  pub checked : (tag i : ℕ) (D : List (List Element)) → checks_now x c tag i D
      ≡ eqb (m + 1) i and eqb (ear b + 1) tag and same_matrix x.setup.k C D
  pub unshared : (i : ℕ) → share_now x c i ≡ false
  pub sender : sender_of c ≡ m + 1
  pub four : four_of x c ≡ f
  pub passes : matrix_passes (group_in x) x.setup.k C ≡ true
  pub check : point_check (group_in x) x.setup.k C x.setup.i (m + 1) f ≡ true

-- it is a checked recovery share of sender m + 1
pub record Keeps (x : Record) (c : Call) (m : ℕ) (p : Pair) : Type 0 where
  pub low : m < 10
  pub slots : (next x c).slots ≡ x.slots
  pub completion : (next x c).progress.completion ≡ x.progress.completion
  pub shares : (next x c).shares ≡ sharing x m p
  pub recovered : (next x c).recovered
      ≡ pick (eqb (shares_kept (sharing x m p)) x.setup.k) (Some (recovered_from (group_in x).q (share_points (sharing x m p))))
      x.recovered
  pub ready : is_ready (doing x c).outcome.answer.sent ≡ false
  pub unchecked : (b : Side) (i : ℕ) (D : List (List Element)) → checks_now x c (ear b + 1) i D ≡ false
  pub shared : (i : ℕ) → share_now x c i ≡ eqb (m + 1) i
  pub pair : pair_of c ≡ p
  pub unrecovered : is_some x.recovered ≡ false
  pub check : share_checks x x.progress.completion (m + 1) p ≡ true

pub data Way (x : Record) (c : Call) : Type 0 where
  quiet : Quiet x c → Way x c
  takes : (b : Side) (m : ℕ) (C : List (List Element)) (f : Four) (sends : Bool) → Takes x c b m C f sends → Way x c
  keeps : (m : ℕ) (p : Pair) → Keeps x c m p → Way x c

pub record Turn (x : Record) (c : Call) : Type 0 where
  pub turned : Turned x c
  pub good : Good (next x c)
  pub way : Way x c

-- ---- a call that takes nothing

-- only who is heard and what was commanded may change
pub record Untouched (x y : Record) : Type 0 where
  pub setup : y.setup ≡ x.setup
  pub slots : y.slots ≡ x.slots
  pub shares : y.shares ≡ x.shares
  pub recovered : y.recovered ≡ x.recovered
  pub completion : y.progress.completion ≡ x.progress.completion
  pub ears : (a i : ℕ) → hears x a i ≡ true → hears y a i ≡ true

pub untouched_heard : (x : Record) (tag m : ℕ) → Untouched x (heard x tag m)
unfolding heard
untouched_heard x tag m =
    record { setup = refl; slots = refl; shares = refl; recovered = refl; completion = refl; ears = hears_stays x tag m }

pub untouched_same : (x : Record) → Untouched x x
untouched_same x = record { setup = refl; slots = refl; shares = refl; recovered = refl; completion = refl; ears = λ a i e. e }

-- what its outcome o tells
pub record Tells (x : Record) (o : Outcome) : Type 0 where
  pub untouched : Untouched x o.next
  pub completed : o.answer.completed ≡ false
  pub ready : is_ready o.answer.sent ≡ false
  pub echoes : is_echo o.answer.sent ≡ true → (hears x 0 (x.setup.d - 1) ≡ false) × (hears o.next 0 (x.setup.d - 1) ≡ true)
  pub marks : OwnMarks x.progress o.next.progress o.answer.sent

pub tells_refused : (x : Record) (n : ℕ) (after : Record) → Untouched x after → after.progress ≡ x.progress → Tells x (refused n after)
unfolding refused
tells_refused x n after h p =
    record {
      untouched = h;
      completed = refl;
      ready = refl;
      echoes = λ e. absurd (true≢false (sym e));
      marks = marks_stay _ _ _ (ap (λ (v : Progress). v.dealt) p) (ap (λ (v : Progress). v.commanded) p) refl refl;
    }

module _ (x : Record) (c : Call) (t : Tells x (doing x c).outcome) where
  pub quiet_turned : Turned x c
  quiet_turned =
      let h = t.untouched in
      record {
        setup = h.setup;
        done = rw (t.completed, h.completion) (as_before x.progress.completion);
        still = λ s e. h.completion ∙ e;
        stays = λ r e. rw h.slots (e, refl);
        ears = h.ears;
        echoes = t.echoes;
        marks = t.marks;
      }

  pub quiet_way : ((b : Side) (i : ℕ) (D : List (List Element)) → checks_now x c (ear b + 1) i D ≡ false)
      → ((i : ℕ) → share_now x c i ≡ false) → Way x c
  quiet_way a b =
      let h = t.untouched in
      quiet (record { slots = h.slots; shares = h.shares; recovered = h.recovered; ready = t.ready; unchecked = a; unshared = b })

-- ---- the commands

answered_tells : (x : Record) (n : ℕ) (st : Step) (buffer : List ℕ) → (n ≡ 0 → Tells x (accepted st)) → Tells x (answered n st x buffer).outcome
answered_tells x n st buffer a =
    answered_either n st x buffer (λ (d : Done). Tells x d.outcome) a (λ z. tells_refused x n x (untouched_same x) refl)

-- what a command that is taken sends and changes
progress_tells : (x : Record) (v : Progress) (what : Sent) (bytes : List ℕ) → v.completion ≡ x.progress.completion → is_ready what ≡ false → is_echo what ≡ false
    → OwnMarks x.progress v what
    → Tells x (accepted (sending (with_progress x v) what bytes))
unfolding accepted
progress_tells x v what bytes e r n marks =
    record {
      untouched = record { setup = refl; slots = refl; shares = refl; recovered = refl; completion = e; ears = λ a i h. h };
      completed = refl;
      ready = r;
      echoes = λ h. absurd (true≢false (sym h ∙ n));
      marks = marks;
    }

module _ (x : Record) (g : Good x) where
  pub turn_deals : (secret : ℕ) (coins : List ℕ) (lent : ℕ) → Turn x (deals secret coins lent)
  unfolding doing deal deal_step checks_now share_now
  turn_deals secret coins lent =
      let t = answered_tells x _ (deal_step x secret coins) (replicate lent 0)
      (λ e. progress_tells x _ Send _ refl refl refl (record {
        dealt = record { now = refl; first = λ q. (deal_passed x secret coins (length {A = ℕ} (replicate lent 0)) e).first };
        commanded = record { now = refl; first = λ q. absurd (true≢false (sym q)) };
      })) in
      record {
        turned = quiet_turned x (deals secret coins lent) t;
        good = let kept = deal_kept x secret coins (replicate lent 0) (facts_sound x g.facts) g.shape in good_of _ kept.0 kept.1;
        way = quiet_way x (deals secret coins lent) t (λ b i D. refl) (λ i. refl);
      }

  pub turn_commanded : (lent : ℕ) → Turn x (commanded lent)
  unfolding doing recover recover_step checks_now share_now
  turn_commanded lent =
      let t = answered_tells x _ (recover_step x) (replicate lent 0)
      (λ e. progress_tells x _ Recovery _ refl refl refl (record {
        dealt = record { now = refl; first = λ q. absurd (true≢false (sym q)) };
        commanded = record { now = refl; first = λ q. (recover_passed x (length {A = ℕ} (replicate lent 0)) e).first };
      })) in
      record {
        turned = quiet_turned x (commanded lent) t;
        good = let kept = recover_kept x (replicate lent 0) (facts_sound x g.facts) g.shape in good_of _ kept.0 kept.1;
        way = quiet_way x (commanded lent) t (λ b i D. refl) (λ i. refl);
      }

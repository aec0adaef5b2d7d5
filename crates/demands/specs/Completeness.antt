-- Completeness: what boxes that keep the rules send passes the checks of those that keep them, so a checker that accepts
-- nothing does not meet demand 2; and shares from honest points are the dealt ones.
--
-- In the module below: what a message needs to be accepted (`Acceptance`).
-- Here, in order: the points behind a ready; the messages of a box are accepted; the share of a box whose points were dealt.
-- Assumes nothing.
pub mod Acceptance
use Rattle.std.specs.Prelude.{◌≡◌, refl, false, List, [], ◌∷◌, ℕ, ◌+◌, ◌-◌, ◌<◌, ◌≤◌, take}
use Rattle.std.proofs.Math.Path.{sym, ap}
use Rattle.std.proofs.Common.{◌∙◌, subst, arith}
use Rattle.std.proofs.Math.Bool.{true}
use Rattle.folds.specs.Tests.{and_intro}
use Rattle.std.specs.Prelude.{Option, Some, None, is_some}
use Rattle.rules.specs.declared.Element.{Element}
use Rattle.rules.specs.declared.Record.{Record}
use Rattle.rules.specs.declared.Sent.{Sent}
use Rattle.rules.specs.declared.Sent.TheVariants.{Send, Echo, Ready, Recovery}
use Rattle.rules.specs.declared.SetUp.{SetUp}
use Rattle.rules.specs.declared.Slot.{Slot}
use Rattle.rules.specs.Numbers.{is_box}
use Rattle.rules.specs.Matrices.{zero_four}
use Rattle.rules.specs.declared.Message.{Message}
use Rattle.rules.specs.declared.Message.TheVariants.{Recovery as recovery}
use Rattle.rules.specs.Messages.{matrix_in, polynomials_in, tag_of, bytes_of, to_each}
use Rattle.rules.specs.Dealing.{coins_keep, matrix_passes, pair_below, point_check, share_check}
use Rattle.rules.specs.Record.{slot_at, heard_for, matrix_of, kept_below, same_matrix}
use Rattle.rules.specs.Steps.{points, completed_share, share_bytes}
use Rattle.rules.specs.Answers.{set_up, exponents_keep, checks}
use Rattle.rules.proofs.Laws.Numbers.{bounds, box_is}
use Rattle.rules.proofs.Laws.Agreement.{share_agree}
use Rattle.rules.proofs.Laws.RoundTrip.{MatrixFits, Fits, matrix_part}
use Rattle.rules.proofs.Laws.Ranges.{four_room, pair_room, read_room, slot_room, dealt_room, dealt_rooms}
use Rattle.demands.specs.Terms.Histories.{Call, gets, doing, after, wrote, message_to, keeps, own}
use Rattle.demands.specs.MessageTo.{message_to_lem}
use Rattle.demands.specs.Terms.Dealing.{group, order, dealt_point, dealt_share, Different}
use Rattle.demands.specs.Sharing.{size, send_passes, echo_passes, ready_passes, points_give}
use Rattle.demands.specs.Terms.Lives.{kept_for, lowest_for, readies_sent, answer_to}
use Rattle.demands.specs.Lives.{life_sound, kept_then, kept_passes, completed_kept}
use Rattle.demands.specs.Lives.Slots.{slot_used, there_some}
use Rattle.demands.specs.Lives.Born.{good, own_setup, numbers_keep_lem, facts_at}
use Rattle.demands.specs.Lives.Readies.{used_there, held_differ}
use Rattle.demands.specs.Lives.Origins.{Spoken, spoken}
use Acceptance.{Welcome, welcomed}
use Rattle.demands.specs.Own.{own_bytes}

-- ---- the points behind a ready

-- a slot with a pair: its matrix passes and has room in a message, and its k lowest points pass
record Behind (u : SetUp) (slot : Slot) : Type 0 where
  passes : matrix_passes (group u) u.k (matrix_of slot) ≡ true
  room : MatrixFits u.k (matrix_of slot)
  differ : Different u zero_four (take u.k (points slot.places))
      (λ m f. point_check (group u) u.k (matrix_of slot) u.i m f ≡ true)

module _ (u : SetUp) (taken : (set_up u).answer.no ≡ 0) (cs : List Call) (s : ℕ) (l : s < 20) where
  behind : is_some (slot_at (after u cs) s).pair ≡ true → Behind u (slot_at (after u cs) s)
  behind there =
      let x = after u cs in
      let slot = slot_at x s in
      let C = matrix_of slot in
      let numbers = numbers_keep_lem u taken in
      let low = (size u numbers).low in
      let facts = facts_at u taken cs s l in
      let used = used_there u slot facts (omega arith) there in
      let here = slot_used x (good u taken cs) s l used in
      let passes = facts.contents.passes used in
      record {
        passes = passes;
        room = slot_room u numbers.group_keeps_lem (size u numbers).high slot ((good u taken cs).shape.slot s l) facts.contents.zero passes;
        differ =
            subst
            (λ (w : Slot). Different u zero_four (take u.k (points w.places)) (λ m f. point_check (group u) u.k C u.i m f ≡ true))
            here (held_differ u taken C cs (ap (λ (w : Slot). is_some w.pair) here ∙ there));
      }

-- ---- what a box sends is accepted

-- a box's own number is one of the class
own_box : (u : SetUp) (i : ℕ) → (set_up (own u i)).answer.no ≡ 0 → (1 ≤ i) × (i ≤ u.n)
own_box u i taken =
    subst (λ (v : SetUp). (1 ≤ v.i) × (v.i ≤ v.n)) (own_setup (own u i) taken [])
    (bounds (after (own u i) []).setup (good (own u i) taken []).facts.numbers).own

-- a box i and a box j of one class, each after calls of its own; box i's next call sends; what it sends to j is delivered
module _ (u : SetUp) (i j : ℕ) (taken : (set_up (own u i)).answer.no ≡ 0) (taken' : (set_up (own u j)).answer.no ≡ 0)
    (cs cs' : List Call) (c : Call) (lent : ℕ) (long : 2048 ≤ lent) where
  abbrev sender : Record
  sender = after (own u i) cs

  abbrev addressee : Record
  addressee = after (own u j) cs'

  said_by_lem : (what : Sent) → (doing sender c).outcome.answer.sent ≡ what → Spoken (own u i) sender c what (wrote (doing sender c))
  said_by_lem what e =
      subst (λ (w : Sent). Spoken (own u i) sender c w (wrote (doing sender c))) e
      (subst (λ (v : SetUp). Spoken v sender c (doing sender c).outcome.answer.sent (wrote (doing sender c)))
      (own_setup (own u i) taken cs) (spoken sender (good (own u i) taken cs) c))

  at_j : addressee.setup ≡ own u j
  at_j = own_setup (own u j) taken' cs'

  from_box : is_box addressee.setup i ≡ true
  from_box = let b = own_box u i taken in rw at_j (box_is (own u j) i b.0 b.1)

  -- a call that wrote f j for each j, where f j is welcome at j
  arrives : (f : ℕ → Message) (tag : ℕ) → ((m : ℕ) → tag_of (f m) ≡ tag) → wrote (doing sender c) ≡ to_each (own u i) f
      → Welcome addressee i (f j) → answer_to u i j cs cs' c lent ≡ 0
  arrives f tag same run w =
      let b = own_box u j taken' in
      let one : bytes_of (own u i) (f j) ≡ bytes_of (own u j) (f j) = own_bytes u i (f j) ∙ sym (own_bytes u j (f j)) in
      ap (λ (bytes : List ℕ). (doing addressee (gets i bytes lent)).outcome.answer.no)
      (ap (λ (r : List ℕ). message_to u.n r j) run
      ∙ message_to_lem (own u i) f tag same j b.0 b.1
      ∙ one
      ∙ ap (λ (v : SetUp). bytes_of v (f j)) (sym at_j))
      ∙ welcomed addressee i (f j) lent (life_sound (own u j) taken' cs').0 from_box long w

  -- a message with a matrix
  with_matrix : (m : Message) → tag_of m ≤ 3 → Fits (own u j) m → (tag_of m ≡ 1 → i ≡ u.d) → heard_for addressee (tag_of m) (i - 1) ≡ false
      → (tag_of m ≤ 3 → matrix_passes (group u) u.k (matrix_part m) ≡ true) → exponents_keep (own u j) m ≡ true → checks addressee i m ≡ true
      → Welcome addressee i m
  with_matrix m low fits dealer unheard matrix exponents check =
      record {
        fits = rw at_j fits;
        dealer = rw at_j dealer;
        commanded = λ e. absurd (omega arith);
        unrecovered = λ e. absurd (omega arith);
        unheard = unheard;
        matrix = rw at_j matrix;
        exponents = rw at_j exponents;
        check = check;
      }

  pub send_accepted : (doing (after (own u i) cs) c).outcome.answer.sent ≡ Send → heard_for (after (own u j) cs') 1 (i - 1) ≡ false → answer_to u i j cs cs' c lent ≡ 0
  unfolding tag_of
  send_accepted e unheard =
      let t = said_by_lem Send e in
      let numbers = numbers_keep_lem (own u i) taken in
      let high = (size (own u i) numbers).high in
      let ok = send_passes (own u i) numbers t.0 t.1 t.2 j in
      arrives _ 1 (λ m. refl) t.4
      (with_matrix _ (omega arith) (dealt_room (own u i) numbers.group_keeps_lem high _ _, dealt_rooms (own u i) numbers.group_keeps_lem high _ _ j)
      (λ q. t.3) unheard (λ q. ok.0) ok.1 (rw at_j ok.2))

  pub echo_accepted : (doing (after (own u i) cs) c).outcome.answer.sent ≡ Echo → heard_for (after (own u j) cs') 2 (i - 1) ≡ false → answer_to u i j cs cs' c lent ≡ 0
  unfolding tag_of
  echo_accepted e unheard =
      let t = said_by_lem Echo e in
      let numbers = numbers_keep_lem (own u i) taken in
      let high = (size (own u i) numbers).high in
      let ok = echo_passes (own u i) numbers (matrix_in (own u i) t.0) t.1 i j (polynomials_in (own u i) t.0) t.2 in
      arrives _ 2 (λ m. refl) t.3
      (with_matrix _ (omega arith) (read_room (own u i) numbers.group_keeps_lem high t.0 t.1, four_room (own u i) numbers.group_keeps_lem high _ ok.0)
      (λ q. absurd (omega arith)) unheard (λ q. t.1) ok.0 (rw at_j ok.1))

  pub ready_accepted : (doing (after (own u i) cs) c).outcome.answer.sent ≡ Ready → heard_for (after (own u j) cs') 3 (i - 1) ≡ false → answer_to u i j cs cs' c lent ≡ 0
  unfolding tag_of after
  ready_accepted e unheard =
      let t = said_by_lem Ready e in
      let numbers = numbers_keep_lem (own u i) taken in
      let high = (size (own u i) numbers).high in
      let b = behind (own u i) taken (c ∷ cs) t.0 t.1 t.2 in
      let ok = ready_passes (own u i) numbers _ b.passes i _ b.differ j in
      arrives _ 3 (λ m. refl) t.3
      (with_matrix _ (omega arith) (b.room, four_room (own u i) numbers.group_keeps_lem high _ ok.0)
      (λ q. absurd (omega arith)) unheard (λ q. b.passes) ok.0 (rw at_j ok.1))

  -- a recovery share, at a box that completed with the same matrix and was commanded, and has not recovered
  pub share_accepted : (s s' : ℕ) → (doing (after (own u i) cs) c).outcome.answer.sent ≡ Recovery
      → (after (own u i) cs).progress.completion ≡ Some s → (after (own u j) cs').progress.completion ≡ Some s'
      → same_matrix u.k (matrix_of (slot_at (after (own u i) cs) s)) (matrix_of (slot_at (after (own u j) cs') s')) ≡ true
      → (after (own u j) cs').progress.commanded ≡ true → (after (own u j) cs').recovered ≡ None
      → heard_for (after (own u j) cs') 4 (i - 1) ≡ false → answer_to u i j cs cs' c lent ≡ 0
  unfolding tag_of
  share_accepted s s' e done done' agree commanded unrecovered unheard =
      let numbers = numbers_keep_lem (own u i) taken in
      let low = (size (own u i) numbers).low in
      let w = completed_kept (own u i) taken cs s done in
      let some = there_some _ w.1 in
      let p = some.0 in
      let below : pair_below (order u) p ≡ true
      = ap (kept_below (order u)) (sym some.1) ∙ (facts_at (own u i) taken cs s w.0).contents.pair in
      let check : share_check (group u) u.k (matrix_of (slot_at addressee s')) i p ≡ true
      = sym (share_agree (group u) u.k _ _ agree (omega arith) i p) ∙ kept_passes (own u i) taken cs s p w.0 some.1 in
      arrives (λ m. recovery p) 4 (λ m. refl)
      ((said_by_lem Recovery e).0
      ∙ ap (λ (v : Option ℕ). share_bytes (own u i) (completed_share sender v)) done
      ∙ ap (share_bytes (own u i)) some.1)
      (record {
        fits = pair_room (own u i) numbers.group_keeps_lem (size (own u i) numbers).high p below;
        dealer = λ q. absurd (omega arith);
        commanded = λ q. and_intro _ _ (ap is_some done') commanded;
        unrecovered = λ q. ap is_some unrecovered;
        unheard = unheard;
        matrix = λ q. absurd (omega arith);
        exponents = rw at_j below;
        check = rw (done', at_j) check;
      })

-- ---- the share of a box whose points were dealt

-- where the points that are used when ready is sent are those of an honest deal, the share kept, with which the box completes,
-- is f(i, 0), f'(i, 0)
pub dealt_share_kept : (u : SetUp) → (set_up u).answer.no ≡ 0 → (cs : List Call) (c : Call) (C : List (List Element))
    → readies_sent u (c ∷ cs) C ≡ readies_sent u cs C + 1
    → (secret : ℕ) (coins : List ℕ) → coins_keep u secret coins ≡ true
    → Different u zero_four (lowest_for u (after u (c ∷ cs)) C) (λ m f. f ≡ dealt_point u secret coins m u.i)
    → kept_for (after u (c ∷ cs)) C ≡ Some (dealt_share u secret coins u.i)
dealt_share_kept u taken cs c C now secret coins keeps dealt =
    kept_then u taken cs c C now ∙ ap Some (points_give u (numbers_keep_lem u taken) secret coins keeps u.i _ dealt).1

-- The life of a box that keeps the rules, whatever it is told and sent: demand 2 over histories from set-up.
--
-- In the modules below: what a box holds for a matrix, as one slot (`Slots`, `Replaced`); the steps of checked messages (`Stepped`,
-- `Took`); any call taken apart (`Turns`, `Deliveries`), and seen from one matrix (`Seen`); a life from its beginning (`Born`), and by
-- induction over it each topic (`Counts`, `Points`, `Readies`, `Once`, `Completed`, `Marks`, `Recovered`); the commands (`Commands`);
-- what stands behind each message that is sent (`Origins`), and its bytes (`Bytes`). Here: the statements.
-- Assumes nothing.
pub mod Slots
pub mod Replaced
pub mod Stepped
pub mod Took
pub mod Turns
pub mod Deliveries
pub mod Seen
pub mod Born
pub mod Counts
pub mod Points
pub mod Readies
pub mod Once
pub mod Completed
pub mod Marks
pub mod Recovered
pub mod Commands
pub mod Origins
pub mod Bytes
use Rattle.std.specs.Prelude.{◌≡◌, refl, true, false, List, ◌∷◌, ◌++◌, ◌⊎◌, ◌≢◌, ℕ, ◌+◌, ◌-◌, ◌<◌, ◌≤◌, eqb, take, replicate}
use Rattle.std.proofs.Common.{sym, ap, ◌∙◌, subst, arith}
use Rattle.folds.specs.Tests.{pick}
use Rattle.folds.specs.Below.{count_below, any_below_here}
use Rattle.rules.specs.declared.Answer.{Answer}
use Rattle.std.specs.Prelude.{Option, Some, None, is_some}
use Rattle.rules.specs.declared.Element.{Element}
use Rattle.rules.specs.declared.Four.{Four}
use Rattle.rules.specs.declared.Pair.{Pair}
use Rattle.rules.specs.declared.Point.TheVariants.{Held}
use Rattle.rules.specs.declared.Sent.{Sent}
use Rattle.rules.specs.declared.Sent.TheVariants.{Send, Echo, Recovery}
use Rattle.rules.specs.declared.SetUp.{SetUp}
use Rattle.rules.specs.declared.Slot.{Slot}
use Rattle.rules.specs.Matrices.{entry}
use Rattle.rules.specs.declared.Message.TheVariants.{Echo as echo, Recovery as recovery}
use Rattle.rules.specs.Messages.{tag_in, matrix_in, polynomials_in, to_each}
use Rattle.rules.specs.Dealing.{coins_keep, committed, point_check, share_check}
use Rattle.rules.specs.Record.{slot_at, place_at, share_at, is_held, held, matrix_of, sound}
use Rattle.rules.specs.Steps.{points, share_points, pair_from, echo_four, recovered_from}
use Rattle.rules.specs.Answers.{set_up}
use Rattle.rules.specs.Laws.Shape.{Shaped}
use Rattle.rules.proofs.Laws.Sound.{facts_sound}
use Rattle.rules.proofs.Laws.DemandOne.{Heard}
use Rattle.rules.proofs.Laws.Heard.{NowHeard, OneMark, accepted_hears, refusal_leaves}
use Rattle.demands.specs.Terms.Histories.{Call, deals, gets, commanded, doing, after, answers, wrote}
use Rattle.demands.specs.Terms.Dealing.{group, order, sends_of}
use Rattle.demands.specs.Sharing.{size}
use Rattle.demands.specs.Terms.Lives.{checked, said, share_said, e_of, r_of, kept_for, lowest_for, is_echo, how_many, readies_sent, is_send, is_recovery, Writes, Sends}
use Slots.{slot_of, r_of_lem, kept_of, slot_used, slot_there}
use Deliveries.{has_echo}
use Born.{good, own_setup, numbers_keep_lem, facts_at}
use Counts.{e_is, r_is, points_are, said_passes}
use Readies.{used_there, readies_are, kept_now, kept_on, pair_passes}
use Once.{echo_once, complete_once}
use Marks.{deal_once, command_once}
use Commands.{first_deal, first_command}
use Bytes.{every_byte}
use Completed.{forced, done_kept, share_kept, completion_on, matrix_on, share_on}
use Recovered.{shares_are, recovered_is, share_pass, report_open}

-- ---- the statements, of a box that set-up accepted and of any calls

module _ (u : SetUp) (taken : (set_up u).answer.no ≡ 0) (cs : List Call) where
  pub life_sound : (sound (after u cs) ≡ true) × Shaped (after u cs) × ((after u cs).setup ≡ u)
  life_sound = (facts_sound (after u cs) (good u taken cs).facts, (good u taken cs).shape, own_setup u taken cs)

  -- e and r are the numbers of different senders whose echo or ready for the matrix was checked
  pub e_counts : (C : List (List Element)) → e_of (after u cs) C ≡ count_below 10 (λ m. checked u cs 2 (m + 1) C)
  e_counts C = e_is u taken C cs

  pub r_counts : (C : List (List Element)) → r_of (after u cs) C ≡ count_below 10 (λ m. checked u cs 3 (m + 1) C)
  r_counts C = r_is u taken C cs

  -- a place holds the point of its sender's first checked echo or ready for its matrix, and is silent without one
  pub places_say : (s m : ℕ) → s < 20 → m < 10 → (slot_at (after u cs) s).used ≡ true
      → (place_at (slot_at (after u cs) s) m).point ≡ said u cs (m + 1) (matrix_of (slot_at (after u cs) s))
  places_say s m a l e =
      ap (λ (w : Slot). (place_at w m).point) (sym (slot_used (after u cs) (good u taken cs) s a e))
      ∙ points_are u taken (matrix_of (slot_at (after u cs) s)) m l cs

  -- a kept recovery share is its sender's checked one, and absent without one
  pub shares_say : (m : ℕ) → m < 10 → share_at (after u cs).shares m ≡ share_said u cs (m + 1)
  shares_say m l = shares_are u taken m l cs

  -- the recovered pair is that of the kept shares alone
  pub recovered_from_lem : (p : Pair) → (after u cs).recovered ≡ Some p → p ≡ recovered_from (order u) (share_points (after u cs).shares)
  recovered_from_lem p e = recovered_is u taken p cs e

  -- a box sends echo at most once, ready at most once for each matrix, and completes at most once
  pub one_echo : how_many (λ (a : Answer). is_echo a.sent) (answers u cs) ≤ 1
  one_echo = echo_once u taken cs

  pub one_ready : (C : List (List Element)) → readies_sent u cs C ≤ 1
  one_ready C =
      rw (readies_are u taken C cs)
      (elim (is_some (slot_of (after u cs) C).pair) as (λ b. pick {A = ℕ} b 1 0 ≤ 1) [ true ↦ omega arith | false ↦ omega arith ])

  pub one_completion : how_many (λ (a : Answer). a.completed) (answers u cs) ≤ 1
  one_completion = complete_once u taken cs

  -- a pair is kept for a matrix once ready was sent for it
  pub kept_when_ready : (C : List (List Element)) → is_some (kept_for (after u cs) C) ≡ eqb (readies_sent u cs C) 1
  kept_when_ready C =
      rw (kept_of (after u cs) C, readies_are u taken C cs)
      (elim (is_some (slot_of (after u cs) C).pair) as (λ b. b ≡ eqb (pick {A = ℕ} b 1 0) 1) [ true ↦ refl | false ↦ refl ])

  -- it is the interpolation, at that moment, of the k lowest points held
  pub kept_then : (c : Call) (C : List (List Element)) → readies_sent u (c ∷ cs) C ≡ readies_sent u cs C + 1
      → kept_for (after u (c ∷ cs)) C
      ≡ Some (pair_from (order u) (lowest_for u (after u (c ∷ cs)) C))
  kept_then c C e =
      let now = kept_now u taken C c cs e in
      let here = slot_there (after u (c ∷ cs)) C (ap is_some now) in
      kept_of (after u (c ∷ cs)) C ∙ now ∙ ap (λ (w : Slot). Some (pair_from (order u) (take u.k (points w.places)))) here

  -- and never changes
  pub kept_ever : (C : List (List Element)) (p : Pair) (later : List Call) → kept_for (after u cs) C ≡ Some p
      → kept_for (after u (later ++ cs)) C ≡ Some p
  kept_ever C p later e = kept_of (after u (later ++ cs)) C ∙ kept_on u taken C cs p later (sym (kept_of (after u cs) C) ∙ e)

  -- a held point passed the point check, and a kept pair passes the share check
  pub held_passes : (s m : ℕ) (f : Four) → s < 20 → m < 10 → (place_at (slot_at (after u cs) s) m).point ≡ Held f
      → point_check (group u) u.k (matrix_of (slot_at (after u cs) s)) u.i (m + 1) f ≡ true
  held_passes s m f a l e =
      said_passes u taken (matrix_of (slot_at (after u cs) s)) (m + 1) f cs (sym (places_say s m a l used) ∙ e)
    where
      used : (slot_at (after u cs) s).used ≡ true
      used = ((good u taken cs).facts.slots.each s a).in_use ∙ any_below_here (held (slot_at (after u cs) s)) 10 m l (ap is_held e)

  pub kept_passes : (s : ℕ) (p : Pair) → s < 20 → (slot_at (after u cs) s).pair ≡ Some p
      → share_check (group u) u.k (matrix_of (slot_at (after u cs) s)) u.i p ≡ true
  kept_passes s p a e =
      pair_passes u taken (matrix_of (slot_at (after u cs) s)) cs p
      (ap (λ (w : Slot). w.pair) (slot_used (after u cs) (good u taken cs) s a used) ∙ e)
    where
      used : (slot_at (after u cs) s).used ≡ true
      used =
          used_there u (slot_at (after u cs) s) (facts_at u taken cs s a)
          (let low = (size u (numbers_keep_lem u taken)).low in omega arith) (ap is_some e)

  -- a completed box has a kept pair in its completed place
  pub completed_kept : (s : ℕ) → (after u cs).progress.completion ≡ Some s
      → (s < 20) × (is_some (slot_at (after u cs) s).pair ≡ true)
  completed_kept s e = done_kept u taken s cs e

  -- k + t readies for a matrix mean completion
  pub completion_forced : (C : List (List Element)) → u.k + u.t ≤ r_of (after u cs) C → is_some (after u cs).progress.completion ≡ true
  completion_forced C many = forced u taken C cs (rw (← r_of_lem (after u cs) C) many)

  -- which stays, with its matrix and its share
  pub completion_stays : (s : ℕ) (later : List Call) → (after u cs).progress.completion ≡ Some s
      → ((after u (later ++ cs)).progress.completion ≡ Some s)
      × (matrix_of (slot_at (after u (later ++ cs)) s) ≡ matrix_of (slot_at (after u cs) s))
      × ((slot_at (after u (later ++ cs)) s).pair ≡ (slot_at (after u cs) s).pair)
  completion_stays s later e = (completion_on u taken s cs e later, matrix_on u taken s cs e later, share_on u taken s cs e later)

  -- and its share is the pair kept for its matrix
  pub share_kept_for : (s : ℕ) → (after u cs).progress.completion ≡ Some s
      → (slot_at (after u cs) s).pair ≡ kept_for (after u cs) (matrix_of (slot_at (after u cs) s))
  share_kept_for s e = sym (share_kept u taken s cs e)

  -- a kept recovery share passes the share check against the completed matrix
  pub shares_pass : (s m : ℕ) (p : Pair) → (after u cs).progress.completion ≡ Some s → m < 10 → share_at (after u cs).shares m ≡ Some p
      → share_check (group u) u.k (matrix_of (slot_at (after u cs) s)) (m + 1) p ≡ true
  shares_pass s m p d l e = share_pass u taken s m p l cs d e

  -- the pair that a box reports opens the first entry of the matrix that it completed with
  pub report_opens : (s : ℕ) (p : Pair) → (after u cs).progress.completion ≡ Some s → (after u cs).recovered ≡ Some p
      → committed (group u) p.first.0 p.second.0 ≡ entry (matrix_of (slot_at (after u cs) s)) 0 0
  report_opens s p d e = report_open u taken s p cs d e

  -- a checked send has exactly its echo
  pub exact_echo : (sender lent : ℕ) (bytes : List ℕ) → tag_in bytes ≡ 1 → (doing (after u cs) (gets sender bytes lent)).outcome.answer.no ≡ 0
      → ((doing (after u cs) (gets sender bytes lent)).outcome.answer.sent ≡ Echo)
      × (wrote (doing (after u cs) (gets sender bytes lent))
      ≡ to_each u (λ j. echo (matrix_in u bytes) (echo_four (order u) u.k (polynomials_in u bytes) j)))
  exact_echo sender lent bytes h e =
      let sent = has_echo (after u cs) (good u taken cs) sender lent bytes h e in
      let t = subst (λ (what : Sent). Sends u cs (gets sender bytes lent) what (wrote (doing (after u cs) (gets sender bytes lent)))) sent
      (every_byte u taken cs (gets sender bytes lent)) in
      let same : t.2 ≡ bytes = cc in
      (sent, t.5 ∙ ap (λ (b : List ℕ). to_each u (λ j. echo (matrix_in u b) (echo_four (order u) u.k (polynomials_in u b) j))) same)

  -- the dealer's first deal is taken, and writes the sends of its secret and coins; it deals once
  pub deal_writes : u.i ≡ u.d → how_many (λ (a : Answer). is_send a.sent) (answers u cs) ≡ 0
      → (secret : ℕ) (coins : List ℕ) → coins_keep u secret coins ≡ true → (lent : ℕ) → 2048 ≤ lent
      → Writes (doing (after u cs) (deals secret coins lent)) Send (sends_of u secret coins)
  deal_writes dealer first secret coins keep lent long = first_deal u taken cs lent long dealer first secret coins keep

  pub one_deal : how_many (λ (a : Answer). is_send a.sent) (answers u cs) ≤ 1
  one_deal = deal_once u taken cs

  -- a completed box's first command is taken, and writes its share; it takes one
  pub command_writes : (s : ℕ) (p : Pair) → (after u cs).progress.completion ≡ Some s → (slot_at (after u cs) s).pair ≡ Some p
      → how_many (λ (a : Answer). is_recovery a.sent) (answers u cs) ≡ 0 → (lent : ℕ) → 2048 ≤ lent
      → Writes (doing (after u cs) (commanded lent)) Recovery (to_each u (λ j. recovery p))
  command_writes s p done kept first lent long = first_command u taken cs lent long s p done kept first

  pub one_command : how_many (λ (a : Answer). is_recovery a.sent) (answers u cs) ≤ 1
  one_command = command_once u taken cs

  -- an accepted message marks its sender heard, and a refused one at most that
  module _ (sender lent : ℕ) (bytes : List ℕ) where
    abbrev it : Call
    it = gets sender bytes lent

    pub accepted_heard : (doing (after u cs) it).outcome.answer.no ≡ 0
        → NowHeard (after u cs) (after u (it ∷ cs)) (tag_in bytes) (sender - 1)
    unfolding doing after
    accepted_heard = accepted_hears (after u cs) (good u taken cs).shape sender bytes (replicate lent 0)

    pub refused_leaves : (doing (after u cs) it).outcome.answer.no ≢ 0
        → ((Heard (doing (after u cs) it).outcome.answer.no (tag_in bytes) → ⊥) × (after u (it ∷ cs) ≡ after u cs))
        ⊎ (Heard (doing (after u cs) it).outcome.answer.no (tag_in bytes)
        × OneMark (after u cs) (after u (it ∷ cs)) (tag_in bytes) (sender - 1))
    unfolding doing after
    refused_leaves = refusal_leaves (after u cs) (good u taken cs).shape sender bytes (replicate lent 0)

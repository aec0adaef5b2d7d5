-- Document 01, "What the instructors will try": the promise of a delivery shuts out a useless box.
--
-- A box is any function from a delivery to what it answers and leaves, which keeps the promise where code has to: for a sound
-- record whose arrays have their lengths, and bytes below 256. In order: what it keeps; the two deliveries that a useless box gets
-- wrong, a send and a second echo; then one that refuses everything, one with a fixed answer, one that does nothing, and one
-- that works on the first delivery and then pretends. One that makes up e or r is shut out over its whole life (`Stations` of
-- `demands`).
-- Assumes nothing.
use Rattle.std.specs.Prelude.{◌≡◌, refl, Bool, true, false, List, ◌≢◌, ℕ, ◌<◌, eqb, ltb, length, replicate, get_or}
use Rattle.std.proofs.Common.{sym, ap, ◌∙◌, arith}
use Rattle.std.proofs.lemmas.List.{length-replicate, get_or-replicate}
use Rattle.std.proofs.lemmas.Bool.{eqb-false}
use Rattle.folds.specs.Tests.{true≢false}
use Rattle.folds.specs.Below.{all_below, all_below_all}
use Rattle.rules.specs.declared.Answer.{Answer}
use Rattle.rules.specs.declared.Marks.{Marks}
use Rattle.rules.specs.declared.Record.{Record}
use Rattle.rules.specs.declared.SetUp.{SetUp}
use Rattle.rules.specs.declared.Slot.{Slot}
use Rattle.rules.specs.Numbers.{group_keeps, numbers_keep}
use Rattle.rules.specs.declared.Message.{Message}
use Rattle.rules.specs.declared.Message.TheVariants.{Send as send, Echo as echo}
use Rattle.rules.specs.Messages.{bytes_of}
use Rattle.rules.specs.Record.{no_marks, marked, zero_slot, count_e, new_record, sound}
use Rattle.rules.specs.Answers.{Done, Delivers, deliver}
use Rattle.rules.specs.Computed.{computed}
use Rattle.rules.specs.Laws.Shape.{Shaped}
use Rattle.rules.proofs.Laws.New.{new_sound, new_shaped}
use Rattle.rules.proofs.Laws.Kept.{deliver_kept}
use Rattle.rules.specs.HandSums.{class, coins, C, dealt, point}

abbrev pub Station : Type 0
Station = Record → ℕ → List ℕ → List ℕ → Done

-- every number is one of a byte
unfoldable pub are_bytes : List ℕ → Bool
are_bytes l = all_below (length l) (λ i. ltb (get_or l i 0) 256)

pub zeros_are_bytes : (n : ℕ) → are_bytes (replicate n 0) ≡ true
unfolding are_bytes
zeros_are_bytes n =
    all_below_all _ (length {A = ℕ} (replicate n 0)) (λ i l.
    let long = length-replicate {A = ℕ} n 0 in ap (λ v. ltb v 256) (get_or-replicate n i 0 0 (omega arith)))

-- a delivery as code is given one: the numbers of a sound record are in the ranges of their types
pub record Given (x : Record) (sender : ℕ) (bytes buffer : List ℕ) : Type 0 where
  pub is_sound : sound x ≡ true
  pub shape : Shaped x
  pub sender_low : sender < 4294967296
  pub bytes_low : are_bytes bytes ≡ true
  pub buffer_low : are_bytes buffer ≡ true

-- it meets the promise
abbrev pub Keeps : Station → Type 0
Keeps station =
    (x : Record) (sender : ℕ) (bytes buffer : List ℕ) → Given x sender bytes buffer
    → Delivers x sender bytes buffer (station x sender bytes buffer).outcome (station x sender bytes buffer).buffer

-- ---- the deliveries

abbrev lent : List ℕ
lent = replicate 2048 0

-- a message of the class of the hand sums, to box 1
abbrev given : Station → Record → ℕ → Message → Done
given station x m message = station x m (bytes_of class message) lent

abbrev new : Record
new = new_record class

abbrev first_echo : Message
first_echo = echo (C 5 coins) (point 2)

abbrev second_echo : Message
second_echo = echo (C 5 coins) (point 3)

abbrev its_send : Message
its_send = send (C 5 coins) (dealt 5 coins 1)

-- box 1 once it has the echo of box 2
abbrev once : Record
once = (given deliver new 2 first_echo).outcome.next

-- what tells: the number and the bytes of the answer to the send, and the bytes of that to an echo; e before, after one
-- echo and after two
e_in : List Slot → ℕ
e_in slots = count_e (get_or slots 0 zero_slot)

abbrev e : Record → ℕ
e x = e_in x.slots

-- nobody is heard: at first, in every class
abbrev pub nobody_heard : List Marks
nobody_heard = replicate 4 (record { at = replicate 10 false })

pub first_in_every_class : (u : SetUp) → (new_record u).heard ≡ nobody_heard
unfolding new_record
first_in_every_class u = refl

record Told : Type 0 where
  taken : (given deliver new 1 its_send).outcome.answer.no ≡ 0
  echoes : (given deliver new 1 its_send).outcome.answer.bytes ≡ 92
  quiet : (given deliver new 2 first_echo).outcome.answer.bytes ≡ 0
  none : e new ≡ 0
  one : e once ≡ 1
  two : e (given deliver once 3 second_echo).outcome.next ≡ 2
  heard : marked (get_or once.heard 1 no_marks) 1 ≡ true
  unheard : marked (get_or nobody_heard 1 no_marks) 1 ≡ false

told : Told
unfolding computed e_in
told = record { taken = refl; echoes = refl; quiet = refl; none = refl; one = refl; two = refl; heard = refl; unheard = refl }

-- a number has one value
one_value : {n : ℕ} (a b : ℕ) → eqb a b ≡ false → n ≡ a → n ≡ b → ⊥
one_value a b other p q = eqb-false a b other (sym p ∙ q)

-- as code is given them
bytes_of_lem : (are_bytes (bytes_of class its_send) ≡ true) × (are_bytes (bytes_of class first_echo) ≡ true)
    × (are_bytes (bytes_of class second_echo) ≡ true)
unfolding computed are_bytes
bytes_of_lem = (refl, refl, refl)

class_keeps : (group_keeps class ≡ true) × (numbers_keep class ≡ true)
unfolding computed
class_keeps = (refl, refl)

new_kept : (sound new ≡ true) × Shaped new
new_kept = (new_sound class class_keeps.0 class_keeps.1, new_shaped class)

once_kept : (sound once ≡ true) × Shaped once
once_kept = deliver_kept new 2 (bytes_of class first_echo) lent new_kept.0 new_kept.1

abbrev GivenTo : Record → ℕ → Message → Type 0
GivenTo x m message = Given x m (bytes_of class message) lent

given_to : (x : Record) (m : ℕ) (message : Message) → (sound x ≡ true) × Shaped x → m < 4294967296 → are_bytes (bytes_of class message) ≡ true
    → GivenTo x m message
given_to x m message kept low bytes =
    record { is_sound = kept.0; shape = kept.1; sender_low = low; bytes_low = bytes; buffer_low = zeros_are_bytes 2048 }

send_given : GivenTo new 1 its_send
send_given = given_to new 1 its_send new_kept (omega arith) bytes_of_lem.0

first_given : GivenTo new 2 first_echo
first_given = given_to new 2 first_echo new_kept (omega arith) bytes_of_lem.1

second_given : GivenTo once 3 second_echo
second_given = given_to once 3 second_echo once_kept (omega arith) bytes_of_lem.2

-- ---- the useless boxes

module _ (station : Station) (keeps : Keeps station) where
  as_promised : (x : Record) (m : ℕ) (message : Message) → GivenTo x m message → given station x m message ≡ given deliver x m message
  as_promised x m message g = keeps x m (bytes_of class message) lent g

  pub not_refusing_everything : ((x : Record) (sender : ℕ) (bytes buffer : List ℕ) → Given x sender bytes buffer
      → (station x sender bytes buffer).outcome.answer.no ≢ 0) → ⊥
  not_refusing_everything refuses =
      refuses new 1 _ lent send_given (ap (λ (d : Done). d.outcome.answer.no) (as_promised new 1 its_send send_given) ∙ told.taken)

  pub not_one_answer : (a : Answer) → ((x : Record) (sender : ℕ) (bytes buffer : List ℕ) → Given x sender bytes buffer
      → (station x sender bytes buffer).outcome.answer ≡ a) → ⊥
  not_one_answer a fixed =
      let bytes : (m : ℕ) (message : Message) → GivenTo new m message → a.bytes ≡ (given deliver new m message).outcome.answer.bytes =
      λ m message g. ap (λ (a : Answer). a.bytes) (sym (fixed new m (bytes_of class message) lent g))
      ∙ ap (λ (d : Done). d.outcome.answer.bytes) (as_promised new m message g) in
      one_value 92 0 refl (bytes 1 its_send send_given ∙ told.echoes) (bytes 2 first_echo first_given ∙ told.quiet)

  -- e of what the box leaves, for a box that leaves its slots as they were
  stays : (x : Record) (m : ℕ) (message : Message) → GivenTo x m message → (given station x m message).outcome.next.slots ≡ x.slots
      → e (given deliver x m message).outcome.next ≡ e x
  stays x m message g same =
      ap e_in (ap (λ (d : Done). d.outcome.next.slots) (sym (as_promised x m message g)) ∙ same)

  pub not_doing_nothing : ((x : Record) (sender : ℕ) (bytes buffer : List ℕ) → Given x sender bytes buffer
      → (station x sender bytes buffer).outcome.next ≡ x) → ⊥
  not_doing_nothing idle =
      one_value 1 0 refl told.one
      (stays new 2 first_echo first_given (ap (λ (x : Record). x.slots) (idle new 2 (bytes_of class first_echo) lent first_given)) ∙ told.none)

  -- it works on the first delivery of every class, as long as nobody is heard, and then leaves the slots as they are
  pub not_pretending : ((x : Record) (sender : ℕ) (bytes buffer : List ℕ) → Given x sender bytes buffer → x.heard ≢ nobody_heard
      → (station x sender bytes buffer).outcome.next.slots ≡ x.slots) → ⊥
  not_pretending pretends =
      let other : once.heard ≢ nobody_heard = λ same. true≢false (sym told.heard ∙ ap (λ ears. marked (get_or ears 1 no_marks) 1) same ∙ told.unheard) in
      one_value 2 1 refl told.two
      (stays once 3 second_echo second_given (pretends once 3 (bytes_of class second_echo) lent second_given other) ∙ told.one)

-- Demand 3 of the script of Script, in which the set lies: both runs computed, and what the theorem of `Demands` says of them. Lists
-- have the latest first.
--
-- In order: what is computed of both runs; what it comes to; that the two secrets differ; what the theorem supposes, and says.
-- Assumes nothing.
use Rattle.std.specs.Prelude.{◌≡◌, refl, Bool, true, false, List, [], ◌∷◌, map, ℕ, zero, suc}
use Rattle.std.proofs.Common.{sym, ap, subst, ◌∙◌, arith}
use Rattle.folds.specs.Tests.{and_left, true≢false}
use Rattle.rules.specs.declared.Answer.{Answer}
use Rattle.std.specs.Prelude.{Option, Some}
use Rattle.rules.specs.declared.Element.{Element}
use Rattle.rules.specs.declared.Pair.{Pair}
use Rattle.rules.specs.declared.Point.{Point}
use Rattle.rules.specs.declared.Point.TheVariants.{Held}
use Rattle.rules.specs.Numbers.{group_keeps, is_box, numbers_keep}
use Rattle.rules.specs.Record.{slot_at, place_at, matrix_of, count_e, count_r}
use Rattle.rules.specs.Steps.{recovered_from}
use Rattle.rules.specs.Computed.{computed}
use Rattle.rules.specs.HandSums.{pair}
use Rattle.rules.proofs.Laws.Numbers.{is_box_lem}
use Rattle.demands.specs.Terms.Histories.{doing, message_to, keeps, may_break, own, Event, record_of, seen}
use Rattle.demands.specs.Terms.Dealing.{order, dealt_share}
use Rattle.demands.specs.Terms.Secrets.{matching}
use Rattle.demands.specs.Terms.Secrets.{played, Uncommanded, Alike}
use Rattle.demands.specs.Demands.{two_secrets_look_the_same}
use Rattle.instances.specs.Replay.{
  Past,
  takes,
  life,
  Run,
  box_in,
  found,
  box_next,
  seen_next,
  next,
  replay,
  told_of,
  replayed,
}
use Rattle.instances.specs.SameLists.{same_list, same_lists, same_lists_lem}
use Rattle.instances.specs.Script.{numbers, set, room, few, coins, coins_keep_lem, D, point, low_5, low_0, coins*, matches, lie, rival, script, to_set}

-- ---- what is computed of both runs

-- of one box: the numbers that it answers, the place that it completed with, what it has in the place of the dealt matrix, and
-- whether it was told to recover
pub record Sight : Type 0 where
  pub told : List ℕ
  pub completed : Option ℕ
  pub matrix : List (List Element)
  pub e : ℕ
  pub r : ℕ
  pub kept : Option Pair
  pub commanded : Bool

-- what is looked at of a run, computed at once
record Looks : Type 0 where
  saw : Bool
  box_1 : Sight
  box_3 : Sight
  box_5 : Sight
  -- of box 3: the matrix in place 0, its echoes, and what box 2 has said of the dealt one
  other : List (List Element)
  other_e : ℕ
  lied : Point

abbrev pub sight_of : Past → ℕ → Sight
sight_of b s =
    record {
      told = map (λ (a : Answer). a.no) b.told;
      completed = b.left.progress.completion;
      matrix = matrix_of (slot_at b.left s);
      e = count_e (slot_at b.left s);
      r = count_r (slot_at b.left s);
      kept = (slot_at b.left s).pair;
      commanded = b.left.progress.commanded;
    }

abbrev look : List (List ℕ) → Past → Past → Past → Looks
look saw b c d =
    record {
      saw = same_lists saw to_set;
      box_1 = sight_of b 0;
      box_3 = sight_of c 1;
      box_5 = sight_of d 0;
      other = matrix_of (slot_at c.left 0);
      other_e = count_e (slot_at c.left 0);
      lied = (place_at (slot_at c.left 1) 1).point;
    }

abbrev look_at : Run → Looks
look_at run = look run.saw (box_in run 1) (box_in run 3) (box_in run 5)

-- completed with the dealt matrix in this place
abbrev sight : List ℕ → ℕ → ℕ → ℕ → Pair → Sight
sight told place e r p = record { told = told; completed = Some place; matrix = D; e = e; r = r; kept = Some p; commanded = false }

-- too few coins, the short buffer and the second deal are refused
abbrev sight_1 : Pair → Sight
sight_1 p = sight (0 ∷ 0 ∷ 0 ∷ 0 ∷ 0 ∷ 13 ∷ 0 ∷ 15 ∷ 14 ∷ []) 0 0 4 p

-- the repeated send, the command and the short buffer are refused; the rival matrix has place 0
abbrev sight_3 : Pair → Sight
sight_3 p = sight (0 ∷ 0 ∷ 0 ∷ 0 ∷ 0 ∷ 0 ∷ 15 ∷ 13 ∷ 0 ∷ 0 ∷ 0 ∷ 7 ∷ 0 ∷ []) 1 4 4 p

-- the echo that fails is refused
abbrev sight_5 : Pair → Sight
sight_5 p = sight (0 ∷ 0 ∷ 0 ∷ 0 ∷ 0 ∷ 0 ∷ 0 ∷ 0 ∷ 10 ∷ 0 ∷ []) 0 4 4 p

-- the same in both runs, but for the pairs that boxes 1, 3 and 5 keep
abbrev sights : Pair → Pair → Pair → Looks
sights p₁ p₃ p₅ =
    record {
      saw = true;
      box_1 = sight_1 p₁;
      box_3 = sight_3 p₃;
      box_5 = sight_5 p₅;
      other = rival;
      other_e = 1;
      lied = Held (lie (point 2 3));
    }

looks : look_at (replay room (played numbers 5 coins script)) ≡ sights (pair 4 10) (pair 6 7) (pair 0 7)
unfolding computed doing message_to keeps may_break takes life found box_next seen_next next replay same_list same_lists played
looks = refl

looks* : look_at (replay room (played numbers 0 coins* script)) ≡ sights (pair 9 8) (pair 8 4) (pair 5 5)
unfolding computed doing message_to keeps may_break takes life found box_next seen_next next replay same_list same_lists played
looks* = refl

-- ---- what it comes to

-- of box i after these events, as Histories says
abbrev at : List Event → ℕ → ℕ → Sight
at es i s = sight_of (told_of room es i) s

pub record Happens (es : List Event) (p₁ p₃ p₅ : Pair) : Type 0 where
  -- sends, echoes and readies
  pub saw : seen room es ≡ to_set
  -- boxes 1, 3 and 5 complete with the dealt matrix
  pub box_1 : at es 1 0 ≡ sight_1 p₁
  pub box_3 : at es 3 1 ≡ sight_3 p₃
  pub box_5 : at es 5 0 ≡ sight_5 p₅
  -- box 3 has taken an echo for the rival matrix, and a lie for the dealt one
  pub other : matrix_of (slot_at (record_of room es 3) 0) ≡ rival
  pub other_e : count_e (slot_at (record_of room es 3) 0) ≡ 1
  pub lied : (place_at (slot_at (record_of room es 3) 1) 1).point ≡ Held (lie (point 2 3))
  -- no recovery has been commanded
  pub uncommanded : Uncommanded room es

-- boxes 1, 3 and 5 keep the rules
pub the_others : (P : ℕ → Type 0) → P 1 → P 3 → P 5 → (i : ℕ) → keeps room i ≡ true → P i
unfolding keeps is_box
the_others P a b c zero k = absurd (true≢false (sym k))
the_others P a b c (suc zero) k = a
the_others P a b c (suc (suc zero)) k = absurd (true≢false (sym k))
the_others P a b c (suc (suc (suc zero))) k = b
the_others P a b c (suc (suc (suc (suc zero)))) k = absurd (true≢false (sym k))
the_others P a b c (suc (suc (suc (suc (suc zero))))) k = c
the_others P a b c (suc (suc (suc (suc (suc (suc i)))))) k =
    let within = is_box_lem numbers (suc (suc (suc (suc (suc (suc i)))))) (and_left _ _ k) in absurd (omega arith)

-- what is computed of a run holds of the history
as_computed : (es : List Event) (p₁ p₃ p₅ : Pair) → look_at (replay room es) ≡ sights p₁ p₃ p₅ → Happens es p₁ p₃ p₅
unfolding is_box
as_computed es p₁ p₃ p₅ h =
    let all = replayed room look es 1 3 5 refl refl refl ∙ h in
    record {
      saw = same_lists_lem (seen room es) to_set (ap (λ l. l.saw) all);
      box_1 = ap (λ l. l.box_1) all;
      box_3 = ap (λ l. l.box_3) all;
      box_5 = ap (λ l. l.box_5) all;
      other = ap (λ l. l.other) all;
      other_e = ap (λ l. l.other_e) all;
      lied = ap (λ l. l.lied) all;
      uncommanded =
          the_others (λ i. (record_of room es i).progress.commanded ≡ false)
          (ap (λ l. l.box_1.commanded) all) (ap (λ l. l.box_3.commanded) all) (ap (λ l. l.box_5.commanded) all);
    }

pub with_5 : Happens (played numbers 5 coins script) (pair 4 10) (pair 6 7) (pair 0 7)
with_5 = as_computed (played numbers 5 coins script) (pair 4 10) (pair 6 7) (pair 0 7) looks

pub with_0 : Happens (played numbers 0 (matching numbers set 5 0 coins) script) (pair 9 8) (pair 8 4) (pair 5 5)
with_0 =
    subst (λ (cs : List ℕ). Happens (played numbers 0 cs script) (pair 9 8) (pair 8 4) (pair 5 5)) (sym matches)
    (as_computed (played numbers 0 coins* script) (pair 9 8) (pair 8 4) (pair 5 5) looks*)

-- ---- the two secrets differ

-- what the shares of the set and one of box 5 recover
abbrev recovers : Pair → Pair
recovers p =
    recovered_from (order numbers)
    (record { box = 2; says = pair 0 2 } ∷ record { box = 4; says = pair 10 10 } ∷ record { box = 5; says = p } ∷ [])

pub record Secrets (secret : ℕ) (coins : List ℕ) (p : Pair) : Type 0 where
  pub set_2 : dealt_share numbers secret coins 2 ≡ pair 0 2
  pub set_4 : dealt_share numbers secret coins 4 ≡ pair 10 10
  -- box 5, which was not lied to, keeps its dealt share
  pub box_5 : dealt_share numbers secret coins 5 ≡ p
  pub gives : (recovers p).first.0 ≡ secret

pub gives_5 : Secrets 5 coins (pair 0 7)
unfolding computed
gives_5 = record { set_2 = refl; set_4 = refl; box_5 = refl; gives = refl }

pub gives_0 : Secrets 0 coins* (pair 5 5)
unfolding computed
gives_0 = record { set_2 = refl; set_4 = refl; box_5 = refl; gives = refl }

-- boxes 1 and 3, which were, keep another: theirs would be
pub lied_to : (dealt_share numbers 5 coins 1 ≡ pair 2 2) × (dealt_share numbers 5 coins 3 ≡ pair 10 1)
unfolding computed
lied_to = (refl, refl)

-- ---- what the theorem supposes, and says

pub group_keeps_lem : group_keeps numbers ≡ true
unfolding computed
group_keeps_lem = refl

pub numbers_keep_lem : numbers_keep (own numbers 1) ≡ true
unfolding computed
numbers_keep_lem = refl

pub hidden : Alike room (played numbers 5 coins script) (played numbers 0 (matching numbers set 5 0 coins) script)
hidden =
    two_secrets_look_the_same room group_keeps_lem numbers_keep_lem few refl 5 0 low_5 low_0 coins coins_keep_lem script with_5.uncommanded

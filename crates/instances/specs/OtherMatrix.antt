-- "later readies for another C are counted and change neither C nor share": box 1 of a class of seven (group 1, t 1, k 2) completes with
-- the matrix of one deal, and then gets as many readies for that of another. Lists have the latest first.
--
-- In order: the class, its two matrices and the calls; what is computed of them; what it comes to; what the theorems say of it.
-- Assumes nothing.
use Rattle.rules.specs.declared.Pair.{Pair}
use Rattle.std.specs.Prelude.{◌≡◌, refl, Bool, true, false, List, [], ◌∷◌, ◌++◌, map, ℕ, ◌≤◌, get_or}
use Rattle.std.proofs.Common.{sym, ap, subst, ◌∙◌, arith}
use Rattle.rules.specs.declared.Answer.{Answer}
use Rattle.std.specs.Prelude.{Option, Some, is_some}
use Rattle.rules.specs.declared.Element.{Element}
use Rattle.rules.specs.declared.Record.{Record}
use Rattle.rules.specs.declared.Sent.{Sent}
use Rattle.rules.specs.declared.Sent.TheVariants.{Nothing, Ready}
use Rattle.rules.specs.declared.SetUp.{SetUp}
use Rattle.rules.specs.declared.Message.TheVariants.{Ready as ready}
use Rattle.rules.specs.Messages.{bytes_of}
use Rattle.rules.specs.Record.{slot_at, matrix_of, same_matrix, zero_record}
use Rattle.rules.specs.Answers.{set_up}
use Rattle.rules.specs.Computed.{computed}
use Rattle.rules.specs.HandSums.{sized, coins, pair}
use Rattle.demands.specs.Terms.Histories.{Call, gets, doing, after, answers}
use Rattle.demands.specs.Terms.Dealing.{dealt_matrix, dealt_point}
use Rattle.demands.specs.Terms.Lives.{r_of, kept_for}
use Rattle.demands.specs.Demands.{enough_readies_complete, completion_never_changes, completed_share_is_the_kept_pair}
use Rattle.instances.specs.Replay.{Past, takes, life, came_to, life_lived}

-- ---- the calls

abbrev numbers : SetUp
numbers = sized 7 1 2

-- the matrix of a deal of this secret
abbrev of : ℕ → List (List Element)
of secret = dealt_matrix numbers secret coins

-- the ready of box m for it
abbrev readies : ℕ → ℕ → Call
readies m secret = gets m (bytes_of numbers (ready (of secret) (dealt_point numbers secret coins m 1))) 2048

-- one ready for the deal of 6; then three, which is k + t, for that of 5
abbrev completing : List Call
completing = readies 3 5 ∷ readies 2 5 ∷ readies 1 5 ∷ readies 4 6 ∷ []

-- and then three for that of 6
abbrev later : List Call
later = readies 7 6 ∷ readies 6 6 ∷ readies 5 6 ∷ []

abbrev play : List Call
play = later ++ completing

-- ---- what is computed of them

-- what is looked at, computed at once
record Looks : Type 0 where
  told : List ℕ
  sent : List Sent
  completions : List Bool
  completed : Option ℕ
  matrix : List (List Element)
  share : Option Pair
  r_5 : ℕ
  r_6 : ℕ
  kept_6 : Option Pair
  same : Bool

abbrev look : Past → Looks
look b =
    let then : Record = get_or b.came 2 zero_record in
    record {
      told = map (λ (a : Answer). a.no) b.told;
      sent = map (λ (a : Answer). a.sent) b.told;
      completions = map (λ (a : Answer). a.completed) b.told;
      completed = then.progress.completion;
      matrix = matrix_of (slot_at then 1);
      share = (slot_at then 1).pair;
      r_5 = r_of b.left (of 5);
      r_6 = r_of b.left (of 6);
      kept_6 = kept_for b.left (of 6);
      same = same_matrix 2 (of 5) (of 6);
    }

looks : look (life numbers play)
    ≡ record {
      told = 0 ∷ 0 ∷ 0 ∷ 0 ∷ 0 ∷ 0 ∷ 0 ∷ [];
      sent = Nothing ∷ Nothing ∷ Ready ∷ Nothing ∷ Ready ∷ Nothing ∷ Nothing ∷ [];
      completions = false ∷ false ∷ false ∷ true ∷ false ∷ false ∷ false ∷ [];
      completed = Some 1;
      matrix = of 5;
      share = Some (pair 7 8);
      r_5 = 3;
      r_6 = 4;
      kept_6 = Some (pair 8 8);
      same = false;
    }
unfolding computed doing life takes r_of kept_for
looks = refl

taken : (set_up numbers).answer.no ≡ 0
unfolding computed
taken = refl

-- ---- what it comes to

abbrev then : Record
then = after numbers completing

abbrev end : Record
end = after numbers play

pub record Counted : Type 0 where
  -- every ready is accepted; the second for each matrix has the box send ready, and the third for the deal of 5 complete it
  pub told : map (λ (a : Answer). a.no) (answers numbers play) ≡ 0 ∷ 0 ∷ 0 ∷ 0 ∷ 0 ∷ 0 ∷ 0 ∷ []
  pub sent : map (λ (a : Answer). a.sent) (answers numbers play) ≡ Nothing ∷ Nothing ∷ Ready ∷ Nothing ∷ Ready ∷ Nothing ∷ Nothing ∷ []
  pub completions : map (λ (a : Answer). a.completed) (answers numbers play) ≡ false ∷ false ∷ false ∷ true ∷ false ∷ false ∷ false ∷ []
  pub completed : then.progress.completion ≡ Some 1
  pub matrix : matrix_of (slot_at then 1) ≡ of 5
  pub share : (slot_at then 1).pair ≡ Some (pair 7 8)
  -- those for the other matrix are counted: in the end there are more than for the completed one
  pub other : same_matrix 2 (of 5) (of 6) ≡ false
  pub r_5 : r_of end (of 5) ≡ 3
  pub r_6 : r_of end (of 6) ≡ 4
  pub kept_6 : kept_for end (of 6) ≡ Some (pair 8 8)

pub counted : Counted
unfolding came_to
counted =
    let all = ap look (sym (life_lived numbers play)) ∙ looks in
    record {
      told = ap (λ l. l.told) all;
      sent = ap (λ l. l.sent) all;
      completions = ap (λ l. l.completions) all;
      completed = ap (λ l. l.completed) all;
      matrix = ap (λ l. l.matrix) all;
      share = ap (λ l. l.share) all;
      other = ap (λ l. l.same) all;
      r_5 = ap (λ l. l.r_5) all;
      r_6 = ap (λ l. l.r_6) all;
      kept_6 = ap (λ l. l.kept_6) all;
    }

-- ---- what the theorems say of it

pub record Unchanged : Type 0 where
  pub completed : end.progress.completion ≡ Some 1
  pub matrix : matrix_of (slot_at end 1) ≡ of 5
  pub share : (slot_at end 1).pair ≡ Some (pair 7 8)
  -- it is the pair kept for the matrix of the deal of 5
  pub kept : kept_for end (of 5) ≡ Some (pair 7 8)
  -- and the readies for the deal of 6 would do as well
  pub enough : is_some end.progress.completion ≡ true

pub unchanged : Unchanged
unchanged =
    let stays = completion_never_changes numbers taken completing 1 later counted.completed in
    let matrix = stays.1 ∙ counted.matrix in
    let share = stays.2 ∙ counted.share in
    record {
      completed = stays.0;
      matrix = matrix;
      share = share;
      kept = ap (kept_for end) (sym matrix) ∙ sym (completed_share_is_the_kept_pair numbers taken play 1 stays.0) ∙ share;
      enough = enough_readies_complete numbers taken play (of 6) (subst (λ r. 3 ≤ r) (sym counted.r_6) (omega arith));
    }

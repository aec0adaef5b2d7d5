-- The table of refusals: the first row that holds, and what that says of the other rows.
--
-- In order: the rows of a table by their numbers; the first row; tables one behind the other; which rows mark the sender heard.
-- What holds past a row is one law, `past`: no row of an accepted call holds.
-- Assumes nothing.
use Rattle.std.specs.Prelude.{◌≡◌, refl, Bool, true, false, not, List, [], ◌∷◌, ◌++◌, map, ◌↔◌, ◌≢◌, ℕ, ◌≤◌, eqb}
use Rattle.std.proofs.Common.{sym, ap, ◌∙◌, subst, ⊎_elim, eqb-true, arith}
use borrow.Author.Rules.{rules}
use Rattle.std.proofs.lemmas.Bool.{eqb-false, not-true}
use Rattle.folds.specs.Tests.{◌and◌, pick, pick-either, same, true≢false, and_left, and_right, and_intro, same_eq, eq_same, decide}
use Rattle.rules.specs.declared.Refusal.{Refusal}
use Rattle.rules.specs.Refusals.{refusal_number}
use Rattle.rules.specs.Answers.{Row, marking, first_row, first_of}

-- ---- the rows of a table by their numbers

-- row x of a table holds
unfoldable pub row : List Row → ℕ → Bool
row [] x = false
row (y ∷ ys) x = pick (eqb y.number x) y.holds (row ys x)

-- no row that comes before row x holds
unfoldable pub none_before : List Row → ℕ → Bool
none_before [] x = true
none_before (y ∷ ys) x = pick (eqb y.number x) true (not y.holds and none_before ys x)

-- no row holds
unfoldable pub none : List Row → Bool
none [] = true
none (y ∷ ys) = not y.holds and none ys

-- a number does not occur, or does, and the numbers of a table are different and not 0
unfoldable pub lacks : ℕ → List ℕ → Bool
lacks x [] = true
lacks x (y ∷ ys) = not (eqb y x) and lacks x ys

abbrev pub among : List ℕ → ℕ → Bool
among xs x = not (lacks x xs)

unfoldable pub distinct : List ℕ → Bool
distinct [] = true
distinct (y ∷ ys) = lacks y ys and distinct ys

abbrev pub numbers : List Row → List ℕ
numbers = map (λ y. y.number)

-- ---- the first row

-- a number other than 0 that does not occur is not given
first_lacks : (xs : List Row) (x : ℕ) → x ≢ 0 → lacks x (numbers xs) ≡ true → first_of xs ≡ x → ⊥
unfolding first_row lacks
first_lacks [] x z h e = z (sym e)
first_lacks (y ∷ ys) x z h e = go y.holds (first_lacks ys x z (and_right (not (eqb y.number x)) (lacks x (numbers ys)) h)) e
  where
    go : (b : Bool) → (first_of ys ≡ x → ⊥) → (pick b y (first_row ys)).number ≡ x → ⊥
    go true f e = eqb-false y.number x (not-true _ (and_left (not (eqb y.number x)) (lacks x (numbers ys)) h)) e
    go false f e = f e

-- Its number is given exactly when a row holds and no row before it does.
pub first_row_lem : (xs : List Row) → distinct (numbers xs) ≡ true → (x : ℕ) → x ≢ 0 → (first_of xs ≡ x) ↔ ((row xs x ≡ true) × (none_before xs x ≡ true))
unfolding first_row row none_before distinct
first_row_lem [] d x z = ((λ e. absurd (z (sym e))), λ h. absurd (true≢false (sym h.0)))
first_row_lem (y ∷ ys) d x z = go y.holds (eqb y.number x) refl (first_row_lem ys (and_right (lacks y.number (numbers ys)) (distinct (numbers ys)) d) x z)
  where
    absent : y.number ≡ x → first_of ys ≡ x → ⊥
    absent q = first_lacks ys x z (subst (λ n. lacks n (numbers ys) ≡ true) q (and_left (lacks y.number (numbers ys)) (distinct (numbers ys)) d))

    go : (b c : Bool) → eqb y.number x ≡ c → (first_of ys ≡ x) ↔ ((row ys x ≡ true) × (none_before ys x ≡ true))
        → ((pick b y (first_row ys)).number ≡ x) ↔ ((pick c b (row ys x) ≡ true) × (pick c true (not b and none_before ys x) ≡ true))
    go true true q ih = ((λ e. (refl, refl)), λ h. eqb-true y.number x q)
    go true false q ih = ((λ e. absurd (eqb-false y.number x q e)), λ h. absurd (true≢false (sym h.1)))
    go false true q ih = ((λ e. absurd (absent (eqb-true y.number x q) e)), λ h. absurd (true≢false (sym h.0)))
    go false false q ih = ih

-- 0 is given exactly when no row holds.
pub first_none : (xs : List Row) → lacks 0 (numbers xs) ≡ true → (first_of xs ≡ 0) ↔ (none xs ≡ true)
unfolding first_row none lacks
first_none [] d = ((λ e. refl), λ h. refl)
first_none (y ∷ ys) d = go y.holds (first_none ys (and_right (not (eqb y.number 0)) (lacks 0 (numbers ys)) d))
  where
    go : (b : Bool) → (first_of ys ≡ 0) ↔ (none ys ≡ true) → ((pick b y (first_row ys)).number ≡ 0) ↔ (not b and none ys ≡ true)
    go true ih =
        ((λ e. absurd (eqb-false y.number 0 (not-true _ (and_left (not (eqb y.number 0)) (lacks 0 (numbers ys)) d)) e)), λ h. absurd (true≢false (sym h)))
    go false ih = ih

-- Where no row holds, row x does not.
pub none_row : (xs : List Row) → none xs ≡ true → (x : ℕ) → row xs x ≡ false
unfolding row none
none_row [] h x = refl
none_row (y ∷ ys) h x =
    pick-either (λ b. b ≡ false) (eqb y.number x) y.holds (row ys x)
    (λ e. not-true y.holds (and_left (not y.holds) (none ys) h))
    (λ e. none_row ys (and_right (not y.holds) (none ys) h) x)

-- No row of an accepted call holds.
pub past : (xs : List Row) → lacks 0 (numbers xs) ≡ true → first_of xs ≡ 0 → (x : ℕ) → row xs x ≡ false
past xs d e = none_row xs ((first_none xs d).0 e)

-- ---- tables one behind the other

-- The first row is one of the second where none of the first holds,
pub first_behind : (xs ys : List Row) → none xs ≡ true → first_row (xs ++ ys) ≡ first_row ys
unfolding first_row none
first_behind [] ys h = refl
first_behind (y ∷ xs) ys h =
    ap (λ b. pick b y (first_row (xs ++ ys))) (not-true y.holds (and_left (not y.holds) (none xs) h))
    ∙ first_behind xs ys (and_right (not y.holds) (none xs) h)

-- else it is the first of the first.
pub first_before : (xs ys : List Row) → none xs ≡ false → first_row (xs ++ ys) ≡ first_row xs
unfolding first_row none
first_before [] ys h = absurd (true≢false h)
first_before (y ∷ xs) ys h = go y.holds (first_before xs ys) h
  where
    go : (b : Bool) → (none xs ≡ false → first_row (xs ++ ys) ≡ first_row xs) → not b and none xs ≡ false
        → pick b y (first_row (xs ++ ys)) ≡ pick b y (first_row xs)
    go true ih h = refl
    go false ih h = ih h

-- So by its number n, which code computes and tests for 0.
module _ (xs ys : List Row) (d : lacks 0 (numbers xs) ≡ true) {n : ℕ} (is : n ≡ first_of xs) where
  pub stops : n ≢ 0 → n ≡ first_of (xs ++ ys)
  stops some =
      is ∙ sym (ap (λ r. r.number) (⊎_elim (λ h. absurd (some (is ∙ (first_none xs d).1 h))) (first_before xs ys) (decide (none xs))))

  pub goes_on : n ≡ 0 → {m : ℕ} → m ≡ first_of ys → m ≡ first_of (xs ++ ys)
  goes_on zero e =
      e ∙ sym (ap (λ r. r.number) (first_behind xs ys ((first_none xs d).0 (sym is ∙ zero))))

-- A refusal has a number other than 0: where code has one, it stops there.
pub refusal_some : (r : Refusal) → refusal_number r ≢ 0
refusal_some r e = omega (arith, low r)
  where
    low : (r : Refusal) → 1 ≤ refusal_number r
    low r = search rules

-- Accepted by both is accepted by each.
pub both_passed : (xs ys : List Row) → lacks 0 (numbers xs) ≡ true → first_of (xs ++ ys) ≡ 0 → (first_of xs ≡ 0) × (first_of ys ≡ 0)
both_passed xs ys d e =
    ⊎_elim
    (λ n. ((first_none xs d).1 n, sym (ap (λ r. r.number) (first_behind xs ys n)) ∙ e))
    (λ n. absurd (true≢false (sym ((first_none xs d).0 (sym (ap (λ r. r.number) (first_before xs ys n)) ∙ e)) ∙ n)))
    (decide (none xs))

-- ---- which rows mark the sender heard

-- each row marks the sender heard exactly if this says so of its number
unfoldable pub marks_by : (ℕ → Bool) → List Row → Bool
marks_by rule [] = true
marks_by rule (y ∷ ys) = same y.marks (rule y.number) and marks_by rule ys

-- So does the first, if it says so of no accepted call.
pub first_marks : (rule : ℕ → Bool) (xs : List Row) → rule 0 ≡ false → marks_by rule xs ≡ true → (first_row xs).marks ≡ rule (first_of xs)
unfolding first_row marks_by
first_marks rule [] z h = sym z
first_marks rule (y ∷ ys) z h =
    go y.holds (first_marks rule ys z (and_right (same y.marks (rule y.number)) (marks_by rule ys) h))
  where
    go : (b : Bool) → (first_row ys).marks ≡ rule (first_of ys) → (pick b y (first_row ys)).marks ≡ rule (pick b y (first_row ys)).number
    go true ih = same_eq y.marks (rule y.number) (and_left _ (marks_by rule ys) h)
    go false ih = ih

-- Rows that mark alike do so by their numbers, where a test passes each of these.
unfoldable pub each : (ℕ → Bool) → List ℕ → Bool
each test [] = true
each test (n ∷ ns) = test n and each test ns

pub marking_by : (test : ℕ → Bool) (m : Bool) (xs : List Row) → each test (numbers xs) ≡ true → marks_by (λ n. test n and m) (map (marking m) xs) ≡ true
unfolding marks_by each
marking_by test m [] h = refl
marking_by test m (y ∷ ys) h =
    and_intro _ _ (eq_same m _ (sym (ap (λ b. b and m) (and_left (test y.number) (each test (numbers ys)) h))))
    (marking_by test m ys (and_right (test y.number) (each test (numbers ys)) h))

-- Rows that mark nobody, in front of others.
abbrev pub nobody : List Row → Bool
nobody = marks_by (λ x. false)

pub unmarked : (xs : List Row) → nobody xs ≡ true → (first_row xs).marks ≡ false
unmarked xs h = first_marks (λ x. false) xs refl h

-- Where the first row marks the sender heard, it is behind them.
pub marked_behind : (xs ys : List Row) → nobody xs ≡ true → (first_row (xs ++ ys)).marks ≡ true → none xs ≡ true
marked_behind xs ys h e =
    ⊎_elim (λ n. n) (λ n. absurd (true≢false (sym e ∙ ap (λ r. r.marks) (first_before xs ys n) ∙ unmarked xs h))) (decide (none xs))

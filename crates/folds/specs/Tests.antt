-- Tests: how they are joined (`◌and◌`, `◌or◌`, `same`, `implies`), how one picks (`pick`), and what follows from the result.
--
-- A test is a `Bool` that code can compute. `T` of the prelude and the laws of `ltb`, `leb`, `eqb` in `borrow.Author.Tests`
-- turn one into a fact about numbers.
-- Assumes nothing.
use Rattle.std.specs.Prelude.{◌≡◌, refl, Bool, true, false, not, ◌⊎◌, T}
use Rattle.std.proofs.Common.{sym, ap, ◌∙◌, subst, inl, inr}
use Rattle.std.specs.Bool.{beq}
use Rattle.std.proofs.lemmas.Bool.{not-true, not-false}

infixr 75 ◌and◌
infixr 72 ◌or◌
abbrev pub ◌and◌ : Bool → Bool → Bool
true and b = b
false and b = false

abbrev pub ◌or◌ : Bool → Bool → Bool
true or b = true
false or b = b

-- two tests come out alike
abbrev pub same : Bool → Bool → Bool
same true b = b
same false b = not b

-- where a holds, b holds
abbrev pub implies : Bool → Bool → Bool
implies true b = b
implies false b = true

abbrev pub pick {ℓ} : {A : Type ℓ} → Bool → A → A → A
pick true a b = a
pick false a b = b

pub true≢false : true ≡ false → ⊥
true≢false e = subst T e tt

pub not_true_and_false : (b : Bool) → b ≡ true → b ≡ false → ⊥
not_true_and_false b p q = true≢false (sym p ∙ q)

-- a test passes or fails
pub decide : (b : Bool) → (b ≡ true) ⊎ (b ≡ false)
decide true = inl refl
decide false = inr refl

pub and_left : (a b : Bool) → a and b ≡ true → a ≡ true
and_left true b e = refl
and_left false b e = e

pub and_right : (a b : Bool) → a and b ≡ true → b ≡ true
and_right true b e = e
and_right false b e = absurd (true≢false (sym e))

pub and_intro : (a b : Bool) → a ≡ true → b ≡ true → a and b ≡ true
and_intro a b p q = rw (p, q)

pub and_false : (b : Bool) → b and false ≡ false
and_false true = refl
and_false false = refl

pub and_true : (b : Bool) → b and true ≡ b
and_true true = refl
and_true false = refl

-- a fails or b passes
pub and_not : (a b : Bool) → (a ≡ true → b ≡ true) → a and not b ≡ false
and_not true b h = ap not (h refl)
and_not false b h = refl

pub and_rest : (a b : Bool) → a and b ≡ false → a ≡ true → b ≡ false
and_rest true b h e = h
and_rest false b h e = absurd (true≢false (sym e))

pub or_cases : (a b : Bool) → a or b ≡ true → (a ≡ true) ⊎ (b ≡ true)
or_cases true b e = inl refl
or_cases false b e = inr e

pub or_left : (a b : Bool) → a ≡ true → a or b ≡ true
or_left a b e = rw e

pub or_right : (a b : Bool) → b ≡ true → a or b ≡ true
or_right true b e = refl
or_right false b e = e

pub or_none_lem : (a b : Bool) → a ≡ false → b ≡ false → a or b ≡ false
or_none_lem a b p q = rw (p, q)

pub or_false : (a b : Bool) → a or b ≡ false → (a ≡ false) × (b ≡ false)
or_false true b e = absurd (true≢false e)
or_false false b e = (refl, e)

pub same_eq : (a b : Bool) → same a b ≡ true → a ≡ b
same_eq true b e = sym e
same_eq false true e = absurd (true≢false (sym e))
same_eq false false e = refl

pub eq_same : (a b : Bool) → a ≡ b → same a b ≡ true
eq_same true b e = sym e
eq_same false b e = ap not (sym e)

pub implies_at : (a b : Bool) → implies a b ≡ true → a ≡ true → b ≡ true
implies_at true b h e = h
implies_at false b h e = absurd (true≢false (sym e))

pub implies_intro : (a b : Bool) → (a ≡ true → b ≡ true) → implies a b ≡ true
implies_intro true b h = h refl
implies_intro false b h = refl

-- one thing is picked by a test that came out this way
pub pick_true {ℓ} : {A : Type ℓ} (b : Bool) (x y : A) → b ≡ true → pick b x y ≡ x
pick_true b x y e = rw e

pub pick-false {ℓ} : {A : Type ℓ} (b : Bool) (x y : A) → b ≡ false → pick b x y ≡ y
pick-false b x y e = rw e

-- two tests each of which gives the other
pub iff_same : (a b : Bool) → (a ≡ true → b ≡ true) → (b ≡ true → a ≡ true) → a ≡ b
iff_same true b f g = sym (f refl)
iff_same false true f g = g refl
iff_same false false f g = refl

-- a test that cannot pass fails
pub false_unless : (b : Bool) → (b ≡ true → ⊥) → b ≡ false
false_unless true h = absurd (h refl)
false_unless false h = refl

-- what is picked is as both would be, each where it is picked
pub pick-either {ℓ} : {A : Type 0} (P : A → Type ℓ) (b : Bool) (x y : A) → (b ≡ true → P x) → (b ≡ false → P y) → P (pick b x y)
pick-either P true x y f g = f refl
pick-either P false x y f g = g refl

-- what one test picks of two pairs is as they are, each where it is picked
pub pick_two : {A : Type 0} (R : A → A → Type 0) (b : Bool) (x y x' y' : A) → (b ≡ true → R x x') → (b ≡ false → R y y')
    → R (pick b x y) (pick b x' y')
pick_two R true x y x' y' f g = f refl
pick_two R false x y x' y' f g = g refl

-- ---- tests in code

-- a branch on the opposite of a test r that is b
pub failed : {r b : Bool} → r ≡ b → not r ≡ true → b ≡ false
failed {r} e h = sym e ∙ not-true r h

pub passed : {r b : Bool} → r ≡ b → not r ≡ false → b ≡ true
passed {r} e h = sym e ∙ not-false r h

-- the code's `==` of two tests
pub beq_same : (a b : Bool) → beq a b ≡ same a b
beq_same true true = refl
beq_same true false = refl
beq_same false true = refl
beq_same false false = refl

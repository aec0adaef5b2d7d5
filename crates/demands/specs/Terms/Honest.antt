-- A class in which all boxes keep the rules, and its one deal.
--
-- In order: the past of a life or of a history; a deal that is taken; such a class.
-- Assumes nothing.
use Rattle.std.specs.Prelude.{◌≡◌, true, false, List, ◌∷◌, ◌++◌, ℕ}
use Rattle.rules.specs.declared.SetUp.{SetUp}
use Rattle.rules.specs.Numbers.{group_keeps, is_box, numbers_keep}
use Rattle.rules.specs.Dealing.{coins_keep}
use Rattle.demands.specs.Terms.Histories.{Call, deals, doing, after, Class, own, Event, calls}

-- lists have the latest first: all since the past stands in front of it
abbrev pub Past : {A : Type 0} → List A → List A → Type 0
Past {A} past now = (since : List A) × (now ≡ since ++ past)

-- numbers that keep their rules, a secret below q, and coins for it
pub record Deal (u : SetUp) (secret : ℕ) (coins : List ℕ) : Type 0 where
  pub group_keeps_lem : group_keeps u ≡ true
  pub numbers_keep_lem : numbers_keep (own u u.d) ≡ true
  pub coins_keep_lem : coins_keep u secret coins ≡ true

-- every box keeps the rules, and the secret and the coins are some that a deal takes
pub record AllKeep (c : Class) (secret : ℕ) (coins : List ℕ) : Type 0 where
  pub deal : Deal c.numbers secret coins
  pub boxes : (i : ℕ) → is_box c.numbers i ≡ true → c.breaks i ≡ false

-- each deal of the dealer that was accepted is of this secret with these coins
abbrev pub DealsOnly : Class → ℕ → List ℕ → List Event → Type 0
DealsOnly c secret coins es =
    (secret' : ℕ) (coins' : List ℕ) (lent : ℕ) (before : List Call)
    → Past (deals secret' coins' lent ∷ before) (calls c es c.numbers.d)
    → (doing (after (own c.numbers c.numbers.d) before) (deals secret' coins' lent)).outcome.answer.no ≡ 0
    → (secret' ≡ secret) × (coins' ≡ coins)

-- P9 out of the map of coins, for the set of box 1 alone in a class that box 2 deals.
--
-- In order: to a box of the set the matching coins send the same bytes, in any class; the class, its set and their numbers; P9;
-- what the theorems of `Demands` say of its coins.
-- Assumes nothing.
use Rattle.std.specs.Prelude.{◌≡◌, refl, Bool, true, List, [], ◌∷◌, ◌++◌, ℕ, ◌+◌, ◌*◌, ◌%◌, ◌≤◌, ◌<◌, eqb}
use Rattle.std.proofs.Common.{sym, subst, ◌∙◌, arith}
use Rattle.std.proofs.Math.Path.{ap, ap₂}
use Rattle.std.proofs.Math.Nat.{mod-mod}
use Rattle.folds.specs.Runs.{gather-same}
use Rattle.rules.specs.declared.SetUp.{SetUp}
use Rattle.rules.specs.Numbers.{groups, group_of}
use Rattle.rules.specs.declared.Message.TheVariants.{Send as send}
use Rattle.rules.specs.Messages.{tag_of, body_of, framed, bytes_of, two_bytes, matrix_bytes, coefficient_bytes, polynomial_bytes}
use Rattle.rules.specs.Dealing.{f_of, f'_of, coins_keep, polynomials_of, from_coins}
use Rattle.rules.specs.Computed.{computed}
use Rattle.rules.specs.HandSums.{coins, C, dealt}
use Rattle.rules.proofs.Laws.Dealing.{along_y_at, along_x_at}
use Rattle.demands.specs.Terms.Dealing.{order, Sound, dealt_matrix, dealt_to}
use Rattle.demands.specs.Sharing.{size}
use Rattle.demands.specs.Terms.Secrets.{vanishing, difference, difference', moved, matching, Few}
use Rattle.demands.specs.Matching.{z_on_set, matching_matrix, matching_sends}
use Rattle.demands.specs.Demands.{matching_coins_keep, matching_coins_go_back}

-- ---- what a box of the set is sent

-- a remainder that moves by a multiple of 0 stays
stays : (q d w v c c* x : ℕ) → c ≡ x % q → v ≡ 0 → c* ≡ (c + d * (v * w)) % q → c* ≡ c
stays q d w v c c* x rest none moves =
    let e : c + d * (0 * w) ≡ c = omega arith in
    moves
    ∙ ap (λ t. (c + d * (t * w)) % q) none
    ∙ ap (λ t. t % q) (e ∙ rest)
    ∙ mod-mod x q
    ∙ sym rest

module _ (u : SetUp) (sound : Sound u) (A : ℕ → Bool) (few : Few u A) (s s' : ℕ) (low : s < order u) (low' : s' < order u)
    (coins : List ℕ) (keeps : coins_keep u s coins ≡ true) where
  abbrev there : List ℕ
  there = matching u A s s' coins

  module _ (m : ℕ) (box : (1 ≤ m) × (m ≤ u.n)) (member : A m ≡ true) where
    numbers_same : polynomial_bytes u (dealt_to u s' there m) ≡ polynomial_bytes u (dealt_to u s coins m)
    unfolding polynomial_bytes coefficient_bytes polynomials_of
    numbers_same =
        let q = order u in
        let k = u.k in
        let small = (size u sound).high in
        let f = f_of u s coins in
        let f' = f'_of u s coins in
        let d = difference u s s' in
        let d' = difference' u s s' in
        let none = z_on_set u sound A few s s' low low' m box.0 box.1 member in
        let moves = matching_sends u sound A few s s' low low' coins keeps m in
        ap₂ (λ a b. a ++ b)
        (ap₂ (λ a b. a ++ b)
        (ap₂ (λ a b. a ++ b)
        (gather-same _ _ k (λ l hl. ap two_bytes (stays q d _ _ _ _ _ (along_y_at k small q f m l hl) none (moves l hl).0)))
        (gather-same _ _ k (λ l hl. ap two_bytes (stays q d' _ _ _ _ _ (along_y_at k small q f' m l hl) none (moves l hl).1))))
        (gather-same _ _ k (λ l hl. ap two_bytes (stays q d _ _ _ _ _ (along_x_at k small q f m l hl) none (moves l hl).2))))
        (gather-same _ _ k (λ l hl. ap two_bytes (stays q d' _ _ _ _ _ (along_x_at k small q f' m l hl) none (moves l hl).3)))

    pub send_same : bytes_of u (send (dealt_matrix u s' there) (dealt_to u s' there m))
        ≡ bytes_of u (send (dealt_matrix u s coins) (dealt_to u s coins m))
    unfolding bytes_of tag_of body_of
    send_same =
        ap₂ (λ C bytes. framed 1 (u.d ∷ two_bytes u.session ++ (u.k ∷ matrix_bytes u.k C ++ bytes)))
        (matching_matrix u sound A few s s' low low' coins keeps) numbers_same

-- ---- the class

-- as in the hand sums, but dealt by box 2
abbrev numbers : SetUp
numbers = record { group = 1; n = 4; t = 1; k = 2; i = 2; d = 2; session = 7 }

-- box 1
abbrev set : ℕ → Bool
set m = eqb m 1

numbers_sound : Sound numbers
unfolding computed
numbers_sound = record { group_keeps_lem = refl; sizes_keep_lem = refl }

few : Few numbers set
unfolding computed
few = omega arith

low_5 : 5 < order numbers
unfolding computed
low_5 = omega arith

low_6 : 6 < order numbers
unfolding computed
low_6 = omega arith

coins_keep_lem : coins_keep numbers 5 coins ≡ true
unfolding computed
coins_keep_lem = refl

-- ---- P9

-- "f* = 6, 2, 1, 5 and f'* = 5, 2, 3, 2": the coins that match for the secret 6
abbrev pub coins* : List ℕ
coins* = 2 ∷ 1 ∷ 5 ∷ 5 ∷ 2 ∷ 3 ∷ 2 ∷ []

pub matches : matching numbers set 5 6 coins ≡ coins*
unfolding computed vanishing difference' moved matching
matches = refl

-- "the same C and the same send to box 1"
pub P9 : (C 6 coins* ≡ C 5 coins)
    × (bytes_of numbers (send (C 6 coins*) (dealt 6 coins* 1)) ≡ bytes_of numbers (send (C 5 coins) (dealt 5 coins 1)))
unfolding groups group_of f_of f'_of from_coins
P9 = (
  ap (λ t. dealt_matrix numbers 6 t) (sym matches) ∙ matching_matrix numbers numbers_sound set few 5 6 low_5 low_6 coins coins_keep_lem,
  ap (λ t. bytes_of numbers (send (dealt_matrix numbers 6 t) (dealt_to numbers 6 t 1))) (sym matches)
      ∙ send_same numbers numbers_sound set few 5 6 low_5 low_6 coins coins_keep_lem 1 (omega arith, omega arith) refl,
)

-- ---- what the theorems say of its coins

-- a deal of 6 takes them, and they match back
pub taken : coins_keep numbers 6 coins* ≡ true
taken =
    subst (λ (cs : List ℕ). coins_keep numbers 6 cs ≡ true) matches
    (matching_coins_keep numbers numbers_sound set few 5 6 low_5 low_6 coins coins_keep_lem)

pub back : matching numbers set 6 5 coins* ≡ coins
back =
    ap (matching numbers set 6 5) (sym matches)
    ∙ matching_coins_go_back numbers numbers_sound set few 5 6 low_5 low_6 coins coins_keep_lem

-- Document 01, "Sums done by hand": P1 to P10 and the set-ups beside them, of the definitions of `rules`.
--
-- Group 1, n 4, t 1, k 2; f = 5 + 3y + 2x + 4xy, f' = 1 + 6y + 7x + 9xy.
-- Assumes nothing.
use Rattle.std.specs.Prelude.{◌≡◌, refl, true, false, List, [], ◌∷◌, ℕ, ◌+◌, ◌*◌, get_or}
use Rattle.rules.specs.declared.Element.{Element}
use Rattle.rules.specs.declared.Four.{Four}
use Rattle.rules.specs.declared.Group.{Group}
use Rattle.rules.specs.declared.Pair.{Pair}
use Rattle.rules.specs.declared.Polynomials.{Polynomials}
use Rattle.rules.specs.declared.SetUp.{SetUp}
use Rattle.rules.specs.declared.Side.TheVariants.{ByEcho}
use Rattle.rules.specs.declared.Slot.{Slot}
use Rattle.rules.specs.Numbers.{exponent, element, group_of, echo_quorum}
use Rattle.rules.specs.Matrices.{matrix, entry, α}
use Rattle.rules.specs.declared.Message.TheVariants.{Send as send}
use Rattle.rules.specs.Messages.{bytes_of}
use Rattle.rules.specs.Dealing.{f_of, f'_of, committed, commitment, polynomials_of, value_at, point_check, share_check}
use Rattle.rules.specs.Record.{nothing, new_record, zero_slot}
use Rattle.rules.specs.Steps.{with_shares, share_points, through, echo_four, pair_from, recovered_from, lowest, opened, taken, sharing}
use Rattle.rules.specs.Answers.{set_up}
use Rattle.rules.specs.Computed.{computed}

-- the set-up numbers of a class of these sizes: box 1, dealt by box 1, session 7
abbrev pub sized : ℕ → ℕ → ℕ → SetUp
sized n t k = record { group = 1; n = n; t = t; k = k; i = 1; d = 1; session = 7 }

abbrev pub class : SetUp
class = sized 4 1 2

abbrev G : Group
G = group_of 1

abbrev pub four : ℕ → ℕ → ℕ → ℕ → Four
four x x' y y' = record { alpha = exponent x; alpha2 = exponent x'; beta = exponent y; beta2 = exponent y' }

abbrev pub pair : ℕ → ℕ → Pair
pair s s' = record { first = exponent s; second = exponent s' }

-- the deal: the secret 5, and the coins (in P9 the secret 6, and the coins that match)
abbrev pub coins : List ℕ
coins = 3 ∷ 2 ∷ 4 ∷ 1 ∷ 6 ∷ 7 ∷ 9 ∷ []

abbrev matching : List ℕ
matching = 2 ∷ 1 ∷ 5 ∷ 5 ∷ 2 ∷ 3 ∷ 2 ∷ []

abbrev pub C : ℕ → List ℕ → List (List Element)
C secret coins = commitment G 2 (f_of class secret coins) (f'_of class secret coins)

abbrev pub dealt : ℕ → List ℕ → ℕ → Polynomials
dealt secret coins i = polynomials_of 11 2 (f_of class secret coins) (f'_of class secret coins) i

-- the point that box m sends to box 1
abbrev pub point : ℕ → Four
point m = echo_four 11 2 (dealt 5 coins m) 1

abbrev pub share : ℕ → Pair
share i = pair (value_at 11 2 (dealt 5 coins i).a 0) (value_at 11 2 (dealt 5 coins i).a2 0)

-- the slot of box 1 once it holds the points of boxes 2 and 3
abbrev two_held : Slot
two_held = taken ByEcho (taken ByEcho (opened (C 5 coins) zero_slot) 1 (four 9 6 10 5)) 2 (four 4 0 6 9)

-- what the shares of box 1 and of one more box recover
abbrev recovers : Pair → ℕ → Pair → Pair
recovers s m s' = recovered_from 11 (share_points (sharing (with_shares (new_record class) (sharing (new_record class) 0 s) nothing) m s'))

pub record HandSums : Type 0 where
  -- C = 4, 13, 8, 12
  pub P1 : C 5 coins ≡ matrix 2 (element 0) (λ j l. element (get_or (4 ∷ 13 ∷ 8 ∷ 12 ∷ []) (j * 2 + l) 0))
  -- shares (7, 8), (9, 4), (0, 0), (2, 7): box 3 truly holds 0, 0
  pub P2 : (share 1 ≡ pair 7 8) × (share 2 ≡ pair 9 4) × (share 3 ≡ pair 0 0) × (share 4 ≡ pair 2 7)
  -- (0, 0) passes the share check for box 3
  pub P3 : share_check G 2 (C 5 coins) 3 (pair 0 0) ≡ true
  -- (0, 0) does not pass it for box 2
  pub P4 : share_check G 2 (C 5 coins) 2 (pair 0 0) ≡ false
  -- box 1 from box 2: 9, 6, 10, 5 passes the point check
  pub P5 : point_check G 2 (C 5 coins) 1 2 (four 9 6 10 5) ≡ true
  -- box 1, β values 10 from box 2 and 6 from box 3: a(0) = 7; the α values 9 and 4 would give 8
  pub P6 : (pair_from 11 (lowest (new_record class) two_held) ≡ pair 7 8) × (through 11 (lowest (new_record class) two_held) α 0 ≡ 8)
  -- shares of 1 and 2, or of 1 and 3, recover (5, 1)
  pub P7 : (recovers (share 1) 1 (share 2) ≡ pair 5 1) × (recovers (share 1) 2 (share 3) ≡ pair 5 1)
  -- for box 2 the pair (0, 1) also passes; with box 1 it recovers (3, 4), which opens 4 as well
  pub P8 : (share_check G 2 (C 5 coins) 2 (pair 0 1) ≡ true) × (recovers (share 1) 1 (pair 0 1) ≡ pair 3 4) × (committed G 3 4 ≡ entry (C 5 coins) 0 0)
  -- the secret 6 with the matching coins gives the same C and the same send to box 1
  pub P9 : (C 6 matching ≡ C 5 coins) × (bytes_of class (send (C 6 matching) (dealt 6 matching 1)) ≡ bytes_of class (send (C 5 coins) (dealt 5 coins 1)))
  -- E for (n, t, k): (4, 1, 2) 3; (7, 2, 3) 5; (10, 1, 8) 8
  pub P10 : (echo_quorum (sized 4 1 2) ≡ 3) × (echo_quorum (sized 7 2 3) ≡ 5) × (echo_quorum (sized 10 1 8) ≡ 8)
  -- (5, 1, 3) and (10, 1, 8) are taken
  pub accepted : ((set_up (sized 5 1 3)).answer.no ≡ 0) × ((set_up (sized 10 1 8)).answer.no ≡ 0)
  -- (4, 1, 3), (4, 0, 2), (11, 1, 2) get 12
  pub get_12 : ((set_up (sized 4 1 3)).answer.no ≡ 12) × ((set_up (sized 4 0 2)).answer.no ≡ 12) × ((set_up (sized 11 1 2)).answer.no ≡ 12)

pub hand_sums : HandSums
unfolding computed
hand_sums =
    record {
      P1 = refl;
      P2 = (refl, refl, refl, refl);
      P3 = refl;
      P4 = refl;
      P5 = refl;
      P6 = (refl, refl);
      P7 = (refl, refl);
      P8 = (refl, refl, refl);
      P9 = (refl, refl);
      P10 = (refl, refl, refl);
      accepted = (refl, refl);
      get_12 = (refl, refl, refl);
    }

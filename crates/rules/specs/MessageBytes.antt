-- Document 01, "Messages": messages of the class of the hand sums as the numbers of their bytes.
--
-- In order: the sessions and what is sent in them; the bytes of each message and of a call; what they say.
-- Assumes nothing.
use Rattle.std.specs.Prelude.{◌≡◌, refl, List, [], ◌∷◌, ℕ, ◌*◌, ◌+◌, length, get_or}
use Rattle.rules.specs.declared.Exponent.{Exponent}
use Rattle.rules.specs.declared.Element.{Element}
use Rattle.rules.specs.declared.SetUp.{SetUp}
use Rattle.rules.specs.Numbers.{element, group_of}
use Rattle.rules.specs.Matrices.{matrix}
use Rattle.rules.specs.declared.Message.{Message}
use Rattle.rules.specs.declared.Message.TheVariants.{Send as send, Echo as echo, Ready as ready, Recovery as recovery}
use Rattle.rules.specs.Messages.{bytes_of, to_each, whole_length, written, message_in}
use Rattle.rules.specs.Dealing.{f_of, f'_of, commitment, polynomials_of}
use Rattle.rules.specs.Computed.{computed}
use Rattle.rules.specs.HandSums.{class, coins, sized, four, pair, C, dealt}

-- ---- the sessions

-- dealt by box 3, in session 258: the high byte of a session
abbrev later : SetUp
later = record { group = 1; n = 4; t = 1; k = 2; i = 2; d = 3; session = 258 }

abbrev second_group : SetUp
second_group = record { group = 2; n = 4; t = 1; k = 2; i = 2; d = 4; session = 65535 }

-- entries of group 2
abbrev pub entries_2 : List (List Element)
entries_2 = matrix 2 (element 0) (λ j l. element (get_or (1798 ∷ 58 ∷ 236 ∷ 1435 ∷ []) (j * 2 + l) 0))

-- k = 3, secret 5: f = 5 + 3y + 7y² + x(2 + 4y + 9y²) + x²(6 + y + 8y²), and f' = 1 + 6y + 10y² + x(7 + 9y + 3y²) + x²(5 + 2y + 4y²)
abbrev class_3 : SetUp
class_3 = sized 5 1 3

abbrev coins_3 : List ℕ
coins_3 = 3 ∷ 7 ∷ 2 ∷ 4 ∷ 9 ∷ 6 ∷ 1 ∷ 8 ∷ 1 ∷ 6 ∷ 10 ∷ 7 ∷ 9 ∷ 3 ∷ 5 ∷ 2 ∷ 4 ∷ []

abbrev f_3 : List (List Exponent)
f_3 = f_of class_3 5 coins_3

abbrev f'_3 : List (List Exponent)
f'_3 = f'_of class_3 5 coins_3

-- a send of the largest class
abbrev largest : ℕ → Message
largest j = send (matrix 8 (element 0) (λ j l. element 1)) (polynomials_of 11 8 (f_of (sized 10 1 8) 0 []) (f'_of (sized 10 1 8) 0 []) j)

-- ---- the bytes

pub record MessageBytes : Type 0 where
  -- "Header: tag (1 byte), size of the rest (2 bytes). .. Then dealer (1), session (2). Tags 1 send .. go on with k (1) and the
  -- matrix C, k by k, row j then column l, two bytes an entry. A send ends with the coefficients of a, a', b, b', lowest first":
  -- the 31 bytes to box 1
  pub send_31 : bytes_of class (send (C 5 coins) (dealt 5 coins 1))
      ≡ 1 ∷ 0 ∷ 28 ∷ 1 ∷ 0 ∷ 7 ∷ 2 ∷ 0 ∷ 4 ∷ 0 ∷ 13 ∷ 0 ∷ 8 ∷ 0 ∷ 12
      ∷ 0 ∷ 7 ∷ 0 ∷ 7 ∷ 0 ∷ 8 ∷ 0 ∷ 4 ∷ 0 ∷ 8 ∷ 0 ∷ 6 ∷ 0 ∷ 7 ∷ 0 ∷ 5 ∷ []
  -- the same to box 3, of a class with k = 3
  pub send_49 : bytes_of class_3 (send (commitment (group_of 1) 3 f_3 f'_3) (polynomials_of 11 3 f_3 f'_3 3))
      ≡ 1 ∷ 0 ∷ 46 ∷ 1 ∷ 0 ∷ 7 ∷ 3 ∷ 0 ∷ 4 ∷ 0 ∷ 13 ∷ 0 ∷ 12 ∷ 0 ∷ 8 ∷ 0 ∷ 12 ∷ 0 ∷ 1 ∷ 0 ∷ 4 ∷ 0 ∷ 18 ∷ 0 ∷ 13
      ∷ 0 ∷ 10 ∷ 0 ∷ 2 ∷ 0 ∷ 7 ∷ 0 ∷ 1 ∷ 0 ∷ 7 ∷ 0 ∷ 0 ∷ 0 ∷ 0 ∷ 0 ∷ 7 ∷ 0 ∷ 4 ∷ 0 ∷ 10 ∷ 0 ∷ 6 ∷ 0 ∷ 3 ∷ []
  -- "An echo or ready ends with α, α', β, β'": of box 2 to box 1; "All two-byte numbers are high byte first": session 258
  pub echo_23 : bytes_of later (echo (C 5 coins) (four 9 6 10 5))
      ≡ 2 ∷ 0 ∷ 20 ∷ 3 ∷ 1 ∷ 2 ∷ 2 ∷ 0 ∷ 4 ∷ 0 ∷ 13 ∷ 0 ∷ 8 ∷ 0 ∷ 12 ∷ 0 ∷ 9 ∷ 0 ∷ 6 ∷ 0 ∷ 10 ∷ 0 ∷ 5 ∷ []
  pub ready_23 : bytes_of class (ready (C 5 coins) (four 9 6 10 5))
      ≡ 3 ∷ 0 ∷ 20 ∷ 1 ∷ 0 ∷ 7 ∷ 2 ∷ 0 ∷ 4 ∷ 0 ∷ 13 ∷ 0 ∷ 8 ∷ 0 ∷ 12 ∷ 0 ∷ 9 ∷ 0 ∷ 6 ∷ 0 ∷ 10 ∷ 0 ∷ 5 ∷ []
  -- "Tag 4, a recovery share, ends with σ, σ' and has no k and no matrix."
  pub recovery_10 : bytes_of class (recovery (pair 9 4)) ≡ 4 ∷ 0 ∷ 7 ∷ 1 ∷ 0 ∷ 7 ∷ 0 ∷ 9 ∷ 0 ∷ 4 ∷ []
  -- entries and exponents of two bytes, and the last session
  pub group_2 : bytes_of second_group (ready entries_2 (four 296 275 594 693))
      ≡ 3 ∷ 0 ∷ 20 ∷ 4 ∷ 255 ∷ 255 ∷ 2 ∷ 7 ∷ 6 ∷ 0 ∷ 58 ∷ 0 ∷ 236 ∷ 5 ∷ 155 ∷ 1 ∷ 40 ∷ 1 ∷ 19 ∷ 2 ∷ 82 ∷ 2 ∷ 181 ∷ []
  -- and read
  pub says_send : message_in class (1 ∷ 0 ∷ 28 ∷ 1 ∷ 0 ∷ 7 ∷ 2 ∷ 0 ∷ 4 ∷ 0 ∷ 13 ∷ 0 ∷ 8 ∷ 0 ∷ 12
      ∷ 0 ∷ 7 ∷ 0 ∷ 7 ∷ 0 ∷ 8 ∷ 0 ∷ 4 ∷ 0 ∷ 8 ∷ 0 ∷ 6 ∷ 0 ∷ 7 ∷ 0 ∷ 5 ∷ []) ≡ send (C 5 coins) (dealt 5 coins 1)
  pub says_group_2 : message_in second_group (3 ∷ 0 ∷ 20 ∷ 4 ∷ 255 ∷ 255 ∷ 2 ∷ 7 ∷ 6 ∷ 0 ∷ 58 ∷ 0 ∷ 236 ∷ 5 ∷ 155 ∷ 1 ∷ 40 ∷ 1 ∷ 19 ∷ 2 ∷ 82 ∷ 2 ∷ 181 ∷ [])
      ≡ ready entries_2 (four 296 275 594 693)
  pub says_recovery : message_in class (4 ∷ 0 ∷ 7 ∷ 1 ∷ 0 ∷ 7 ∷ 1 ∷ 9 ∷ 2 ∷ 4 ∷ []) ≡ recovery (pair 265 516)
  -- "Whole lengths: send 7 + 2k² + 8k; echo and ready 15 + 2k²; recovery share 10. For k = 2: 31, 23, 10."; for k = 8: 199, 143, 10
  pub lengths_2 : (whole_length class 1 ≡ 31) × (whole_length class 2 ≡ 23) × (whole_length class 3 ≡ 23) × (whole_length class 4 ≡ 10)
  pub lengths_8 : (whole_length (sized 10 1 8) 1 ≡ 199) × (whole_length (sized 10 1 8) 2 ≡ 143) × (whole_length (sized 10 1 8) 3 ≡ 143)
      × (whole_length (sized 10 1 8) 4 ≡ 10)
  -- "writes n messages, to box 1 first, each directly behind the one before"
  pub to_box_1_first : to_each class (λ j. recovery (pair j 0))
      ≡ 4 ∷ 0 ∷ 7 ∷ 1 ∷ 0 ∷ 7 ∷ 0 ∷ 1 ∷ 0 ∷ 0
      ∷ 4 ∷ 0 ∷ 7 ∷ 1 ∷ 0 ∷ 7 ∷ 0 ∷ 2 ∷ 0 ∷ 0
      ∷ 4 ∷ 0 ∷ 7 ∷ 1 ∷ 0 ∷ 7 ∷ 0 ∷ 3 ∷ 0 ∷ 0
      ∷ 4 ∷ 0 ∷ 7 ∷ 1 ∷ 0 ∷ 7 ∷ 0 ∷ 4 ∷ 0 ∷ 0 ∷ []
  -- "Bytes behind the last keep their values."
  pub behind_the_last : written (1 ∷ 2 ∷ []) (9 ∷ 8 ∷ 7 ∷ 6 ∷ []) ≡ 1 ∷ 2 ∷ 7 ∷ 6 ∷ []
  -- "ten sends at k = 8 need 1,990"
  pub ten_sends : length (to_each (sized 10 1 8) largest) ≡ 1990

pub message_bytes : MessageBytes
unfolding computed
message_bytes =
    record {
      send_31 = refl;
      send_49 = refl;
      echo_23 = refl;
      ready_23 = refl;
      recovery_10 = refl;
      group_2 = refl;
      says_send = refl;
      says_group_2 = refl;
      says_recovery = refl;
      lengths_2 = (refl, refl, refl, refl);
      lengths_8 = (refl, refl, refl, refl);
      to_box_1_first = refl;
      behind_the_last = refl;
      ten_sends = refl;
    }

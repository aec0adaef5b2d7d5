-- There and back: a decimal that is written is read as the number; bytes written in hexadecimal are read as the bytes.
-- Assumes nothing.
use Rattle.std.specs.Prelude.{Bool, true, false, not, ◌⊎◌, ◌≡◌, eqb, leb, ltb, take, drop, Ok}
use mathlib.Core.List.{List, [], ◌∷◌, ◌++◌, append-nil}
use Rattle.std.proofs.Math.Logic.{inl, inr}
use Rattle.std.proofs.Math.Path.{refl, sym, ap}
use Rattle.std.proofs.Common.{ap₂, ◌∙◌, add-zero, zero-add, pow-suc, div-add-mod', div-lt_iff_lt-mul, le-div_iff_mul-le, mod-eq_of_lt, length-append, length-drop, take-suc, get_or-drop, ltb-true, ltb-false, lt-ltb, le-leb, eq-eqb, ne_eqb}
use Prim.Native.Nat.{ℕ, zero, suc, ◌+◌, ◌-◌, ◌*◌, ◌/◌, ◌%◌, ◌^◌, ◌<◌, ◌≤◌}
use Rattle.std.proofs.Math.Nat.{div-one, zero-div, div-add-mod, div-eq_of_lt, div-div-eq-div-mul, mod-lt}
use native.Mathlib.Omega.{arith}
use Rattle.std.proofs.Math.ListN.{length, get_or, get_or-append}
use Rattle.std.proofs.Math.Seq.{get_or-append_seam}
use Rattle.std.proofs.lemmas.Bool.{lt-leb}
use Rattle.folds.specs.Tests.{◌and◌, ◌or◌, pick, and_intro, and_false, or_left, or_right, pick-either}
use Rattle.folds.specs.Below.{all_below_all, first_from_here, first_from_skip}
use Rattle.folds.specs.Runs.{gather, gather-same, length-gather_le, Stands, stands_right, stands_left, stands_piece, stands_reads, Every, every_nil, every_cons, every_append, every_gather}
use Rattle.rules.specs.Text.{byte_at, digit_at, digits_end, digits_say, decimal_at, digit_of, decimal}
use Rattle.text.specs.Decimals.{value, decimal_in, between, true_between, digits_say_more, tests_decimal, decimal_some, piece_of, power_positive}
use Rattle.text.specs.Hexadecimal.{is_hex_digit, hex_digit, hex_at, hex_said, hex_bytes, glyph, hex_pair, hex_of, hex_stands, hex_there}

-- ---- a decimal

module _ (s : List ℕ) (p : ℕ) (r : List ℕ) (h : Stands s p r) where
  -- element k of a run that stands from p on
  run_at : (k : ℕ) → k < length r → get_or s (p + k) 0 ≡ get_or r k 0
  run_at k l = sym (get_or-drop p s k 0) ∙ ap (λ (t : List ℕ). get_or t k 0) h.1 ∙ get_or-append r h.0 0 k l

  run_within : 0 < length r → p + length r ≤ length s
  run_within l = omega (arith, length-drop p s, ap length h.1, length-append r h.0)

digits_say_same : (a b : List ℕ) (i j n : ℕ) → ((k : ℕ) → k < n → get_or a (i + k) 0 ≡ get_or b (j + k) 0) → digits_say a i n ≡ digits_say b j n
unfolding digits_say
digits_say_same a b i j zero h = refl
digits_say_same a b i j (suc n) h =
    ap₂ (λ (s d : ℕ). s * 10 + (d - 48)) (digits_say_same a b i j n (λ k l. h k (omega arith))) (h n (omega arith))

-- digits, and a byte behind them that is none: they end there
digits_end_is : (b : List ℕ) (n i : ℕ) → ((j : ℕ) → j < n → digit_at b (i + j) ≡ true) → i + n < length b → digit_at b (i + n) ≡ false
    → digits_end b i ≡ i + n
unfolding digits_end
digits_end_is b zero i h l e =
    let z : i ≡ i + 0 = omega arith in
    first_from_here (λ (j : ℕ). not (digit_at b j)) (length b) i (omega arith) (ap not (ap (digit_at b) z ∙ e)) ∙ z
digits_end_is b (suc n) i h l e =
    let z : i ≡ i + 0 = omega arith in
    let on : i + 1 + n ≡ i + suc n = omega arith in
    first_from_skip (λ (j : ℕ). not (digit_at b j)) (length b) i (omega arith) (ap not (ap (digit_at b) z ∙ h 0 (omega arith)))
    ∙ digits_end_is b n (i + 1)
    (λ j lt. let next : i + 1 + j ≡ i + suc j = omega arith in ap (digit_at b) next ∙ h (suc j) (omega arith))
    (omega arith) (ap (digit_at b) on ∙ e)
    ∙ on

-- what a list of digits says
abbrev said : List ℕ → ℕ
said l = digits_say l 0 (length l)

said_more : (l : List ℕ) (d : ℕ) → said (l ++ d ∷ []) ≡ said l * 10 + (d - 48)
said_more l d =
    ap (digits_say (l ++ d ∷ []) 0) (length-append l (d ∷ []))
    ∙ digits_say_more (l ++ d ∷ []) 0 (length l)
    ∙ ap₂ (λ (s x : ℕ). s * 10 + (x - 48))
    (digits_say_same (l ++ d ∷ []) l 0 0 (length l)
    (λ k h. let z : 0 + k ≡ k = omega arith in ap (λ (n : ℕ). get_or (l ++ d ∷ []) n 0) z ∙ get_or-append l (d ∷ []) 0 k h ∙ ap (λ (n : ℕ). get_or l n 0) (sym z)))
    (ap (λ (n : ℕ). get_or (l ++ d ∷ []) n 0) (zero-add (length l)) ∙ get_or-append_seam l d [] 0)

-- one digit more
join_digit : (s y : ℕ) → s ≡ y / 10 → s * 10 + (48 + y % 10 - 48) ≡ y
join_digit s y e =
    let z : 48 + y % 10 - 48 ≡ y % 10 = omega arith in
    ap₂ (λ (a b : ℕ). a * 10 + b) e z ∙ div-add-mod' y 10

-- what stands before the last digit: what is put for the j highest powers
abbrev front : ℕ → ℕ → List ℕ
front x j = gather j (piece_of x)

-- nothing is put for the highest powers, or what is put starts with no zero
abbrev Leads : ℕ → ℕ → List ℕ → Type 0
Leads x j l = ((l ≡ []) × (x < 10 ^ (5 - j))) ⊎ ((0 < length l) × (48 < get_or l 0 0))

-- more behind it changes nothing
still : (l r : List ℕ) → (0 < length l) × (48 < get_or l 0 0) → (0 < length (l ++ r)) × (48 < get_or (l ++ r) 0 0)
still l r w = (omega (arith, w.0, length-append l r), rw (get_or-append l r 0 0 w.0) w.1)

module _ (x : ℕ) (small : x < 100000) where
  -- the next higher power of ten
  power_above : (j : ℕ) → j < 4 → 10 ^ (5 - j) ≡ 10 ^ (4 - j) * 10
  power_above j l = let e : 5 - j ≡ suc (4 - j) = omega arith in ap (λ (n : ℕ). 10 ^ n) e ∙ pow-suc 10 (4 - j)

  said_front : (j : ℕ) → j ≤ 4 → said (front x j) ≡ x / 10 ^ (5 - j)
  unfolding gather digits_say
  said_front zero l = sym (div-eq_of_lt {n = x} {m = 100000} small)
  said_front (suc j) l = go (tenth (said_front j (omega arith))) (ltb x (10 ^ (4 - j))) refl ∙ ap (λ (n : ℕ). x / 10 ^ n) (let e : 4 - j ≡ 5 - suc j = omega arith in e)
    where
      tenth : said (front x j) ≡ x / 10 ^ (5 - j) → said (front x j) ≡ x / 10 ^ (4 - j) / 10
      tenth ih =
          ih
          ∙ ap (λ (n : ℕ). x / n) (power_above j (omega arith))
          ∙ sym (div-div-eq-div-mul x (10 ^ (4 - j)) 10)

      go : said (front x j) ≡ x / 10 ^ (4 - j) / 10 → (b : Bool) → ltb x (10 ^ (4 - j)) ≡ b
          → said (front x j ++ pick b [] (digit_of x (10 ^ (4 - j)) ∷ [])) ≡ x / 10 ^ (4 - j)
      go t true e =
          let none : x / 10 ^ (4 - j) ≡ 0 = div-eq_of_lt (ltb-true x (10 ^ (4 - j)) e) in
          ap said (append-nil (front x j)) ∙ t ∙ ap (λ (n : ℕ). n / 10) none ∙ zero-div 10 ∙ sym none
      go t false e = said_more (front x j) (digit_of x (10 ^ (4 - j))) ∙ join_digit _ (x / 10 ^ (4 - j)) t

  decimal_says : said (decimal x) ≡ x
  unfolding decimal
  decimal_says =
      said_more (front x 4) (digit_of x 1)
      ∙ join_digit _ (x / 1) (said_front 4 (omega arith) ∙ ap (λ (n : ℕ). n / 10) (sym (div-one x)))
      ∙ div-one x

  leads : (j : ℕ) → j ≤ 4 → Leads x j (front x j)
  unfolding gather
  leads zero l = inl (refl, small)
  leads (suc j) l = go (ltb x (10 ^ (4 - j))) refl (leads j (omega arith))
    where
      same : 5 - suc j ≡ 4 - j
      same = omega arith

      go : (b : Bool) → ltb x (10 ^ (4 - j)) ≡ b → Leads x j (front x j) → Leads x (suc j) (front x j ++ pick b [] (digit_of x (10 ^ (4 - j)) ∷ []))
      go true e (inl w) = inl (ap (λ (t : List ℕ). t ++ []) w.0, rw same (ltb-true x (10 ^ (4 - j)) e))
      go false e (inl w) =
          let p = 10 ^ (4 - j) in
          let positive = power_positive (4 - j) in
          let least : 1 * p ≤ x = let z = ltb-false x p e in omega arith in
          let below : x < 10 * p = let z = power_above j (omega arith) in let y = w.1 in omega arith in
          let one : 1 ≤ x / p = (le-div_iff_mul-le {k = p} {x = 1} {y = x} positive).1 least in
          let ten : x / p < 10 = (div-lt_iff_lt-mul {k = p} {x = x} {y = 10} positive).1 below in
          let digit : x / p % 10 ≡ x / p = mod-eq_of_lt ten in
          inr (rw w.0 (omega arith, omega arith))
      go b e (inr w) = inr (still (front x j) (pick b [] (digit_of x (10 ^ (4 - j)) ∷ [])) w)

  leads_plain : (length (decimal x) ≡ 1) ⊎ (48 < get_or (decimal x) 0 0)
  unfolding decimal
  leads_plain = go (leads 4 (omega arith))
    where
      go : Leads x 4 (front x 4) → (length (front x 4 ++ digit_of x 1 ∷ []) ≡ 1) ⊎ (48 < get_or (front x 4 ++ digit_of x 1 ∷ []) 0 0)
      go (inl w) = inl (ap (λ (t : List ℕ). length (t ++ digit_of x 1 ∷ [])) w.0)
      go (inr w) = inr (still (front x 4) (digit_of x 1 ∷ []) w).1

abbrev Digit : ℕ → Type 0
Digit d = (48 ≤ d) × (d ≤ 57)

one_digit : (y : ℕ) → Every Digit 0 ((48 + y % 10) ∷ [])
one_digit y =
    let l = mod-lt y {m = 10} (omega arith) in
    every_cons Digit 0 (48 + y % 10) [] (omega arith, omega arith) (every_nil Digit 0)

decimal_digits : (x : ℕ) → Every Digit 0 (decimal x)
unfolding decimal
decimal_digits x =
    every_append Digit 0 (front x 4) (digit_of x 1 ∷ [])
    (every_gather Digit 0 (piece_of x)
    (λ j. pick-either (Every Digit 0) (ltb x (10 ^ (4 - j))) [] (digit_of x (10 ^ (4 - j)) ∷ []) (λ e. every_nil Digit 0) (λ e. one_digit (x / 10 ^ (4 - j))))
    4)
    (one_digit (x / 1))

decimal-length : (x : ℕ) → (0 < length (decimal x)) × (length (decimal x) ≤ 5)
unfolding decimal
decimal-length x =
    let four =
    length-gather_le (piece_of x) 1
    (λ j. pick-either (λ (l : List ℕ). length l ≤ 1) (ltb x (10 ^ (4 - j))) [] (digit_of x (10 ^ (4 - j)) ∷ []) (λ e. omega arith) (λ e. omega arith)) 4 in
    let more = length-append (front x 4) (digit_of x 1 ∷ []) in
    (omega arith, omega arith)

-- a decimal that is written and followed by a byte that is no digit is read back as the number
module _ (x c : ℕ) (small : x ≤ 65535) (none : between 48 57 c ≡ false) (b : List ℕ) (i : ℕ) (h : Stands b i (decimal x ++ c ∷ [])) where
  whole : i + (length (decimal x) + 1) ≤ length b
  whole =
      let n = length-append (decimal x) (c ∷ []) in
      let w = run_within b i (decimal x ++ c ∷ []) h (let z : 0 < length (decimal x ++ c ∷ []) = omega arith in z) in
      omega arith

  reads : (k : ℕ) → k < length (decimal x) → get_or b (i + k) 0 ≡ get_or (decimal x) k 0
  reads = run_at b i (decimal x) (stands_left b i (decimal x) (c ∷ []) h)

  behind : get_or b (i + length (decimal x)) 0 ≡ c
  behind = stands_reads b (i + length (decimal x)) c 0 [] (stands_right b i (length (decimal x)) (decimal x) (c ∷ []) refl h)

  end_back : digits_end b i ≡ i + length (decimal x)
  end_back =
      digits_end_is b (length (decimal x)) i digit (let z = whole in omega arith)
      (ap (λ (t : Bool). ltb (i + length (decimal x)) (length b) and t) (ap (between 48 57) behind ∙ none) ∙ and_false (ltb (i + length (decimal x)) (length b)))
    where
      digit : (j : ℕ) → j < length (decimal x) → digit_at b (i + j) ≡ true
      digit j l =
          let d = decimal_digits x j l in
          let e = reads j l in
          let z = whole in
          and_intro (ltb (i + j) (length b)) (between 48 57 (get_or b (i + j) 0)) (lt-ltb (i + j) (length b) (omega arith))
          (true_between 48 57 (get_or b (i + j) 0) (omega arith) (omega arith))

  number_back : decimal_at b i ≡ x
  number_back =
      let n : digits_end b i - i ≡ length (decimal x) = let z = end_back in omega arith in
      ap (digits_say b i) n
      ∙ digits_say_same b (decimal x) i 0 (length (decimal x)) (λ k l. reads k l ∙ ap (λ (n : ℕ). get_or (decimal x) n 0) (sym (zero-add k)))
      ∙ decimal_says x (omega arith)

  plain_back : eqb (digits_end b i) (i + 1) or not (byte_at b i 48) ≡ true
  plain_back = go (leads_plain x (omega arith))
    where
      go : (length (decimal x) ≡ 1) ⊎ (48 < get_or (decimal x) 0 0) → eqb (digits_end b i) (i + 1) or not (byte_at b i 48) ≡ true
      go (inl e) = or_left (eqb (digits_end b i) (i + 1)) (not (byte_at b i 48)) (eq-eqb (digits_end b i) (i + 1) (end_back ∙ ap (λ (n : ℕ). i + n) e))
      go (inr l) =
          let first : get_or b i 0 ≡ get_or (decimal x) 0 0 = ap (λ (n : ℕ). get_or b n 0) (sym (add-zero i)) ∙ reads 0 (decimal-length x).0 in
          let other : eqb (get_or b i 0) 48 ≡ false = ne_eqb (get_or b i 0) 48 (λ e. let w : ⊥ = omega arith in w) in
          or_right (eqb (digits_end b i) (i + 1)) (not (byte_at b i 48))
          (ap not (ap (λ (t : Bool). ltb i (length b) and t) other ∙ and_false (ltb i (length b))))

  pub decimal_back : decimal_in b i ≡ Ok (value x (i + length (decimal x)))
  decimal_back =
      let e = end_back in
      let n = number_back in
      let l = decimal-length x in
      decimal_some b i
      (tests_decimal b i (record { some = omega arith; few = omega arith; plain = plain_back; small = omega arith }))
      ∙ ap₂ (λ (y z : ℕ). Ok (value y z)) n e

-- ---- bytes in hexadecimal

glyph_back : (y : ℕ) → y < 16 → (is_hex_digit (glyph y) ≡ true) × (hex_digit (glyph y) ≡ y)
glyph_back y h = go (ltb y 10) refl
  where
    go : (b : Bool) → ltb y 10 ≡ b → (is_hex_digit (pick b (48 + y) (87 + y)) ≡ true) × (hex_digit (pick b (48 + y) (87 + y)) ≡ y)
    go true e =
        let l = ltb-true y 10 e in
        let low : leb (48 + y) 57 ≡ true = le-leb (48 + y) 57 (omega arith) in
        (or_left (between 48 57 (48 + y)) (between 97 102 (48 + y)) (true_between 48 57 (48 + y) (omega arith) (omega arith)), rw low (omega arith))
    go false e =
        let l = ltb-false y 10 e in
        let high : leb (87 + y) 57 ≡ false = lt-leb (87 + y) 57 (omega arith) in
        (or_right (between 48 57 (87 + y)) (between 97 102 (87 + y)) (true_between 97 102 (87 + y) (omega arith) (omega arith)), rw high (omega arith))

gather-take : (l : List ℕ) (p n : ℕ) → p + n ≤ length l → gather n (λ j. get_or l (p + j) 0 ∷ []) ≡ take n (drop p l)
unfolding gather
gather-take l p zero h = refl
gather-take l p (suc n) h =
    let room : n < length (drop p l) = rw (length-drop p l) (omega arith) in
    ap₂ (λ (t : List ℕ) (x : ℕ). t ++ x ∷ []) (gather-take l p n (omega arith)) (sym (get_or-drop p l n 0)) ∙ sym (take-suc (drop p l) n 0 room)

-- the two digits of a byte, written from p on, say the byte
module _ (x : ℕ) (byte : x < 256) where
  high_back : (is_hex_digit (glyph (x / 16)) ≡ true) × (hex_digit (glyph (x / 16)) ≡ x / 16)
  high_back = glyph_back (x / 16) (omega (arith, div-add-mod x 16))

  low_back : (is_hex_digit (glyph (x % 16)) ≡ true) × (hex_digit (glyph (x % 16)) ≡ x % 16)
  low_back = glyph_back (x % 16) (mod-lt x {m = 16} (omega arith))

  pair_digits : (r : ℕ) → r < 2 → is_hex_digit (get_or (hex_pair x) r 0) ≡ true
  pair_digits zero g = high_back.0
  pair_digits (suc zero) g = low_back.0
  pair_digits (suc (suc r)) g = absurd (omega arith)

  pair_said : (s : List ℕ) (p : ℕ) → Stands s p (hex_pair x) → hex_said s p ≡ x
  pair_said s p h =
      let first : get_or s p 0 ≡ glyph (x / 16) = ap (λ (q : ℕ). get_or s q 0) (sym (add-zero p)) ∙ run_at s p (hex_pair x) h 0 (omega arith) in
      ap₂ (λ (a b : ℕ). a * 16 + b) (ap hex_digit first ∙ high_back.1) (ap hex_digit (run_at s p (hex_pair x) h 1 (omega arith)) ∙ low_back.1)
      ∙ div-add-mod' x 16

-- the digits of n bytes, read again, say these bytes
module _ (l : List ℕ) (p n : ℕ) (bytes : (j : ℕ) → j < n → get_or l (p + j) 0 < 256) (s : List ℕ) (i : ℕ) (h : Stands s i (hex_of l p n)) where
  two : (j : ℕ) → j < n → Stands s (i + j * 2) (hex_pair (get_or l (p + j) 0))
  unfolding hex_of
  two j lt = stands_piece s (λ (j : ℕ). hex_pair (get_or l (p + j) 0)) 2 (λ k. refl) i n j lt h

  digit_stands : (j : ℕ) → j < n → (k r : ℕ) → r < 2 → k ≡ 2 * j + r → hex_stands s i k ≡ true
  digit_stands j lt k r g e =
      let x = get_or l (p + j) 0 in
      let room = run_within s (i + j * 2) (hex_pair x) (two j lt) (omega arith) in
      let place : i + k ≡ i + j * 2 + r = omega arith in
      hex_there s i k (omega arith)
      ∙ ap (λ (q : ℕ). is_hex_digit (get_or s q 0)) place
      ∙ ap is_hex_digit (run_at s (i + j * 2) (hex_pair x) (two j lt) r g)
      ∙ pair_digits x (bytes j lt) r g

  pub hex_stands_back : hex_at s i n ≡ true
  unfolding hex_at
  hex_stands_back =
      all_below_all (hex_stands s i) (2 * n)
      (λ k lt.
      let whole = div-add-mod k 2 in
      let half = mod-lt k {m = 2} (omega arith) in
      digit_stands (k / 2) (omega arith) k (k % 2) half (omega arith))

  byte_back : (j : ℕ) → j < n → hex_said s (i + 2 * j) ≡ get_or l (p + j) 0
  byte_back j lt =
      let a : i + 2 * j ≡ i + j * 2 = omega arith in
      ap (hex_said s) a ∙ pair_said (get_or l (p + j) 0) (bytes j lt) s (i + j * 2) (two j lt)

  pub hex_back : p + n ≤ length l → hex_bytes s i n ≡ take n (drop p l)
  unfolding hex_bytes
  hex_back room =
      gather-same (λ j. hex_said s (i + 2 * j) ∷ []) (λ j. get_or l (p + j) 0 ∷ []) n (λ j lt. ap (λ (x : ℕ). x ∷ []) (byte_back j lt))
      ∙ gather-take l p n room

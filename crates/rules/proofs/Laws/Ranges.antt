-- What a box that keeps the rules puts into a message is in range: it is read as it was written.
--
-- In order: numbers below q, and so points, pairs and polynomials; matrices that are made, and that a slot holds; what is dealt.
-- Assumes nothing.
use Rattle.std.specs.Prelude.{◌≡◌, true, false, ℕ, ◌%◌, ◌<◌, ◌≤◌, ◌*◌, ◌^◌, get_or, replicate}
use Rattle.std.proofs.Math.Path.{sym, ap, subst}
use Rattle.std.proofs.Common.{◌∙◌, arith, eqb-true, le-ltb}
use mathlib.Core.List.{List, []}
use Rattle.std.proofs.Math.Logic.{⊎_elim}
use Rattle.std.proofs.Math.Nat.{mod-lt}
use Rattle.std.proofs.Math.Decide.{dec_lt}
use Rattle.std.proofs.Math.Dec.{ltb}
use Rattle.std.proofs.Math.ListN.{length}
use Rattle.std.proofs.lemmas.List.{get_or-replicate}
use Rattle.std.proofs.Math.Seq.{ext_get_or}
use Rattle.folds.specs.Tests.{◌and◌, and_right, and_false, or_cases, true≢false}
use Rattle.folds.specs.Below.{all_below_at}
use Rattle.rules.specs.declared.Element.{Element}
use Rattle.rules.specs.declared.Exponent.{Exponent}
use Rattle.rules.specs.declared.Four.{Four}
use Rattle.rules.specs.declared.Group.{Group}
use Rattle.rules.specs.declared.Pair.{Pair}
use Rattle.rules.specs.declared.SetUp.{SetUp}
use Rattle.rules.specs.declared.Slot.{Slot}
use Rattle.rules.specs.Numbers.{element, exponent, group_of, group_keeps}
use Rattle.rules.specs.Matrices.{row, matrix, entry, coefficient₂}
use Rattle.rules.specs.Messages.{matrix_in}
use Rattle.rules.specs.Dealing.{committed, commitment, along_y, along_x, polynomials_of, matrix_passes, four_below, pair_below}
use Rattle.rules.specs.Record.{matrix_of, entries_zero}
use Rattle.rules.proofs.Laws.Numbers.{group_rule, group_sizes}
use Rattle.rules.proofs.Laws.Matrices.{row_at_lem, row-length, row_zero, matrix_height, matrix_filled, matrix_empty, entry_at}
use Rattle.rules.proofs.Laws.Checks.{entry_below, four_lows, pair_lows}
use Rattle.rules.specs.Laws.Shape.{ShapedSlot}
use Rattle.rules.proofs.Laws.RoundTrip.{MatrixFits, PolynomialFits, PolynomialsFit, FourFits, PairFits, matrix_fits, polynomial_fits}

-- for set-up numbers whose group keeps its rule, with k ≤ 8
module _ (u : SetUp) (keeps : group_keeps u ≡ true) (high : u.k ≤ 8) where
  abbrev group : Group
  group = group_of u.group

  -- ---- numbers below q

  order_small : {x : ℕ} → x < group.q → x < 65536
  order_small l = let p = (group_sizes u keeps).modulus_small in let e = (group_rule u keeps).twice in omega arith

  remainder_small : (x : ℕ) → x % group.q < 65536
  remainder_small x = let big = (group_rule u keeps).q_prime.big in order_small (mod-lt x (omega arith))

  pub four_room : (f : Four) → four_below group.q f ≡ true → FourFits f
  four_room f b =
      let l = four_lows group.q f b in
      record { alpha = order_small l.0; alpha2 = order_small l.1; beta = order_small l.2; beta2 = order_small l.3 }

  pub pair_room : (s : Pair) → pair_below group.q s ≡ true → PairFits s
  pair_room s b = let l = pair_lows group.q s b in record { first = order_small l.0; second = order_small l.1 }

  -- a polynomial made of remainders
  pub remainders_room : (f : ℕ → ℕ) → PolynomialFits u.k (row u.k (exponent 0) (λ l. exponent (f l % group.q)))
  remainders_room f = polynomial_fits u.k (λ l. f l % group.q) high (λ l hl. remainder_small (f l))

  -- ---- matrices

  -- entries that pass refusal 8 are below p
  entry_small : (C : List (List Element)) → matrix_passes group u.k C ≡ true → (j l : ℕ) → j < u.k → l < u.k → entry C j l < 65536
  entry_small C passes j l hj hl = let a = entry_below group u.k C passes j l hj hl in let b = (group_sizes u keeps).modulus_small in omega arith

  pub read_room : (bytes : List ℕ) → matrix_passes group u.k (matrix_in u bytes) ≡ true → MatrixFits u.k (matrix_in u bytes)
  unfolding matrix_in
  read_room bytes passes =
      matrix_fits u.k _ high (λ j l hj hl.
      subst (λ (x : ℕ). x < 65536) (entry_at u.k _ high j l hj hl) (entry_small _ passes j l hj hl))

  module _ (slot : Slot) (shape : ShapedSlot slot) (zero : entries_zero u.k slot ≡ true) where
    abbrev held : List (List Element)
    held = matrix_of slot

    held_width : (j : ℕ) → j < 8 → length (get_or held j []) ≡ 8
    unfolding matrix_of
    held_width = shape.row

    -- outside the first k rows and columns all is zero
    outside : (j l : ℕ) → j < 8 → l < 8 → ltb j u.k and ltb l u.k ≡ false → get_or (get_or held j []) l (element 0) ≡ element 0
    unfolding entries_zero
    outside j l hj hl out =
        ⊎_elim
        (λ e. absurd (true≢false (sym (and_right slot.used _ e) ∙ out)))
        (λ e. ap element (eqb-true (entry held j l) 0 e))
        (or_cases (slot.used and ltb j u.k and ltb l u.k) _ (all_below_at _ 8 l (all_below_at _ 8 j zero hj) hl))

    -- it is made of its entries, row by row
    abbrev made : ℕ → ℕ → Element
    made j l = element (entry held j l)

    row_form : (j : ℕ) → j < 8 → get_or held j [] ≡ get_or (matrix u.k (element 0) made) j []
    row_form j hj = go (dec_lt j u.k)
      where
        inside : (l : ℕ) → l < 8 → Dec (l < u.k) → get_or (get_or held j []) l (element 0) ≡ get_or (row u.k (element 0) (made j)) l (element 0)
        inside l hl (yes h) = sym (row_at_lem u.k (element 0) (made j) high l h)
        inside l hl (no h) =
            outside j l hj hl (ap (λ b. ltb j u.k and b) (le-ltb l u.k (omega arith)) ∙ and_false (ltb j u.k))
            ∙ sym (row_zero u.k (element 0) (made j) l hl (omega arith))

        go : Dec (j < u.k) → get_or held j [] ≡ get_or (matrix u.k (element 0) made) j []
        go (yes h) =
            let n = held_width j hj in
            ext_get_or (element 0) (get_or held j []) (row u.k (element 0) (made j)) (n ∙ sym (row-length u.k (element 0) (made j)))
            (λ l hl. inside l (omega arith) (dec_lt l u.k))
            ∙ sym (matrix_filled u.k (element 0) made j hj h)
        go (no h) =
            let n = held_width j hj in
            ext_get_or (element 0) (get_or held j []) (replicate 8 (element 0)) n
            (λ l hl. outside j l hj (omega arith) (ap (λ b. b and ltb l u.k) (le-ltb j u.k (omega arith)))
            ∙ sym (get_or-replicate 8 l (element 0) (element 0) (omega arith)))
            ∙ sym (matrix_empty u.k (element 0) made j hj (omega arith))

    pub slot_room : matrix_passes group u.k (matrix_of slot) ≡ true → MatrixFits u.k (matrix_of slot)
    unfolding matrix_of
    slot_room passes =
        let n : length (matrix_of slot) ≡ 8 = shape.rows in
        record {
          small = entry_small (matrix_of slot) passes;
          form = ext_get_or [] held (matrix u.k (element 0) made) (n ∙ sym (matrix_height u.k (element 0) made)) (λ j lt. row_form j (omega arith));
        }

  -- ---- what is dealt

  module _ (f f' : List (List Exponent)) where
    pub dealt_room : MatrixFits u.k (commitment group u.k f f')
    unfolding commitment committed
    dealt_room =
        matrix_fits u.k _ high (λ j l hj hl.
        let small = (group_sizes u keeps).modulus_small in
        let big = (group_rule u keeps).p_prime.big in
        let c = group.g.0 ^ coefficient₂ f j l * group.h.0 ^ coefficient₂ f' j l in
        let low : c % group.p < group.p = mod-lt c (omega arith) in
        omega arith)

    pub dealt_rooms : (j : ℕ) → PolynomialsFit u.k (polynomials_of group.q u.k f f' j)
    unfolding polynomials_of along_y along_x
    dealt_rooms j = record { a = remainders_room _; a2 = remainders_room _; b = remainders_room _; b2 = remainders_room _ }

-- The laws of what a line says.
--
-- In order: a line that is judged to be taken; numbers and bytes that fit; the room for coins; what every line says fits.
-- Assumes nothing.
use Rattle.std.specs.Prelude.{Bool, List, ◌≡◌, ltb, length, get_or, Option, Some, None, Result, Ok, Err}
use Rattle.std.proofs.Math.Bool.{true, false, not}
use Rattle.std.proofs.Math.Path.{refl, sym, ap, subst}
use Rattle.std.proofs.Common.{◌∙◌, add-one}
use Prim.Native.Nat.{ℕ, zero, suc, ◌+◌, ◌-◌, ◌*◌, ◌/◌, ◌%◌, ◌<◌, ◌≤◌}
use Rattle.std.proofs.Math.Nat.{mul-div-le}
use native.Mathlib.Omega.{arith}
use Rattle.std.proofs.Math.Dec.{eqb, leb}
use borrow.Author.Tests.{ltb-false, leb-true, eqb-true, eqb-false, lt-ltb, not-false}
use Rattle.folds.specs.Tests.{◌and◌, pick, pick_true, and_left, and_right}
use Rattle.folds.specs.Below.{all_below-zero, first_from_before}
use Rattle.rules.specs.Text.{byte_at, digits_end, decimal_at, is_decimal}
use Rattle.text.specs.Decimals.{decimal_tests, digits_end_within}
use Rattle.text.specs.Hexadecimal.{hex_at, hex_stands}
use Rattle.console_lines.specs.Items.{item_end, item_place, items, item_end_most}
use Rattle.console_lines.specs.Words.{word_of, form_of, number_keeps, item_width, bytes_keep, item_keeps, bad_item}
use Rattle.console_lines.specs.Judging.{is_quiet, bad_byte, bad_space, judged_word, judged_begin, judged}
use Rattle.console_lines.specs.Says.{number_at, number_of, byte_count, command_of, says_of, said_coins_of, said_bytes_of, says, said_coins, said_bytes}
use Rattle.console_lines.specs.declared.reasons.Reason.{Reason}
use Rattle.console_lines.specs.declared.reasons.Reason.TheVariants as reason
use Rattle.console_lines.specs.declared.said.Said.{Said}
use Rattle.console_lines.specs.declared.said.Said.TheVariants as said
use Rattle.console_lines.specs.declared.words.Word.{Word}
use Rattle.console_lines.specs.declared.words.Word.TheVariants as word
use Rattle.console_lines.specs.Reading.{Formed, Answers, Fits, Speaks}

-- ---- a line that is judged to be taken

abbrev Verdict : Type 0
Verdict = Result (Option Word) Reason

never : {r : Reason} {w : Word} → ◌≡◌ {A = Verdict} (Err r) (Ok (Some w)) → ⊥
never e = let z : ◌≡◌ {A = ℕ} 0 1 = cc in omega arith

takes_same : {v w : Word} → ◌≡◌ {A = Verdict} (Ok (Some v)) (Ok (Some w)) → v ≡ w
takes_same e = cc

silent : {w : Word} → ◌≡◌ {A = Verdict} (Ok None) (Ok (Some w)) → ⊥
silent e = let z : ◌≡◌ {A = ℕ} 0 1 = cc in omega arith

-- the reason does not hold, and what is behind it judges
unless : {w : Word} (t : Bool) (r : Reason) (rest : Verdict) → pick t (Err r) rest ≡ Ok (Some w) → (t ≡ false) × (rest ≡ Ok (Some w))
unless true r rest e = absurd (never e)
unless false r rest e = (refl, e)

heard : {w : Word} (t : Bool) (rest : Verdict) → pick t (Ok None) rest ≡ Ok (Some w) → rest ≡ Ok (Some w)
heard true rest e = absurd (silent e)
heard false rest e = e

module _ (b : List ℕ) where
  -- no item fails, so each keeps its form
  all_keep : (w : Word) → items b ≤ bad_item b (form_of w) (items b) → (j : ℕ) → j < items b → item_keeps b (form_of w) j (item_place b (j + 1)) ≡ true
  unfolding bad_item
  all_keep w h j l =
      not-false _ (first_from_before (λ (k : ℕ). not (item_keeps b (form_of w) k (item_place b (k + 1)))) (items b) 0 j (omega arith) (omega arith))

  word_formed : (v w : Word) → judged_word b v ≡ Ok (Some w) → Formed b w
  unfolding judged_word
  word_formed v w e =
      let f = form_of v in
      let m = items b in
      let j = bad_item b f m in
      let third = pick (ltb j m) (Err (reason.Item (j + 1))) (Ok (Some v)) in
      let second = pick (ltb f.most m) (Err reason.Items) third in
      let h₁ = unless (ltb m f.least) reason.Items second e in
      let h₂ = unless (ltb f.most m) reason.Items third h₁.1 in
      let h₃ = unless (ltb j m) (reason.Item (j + 1)) (Ok (Some v)) h₂.1 in
      subst (Formed b) {x = v} (takes_same h₃.1)
      (record {
        enough = ltb-false m f.least h₁.0;
        few = ltb-false f.most m h₂.0;
        keep = all_keep v (ltb-false j m h₃.0);
      })

  begun : (o : Option Word) (w : Word) → judged_begin b o ≡ Ok (Some w) → Formed b w
  begun None w e = absurd (never e)
  begun (Some v) w e = word_formed v w e

  pub judged_formed : (w : Word) → judged b ≡ Ok (Some w) → Formed b w
  unfolding judged
  judged_formed w e =
      let third = judged_begin b (word_of b) in
      let second = pick (ltb (bad_space b) (length b)) (Err (reason.Space (bad_space b + 1))) third in
      let byte = reason.Byte (get_or b (bad_byte b) 0) (bad_byte b + 1) in
      let first = pick (ltb (bad_byte b) (length b)) (Err byte) second in
      let h₁ = unless (ltb (bad_byte b) (length b)) byte second (heard (is_quiet b) first e) in
      begun (word_of b) w (unless (ltb (bad_space b) (length b)) (reason.Space (bad_space b + 1)) third h₁.1).1

-- ---- numbers and bytes that fit

module _ (b : List ℕ) (i : ℕ) where
  -- a number that keeps its form: the item has a byte, and the line has it
  pub number_wide : (limit : ℕ) → number_keeps b i limit ≡ true → (i < item_end b i) × (i < length b)
  unfolding number_keeps
  number_wide limit h =
      let ends = eqb (digits_end b i) (item_end b i) in
      let small = leb (decimal_at b i) limit in
      let some = (decimal_tests b i (and_left (is_decimal b i) (ends and small) h)).some in
      let end = eqb-true (digits_end b i) (item_end b i) (and_left ends small (and_right (is_decimal b i) (ends and small) h)) in
      (omega arith, omega (arith, digits_end_within b i some))

  -- bytes that keep their form: their digits stand, and there are 4,096 at most
  pub hex_stands_lem : bytes_keep b i ≡ true → hex_at b i (item_width b i / 2) ≡ true
  unfolding bytes_keep hex_at
  hex_stands_lem h = go (eqb (item_width b i) 1) refl h
    where
      go : (t : Bool) → eqb (item_width b i) 1 ≡ t → pick t (byte_at b i 45) (eqb (item_width b i % 2) 0 and hex_at b i (item_width b i / 2)) ≡ true
          → hex_at b i (item_width b i / 2) ≡ true
      go true e g = ap (λ (n : ℕ). hex_at b i (n / 2)) (eqb-true (item_width b i) 1 e) ∙ all_below-zero (hex_stands b i)
      go false e g = and_right (eqb (item_width b i % 2) 0) (hex_at b i (item_width b i / 2)) g

  pub bytes_few : length b ≤ 8192 → item_width b i / 2 ≤ 4096
  bytes_few l = omega (arith, item_end_most b i, mul-div-le (item_width b i) 2)

-- the items that are hexadecimal
pub deliver_keeps : (b : List ℕ) → Formed b word.Deliver → bytes_keep b (item_place b 2) ≡ true
unfolding item_keeps
deliver_keeps b h = let z = h.enough in h.keep 1 (omega arith)

pub read_keeps : (b : List ℕ) → Formed b word.Read → bytes_keep b (item_place b 1) ≡ true
unfolding item_keeps
read_keeps b h = let z = h.enough in h.keep 0 (omega arith)

module _ (b : List ℕ) (j limit : ℕ) where
  number_most : number_keeps b (item_place b j) limit ≡ true → number_of b j ≤ limit
  unfolding number_keeps number_of number_at
  number_most h =
      let i = item_place b j in
      let ends = eqb (digits_end b i) (item_end b i) in
      let small = leb (decimal_at b i) limit in
      let e = pick_true (is_decimal b i) (decimal_at b i) 0 (and_left (is_decimal b i) (ends and small) h) in
      omega (arith, e, leb-true (decimal_at b i) limit (and_right ends small (and_right (is_decimal b i) (ends and small) h)))

-- ---- the room for coins: each number takes a byte and the space before it

module _ (b : List ℕ) (h : Formed b word.Deal) where
  deal_number : (j : ℕ) → j < items b → number_keeps b (item_place b (j + 1)) 65535 ≡ true
  unfolding item_keeps
  deal_number j l =
      let few = h.few in
      let k = h.keep j l in
      rw (lt-ltb j 8192 (let z : j < 8192 = omega arith in z)) at k

  deal_places : (j : ℕ) → j ≤ items b → 2 * j ≤ item_place b j + 1
  unfolding item_place
  deal_places zero l = omega arith
  deal_places (suc zero) l = omega arith
  deal_places (suc (suc j)) l =
      let before = deal_places (suc j) (omega arith) in
      let wide = (number_wide b (item_place b (suc j)) 65535 (ap (λ (n : ℕ). number_keeps b (item_place b n) 65535) (sym (add-one j)) ∙ deal_number j (omega arith))).0 in
      omega arith

  pub deal_few : length b ≤ 8192 → items b ≤ 4096
  deal_few l =
      let some = h.enough in
      let last : items b - 1 + 1 ≡ items b = omega arith in
      let wide = (number_wide b (item_place b (items b - 1 + 1)) 65535 (deal_number (items b - 1) (omega arith))).1 in
      omega (arith, ap (item_place b) last, deal_places (items b) (omega arith))

-- ---- what every line says fits

module _ (b : List ℕ) (short : length b ≤ 8192) where
  command_fits : (w : Word) → Formed b w → Fits (command_of b w)
  unfolding item_keeps byte_count
  command_fits word.SetUp h = tt
  command_fits word.Lend h = let z = h.enough in number_most b 1 4096 (h.keep 0 (omega arith))
  command_fits word.Deal h = omega (arith, deal_few b h short)
  command_fits word.Deliver h = bytes_few b (item_place b 2) short
  command_fits word.Recover h = tt
  command_fits word.Show h = tt
  command_fits word.Help h = go (eqb (items b) 0) refl
    where
      go : (t : Bool) → eqb (items b) 0 ≡ t → Fits (pick t said.Help (said.HelpOf (number_of b 1)))
      go true e = tt
      go false e = let z = eqb-false (items b) 0 e in number_most b 1 20 (h.keep 0 (omega arith))
  command_fits word.Read h = bytes_few b (item_place b 1) short
  command_fits word.Points h = let z = h.enough in number_most b 1 19 (h.keep 0 (omega arith))
  command_fits word.Quit h = tt

  pub says_fits : Fits (says b)
  unfolding says
  says_fits = go (judged b) refl
    where
      go : (v : Verdict) → judged b ≡ v → Fits (says_of b v)
      go (Ok None) e = tt
      go (Err r) e = tt
      go (Ok (Some w)) e = command_fits w (judged_formed b w e)

  -- a line that is judged so says what its judgement says
  pub spoken : (v : Result (Option Word) Reason) → judged b ≡ v → {r : Said} {coins₀ coins₁ bytes₀ bytes₁ : List ℕ}
      → Answers (says_of b v) (said_coins_of b v) (said_bytes_of b v) r coins₀ coins₁ bytes₀ bytes₁ → Speaks b r coins₀ coins₁ bytes₀ bytes₁
  unfolding says said_coins said_bytes
  spoken v e h =
      record { puts = rw e h; fits = subst Fits (ap (says_of b) e ∙ sym h.answers) says_fits }

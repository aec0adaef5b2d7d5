-- What demand 3 is given: a class whose numbers keep their rules, a set of at most k - 1 boxes without the dealer, two secrets below q, and
-- coins for the one.
--
-- In order: the hypotheses; the numbers; every box is taken at set-up; what is known of the matching coins.
-- Assumes nothing.
use Rattle.std.specs.Prelude.{◌≡◌, true, false, ℕ, ◌*◌, ◌<◌, ◌%◌}
use Rattle.std.proofs.Common.{mod-lt}
use Rattle.algebra.specs.Residues.{Prime}
use Rattle.rules.specs.declared.Polynomials.{Polynomials}
use Rattle.rules.specs.Numbers.{group_keeps, is_box, numbers_keep}
use Rattle.rules.specs.Matrices.{coefficient}
use Rattle.rules.specs.Dealing.{coins_keep, committed}
use Rattle.rules.specs.Answers.{set_up}
use Rattle.rules.specs.Laws.Numbers.{Sizes}
use Rattle.rules.proofs.Laws.Numbers.{is_box_lem}
use Rattle.rules.specs.Laws.RoundTrip.{SetUpFits}
use Rattle.rules.proofs.Laws.RoundTrip.{setup_fits}
use Rattle.demands.specs.Terms.Histories.{own}
use Rattle.demands.specs.Own
use Rattle.demands.specs.Own.{own_sound}
use Rattle.demands.specs.Sharing
use Rattle.demands.specs.Terms.Dealing.{group, Sound, dealt_matrix, dealt_to}
use Rattle.demands.specs.Sharing.{rule, order_some}
use Rattle.demands.specs.Terms.Secrets.{Few, z}
use Rattle.demands.specs.Matching.{z_on_set, move_unseen, matching_keeps, matching_matrix, matching_sends}
use Rattle.demands.specs.Hiding.Moves.{Twice, numbers, in_set, q, coins', dealt, zed, shifted, shifted'}

-- ---- the hypotheses

pub record Given (t : Twice) : Type 0 where
  pub group_keeps_lem : group_keeps (numbers t) ≡ true
  pub numbers_keep_lem : numbers_keep (own (numbers t) (numbers t).d) ≡ true
  pub few : Few (numbers t) (in_set t)
  pub dealer : in_set t (numbers t).d ≡ false
  pub low : t.s < q t
  pub low' : t.s' < q t
  pub coins_keep_lem : coins_keep (numbers t) t.s t.coins ≡ true

-- ---- the numbers

module _ (t : Twice) (h : Given t) where
  pub sound_numbers : Sound (numbers t)
  sound_numbers = own_sound (numbers t) h.group_keeps_lem h.numbers_keep_lem

  pub size : Sizes (numbers t).n (numbers t).t (numbers t).k
  size = Sharing.size (numbers t) sound_numbers

  pub q_prime : Prime (q t)
  q_prime = (rule (numbers t) sound_numbers).q_prime

  pub q_some : 0 < q t
  q_some = order_some (numbers t) sound_numbers

  pub low : (x : ℕ) → x % q t < q t
  low x = mod-lt x q_some

  -- ---- every box is taken

  pub dealer_box : is_box (numbers t) (numbers t).d ≡ true
  dealer_box = Own.dealer_box (numbers t) h.group_keeps_lem h.numbers_keep_lem

  pub own_fits : (i : ℕ) → is_box (numbers t) i ≡ true → SetUpFits (own (numbers t) i)
  own_fits i e = setup_fits (own (numbers t) i) (Own.own_keeps (numbers t) h.group_keeps_lem h.numbers_keep_lem i e)

  pub own_taken : (i : ℕ) → is_box (numbers t) i ≡ true → (set_up (own (numbers t) i)).answer.no ≡ 0
  own_taken = Own.own_taken (numbers t) h.group_keeps_lem h.numbers_keep_lem

  -- ---- the matching coins

  -- z is 0 at a box of the set
  pub zed_on_set : (m : ℕ) → is_box (numbers t) m ≡ true → in_set t m ≡ true → zed t m ≡ 0
  zed_on_set m b e =
      let w = is_box_lem (numbers t) m b in
      z_on_set (numbers t) sound_numbers (in_set t) h.few t.s t.s' h.low h.low' m w.0 w.1 e

  pub unseen : (w x y : ℕ) → committed (group (numbers t)) (shifted t w x) (shifted' t w y) ≡ committed (group (numbers t)) x y
  unseen w x y = move_unseen (numbers t) sound_numbers (in_set t) h.few t.s t.s' h.low h.low' x y w

  pub coins_keep' : coins_keep (numbers t) t.s' (coins' t) ≡ true
  coins_keep' = matching_keeps (numbers t) sound_numbers (in_set t) h.few t.s t.s' h.low h.low' t.coins h.coins_keep_lem

  pub same_matrix_lem : dealt_matrix (numbers t) t.s' (coins' t) ≡ dealt t
  same_matrix_lem = matching_matrix (numbers t) sound_numbers (in_set t) h.few t.s t.s' h.low h.low' t.coins h.coins_keep_lem

  -- coefficient l of what box j gets
  module _ (j l : ℕ) (lt : l < (numbers t).k) where
    abbrev P : Polynomials
    P = dealt_to (numbers t) t.s t.coins j

    abbrev P' : Polynomials
    P' = dealt_to (numbers t) t.s' (coins' t) j

    abbrev w : ℕ
    w = zed t j * z (numbers t) (in_set t) l

    pub dealt_moves : (coefficient P'.a l ≡ shifted t w (coefficient P.a l))
        × (coefficient P'.a2 l ≡ shifted' t w (coefficient P.a2 l))
        × (coefficient P'.b l ≡ shifted t w (coefficient P.b l))
        × (coefficient P'.b2 l ≡ shifted' t w (coefficient P.b2 l))
    dealt_moves =
        matching_sends (numbers t) sound_numbers (in_set t) h.few t.s t.s' h.low h.low' t.coins h.coins_keep_lem j l lt

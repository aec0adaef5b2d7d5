-- A deal in two runs: the same answer, and the second dealer's sends are the first's, moved.
--
-- In order: the polynomials that are dealt; the two steps; the deal, and one that both runs refuse.
-- Assumes nothing.
use Rattle.std.specs.Prelude.{◌≡◌, true, false, List, ℕ, ◌*◌, ◌<◌, eqb, length}
use Rattle.std.proofs.Math.Path.{refl, sym, ap, ap₂}
use Rattle.std.proofs.Common.{subst, ◌∙◌, eqb-true}
use Rattle.std.proofs.Math.Bool.{not}
use Rattle.std.proofs.Math.Logic.{inr}
use Rattle.folds.specs.Tests.{true≢false}
use Rattle.rules.specs.declared.Exponent.{Exponent}
use Rattle.rules.specs.declared.Polynomials.{Polynomials}
use Rattle.rules.specs.declared.Record.{Record}
use Rattle.rules.specs.declared.SetUp.{SetUp}
use Rattle.rules.specs.Numbers.{exponent}
use Rattle.rules.specs.Matrices.{coefficient}
use Rattle.rules.specs.declared.Message.TheVariants.{Send as send}
use Rattle.rules.specs.Messages.{tag_of, bytes_of}
use Rattle.rules.specs.Dealing.{polynomials_below, coins_keep, f_of, f'_of, from_coins}
use Rattle.rules.specs.Record.{sound}
use Rattle.rules.specs.Steps.{deal_step}
use Rattle.rules.specs.Answers.{first_of, deal_rows, deal, own_deal_rows, Row, first_row}
use Rattle.rules.proofs.Laws.Matrices.{row_same}
use Rattle.rules.proofs.Laws.RoundTrip.{PolynomialFits, PolynomialsFit}
use Rattle.rules.proofs.Laws.Ranges.{dealt_rooms}
use Rattle.rules.proofs.Laws.Passed.{deal_passed}
use Rattle.demands.specs.Terms.Histories.{own}
use Rattle.demands.specs.Terms.Dealing.{dealt_to}
use Rattle.demands.specs.Sharing.{send_passes}
use Rattle.demands.specs.Terms.Secrets.{z}
use Rattle.demands.specs.Lives.Commands.{deal_sends}
use Rattle.demands.specs.Hiding.Moves.{Twice, numbers, in_set, q, coins', dealt, zed, shifted, shifted', moved_by, moved_polynomials, moved_record}
use Rattle.demands.specs.Hiding.Hypotheses.{Given, sound_numbers, size, coins_keep', same_matrix_lem, dealt_moves}
use Rattle.demands.specs.Hiding.Steps.{MovedStep}
use Rattle.demands.specs.Own.{own_each, each_same}
use Rattle.demands.specs.Hiding.Outcomes.{DoneAlike, answered_alike, row_alike, call_alike}

module _ (t : Twice) (h : Given t) where
  -- ---- the polynomials

  dealt_fit : (s : ℕ) (coins : List ℕ) (j : ℕ) → PolynomialsFit (numbers t).k (dealt_to (numbers t) s coins j)
  dealt_fit s coins j = dealt_rooms (numbers t) h.group_keeps_lem (size t h).high _ _ j

  -- a polynomial whose coefficients are moved is a moved polynomial
  row_moved : (shift : ℕ → ℕ → ℕ) (j : ℕ) (a a' : List Exponent) → PolynomialFits (numbers t).k a'
      → ((l : ℕ) → l < (numbers t).k → coefficient a' l ≡ shift (zed t j * z (numbers t) (in_set t) l) (coefficient a l))
      → a' ≡ moved_by t shift j a
  unfolding moved_by
  row_moved shift j a a' c e = c.form ∙ row_same (numbers t).k (exponent 0) _ _ (λ l lt. ap exponent (e l lt))

  polynomials_moved : (j : ℕ) → dealt_to (numbers t) t.s' (coins' t) j ≡ moved_polynomials t j (dealt_to (numbers t) t.s t.coins j)
  polynomials_moved j =
      let P : Polynomials = dealt_to (numbers t) t.s t.coins j in
      let P' : Polynomials = dealt_to (numbers t) t.s' (coins' t) j in
      let c = dealt_fit t.s' (coins' t) j in
      same P'
      (row_moved (shifted t) j P.a P'.a c.a (λ l lt. (dealt_moves t h j l lt).0))
      (row_moved (shifted' t) j P.a2 P'.a2 c.a2 (λ l lt. (dealt_moves t h j l lt).1))
      (row_moved (shifted t) j P.b P'.b c.b (λ l lt. (dealt_moves t h j l lt).2))
      (row_moved (shifted' t) j P.b2 P'.b2 c.b2 (λ l lt. (dealt_moves t h j l lt).3))
    where
      same : (P : Polynomials) {a a2 b b2 : List Exponent} → P.a ≡ a → P.a2 ≡ a2 → P.b ≡ b → P.b2 ≡ b2
          → P ≡ record { a = a; a2 = a2; b = b; b2 = b2 }
      same P e f g k = rw (← e, ← f, ← g, ← k)

  -- ---- the two steps

  module _ (i : ℕ) (x : Record) (own_setup : x.setup ≡ own (numbers t) i) where
    below : (j : ℕ) → polynomials_below (q t) (numbers t).k (dealt_to (numbers t) t.s t.coins j) ≡ true
    below j = (send_passes (numbers t) (sound_numbers t h) t.s t.coins h.coins_keep_lem j).1

    deal_step_lem : i ≡ (numbers t).d → MovedStep t i (deal_step x t.s t.coins) (deal_step (moved_record t i x) t.s' (coins' t))
    unfolding deal_step f_of f'_of from_coins tag_of
    deal_step_lem e =
        record {
          after = refl;
          sent = refl;
          completed = refl;
          recovered = refl;
          bytes = inr (record {
            says = λ j. send (dealt t) (dealt_to (numbers t) t.s t.coins j);
            tag = 1;
            one_tag = λ j. refl;
            proper = λ j. (e, refl, below j, dealt_fit t.s t.coins j);
            first = (deal_sends x t.s t.coins).1 ∙ (rw own_setup (own_each (numbers t) i _));
            second = (deal_sends (moved_record t i x) t.s' (coins' t)).1
                ∙ (rw own_setup (own_each (numbers t) i _ ∙ each_same (numbers t) _ _ (λ j.
                ap₂ (λ C P. bytes_of (numbers t) (send C P)) (same_matrix_lem t h) (polynomials_moved j))));
          });
        }

    -- ---- the deal

    -- by the same row, where the coins of both keep their rule or neither's
    rows_same : sound x ≡ true → sound (moved_record t i x) ≡ true → (s s' : ℕ) (cs cs' buffer : List ℕ)
        → coins_keep x.setup s cs ≡ coins_keep x.setup s' cs'
        → first_row (deal_rows x s cs (length buffer)) ≡ first_row (deal_rows (moved_record t i x) s' cs' (length buffer))
    unfolding deal_rows own_deal_rows
    rows_same hx hy s s' cs cs' buffer same =
        call_alike x _ (length buffer) _ _ hx hy
        (row_alike _ _ _ _ refl refl refl (λ z13. row_alike _ _ _ _ refl refl (ap not same) (λ z14. refl)))

    own_keep : (s : ℕ) (cs : List ℕ) → coins_keep x.setup s cs ≡ coins_keep (numbers t) s cs
    unfolding coins_keep
    own_keep s cs = rw own_setup

    by_dealer : (buffer : List ℕ) → first_of (deal_rows x t.s t.coins (length buffer)) ≡ 0 → i ≡ (numbers t).d
    by_dealer buffer e =
        eqb-true i (numbers t).d
        (subst (λ (u : SetUp). eqb u.i u.d ≡ true) own_setup (deal_passed x t.s t.coins (length buffer) e).dealer)

    pub deal_alike : sound x ≡ true → sound (moved_record t i x) ≡ true → (buffer : List ℕ)
        → DoneAlike t i (deal x t.s t.coins buffer) (deal (moved_record t i x) t.s' (coins' t) buffer)
    unfolding deal
    deal_alike hx hy buffer =
        answered_alike t i _ _ _ _ x (moved_record t i x) buffer
        (ap (λ (r : Row). r.number) (rows_same hx hy t.s t.s' t.coins (coins' t) buffer
        (own_keep t.s t.coins ∙ h.coins_keep_lem ∙ sym (own_keep t.s' (coins' t) ∙ coins_keep' t h))))
        (λ e. deal_step_lem (by_dealer buffer e)) (λ e. refl)

    -- a deal that both refuse
    pub refused_alike : sound x ≡ true → sound (moved_record t i x) ≡ true → (s : ℕ) (cs buffer : List ℕ) → coins_keep (numbers t) s cs ≡ false
        → DoneAlike t i (deal x s cs buffer) (deal (moved_record t i x) s cs buffer)
    unfolding deal
    refused_alike hx hy s cs buffer bad =
        answered_alike t i _ _ _ _ x (moved_record t i x) buffer
        (ap (λ (r : Row). r.number) (rows_same hx hy s s cs cs buffer refl))
        (λ e. absurd (true≢false (sym (deal_passed x s cs (length buffer) e).keeps ∙ own_keep s cs ∙ bad))) (λ e. refl)

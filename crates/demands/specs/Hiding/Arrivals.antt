-- How a message comes to box i in two runs: forged, the same bytes of a box of the set; or handed on, what a box that keeps the rules sent.
--
-- In order: what both come to; forged; handed on.
-- Assumes nothing.
use Rattle.std.specs.Prelude.{◌≡◌, false, ◌⊎◌, List, ℕ, ◌*◌, ◌≤◌, eqb}
use Rattle.std.proofs.Math.Path.{refl, ap}
use Rattle.std.proofs.Common.{sym, ◌∙◌, inl, inr}
use Rattle.std.proofs.Math.Bool.{true}
use native.Mathlib.Omega.{arith}
use borrow.Author.Tests.{eqb-true, not-false}
use Rattle.folds.specs.Tests.{and_rest, pick-either, true≢false}
use Rattle.rules.specs.Numbers.{is_box}
use Rattle.rules.specs.declared.Message.{Message}
use Rattle.rules.specs.declared.Message.TheVariants.{Send as send, Echo as echo, Ready as ready, Recovery as recovery}
use Rattle.rules.specs.Messages.{tag_of, framed, bytes_of, tag_in, malformed, foreign, matrix_in, polynomials_in, four_in, pair_in, message_in}
use Rattle.rules.specs.Answers.{exponents_keep}
use Rattle.rules.specs.Laws.RoundTrip.{SetUpFits}
use Rattle.rules.proofs.Laws.RoundTrip.{message_formed, message_ours, message_there, matrix_part, matrix_there}
use Rattle.demands.specs.Terms.Histories.{own, keeps}
use Rattle.demands.specs.Hiding.Moves.{Twice, numbers, in_set, dealt, zed, moved_message}
use Rattle.demands.specs.Hiding.Hypotheses.{Given, dealer_box, own_fits, zed_on_set}
use Rattle.demands.specs.Hiding.Unseen.{four_still}
use Rattle.demands.specs.Hiding.SentTwice.{Proper, moved_tag, proper_fits, moved_proper}

-- ---- what both come to

-- for a matrix of a box outside the set there is only the dealt one
abbrev pub FromSetOrDealt : Twice → ℕ → List ℕ → Type 0
FromSetOrDealt t from bytes =
    is_box (numbers t) from ≡ true → tag_in bytes ≤ 3 → (in_set t from ≡ true) ⊎ (matrix_in (numbers t) bytes ≡ dealt t)

pub record Arrives (t : Twice) (i from : ℕ) (bytes bytes' : List ℕ) : Type 0 where
  pub tag : tag_in bytes' ≡ tag_in bytes
  pub form : malformed (numbers t) bytes' ≡ malformed (numbers t) bytes
  pub session : foreign (own (numbers t) i) bytes' ≡ foreign (own (numbers t) i) bytes
  pub matrix : matrix_in (numbers t) bytes' ≡ matrix_in (numbers t) bytes
  pub exponents : exponents_keep (numbers t) (message_in (numbers t) bytes')
      ≡ exponents_keep (numbers t) (message_in (numbers t) bytes)
  pub says : is_box (numbers t) from ≡ true → (tag_in bytes ≡ 1 → from ≡ (numbers t).d)
      → exponents_keep (numbers t) (message_in (numbers t) bytes) ≡ true
      → message_in (numbers t) bytes' ≡ moved_message t from i (message_in (numbers t) bytes)
  pub whose : FromSetOrDealt t from bytes

module _ (t : Twice) (h : Given t) (i from : ℕ) where
  -- ---- forged

  module _ (bytes : List ℕ) (not-keeping : keeps t.class from ≡ false) where
    in_set_lem : is_box (numbers t) from ≡ true → in_set t from ≡ true
    unfolding keeps
    in_set_lem b = not-false _ (and_rest (is_box (numbers t) from) _ not-keeping b)

    nothing_moves : is_box (numbers t) from ≡ true → (tag_in bytes ≡ 1 → from ≡ (numbers t).d)
        → exponents_keep (numbers t) (message_in (numbers t) bytes) ≡ true
        → message_in (numbers t) bytes ≡ moved_message t from i (message_in (numbers t) bytes)
    unfolding message_in
    nothing_moves b d =
        let u = numbers t in
        pick-either Still (eqb (tag_in bytes) 1) (send (matrix_in u bytes) (polynomials_in u bytes)) _
        (λ e below. absurd (true≢false (sym (in_set_lem b) ∙ ap (in_set t) (d (eqb-true _ 1 e)) ∙ h.dealer)))
        (λ e1. pick-either Still (eqb (tag_in bytes) 2) (echo (matrix_in u bytes) (four_in u bytes)) _
        (λ e below. ap (echo (matrix_in u bytes)) (sym (four_still t h _ (four_in u bytes) none below)))
        (λ e2. pick-either Still (eqb (tag_in bytes) 3) (ready (matrix_in u bytes) (four_in u bytes)) (recovery (pair_in bytes))
        (λ e below. ap (ready (matrix_in u bytes)) (sym (four_still t h _ (four_in u bytes) none below)))
        (λ e3 below. refl)))
      where
        Still : Message → Type 0
        Still m = exponents_keep (numbers t) m ≡ true → m ≡ moved_message t from i m

        none : zed t from * zed t i ≡ 0
        none = ap (λ v. v * zed t i) (zed_on_set t h from b (in_set_lem b)) ∙ omega arith

    pub forged : Arrives t i from bytes bytes
    forged =
        record {
          tag = refl;
          form = refl;
          session = refl;
          matrix = refl;
          exponents = refl;
          says = nothing_moves;
          whose = λ b l. inl (in_set_lem b);
        }

  -- ---- handed on

  fits_setup : SetUpFits (numbers t)
  fits_setup = let c = own_fits t h (numbers t).d (dealer_box t h) in record { k = c.k; d = c.d; session = c.session }

  proper_matrix : (m : Message) → Proper t from m
      → (tag_of m ≤ 3) × (matrix_part m ≡ dealt t) × (exponents_keep (numbers t) m ≡ true)
  unfolding tag_of
  proper_matrix (send C P) p = (omega arith, p.1, p.2)
  proper_matrix (echo C f) p = (omega arith, p.0, p.1)
  proper_matrix (ready C f) p = (omega arith, p.0, p.1)
  proper_matrix (recovery s) p = absurd p

  tag_there : (m : Message) → tag_in (bytes_of (numbers t) m) ≡ tag_of m
  unfolding bytes_of framed
  tag_there m = refl

  own_ours : (m : Message) → foreign (own (numbers t) i) (bytes_of (numbers t) m) ≡ false
  unfolding foreign bytes_of
  own_ours m = message_ours (numbers t) m fits_setup

  pub handed_on : (m : Message) → Proper t from m
      → Arrives t i from (bytes_of (numbers t) m) (bytes_of (numbers t) (moved_message t from i m))
  handed_on m p =
      let u = numbers t in
      let m' : Message = moved_message t from i m in
      let p' : Proper t from m' = moved_proper t h from i m p in
      let c = proper_matrix m p in
      let c' = proper_matrix m' p' in
      let f = proper_fits t h from m p in
      let f' = proper_fits t h from m' p' in
      let r = message_there u m f in
      let r' = message_there u m' f' in
      let C = matrix_there u m c.0 f ∙ c.1 in
      record {
        tag = tag_there m' ∙ moved_tag t from i m ∙ sym (tag_there m);
        form = message_formed u m' fits_setup ∙ sym (message_formed u m fits_setup);
        session = own_ours m' ∙ sym (own_ours m);
        matrix = matrix_there u m' c'.0 f' ∙ c'.1 ∙ sym C;
        exponents = ap (exponents_keep u) r' ∙ c'.2 ∙ sym (ap (exponents_keep u) r ∙ c.2);
        says = λ b d e. r' ∙ ap (moved_message t from i) (sym r);
        whose = λ b l. inr C;
      }

-- Two calls that come to the same: what that is, and how it is seen from the rows of the table.
--
-- In order: what two calls come to; rows that come out alike.
-- Assumes nothing.
use Rattle.std.specs.Prelude.{◌≡◌, refl, Bool, true, false, not, ◌⊎◌, List, ◌∷◌, ◌++◌, ℕ, length}
use Rattle.std.proofs.Common.{sym, ap, ◌∙◌, inl, inr}
use Rattle.std.proofs.Math.Decide.{ℕ_discrete}
use Rattle.rules.specs.declared.Record.{Record}
use Rattle.rules.specs.Messages.{written}
use Rattle.rules.specs.Steps.{Step}
use Rattle.rules.specs.Answers.{Row, Done, done, accepted, refused, answered, call_rows, first_row}
use Rattle.rules.proofs.Laws.DemandOne.{answered_accepted, answered_refused}
use Rattle.rules.proofs.Laws.Lengths.{take-written}
use Rattle.demands.specs.Terms.Histories.{wrote}
use Rattle.demands.specs.Hiding.Moves.{Twice, moved_record}
use Rattle.demands.specs.Hiding.SentTwice.{Twin, twin_length}
use Rattle.demands.specs.Hiding.Steps.{SentAlike, MovedStep}
use Rattle.rules.specs.Record.{sound}
use Rattle.folds.specs.Tests.{pick}

-- ---- what two calls come to

pub record DoneAlike (t : Twice) (i : ℕ) (d d' : Done) : Type 0 where
  pub next : d'.outcome.next ≡ moved_record t i d.outcome.next
  pub answer : d.outcome.answer ≡ d'.outcome.answer
  pub sent : (d.outcome.answer.bytes ≡ 0) ⊎ Twin t i (wrote d) (wrote d')

-- the same number, and steps alike where it is 0
pub answered_alike : (t : Twice) (i n n' : ℕ) (st st' : Step) (after after' : Record) (buffer : List ℕ) → n ≡ n'
    → (n ≡ 0 → MovedStep t i st st') → ((n ≡ 0 → ⊥) → after' ≡ moved_record t i after)
    → DoneAlike t i (answered n st after buffer) (answered n' st' after' buffer)
unfolding accepted refused
answered_alike t i n n' st st' after after' buffer same taken refusal = rw (← same) (go (ℕ_discrete n 0))
  where
    length_alike : SentAlike t i st.bytes st'.bytes → length st.bytes ≡ length st'.bytes
    length_alike (inl w) = ap length w.0 ∙ ap length (sym w.1)
    length_alike (inr w) = twin_length t i _ _ w

    by : Step → Done
    by step = done (accepted step) (written step.bytes buffer)

    wrote_alike : SentAlike t i st.bytes st'.bytes → (length st.bytes ≡ 0) ⊎ Twin t i (wrote (by st)) (wrote (by st'))
    wrote_alike (inl w) = inl (ap length w.0)
    wrote_alike (inr w) = inr (rw (take-written st.bytes buffer, take-written st'.bytes buffer) w)

    go : Dec (n ≡ 0) → DoneAlike t i (answered n st after buffer) (answered n st' after' buffer)
    go (yes e) =
        let m = taken e in
        rw (answered_accepted n st after buffer e, answered_accepted n st' after' buffer e)
        (record {
          next = m.after;
          answer = rw (m.sent, m.completed, m.recovered, length_alike m.bytes);
          sent = wrote_alike m.bytes;
        })
    go (no z) =
        rw (answered_refused n st after buffer z, answered_refused n st' after' buffer z)
        (record { next = refusal z; answer = refl; sent = inl refl })

-- ---- the rows of the table

-- rows that come out alike, each where those before it do not hold
pub row_alike : (r r' : Row) (rows rows' : List Row) → r.number ≡ r'.number → r.marks ≡ r'.marks → r.holds ≡ r'.holds
    → (r.holds ≡ false → first_row rows ≡ first_row rows') → first_row (r ∷ rows) ≡ first_row (r' ∷ rows')
unfolding first_row
row_alike r r' rows rows' n m h rest = ap (λ (x : Row). pick x.holds x (first_row rows)) row_same ∙ go r'.holds h
  where
    row_same : r ≡ r'
    row_same = λ i. record { number = n i; holds = h i; marks = m i }

    go : (b : Bool) → r.holds ≡ b → pick b r' (first_row rows) ≡ pick b r' (first_row rows')
    go true e = refl
    go false e = rest e

-- those of every call, of two sound records
pub call_alike : (x x' : Record) (lent : ℕ) (rows rows' : List Row) → sound x ≡ true → sound x' ≡ true → first_row rows ≡ first_row rows'
    → first_row (call_rows x lent ++ rows) ≡ first_row (call_rows x' lent ++ rows')
unfolding call_rows
call_alike x x' lent rows rows' hx hy rest =
    row_alike _ _ _ _ refl refl refl (λ z15. row_alike _ _ _ _ refl refl (ap not (hx ∙ sym hy)) (λ z12. rest))

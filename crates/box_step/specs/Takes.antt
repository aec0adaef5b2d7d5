-- A step of the rules that is taken: what code hands back of it, and what stands in the lent buffer.
--
-- In order: the step as code has it; steps that rest; the outcome of a call.
-- Assumes nothing.
use Rattle.std.specs.Prelude.{◌≡◌, refl, List, [], ℕ, length, Result, Ok, Err}
use Rattle.std.proofs.Math.Path.{sym, ap, ap₂}
use Rattle.std.proofs.Common.{◌∙◌}
use Rattle.rules.specs.declared.Outcome.{Outcome}
use Rattle.rules.specs.declared.Record.{Record}
use Rattle.rules.specs.declared.Refusal.{Refusal}
use Rattle.rules.specs.Messages.{written}
use Rattle.rules.specs.Steps.{Step, quiet}
use Rattle.rules.specs.Refusals.{refusal_number, refusal_of}
use Rattle.rules.specs.Answers.{done, accepted, refused, answered}
use Rattle.rules.proofs.Laws.DemandOne.{answered_accepted, answered_refused}
use Rattle.rules.proofs.Laws.Table.{refusal_some}
use Rattle.box_step.specs.declared.Step.{Step as Made}
use Rattle.box_step.specs.Told.{quietly, told}

-- of what is sent, code has the length
unfoldable pub made : Step → Made
made st =
    record {
      after = st.after;
      sent = st.sent;
      bytes = length st.bytes;
      completed = st.completed;
      recovered = st.recovered;
    }

pub record Takes (st : Step) (buffer : List ℕ) (s : Made) (buffer' : List ℕ) : Type 0 where
  pub step : s ≡ made st
  pub wrote : buffer' ≡ written st.bytes buffer

-- a step by another name is taken alike
pub takes_as : {st st' : Step} {buffer buffer' : List ℕ} {s : Made} → st ≡ st' → Takes st' buffer s buffer' → Takes st buffer s buffer'
takes_as e t = rw e t

-- ---- steps that rest

-- a step that sends nothing leaves the buffer as it came
pub still : (st : Step) (buffer : List ℕ) {s : Made} → st.bytes ≡ [] → s ≡ made st → Takes st buffer s buffer
unfolding written
still st buffer none e = record { step = e; wrote = rw none }

pub rests : {x next : Record} {s : Made} (buffer : List ℕ) → s ≡ quietly next → next ≡ x → Takes (quiet x) buffer s buffer
unfolding made
rests {x} buffer e same = still (quiet x) buffer refl (e ∙ ap quietly same)

-- ---- the outcome of a call

-- of this number, by what code found of the table
module _ (n : ℕ) (st : Step) (after : Record) (buffer : List ℕ) {o : Outcome} {r : Result Unit Refusal} (is : refusal_of r ≡ n) where
  pub accepts : {v : Unit} {s : Made} {buffer' : List ℕ} → r ≡ Ok v → Takes st buffer s buffer' → o ≡ told s
      → done o buffer' ≡ answered n st after buffer
  unfolding made accepted
  accepts none t e =
      ap₂ done (e ∙ ap told t.step) t.wrote ∙ sym (answered_accepted n st after buffer (sym is ∙ ap refusal_of none))

  pub refuses : {e : Refusal} → r ≡ Err e → o ≡ refused (refusal_number e) after → done o buffer ≡ answered n st after buffer
  refuses {e} some told =
      let number = sym (ap refusal_of some) ∙ is in
      ap (λ o. done o buffer) (told ∙ ap (λ n. refused n after) number)
      ∙ sym (answered_refused n st after buffer (λ z. refusal_some e (number ∙ z)))

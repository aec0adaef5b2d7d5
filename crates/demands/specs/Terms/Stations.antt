-- The life of a box of any make: its deliveries are taken by a station (`UselessBoxes` of `rules`).
--
-- In order: its life; calls as code is given them.
-- Assumes nothing.
use Rattle.std.specs.Prelude.{◌≡◌, Bool, true, false, List, [], ◌∷◌, ℕ, ◌<◌, replicate}
use Rattle.folds.specs.Tests.{◌or◌}
use Rattle.rules.specs.declared.Element.{Element}
use Rattle.rules.specs.declared.Record.{Record}
use Rattle.rules.specs.declared.SetUp.{SetUp}
use Rattle.rules.specs.Answers.{Done, set_up, deal, recover}
use Rattle.rules.proofs.UselessBoxes.{Station, are_bytes}
use Rattle.demands.specs.Terms.Histories.{Call, deals, gets, commanded}
use Rattle.demands.specs.Terms.Lives.{checks_by}

-- ---- its life

module _ (station : Station) where
  unfoldable pub doing_by : Record → Call → Done
  doing_by x (deals secret coins lent) = deal x secret coins (replicate lent 0)
  doing_by x (gets sender bytes lent) = station x sender bytes (replicate lent 0)
  doing_by x (commanded lent) = recover x (replicate lent 0)

  unfoldable pub after_by : SetUp → List Call → Record
  after_by u [] = (set_up u).next
  after_by u (c ∷ cs) = (doing_by (after_by u cs) c).outcome.next

  -- what it has accepted
  unfoldable pub checked_by : SetUp → List Call → ℕ → ℕ → List (List Element) → Bool
  checked_by u [] tag m C = false
  checked_by u (c ∷ cs) tag m C =
      checks_by (doing_by (after_by u cs) c).outcome.answer.no (after_by u cs) c tag m C or checked_by u cs tag m C

-- ---- calls as code is given them

-- a sender of 32 bits, and bytes
abbrev pub Sayable : Call → Type 0
Sayable (deals secret coins lent) = Unit {0}
Sayable (gets sender bytes lent) = (sender < 4294967296) × (are_bytes bytes ≡ true)
Sayable (commanded lent) = Unit {0}

unfoldable pub AllSayable : List Call → Type 0
AllSayable [] = Unit {0}
AllSayable (c ∷ cs) = Sayable c × AllSayable cs

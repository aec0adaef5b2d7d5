-- A box of any make: its deliveries are taken by a station that keeps the promise of a delivery (`Keeps` of `rules`). One that
-- makes up e or r is none: each is the number of different senders whose message the station itself accepted.
--
-- In order: its life is that of the rules; the statement.
-- Assumes nothing.
use Rattle.std.specs.Prelude.{◌≡◌, ℕ, ◌+◌, replicate}
use Rattle.std.proofs.Math.Path.{refl, ap, ap₂}
use Rattle.std.proofs.Common.{sym, ◌∙◌}
use mathlib.Core.List.{List, [], ◌∷◌}
use Rattle.folds.specs.Tests.{◌or◌}
use Rattle.folds.specs.Below.{count_below, count_below_same}
use Rattle.rules.specs.declared.Element.{Element}
use Rattle.rules.specs.declared.Record.{Record}
use Rattle.rules.specs.declared.SetUp.{SetUp}
use Rattle.rules.specs.Answers.{Done, set_up}
use Rattle.rules.proofs.UselessBoxes.{Station, zeros_are_bytes, Keeps}
use Rattle.demands.specs.Terms.Histories.{Call, deals, gets, commanded, doing, after}
use Rattle.demands.specs.Terms.Lives.{checks_by, checks_now, checked, e_of, r_of}
use Rattle.demands.specs.Lives.{life_sound, e_counts, r_counts}
use Rattle.demands.specs.Terms.Stations.{doing_by, after_by, checked_by, Sayable, AllSayable}

-- ---- its life is that of the rules

module _ (station : Station) (keeps : Keeps station) (u : SetUp) (taken : (set_up u).answer.no ≡ 0) where
  same_doing : (cs : List Call) (c : Call) → Sayable c → doing_by station (after u cs) c ≡ doing (after u cs) c
  unfolding doing_by doing
  same_doing cs (deals secret coins lent) s = refl
  same_doing cs (gets sender bytes lent) s =
      let life = life_sound u taken cs in
      keeps (after u cs) sender bytes (replicate lent 0)
      (record { is_sound = life.0; shape = life.1; sender_low = s.0; bytes_low = s.1; buffer_low = zeros_are_bytes lent })
  same_doing cs (commanded lent) s = refl

  same_life : (cs : List Call) → AllSayable cs → after_by station u cs ≡ after u cs
  unfolding after_by after AllSayable
  same_life [] s = refl
  same_life (c ∷ cs) s =
      ap (λ (x : Record). (doing_by station x c).outcome.next) (same_life cs s.1) ∙ ap (λ (d : Done). d.outcome.next) (same_doing cs c s.0)

  same_checked : (cs : List Call) → AllSayable cs → (tag m : ℕ) (C : List (List Element)) → checked_by station u cs tag m C ≡ checked u cs tag m C
  unfolding checked_by checked checks_now AllSayable
  same_checked [] s tag m C = refl
  same_checked (c ∷ cs) s tag m C =
      ap₂ ◌or◌
      (ap (λ (x : Record). checks_by (doing_by station x c).outcome.answer.no x c tag m C) (same_life cs s.1)
      ∙ ap (λ (d : Done). checks_by d.outcome.answer.no (after u cs) c tag m C) (same_doing cs c s.0))
      (same_checked cs s.1 tag m C)

  -- ---- the statement

  module _ (cs : List Call) (s : AllSayable cs) (C : List (List Element)) where
    pub e_by_station : e_of (after_by station u cs) C ≡ count_below 10 (λ m. checked_by station u cs 2 (m + 1) C)
    e_by_station =
        ap (λ (x : Record). e_of x C) (same_life cs s)
        ∙ e_counts u taken cs C
        ∙ count_below_same _ _ 10 (λ m l. sym (same_checked cs s 2 (m + 1) C))

    pub r_by_station : r_of (after_by station u cs) C ≡ count_below 10 (λ m. checked_by station u cs 3 (m + 1) C)
    r_by_station =
        ap (λ (x : Record). r_of x C) (same_life cs s)
        ∙ r_counts u taken cs C
        ∙ count_below_same _ _ 10 (λ m l. sym (same_checked cs s 3 (m + 1) C))

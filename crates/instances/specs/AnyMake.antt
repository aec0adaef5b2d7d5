-- A box of any make: the life of Life, where `deliver` itself takes the deliveries. It keeps its promise, and makes up neither e nor r.
--
-- In order: calls as code is given them, by a test; the life where `deliver` takes the deliveries; what the theorems say of it.
-- Assumes nothing.
use Rattle.std.specs.Prelude.{◌≡◌, refl, Bool, true, List, [], ◌∷◌, ◌+◌, ltb}
use Rattle.std.proofs.Common.{sym, ap, ◌∙◌, ltb-true}
use Rattle.folds.specs.Tests.{◌and◌, and_left, and_right}
use Rattle.folds.specs.Below.{count_below}
use Rattle.rules.specs.declared.Record.{Record}
use Rattle.rules.specs.Answers.{deliver}
use Rattle.rules.specs.Computed.{computed}
use Rattle.rules.specs.HandSums.{class}
use Rattle.rules.proofs.UselessBoxes.{are_bytes, Keeps}
use Rattle.demands.specs.Terms.Histories.{Call, deals, gets, commanded, doing, after}
use Rattle.demands.specs.Terms.Lives.{e_of, r_of}
use Rattle.demands.specs.Terms.Stations.{doing_by, after_by, checked_by, Sayable, AllSayable}
use Rattle.demands.specs.Demands.{no_e_is_made_up, no_r_is_made_up}
use Rattle.instances.specs.Calls.{D, play}
use Rattle.instances.specs.Life.{one_life}

-- ---- calls as code is given them

abbrev sayable : Call → Bool
sayable (deals secret coins lent) = true
sayable (gets sender bytes lent) = ltb sender 4294967296 and are_bytes bytes
sayable (commanded lent) = true

unfoldable all_sayable : List Call → Bool
all_sayable [] = true
all_sayable (c ∷ cs) = sayable c and all_sayable cs

one_sayable : (c : Call) → sayable c ≡ true → Sayable c
one_sayable (deals secret coins lent) h = tt
one_sayable (gets sender bytes lent) h = (ltb-true sender _ (and_left (ltb sender 4294967296) _ h), and_right (ltb sender 4294967296) _ h)
one_sayable (commanded lent) h = tt

all_sayable_lem : (cs : List Call) → all_sayable cs ≡ true → AllSayable cs
unfolding all_sayable AllSayable
all_sayable_lem [] h = tt
all_sayable_lem (c ∷ cs) h = (one_sayable c (and_left (sayable c) _ h), all_sayable_lem cs (and_right (sayable c) _ h))

given : all_sayable play ≡ true
unfolding all_sayable computed are_bytes
given = refl

-- ---- the life

keeps : Keeps deliver
keeps x sender bytes buffer g = refl

same_doing : (x : Record) (c : Call) → doing_by deliver x c ≡ doing x c
unfolding doing_by doing
same_doing x (deals secret coins lent) = refl
same_doing x (gets sender bytes lent) = refl
same_doing x (commanded lent) = refl

same_life : (cs : List Call) → after_by deliver class cs ≡ after class cs
unfolding after_by after
same_life [] = refl
same_life (c ∷ cs) = ap (λ d. d.outcome.next) (same_doing _ c) ∙ ap (λ x. (doing x c).outcome.next) (same_life cs)

-- ---- what the theorems say

pub record NotMadeUp : Type 0 where
  -- echoes of 2 and 4, readies of 1, 2, 3
  pub e : e_of (after_by deliver class play) D ≡ 2
  pub r : r_of (after_by deliver class play) D ≡ 3
  pub echoed : count_below 10 (λ m. checked_by deliver class play 2 (m + 1) D) ≡ 2
  pub readied : count_below 10 (λ m. checked_by deliver class play 3 (m + 1) D) ≡ 3

pub not_made_up : NotMadeUp
not_made_up =
    let calls = all_sayable_lem play given in
    let e = ap (λ x. e_of x D) (same_life play) ∙ one_life.e in
    let r = ap (λ x. r_of x D) (same_life play) ∙ one_life.r in
    record {
      e = e;
      r = r;
      echoed = sym (no_e_is_made_up deliver keeps class one_life.taken play calls D) ∙ e;
      readied = sym (no_r_is_made_up deliver keeps class one_life.taken play calls D) ∙ r;
    }

-- Recovery over a life: the shares kept and the pair recovered are what has been checked, pass, and open the first entry.
--
-- In order: the shares kept; the pair recovered; the shares pass; what the pair opens.
-- Assumes nothing.
use Rattle.std.specs.Prelude.{◌≡◌, Bool, true, false, ◌⊎◌, ℕ, ◌+◌, ◌<◌, ◌≤◌, eqb, get_or}
use Rattle.std.proofs.Math.Path.{refl, ap}
use Rattle.std.proofs.Common.{sym, ◌∙◌, subst, subst₂, inl, inr, arith, get_or-set_same, get_or-set_other, eqb-true, eq-eqb, ne_eqb}
use mathlib.Core.List.{List, [], ◌∷◌}
use Rattle.std.proofs.Math.Decide.{ℕ_discrete}
use Rattle.std.proofs.lemmas.List.{get_or-replicate}
use Rattle.folds.specs.Tests.{pick, pick_true, pick-false, true≢false, decide}
use Rattle.std.specs.Prelude.{Option, Some, None, is_some}
use Rattle.rules.specs.declared.Element.{Element}
use Rattle.rules.specs.declared.Pair.{Pair}
use Rattle.rules.specs.declared.Record.{Record}
use Rattle.rules.specs.declared.SetUp.{SetUp}
use Rattle.rules.specs.Matrices.{entry}
use Rattle.rules.specs.Dealing.{committed, matrix_passes, share_check}
use Rattle.rules.specs.Record.{nothing, slot_at, share_at, matrix_of, shares_kept, new_record}
use Rattle.rules.specs.Steps.{recovered_from, share_points, sharing}
use Rattle.rules.specs.Answers.{no_pair, set_up, share_checks}
use Rattle.rules.proofs.Laws.Facts.{Facts}
use Rattle.rules.proofs.Laws.Kept.Changes.{Good}
use Rattle.demands.specs.Terms.Histories.{Call, after}
use Rattle.demands.specs.Terms.Dealing.{group, order, Different}
use Rattle.demands.specs.Sharing.{shares_open}
use Rattle.demands.specs.Terms.Lives.{share_now, pair_of, share_said}
use Rattle.demands.specs.Lives.Turns.{next, Way, quiet, takes, keeps}
use Rattle.demands.specs.Lives.Born.{born, good, turn_at, own_setup, numbers_keep_lem}
use Rattle.demands.specs.Lives.Points.{shares_differ}

-- what a share kept at m leaves at i
share_at_lem : (x : Record) → Good x → (m i : ℕ) (p : Pair) → m < 10
    → share_at (sharing x m p) i ≡ pick (eqb (m + 1) (i + 1)) (Some p) (share_at x.shares i)
share_at_lem x g m i p l = go (ℕ_discrete i m)
  where
    go : Dec (i ≡ m) → share_at (sharing x m p) i ≡ pick (eqb (m + 1) (i + 1)) (Some p) (share_at x.shares i)
    go (yes q) =
        let e = g.shape.shares in
        ap (λ (v : Option Pair). v)
        (ap (λ (j : ℕ). get_or (sharing x m p) j nothing) q
        ∙ get_or-set_same x.shares m (Some p) nothing (omega arith))
        ∙ sym (pick_true _ (Some p) (share_at x.shares i) (eq-eqb (m + 1) (i + 1) (omega arith)))
    go (no n) =
        ap (λ (v : Option Pair). v) (get_or-set_other x.shares m i (Some p) nothing n)
        ∙ sym (pick-false _ (Some p) (share_at x.shares i) (ne_eqb (m + 1) (i + 1) (λ q. n (omega arith))))

module _ (u : SetUp) (set_up_lem : (set_up u).answer.no ≡ 0) where
  new_share : (i : ℕ) → i < 10 → share_at (new_record u).shares i ≡ None
  unfolding new_record
  new_share i l = ap (λ (v : Option Pair). v) (get_or-replicate 10 i nothing nothing l)

  new_recovered : (new_record u).recovered ≡ None
  unfolding new_record
  new_recovered = refl

  -- ---- the shares kept

  pub shares_are : (i : ℕ) → i < 10 → (cs : List Call) → share_at (after u cs).shares i ≡ share_said u cs (i + 1)
  unfolding after share_said
  shares_are i l [] = ap (λ (x : Record). share_at x.shares i) (born u set_up_lem) ∙ new_share i l
  shares_are i l (c ∷ cs) = go (turn_at u set_up_lem cs c).way (shares_are i l cs)
    where
      x : Record
      x = after u cs

      go : Way x c → share_at x.shares i ≡ share_said u cs (i + 1)
          → share_at (next x c).shares i ≡ pick (share_now x c (i + 1)) (Some (pair_of c)) (share_said u cs (i + 1))
      go (quiet q) ih = rw (q.shares, q.unshared (i + 1)) ih
      go (takes b m C f sends t) ih = rw (t.shares, t.unshared (i + 1)) ih
      go (keeps m p k) ih =
          rw (k.shares, k.shared (i + 1), k.pair)
          (share_at_lem x (good u set_up_lem cs) m i p k.low ∙ ap (λ (v : Option Pair). pick (eqb (m + 1) (i + 1)) (Some p) v) ih)

  -- ---- the pair recovered

  pub recovered_is : (p : Pair) (cs : List Call) → (after u cs).recovered ≡ Some p
      → p ≡ recovered_from (order u) (share_points (after u cs).shares)
  unfolding after
  recovered_is p [] e =
      absurd (true≢false (sym (ap is_some e)
      ∙ ap (λ (x : Record). is_some x.recovered) (born u set_up_lem) ∙ ap is_some new_recovered))
  recovered_is p (c ∷ cs) e = go (turn_at u set_up_lem cs c).way (recovered_is p cs) e
    where
      x : Record
      x = after u cs

      go : Way x c → (x.recovered ≡ Some p → p ≡ recovered_from (order u) (share_points x.shares))
          → (next x c).recovered ≡ Some p → p ≡ recovered_from (order u) (share_points (next x c).shares)
      go (quiet q) ih e = rw q.shares (ih (rw q.recovered at e))
      go (takes b m C f sends t) ih e = rw t.shares (ih (rw t.recovered at e))
      go (keeps m r k) ih e = rw k.shares (last (eqb (shares_kept (sharing x m r)) x.setup.k) (sym k.recovered ∙ e))
        where
          last : (b : Bool) → pick b (Some (recovered_from (order x.setup) (share_points (sharing x m r)))) x.recovered ≡ Some p
              → p ≡ recovered_from (order u) (share_points (sharing x m r))
          last true h = let q : recovered_from (order x.setup) (share_points (sharing x m r)) ≡ p = cc in
              sym q ∙ ap (λ (v : SetUp). recovered_from (order v) (share_points (sharing x m r))) (own_setup u set_up_lem cs)
          last false h = absurd (true≢false (sym (ap is_some h) ∙ k.unrecovered))

  -- ---- the shares pass

  -- a share was kept, so the box had completed, and is as it was
  done_before : (cs : List Call) (c : Call) (s m : ℕ) (p : Pair) → m < 10 → share_at (after u cs).shares m ≡ Some p
      → (next (after u cs) c).progress.completion ≡ Some s → (after u cs).progress.completion ≡ Some s
  done_before cs c s m p l e h = go (after u cs).progress.completion refl (facts.progress.commanded (facts.shares.shared m l (ap is_some e)))
    where
      facts : Facts (after u cs)
      facts = (good u set_up_lem cs).facts

      go : (d : Option ℕ) → (after u cs).progress.completion ≡ d → is_some (after u cs).progress.completion ≡ true
          → (after u cs).progress.completion ≡ Some s
      go None q t = absurd (true≢false (sym t ∙ ap is_some q))
      go (Some r) q t = q ∙ sym ((turn_at u set_up_lem cs c).turned.still r q) ∙ h

  -- the completed matrix does not change
  matrix_stays : (cs : List Call) (c : Call) (s : ℕ) → (after u cs).progress.completion ≡ Some s
      → matrix_of (slot_at (next (after u cs) c) s) ≡ matrix_of (slot_at (after u cs) s)
  matrix_stays cs c s e = ((turn_at u set_up_lem cs c).turned.stays s ((good u set_up_lem cs).facts.progress.completion s e).used).1

  abbrev Passes : Record → ℕ → ℕ → Pair → Type 0
  Passes x s m p = share_check (group u) u.k (matrix_of (slot_at x s)) (m + 1) p ≡ true

  pub share_pass : (s m : ℕ) (p : Pair) → m < 10 → (cs : List Call) → (after u cs).progress.completion ≡ Some s
      → share_at (after u cs).shares m ≡ Some p
      → Passes (after u cs) s m p
  unfolding after
  share_pass s m p l [] d e =
      absurd (true≢false (sym (ap is_some e)
      ∙ ap (λ (x : Record). is_some (share_at x.shares m)) (born u set_up_lem) ∙ ap is_some (new_share m l)))
  share_pass s m p l (c ∷ cs) d e = go (turn_at u set_up_lem cs c).way (share_pass s m p l cs)
    where
      x : Record
      x = after u cs

      -- one that was kept before
      old : share_at x.shares m ≡ Some p → (x.progress.completion ≡ Some s → share_at x.shares m ≡ Some p → Passes x s m p)
          → Passes (next x c) s m p
      old q ih =
          let was = done_before cs c s m p l q d in
          ap (λ (C : List (List Element)). share_check (group u) u.k C (m + 1) p) (matrix_stays cs c s was) ∙ ih was q

      go : Way x c → (x.progress.completion ≡ Some s → share_at x.shares m ≡ Some p → Passes x s m p) → Passes (next x c) s m p
      go (quiet q) ih = old (ap (λ (v : List (Option Pair)). share_at v m) (sym q.shares) ∙ e) ih
      go (takes b i C f sends t) ih = old (ap (λ (v : List (Option Pair)). share_at v m) (sym t.shares) ∙ e) ih
      go (keeps i r k) ih = new (decide (eqb (i + 1) (m + 1)))
        where
          is : pick (eqb (i + 1) (m + 1)) (Some r) (share_at x.shares m) ≡ Some p
          is = sym (share_at_lem x (good u set_up_lem cs) i m r k.low) ∙ ap (λ (v : List (Option Pair)). share_at v m) (sym k.shares) ∙ e

          was : x.progress.completion ≡ Some s
          was = sym k.completion ∙ d

          new : (eqb (i + 1) (m + 1) ≡ true) ⊎ (eqb (i + 1) (m + 1) ≡ false) → Passes (next x c) s m p
          new (inl q) =
              let here : Some r ≡ Some p = sym (pick_true _ (Some r) (share_at x.shares m) q) ∙ is in
              let same : r ≡ p = cc in
              ap (λ (C : List (List Element)). share_check (group u) u.k C (m + 1) p) (matrix_stays cs c s was)
              ∙ subst (λ (v : SetUp). share_check (group v) v.k (matrix_of (slot_at x s)) (m + 1) p ≡ true) (own_setup u set_up_lem cs)
              (subst₂ (λ (j : ℕ) (v : Pair). share_check (group x.setup) x.setup.k (matrix_of (slot_at x s)) j v ≡ true)
              (eqb-true (i + 1) (m + 1) q) same (subst (λ (v : Option ℕ). share_checks x v (i + 1) r ≡ true) was k.check))
          new (inr q) = old (sym (pick-false _ (Some r) (share_at x.shares m) q) ∙ is) ih

  -- ---- what the pair opens

  -- a pair was recovered: it is that of k shares of different boxes, of which each holds what holds of every share kept
  pub recovered_differ : (P : ℕ → Pair → Type 0) (p : Pair) (cs : List Call) → (after u cs).recovered ≡ Some p
      → ((m : ℕ) (v : Pair) → m < 10 → share_at (after u cs).shares m ≡ Some v → P (m + 1) v)
      → Different u no_pair (share_points (after u cs).shares) P
  recovered_differ P p cs e each =
      let x = after u cs in
      let facts = (good u set_up_lem cs).facts in
      let with-u = own_setup u set_up_lem cs in
      let all = eqb-true (shares_kept x.shares) x.setup.k (sym facts.shares.exactly ∙ ap is_some e) ∙ ap (λ (v : SetUp). v.k) with-u in
      shares_differ u x.shares P
      (λ m l h. sym (facts.shares.senders m l) ∙ facts.none m 3 l (subst (λ (v : SetUp). v.n ≤ m) (sym with-u) h) (omega arith))
      each all

  pub report_open : (s : ℕ) (p : Pair) (cs : List Call) → (after u cs).progress.completion ≡ Some s → (after u cs).recovered ≡ Some p
      → committed (group u) p.first.0 p.second.0 ≡ entry (matrix_of (slot_at (after u cs) s)) 0 0
  report_open s p cs d e =
      let x = after u cs in
      let facts = (good u set_up_lem cs).facts in
      let done = facts.progress.completion s d in
      let passes = subst (λ (v : SetUp). matrix_passes (group v) v.k (matrix_of (slot_at x s)) ≡ true)
      (own_setup u set_up_lem cs) ((facts.slots.each s done.within).contents.passes done.used) in
      ap (λ (v : Pair). committed (group u) v.first.0 v.second.0) (recovered_is p cs e)
      ∙ shares_open u (numbers_keep_lem u set_up_lem) (matrix_of (slot_at x s)) passes (share_points x.shares)
      (recovered_differ (λ m v. share_check (group u) u.k (matrix_of (slot_at x s)) m v ≡ true) p cs e
      (λ m v l h. share_pass s m v l cs d h))

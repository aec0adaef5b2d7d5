-- What a box holds whose accepted deals and deliveries are the dealt ones: dealt points, and the dealt share.
--
-- In order: a life in which what was accepted was dealt; what was said; the slots in use and their points; what k of
-- these give, and so the pair kept.
-- Assumes nothing.
use Rattle.std.proofs.Math.Path.{◌≡◌, sym, ap, subst}
use Rattle.std.specs.Prelude.{refl, ℕ, ◌+◌, ◌<◌, eqb, take}
use Rattle.std.proofs.Common.{◌∙◌, arith}
use Rattle.std.proofs.Math.Bool.{true}
use Rattle.std.proofs.Math.Logic.{⊎_elim}
use mathlib.Core.List.{List, [], ◌∷◌}
use borrow.Author.Tests.{eqb-true}
use Rattle.folds.specs.Tests.{and_left, and_right, or_cases, pick-either, true≢false}
use Rattle.folds.specs.Below.{any_below_here, any_below_some}
use Rattle.rules.specs.declared.Element.{Element}
use Rattle.rules.specs.declared.Four.{Four}
use Rattle.std.specs.Prelude.{Some, is_some}
use Rattle.rules.specs.declared.Pair.{Pair}
use Rattle.rules.specs.declared.Point.{Point}
use Rattle.rules.specs.declared.Point.TheVariants.{Silent, Held}
use Rattle.rules.specs.declared.Record.{Record}
use Rattle.rules.specs.declared.SetUp.{SetUp}
use Rattle.rules.specs.declared.Side.{Side}
use Rattle.rules.specs.declared.Side.TheVariants.{ByEcho, ByReady}
use Rattle.rules.specs.declared.Slot.{Slot}
use Rattle.rules.specs.Numbers.{is_box}
use Rattle.rules.specs.Messages.{tag_in, matrix_in, four_in, message_in}
use Rattle.rules.specs.Dealing.{from_coins, f_of, f'_of, coins_keep}
use Rattle.rules.specs.Record.{slot_at, place_at, is_held, held, matrix_of, same_matrix}
use Rattle.rules.specs.Steps.{points, pair_from, ready_four}
use Rattle.rules.specs.Answers.{set_up}
use Rattle.rules.proofs.Laws.Facts.{SlotFacts, ear}
use Rattle.rules.proofs.Laws.RoundTrip.{is_echo_lem, is_ready_lem}
use Rattle.rules.proofs.Laws.Ranges.{slot_room}
use Rattle.demands.specs.Terms.Honest.{Past, Deal}
use Rattle.demands.specs.Terms.Histories.{Call, deals, gets, commanded, doing, after, own}
use Rattle.demands.specs.Histories.{past_self, past_more, past_trans}
use Rattle.demands.specs.Terms.Dealing.{order, dealt_matrix, dealt_point, dealt_share}
use Rattle.demands.specs.Sharing.{size, points_give}
use Rattle.demands.specs.Own.{own_taken}
use Rattle.demands.specs.Terms.Lives.{checks_now, takes_now, four_of, said}
use Rattle.demands.specs.Lives.{places_say}
use Rattle.demands.specs.Lives.Slots.{slot_of, slot_used}
use Rattle.demands.specs.Lives.Born.{good, own_setup, numbers_keep_lem, facts_at}
use Rattle.demands.specs.Lives.Counts.{first_cases}
use Rattle.demands.specs.Lives.Readies.{used_there, said_differ, pair_holds}
use Rattle.demands.specs.Honest.Messages.{Dealt, sound, matrix_room, agree_equal}

-- ---- a life in which what was accepted was dealt

module _ (u : SetUp) (secret : ℕ) (coins : List ℕ) (i : ℕ) where
  -- a deal that is accepted is of this secret with these coins, and a message that is accepted is a dealt one
  abbrev pub CallDealt : Record → Call → Type 0
  CallDealt x (deals secret' coins' lent) =
      (doing x (deals secret' coins' lent)).outcome.answer.no ≡ 0 → (secret' ≡ secret) × (coins' ≡ coins)
  CallDealt x (gets from bytes lent) =
      (doing x (gets from bytes lent)).outcome.answer.no ≡ 0 → Dealt u secret coins from i (message_in u bytes)
  CallDealt x (commanded lent) = Unit {0}

  -- each call so far is
  abbrev pub LifeDealt : List Call → Type 0
  LifeDealt cs = (call : Call) (before : List Call) → Past (call ∷ before) cs → CallDealt (after (own u i) before) call

  pub life_past : (past now : List Call) → Past past now → LifeDealt now → LifeDealt past
  life_past past now p dealt call before q = dealt call before (past_trans _ past now q p)

  pub life_before : (c : Call) (cs : List Call) → LifeDealt (c ∷ cs) → LifeDealt cs
  life_before c cs = life_past cs (c ∷ cs) (past_more c cs cs (past_self cs))

module _ (u : SetUp) (secret : ℕ) (coins : List ℕ) (h : Deal u secret coins) (i : ℕ) (box-i : is_box u i ≡ true) where
  abbrev me : SetUp
  me = own u i

  pub is_taken : (set_up (own u i)).answer.no ≡ 0
  is_taken = own_taken u h.group_keeps_lem h.numbers_keep_lem i box-i

  abbrev C₀ : List (List Element)
  C₀ = dealt_matrix u secret coins

  -- ---- what was said

  -- the matrix and the point of a dealt echo or ready
  point_parts : (b : Side) (from : ℕ) (bytes : List ℕ) → tag_in bytes ≡ ear b + 1 → Dealt u secret coins from i (message_in u bytes)
      → (matrix_in u bytes ≡ C₀) × (four_in u bytes ≡ dealt_point u secret coins from i)
  point_parts ByEcho from bytes e d = rw (is_echo_lem u bytes e) at d
  point_parts ByReady from bytes e d = rw (is_ready_lem u bytes e) at d

  -- an echo or a ready that is checked now
  point_now : (cs : List Call) (b : Side) (m from : ℕ) (bytes : List ℕ) (lent : ℕ) (D : List (List Element))
      → CallDealt u secret coins i (after me cs) (gets from bytes lent)
      → checks_now (after me cs) (gets from bytes lent) (ear b + 1) m D ≡ true
      → (same_matrix u.k C₀ D ≡ true) × (four_in (after me cs).setup bytes ≡ dealt_point u secret coins m i)
  unfolding checks_now matrix_in four_in
  point_now cs b m from bytes lent D dealt e =
      let x = after me cs in
      let e1 = and_right (eqb (doing x (gets from bytes lent)).outcome.answer.no 0) _ e in
      let e2 = and_right (eqb from m) _ e1 in
      let e3 = and_right (eqb (tag_in bytes) (ear b + 1)) _ e2 in
      let sender : from ≡ m = eqb-true from m (and_left _ _ e1) in
      let parts = point_parts b from bytes (eqb-true (tag_in bytes) (ear b + 1) (and_left _ _ e2)) (dealt (eqb-true _ 0 (and_left _ _ e))) in
      let set_up_lem = own_setup me is_taken cs in
      let same : same_matrix u.k (matrix_in u bytes) D ≡ true =
      subst (λ (v : SetUp). same_matrix v.k (matrix_in v bytes) D ≡ true) set_up_lem e3 in (
        subst (λ (C : List (List Element)). same_matrix u.k C D ≡ true) parts.0 same,
        ap (λ (v : SetUp). four_in v bytes) set_up_lem ∙ parts.1 ∙ ap (λ (j : ℕ). dealt_point u secret coins j i) sender,
      )

  pub said_dealt : (cs : List Call) → LifeDealt u secret coins i cs → (m : ℕ) (D : List (List Element)) (f : Four) → said me cs m D ≡ Held f
      → (same_matrix u.k C₀ D ≡ true) × (f ≡ dealt_point u secret coins m i)
  unfolding said checks_now
  said_dealt [] dealt m D f e = let z : ◌≡◌ {A = ℕ} 0 1 = cc in absurd (omega arith)
  said_dealt (deals s c lent ∷ cs) dealt m D f e = said_dealt cs (life_before u secret coins i _ cs dealt) m D f e
  said_dealt (commanded lent ∷ cs) dealt m D f e = said_dealt cs (life_before u secret coins i _ cs dealt) m D f e
  said_dealt (gets from bytes lent ∷ cs) dealt m D f e =
      let ih = said_dealt cs (life_before u secret coins i _ cs dealt) m D f in
      let now = dealt (gets from bytes lent) cs (past_self _) in
      pick-either (λ (p : Point). p ≡ Held f → (same_matrix u.k C₀ D ≡ true) × (f ≡ dealt_point u secret coins m i))
      (takes_now (after me cs) (gets from bytes lent) m D) _ _
      (λ takes q.
      ⊎_elim ih
      (λ new.
      let w =
      ⊎_elim (point_now cs ByEcho m from bytes lent D now) (point_now cs ByReady m from bytes lent D now) (or_cases _ _ takes) in
      (w.0, sym new ∙ w.1))
      (first_cases (said me cs m D) (four_of (after me cs) (gets from bytes lent)) f q))
      (λ not-now. ih)
      e

  -- ---- the slots in use, and their points

  held_some : (p : Point) → is_held p ≡ true → (f : Four) × (p ≡ Held f)
  held_some Silent e = absurd (true≢false (sym e))
  held_some (Held f) e = (f, refl)

  module _ (cs : List Call) (dealt : LifeDealt u secret coins i cs) (s : ℕ) (l : s < 20) where
    abbrev slot : Slot
    slot = slot_at (after me cs) s

    facts : SlotFacts me slot
    facts = facts_at me is_taken cs s l

    -- a held place says what was dealt, for the dealt matrix
    place_says : (m : ℕ) (f : Four) → m < 10 → (place_at slot m).point ≡ Held f
        → (same_matrix u.k C₀ (matrix_of slot) ≡ true) × (f ≡ dealt_point u secret coins (m + 1) i)
    place_says m f lm e =
        let used = facts.in_use ∙ any_below_here (held slot) 10 m lm (ap is_held e) in
        said_dealt cs dealt (m + 1) (matrix_of slot) f (sym (places_say me is_taken cs s m l lm used) ∙ e)

    pub point_dealt : (m : ℕ) (f : Four) → m < 10 → (place_at (slot_at (after (own u i) cs) s) m).point ≡ Held f
        → f ≡ dealt_point u secret coins (m + 1) i
    point_dealt m f lm e = (place_says m f lm e).1

    -- a slot in use has a held place
    pub matrix_dealt : (slot_at (after (own u i) cs) s).used ≡ true → matrix_of (slot_at (after (own u i) cs) s) ≡ dealt_matrix u secret coins
    matrix_dealt used =
        let some = any_below_some (held slot) 10 (sym facts.in_use ∙ used) in
        let f = held_some (place_at slot some.0).point some.2 in
        let room = slot_room u h.group_keeps_lem (size u (sound u secret coins h)).high slot ((good me is_taken cs).shape.slot s l)
        facts.contents.zero (facts.contents.passes used) in
        sym (agree_equal u.k C₀ (matrix_of slot) (matrix_room u secret coins h) room (place_says some.0 f.0 some.1 f.1).0)

  -- ---- what k points give

  pub coins_own : coins_keep (own u i) secret coins ≡ true
  unfolding coins_keep
  coins_own = h.coins_keep_lem

  -- the points of a slot with a pair give what this box says in a ready, and its share
  slot_gives : (cs : List Call) → LifeDealt u secret coins i cs → (D : List (List Element)) → is_some (slot_of (after me cs) D).pair ≡ true
      → ((j : ℕ) → ready_four (order u) (take u.k (points (slot_of (after me cs) D).places)) j ≡ dealt_point u secret coins i j)
      × (pair_from (order u) (take u.k (points (slot_of (after me cs) D).places)) ≡ dealt_share u secret coins i)
  unfolding f_of f'_of from_coins
  slot_gives cs dealt D there =
      points_give me (numbers_keep_lem me is_taken) secret coins coins_own i _
      (said_differ me is_taken D (λ m f. f ≡ dealt_point u secret coins m i) cs (λ m f e. (said_dealt cs dealt m D f e).1) there)

  module _ (cs : List Call) (dealt : LifeDealt u secret coins i cs) (s : ℕ) (l : s < 20)
      (there : is_some (slot_at (after (own u i) cs) s).pair ≡ true) where
    pub used_then : (slot_at (after (own u i) cs) s).used ≡ true
    used_then =
        let low = (size u (sound u secret coins h)).low in
        used_there me (slot_at (after me cs) s) (facts cs dealt s l) (omega arith) there

    here : slot_of (after me cs) (matrix_of (slot_at (after me cs) s)) ≡ slot_at (after me cs) s
    here = slot_used (after me cs) (good me is_taken cs) s l used_then

    pub ready_dealt : (j : ℕ)
        → ready_four (order u) (take u.k (points (slot_at (after (own u i) cs) s).places)) j ≡ dealt_point u secret coins i j
    ready_dealt j =
        ap (λ (w : Slot). ready_four (order u) (take u.k (points w.places)) j) (sym here)
        ∙ (slot_gives cs dealt _ (ap (λ (w : Slot). is_some w.pair) here ∙ there)).0 j

    pub pair_dealt : (p : Pair) → (slot_at (after (own u i) cs) s).pair ≡ Some p → p ≡ dealt_share u secret coins i
    pair_dealt p e =
        pair_holds me is_taken (matrix_of (slot_at (after me cs) s)) (λ v. v ≡ dealt_share u secret coins i) cs
        (λ now q kept passes. (slot_gives now (life_past u secret coins i now cs q dealt) _ kept).1) p
        (ap (λ (w : Slot). w.pair) here ∙ e)

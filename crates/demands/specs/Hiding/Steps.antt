-- The steps of a moved record are the moved steps.
--
-- In order: two steps alike; parts of a moved record; the slot of a matrix, opened and taken into; the steps of each message.
-- Assumes nothing.
use Rattle.std.specs.Prelude.{◌≡◌, ◌⊎◌, ltb}
use Rattle.std.proofs.Math.Path.{refl, sym, ap, ap₂, subst}
use Rattle.std.proofs.Common.{◌∙◌, zero-add}
use Rattle.std.proofs.Math.Bool.{true, false, not}
use Rattle.std.proofs.Math.Logic.{inl, inr}
use mathlib.Core.List.{List, [], map}
use Prim.Native.Nat.{ℕ, ◌+◌, ◌*◌}
use Rattle.std.proofs.Math.ListN.{set, take}
use Rattle.folds.specs.Tests.{◌and◌, pick, pick_two}
use Rattle.folds.specs.Below.{first_from_same}
use Rattle.folds.specs.Stores.{map_from, map_from-set, map-set}
use Rattle.rules.specs.declared.Element.{Element}
use Rattle.rules.specs.declared.Four.{Four}
use Rattle.rules.specs.declared.Pair.{Pair}
use Rattle.rules.specs.declared.Place.{Place}
use Rattle.rules.specs.declared.Point.{Point}
use Rattle.rules.specs.declared.Point.TheVariants.{Silent, Held}
use Rattle.rules.specs.declared.Polynomials.{Polynomials}
use Rattle.rules.specs.declared.Record.{Record}
use Rattle.rules.specs.declared.Slot.{Slot}
use Rattle.rules.specs.Matrices.{zero_four}
use Rattle.rules.specs.declared.Message.TheVariants.{Echo as echo, Ready as ready}
use Rattle.rules.specs.Messages.{tag_of, bytes_of}
use Rattle.rules.specs.Record.{slot_at, place_at, matrix_of, count_e, count_r, same_matrix, zero_slot}
use Rattle.rules.specs.Steps.{with_slots, Said, pair_from, ready_four, echo_four, points, own_slot, free_slot, slot_for, opened, first_point, holding, keeping, Step, quiet, send_step, with_slot, ready_sent, lowest, completing, completed, completion_due, point_at, point_step, taken, ready_due}
use Rattle.rules.proofs.Laws.Checks.{echo_below, ready_below}
use Rattle.rules.specs.declared.Side.{Side}
use Rattle.rules.specs.declared.Side.TheVariants.{ByEcho, ByReady}
use Rattle.rules.proofs.Laws.Kept.OpenSlot.{fresh}
use Rattle.demands.specs.Terms.Histories.{own}
use Rattle.demands.specs.Terms.Dealing.{Different}
use Rattle.demands.specs.Hiding.Moves.{Twice, numbers, q, dealt, zed, moved_four, moved_pair, moved_polynomials, moved_point, moved_place, moved_said, moved_slot, moved_record, slot_moved, place_moved, lowest_moved}
use Rattle.demands.specs.Hiding.Hypotheses.{Given, q_some}
use Rattle.demands.specs.Hiding.Values.{echo_moved, ready_moved, pair_moved}
use Rattle.demands.specs.Hiding.SentTwice.{Twin}
use Rattle.demands.specs.Own.{own_each, each_same, ready_bytes}

-- ---- two steps alike

-- nothing is sent by either, or the one's messages moved by the other
abbrev pub SentAlike : Twice → ℕ → List ℕ → List ℕ → Type 0
SentAlike t i a b = ((a ≡ []) × (b ≡ [])) ⊎ Twin t i a b

pub record MovedStep (t : Twice) (i : ℕ) (st st' : Step) : Type 0 where
  pub after : st'.after ≡ moved_record t i st.after
  pub sent : st.sent ≡ st'.sent
  pub completed : st.completed ≡ st'.completed
  pub recovered : st.recovered ≡ st'.recovered
  pub bytes : SentAlike t i st.bytes st'.bytes

pub quiet_moved : (t : Twice) (i : ℕ) (x : Record) → MovedStep t i (quiet x) (quiet (moved_record t i x))
quiet_moved t i x = record { after = refl; sent = refl; completed = refl; recovered = refl; bytes = inl (refl, refl) }

-- ---- parts of a moved record

module _ (t : Twice) (i : ℕ) where
  pub matrix_moved : (slot : Slot) → matrix_of (moved_slot t i slot) ≡ matrix_of slot
  unfolding matrix_of moved_slot
  matrix_moved slot = refl

  pub e_moved : (slot : Slot) → count_e (moved_slot t i slot) ≡ count_e slot
  unfolding count_e moved_slot
  e_moved slot = refl

  pub r_moved : (slot : Slot) → count_r (moved_slot t i slot) ≡ count_r slot
  unfolding count_r moved_slot
  r_moved slot = refl

  pub used_moved : (slot : Slot) → (moved_slot t i slot).used ≡ slot.used
  unfolding moved_slot
  used_moved slot = refl

  slot_put : (x : Record) (s : ℕ) (slot : Slot) → with_slot (moved_record t i x) s (moved_slot t i slot) ≡ moved_record t i (with_slot x s slot)
  slot_put x s slot =
      ap (with_slots x) (sym (map-set (moved_slot t i) x.slots s slot))

  -- ---- the slot of a matrix

  own_slot_lem : (x : Record) (C : List (List Element)) → own_slot (moved_record t i x) C ≡ own_slot x C
  unfolding own_slot
  own_slot_lem x C =
      first_from_same _ _ (λ s.
      ap (λ (v : Slot). v.used and same_matrix x.setup.k (matrix_of v) C) (slot_moved t i x s)
      ∙ ap₂ (λ b D. b and same_matrix x.setup.k D C) (used_moved (slot_at x s)) (matrix_moved (slot_at x s))) 20 0

  free_slot_lem : (x : Record) → free_slot (moved_record t i x) ≡ free_slot x
  unfolding free_slot
  free_slot_lem x = first_from_same _ _ (λ s. ap (λ (v : Slot). not v.used) (slot_moved t i x s) ∙ ap not (used_moved (slot_at x s))) 20 0

  slot_for_lem : (x : Record) (C : List (List Element)) → slot_for (moved_record t i x) C ≡ slot_for x C
  unfolding slot_for
  slot_for_lem x C = ap₂ (λ a b. pick (ltb a 20) a b) (own_slot_lem x C) (free_slot_lem x)

  -- a slot just opened has nothing to move
  opened_moved : (C : List (List Element)) (slot : Slot) → opened C (moved_slot t i slot) ≡ moved_slot t i (opened C slot)
  unfolding opened moved_slot zero_slot map_from fresh
  opened_moved C slot =
      elim slot.used as (λ b. pick b (moved_slot t i slot) (fresh C) ≡ moved_slot t i (pick b slot (fresh C)))
      [ true ↦ refl | false ↦ refl ]

  first_moved : (w : ℕ) (p : Point) (f : Four) → first_point (moved_point t w p) (moved_four t w f) ≡ moved_point t w (first_point p f)
  first_moved w Silent f = refl
  first_moved w (Held g) f = refl

  holding_moved : (slot : Slot) (m : ℕ) (f : Four)
      → holding (moved_slot t i slot) m (moved_four t (zed t i * zed t (m + 1)) f) ≡ map_from (moved_place t i) 0 (holding slot m f)
  unfolding moved_slot
  holding_moved slot m f =
      let w : ℕ = zed t i * zed t (m + 1) in
      let put : Point → List Place = λ p. set (map_from (moved_place t i) 0 slot.places) m (record { point = p }) in
      let new : Place = record { point = first_point (place_at slot m).point f } in
      ap (λ (p : Place). put (first_point p.point (moved_four t w f))) (place_moved t i slot m)
      ∙ ap put (first_moved w (place_at slot m).point f)
      ∙ ap (λ (j : ℕ). put (moved_place t i j new).point) (sym (zero-add m))
      ∙ sym (map_from-set (moved_place t i) slot.places 0 m new)

  taken_moved : (b : Side) (slot : Slot) (m : ℕ) (f : Four)
      → taken b (moved_slot t i slot) m (moved_four t (zed t i * zed t (m + 1)) f) ≡ moved_slot t i (taken b slot m f)
  unfolding moved_slot
  taken_moved b slot m f = rw (holding_moved slot m f)

  keeping_moved : (slot : Slot) (p : Pair) → keeping (moved_slot t i slot) (moved_pair t (zed t i * zed t 0) p) ≡ moved_slot t i (keeping slot p)
  unfolding keeping moved_slot
  keeping_moved slot p = refl

-- what a slot has to have when ready is sent from it: points of k different boxes, for the dealt matrix
abbrev pub Ripe : Twice → Slot → Type 0
Ripe t slot =
    Different (numbers t) zero_four (take (numbers t).k (points slot.places)) (λ m f. Unit {0})
    × (same_matrix (numbers t).k (matrix_of slot) (dealt t) ≡ true)

module _ (t : Twice) (h : Given t) (i : ℕ) where
  -- ---- the steps, of a record of box i

  -- a send of the dealt matrix
  pub send_moved : (x : Record) → x.setup ≡ own (numbers t) i → (P : Polynomials)
      → MovedStep t i (send_step x (dealt t) P) (send_step (moved_record t i x) (dealt t) (moved_polynomials t i P))
  unfolding send_step tag_of
  send_moved x e P =
      record {
        after = refl;
        sent = refl;
        completed = refl;
        recovered = refl;
        bytes = inr (record {
          says = λ j. echo (dealt t) (echo_four (q t) (numbers t).k P j);
          tag = 2;
          one_tag = λ j. refl;
          proper = λ j. (refl, echo_below (q t) (q_some t h) (numbers t).k P j);
          first = rw e (own_each (numbers t) i _);
          second = rw e (own_each (numbers t) i _
              ∙ each_same (numbers t) _ _ (λ j. ap (λ (f : Four). bytes_of (numbers t) (echo (dealt t) f)) (echo_moved t h i j P)));
        });
      }

  module _ (x : Record) (e : x.setup ≡ own (numbers t) i) (s : ℕ) (slot : Slot) where
    lowest_points : lowest (moved_record t i x) (moved_slot t i slot) ≡ map (moved_said t i) (lowest x slot)
    lowest_points = lowest_moved t i slot x.setup.k

    ready_sent_lem : Ripe t slot
        → MovedStep t i (ready_sent x s slot (lowest x slot))
        (ready_sent (moved_record t i x) s (moved_slot t i slot) (lowest (moved_record t i x) (moved_slot t i slot)))
    unfolding ready_sent tag_of
    ready_sent_lem ripe =
        let ps : List (Said Four) = take (numbers t).k (points slot.places) in
        rw (lowest_points, e)
        (record {
          after =
              rw (pair_moved t h i ps ripe.0, keeping_moved t i slot (pair_from (q t) ps))
              (rw (← e) (slot_put t i x s (keeping slot (pair_from (q t) ps))));
          sent = refl;
          completed = refl;
          recovered = refl;
          bytes = inr (record {
            says = λ j. ready (dealt t) (ready_four (q t) ps j);
            tag = 3;
            one_tag = λ j. refl;
            proper = λ j. (refl, ready_below (q t) (q_some t h) ps j);
            first = own_each (numbers t) i _ ∙ each_same (numbers t) _ _ (λ j. ready_bytes (numbers t) _ _ _ ripe.1);
            second = own_each (numbers t) i _ ∙ each_same (numbers t) _ _ (λ j.
                ap₂ (λ C f. bytes_of (numbers t) (ready C f)) (matrix_moved t i slot) (ready_moved t h i ps ripe.0 j)
                ∙ ready_bytes (numbers t) _ _ _ ripe.1);
          });
        })

    still_moved : MovedStep t i (quiet (with_slot x s slot)) (quiet (with_slot (moved_record t i x) s (moved_slot t i slot)))
    still_moved = rw (slot_put t i x s slot) (quiet_moved t i (with_slot x s slot))

    done_moved : MovedStep t i (completed (with_slot x s slot) s) (completed (with_slot (moved_record t i x) s (moved_slot t i slot)) s)
    unfolding completed completing
    done_moved =
        subst (λ (y : Record). MovedStep t i (completed (with_slot x s slot) s) (completed y s)) (sym (slot_put t i x s slot))
        (record { after = refl; sent = refl; completed = refl; recovered = refl; bytes = inl (refl, refl) })

    due_moved : (b : Side) → ready_due x.setup b (moved_slot t i slot) ≡ ready_due x.setup b slot
    due_moved ByEcho = rw (e_moved t i slot, r_moved t i slot)
    due_moved ByReady = rw (e_moved t i slot, r_moved t i slot)

    completion_moved : (b : Side) → completion_due x.setup b (moved_slot t i slot) ≡ completion_due x.setup b slot
    completion_moved ByEcho = refl
    completion_moved ByReady = rw (r_moved t i slot)

    point_at_lem : (b : Side) → (ready_due x.setup b slot ≡ true → Ripe t slot)
        → MovedStep t i (point_at b x s slot) (point_at b (moved_record t i x) s (moved_slot t i slot))
    unfolding point_at
    point_at_lem b ripe =
        rw (due_moved b, completion_moved b)
        (pick_two (MovedStep t i) (ready_due x.setup b slot) _ _ _ _ (λ w. ready_sent_lem (ripe w))
        (λ w. pick_two (MovedStep t i) (completion_due x.setup b slot) _ _ _ _ (λ c. done_moved) (λ c. still_moved)))

  -- a message of side b from sender m + 1 is taken into the slot of its matrix
  module _ (x : Record) (e : x.setup ≡ own (numbers t) i) (m : ℕ) (C : List (List Element)) (f : Four) where
    abbrev here : ℕ
    here = slot_for x C

    open_here : opened C (slot_at (moved_record t i x) (slot_for (moved_record t i x) C)) ≡ moved_slot t i (opened C (slot_at x here))
    open_here =
        ap (λ (s : ℕ). opened C (slot_at (moved_record t i x) s)) (slot_for_lem t i x C)
        ∙ ap (opened C) (slot_moved t i x here)
        ∙ opened_moved t i C (slot_at x here)

    abbrev pub RipeAt : Side → Type 0
    RipeAt b = ready_due x.setup b (taken b (opened C (slot_at x here)) m f) ≡ true → Ripe t (taken b (opened C (slot_at x here)) m f)

    pub point_step_moved : (b : Side) → RipeAt b
        → MovedStep t i (point_step b x m C f) (point_step b (moved_record t i x) m C (moved_four t (zed t i * zed t (m + 1)) f))
    unfolding point_step
    point_step_moved b ripe =
        let slot : Slot = taken b (opened C (slot_at x here)) m f in
        subst (MovedStep t i (point_at b x here slot))
        (sym (ap₂ (λ s v. point_at b (moved_record t i x) s (taken b v m (moved_four t (zed t i * zed t (m + 1)) f))) (slot_for_lem t i x C) open_here
        ∙ ap (point_at b (moved_record t i x) here) (taken_moved t i b (opened C (slot_at x here)) m f)))
        (point_at_lem x e here slot b ripe)

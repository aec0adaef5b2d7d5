-- The moves of demand 3: what the second of two runs holds and sends where the first holds and sends this.
--
-- In order: two deals; a number, a point, a pair, polynomials moved; a message from box i to box j; a record of box i; what stands where
-- in a moved record, and the points that it holds.
-- Assumes nothing.
use Rattle.std.specs.Prelude.{◌≡◌, refl, Bool, List, map, ℕ, ◌+◌, ◌*◌, ◌%◌, take, get_or}
use Rattle.std.proofs.Math.Path.{ap, sym}
use Rattle.std.proofs.Common.{◌∙◌, zero-add}
use Rattle.std.proofs.Math.ListN.{get_or-map}
use Rattle.folds.specs.Stores.{map_from, get_or-map_from}
use Rattle.folds.specs.Runs.{gather-same, map-gather, map-take}
use Rattle.rules.specs.declared.Element.{Element}
use Rattle.rules.specs.declared.Exponent.{Exponent}
use Rattle.rules.specs.declared.Four.{Four}
use Rattle.std.specs.Prelude.{Option, Some, None}
use Rattle.rules.specs.declared.Pair.{Pair}
use Rattle.rules.specs.declared.Place.{Place}
use Rattle.rules.specs.declared.Point.{Point}
use Rattle.rules.specs.declared.Point.TheVariants.{Silent, Held}
use Rattle.rules.specs.declared.Polynomials.{Polynomials}
use Rattle.rules.specs.declared.Record.{Record}
use Rattle.rules.specs.declared.SetUp.{SetUp}
use Rattle.rules.specs.declared.Slot.{Slot}
use Rattle.rules.specs.Numbers.{exponent}
use Rattle.rules.specs.Matrices.{row, coefficient, α, α', β, β'}
use Rattle.rules.specs.declared.Message.{Message}
use Rattle.rules.specs.declared.Message.TheVariants.{Send as send, Echo as echo, Ready as ready, Recovery as recovery}
use Rattle.rules.specs.Record.{silent, no_slot, slot_at, place_at}
use Rattle.rules.specs.Steps.{Said, with_slots, held_at, points}
use Rattle.demands.specs.Terms.Histories.{Class}
use Rattle.demands.specs.Terms.Dealing.{order, dealt_matrix}
use Rattle.demands.specs.Terms.Secrets.{z, difference, difference', matching}
use Rattle.demands.specs.Matching.{z_at}

-- ---- two deals

-- in one class: of s with these coins, and of s' with the matching ones
pub record Twice : Type 0 where
  pub class : Class
  pub s : ℕ
  pub s' : ℕ
  pub coins : List ℕ

module _ (t : Twice) where
  abbrev pub numbers : SetUp
  numbers = t.class.numbers

  abbrev pub in_set : ℕ → Bool
  in_set = t.class.breaks

  abbrev pub q : ℕ
  q = order numbers

  abbrev pub coins' : List ℕ
  coins' = matching numbers in_set t.s t.s' t.coins

  -- the matrix of both
  abbrev pub dealt : List (List Element)
  dealt = dealt_matrix numbers t.s t.coins

  -- z(x)
  abbrev pub zed : ℕ → ℕ
  zed x = z_at numbers in_set x

  -- ---- numbers moved by δ w, and by δ' w

  abbrev pub shifted : ℕ → ℕ → ℕ
  shifted w x = (x + difference numbers t.s t.s' * w) % q

  abbrev pub shifted' : ℕ → ℕ → ℕ
  shifted' w x = (x + difference' numbers t.s t.s' * w) % q

  abbrev pub moved_four : ℕ → Four → Four
  moved_four w f =
      record {
        alpha = exponent (shifted w (α f));
        alpha2 = exponent (shifted' w (α' f));
        beta = exponent (shifted w (β f));
        beta2 = exponent (shifted' w (β' f));
      }

  abbrev pub moved_pair : ℕ → Pair → Pair
  moved_pair w p = record { first = exponent (shifted w p.first.0); second = exponent (shifted' w p.second.0) }

  -- the coefficients of what box j gets from the dealer, by z(j) z
  unfoldable pub moved_by : (ℕ → ℕ → ℕ) → ℕ → List Exponent → List Exponent
  moved_by shift j a = row numbers.k (exponent 0) (λ l. exponent (shift (zed j * z numbers in_set l) (coefficient a l)))

  abbrev pub moved_polynomials : ℕ → Polynomials → Polynomials
  moved_polynomials j P =
      record {
        a = moved_by shifted j P.a;
        a2 = moved_by shifted' j P.a2;
        b = moved_by shifted j P.b;
        b2 = moved_by shifted' j P.b2;
      }

  -- a message from box i to box j
  abbrev pub moved_message : ℕ → ℕ → Message → Message
  moved_message i j (send C P) = send C (moved_polynomials j P)
  moved_message i j (echo C f) = echo C (moved_four (zed i * zed j) f)
  moved_message i j (ready C f) = ready C (moved_four (zed i * zed j) f)
  moved_message i j (recovery p) = recovery p

  -- ---- a record of box i

  abbrev pub moved_point : ℕ → Point → Point
  moved_point w Silent = Silent
  moved_point w (Held f) = Held (moved_four w f)

  abbrev pub moved_kept : ℕ → Option Pair → Option Pair
  moved_kept w None = None
  moved_kept w (Some p) = Some (moved_pair w p)

  -- place m, of box m + 1
  abbrev pub moved_place : ℕ → ℕ → Place → Place
  moved_place i m p = record { point = moved_point (zed i * zed (m + 1)) p.point }

  -- what a box has said to box i
  abbrev pub moved_said : ℕ → Said Four → Said Four
  moved_said i p = record { box = p.box; says = moved_four (zed i * zed p.box) p.says }

  unfoldable pub moved_slot : ℕ → Slot → Slot
  moved_slot i slot =
      record {
        used = slot.used;
        rows = slot.rows;
        places = map_from (moved_place i) 0 slot.places;
        echoed = slot.echoed;
        readied = slot.readied;
        pair = moved_kept (zed i * zed 0) slot.pair;
      }

  abbrev pub moved_record : ℕ → Record → Record
  moved_record i x = with_slots x (map (moved_slot i) x.slots)

  -- ---- what stands where

  pub slot_moved : (i : ℕ) (x : Record) (s : ℕ) → slot_at (moved_record i x) s ≡ moved_slot i (slot_at x s)
  unfolding moved_slot map_from
  slot_moved i x s = get_or-map (moved_slot i) x.slots s no_slot

  pub place_moved : (i : ℕ) (slot : Slot) (m : ℕ) → place_at (moved_slot i slot) m ≡ moved_place i m (place_at slot m)
  unfolding moved_slot
  place_moved i slot m =
      get_or-map_from (moved_place i) silent (λ m. refl) slot.places 0 m ∙ ap (λ (j : ℕ). moved_place i j (place_at slot m)) (zero-add m)

-- its points, and the k lowest of them
module _ (t : Twice) (i : ℕ) (slot : Slot) where
  point_moved : (m : ℕ) (p : Point) → held_at m (moved_point t (zed t i * zed t (m + 1)) p) ≡ map (moved_said t i) (held_at m p)
  point_moved m Silent = refl
  point_moved m (Held f) = refl

  pub points_moved : points (moved_slot t i slot).places ≡ map (moved_said t i) (points slot.places)
  unfolding points
  points_moved =
      gather-same _ _ 10 (λ m l. ap (λ (p : Place). held_at m p.point) (place_moved t i slot m) ∙ point_moved m (place_at slot m).point)
      ∙ sym (map-gather (moved_said t i) (λ m. held_at m (get_or slot.places m silent).point) 10)

  pub lowest_moved : (k : ℕ) → take k (points (moved_slot t i slot).places) ≡ map (moved_said t i) (take k (points slot.places))
  lowest_moved k = ap (take k) points_moved ∙ sym (map-take (moved_said t i) k (points slot.places))

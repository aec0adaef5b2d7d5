-- Document 01, "Steps of a box": what a checked message and a taken command make of the record, and what they send.
--
-- In order: changes of the record, one a part; points and interpolation; the slot of a matrix; the steps.
-- Assumes nothing.
use Rattle.std.specs.Prelude.{Bool, true, false, not, List, [], ◌∷◌, map, ℕ, ◌+◌, ◌-◌, eqb, ltb, length, get_or, set, take}
use Rattle.folds.specs.Tests.{◌and◌, pick}
use Rattle.folds.specs.Below.{first_from}
use Rattle.folds.specs.Runs.{gather}
use Rattle.algebra.specs.Interpolation.{interpolate}
use Rattle.rules.specs.declared.Element.{Element}
use Rattle.rules.specs.declared.Four.{Four}
use Rattle.rules.specs.declared.Pair.{Pair}
use Rattle.rules.specs.declared.Polynomials.{Polynomials}
use Rattle.rules.specs.declared.Point.{Point}
use Rattle.rules.specs.declared.Point.TheVariants.{Silent, Held}
use Rattle.rules.specs.declared.Place.{Place}
use Rattle.std.specs.Prelude.{Option, Some, None, is_some}
use Rattle.rules.specs.declared.Marks.{Marks}
use Rattle.rules.specs.declared.Slot.{Slot}
use Rattle.rules.specs.declared.Progress.{Progress}
use Rattle.rules.specs.declared.Record.{Record}
use Rattle.rules.specs.declared.SetUp.{SetUp}
use Rattle.rules.specs.declared.Side.{Side}
use Rattle.rules.specs.declared.Side.TheVariants.{ByEcho, ByReady}
use Rattle.rules.specs.declared.Sent.{Sent}
use Rattle.rules.specs.declared.Sent.TheVariants.{Nothing, Send, Echo, Ready, Recovery}
use Rattle.rules.specs.Numbers.{exponent, echo_quorum}
use Rattle.rules.specs.Matrices.{α, α', β, β'}
use Rattle.rules.specs.declared.Message.{Message}
use Rattle.rules.specs.declared.Message.TheVariants.{Send as send, Echo as echo, Ready as ready, Recovery as recovery}
use Rattle.rules.specs.Messages.{to_each}
use Rattle.rules.specs.Dealing.{value_at, f_of, f'_of, commitment, polynomials_of}
use Rattle.rules.specs.Record.{silent, no_marks, group_in, slot_at, place_at, share_at, matrix_of, same_matrix, shares_kept, zero_slot, count_e, count_r}

-- ---- one part of the record anew

abbrev pub with_slots : Record → List Slot → Record
with_slots x v = record { setup = x.setup; slots = v; heard = x.heard; progress = x.progress; shares = x.shares; recovered = x.recovered }

abbrev pub with_heard : Record → List Marks → Record
with_heard x v = record { setup = x.setup; slots = x.slots; heard = v; progress = x.progress; shares = x.shares; recovered = x.recovered }

abbrev pub with_progress : Record → Progress → Record
with_progress x v = record { setup = x.setup; slots = x.slots; heard = x.heard; progress = v; shares = x.shares; recovered = x.recovered }

abbrev pub with_shares : Record → List (Option Pair) → Option Pair → Record
with_shares x v w = record { setup = x.setup; slots = x.slots; heard = x.heard; progress = x.progress; shares = v; recovered = w }

abbrev pub mark : Marks → ℕ → Marks
mark ms m = record { at = set ms.at m true }

-- the sender is heard for the tag
unfoldable pub heard : Record → ℕ → ℕ → Record
heard x tag m = with_heard x (set x.heard (tag - 1) (mark (get_or x.heard (tag - 1) no_marks) m))

-- ---- points and interpolation

-- what a box has said
pub record Said (A : Type 0) : Type 0 where
  pub box : ℕ
  pub says : A

-- the points that places hold, lowest box first: a silent place adds none
abbrev pub held_at : ℕ → Point → List (Said Four)
held_at m Silent = []
held_at m (Held f) = record { box = m + 1; says = f } ∷ []

unfoldable pub points : List Place → List (Said Four)
points places = gather 10 (λ m. held_at m (get_or places m silent).point)

-- the recovery shares kept, lowest box first
abbrev pub kept_at : ℕ → Option Pair → List (Said Pair)
kept_at m None = []
kept_at m (Some s) = record { box = m + 1; says = s } ∷ []

unfoldable pub share_points : List (Option Pair) → List (Said Pair)
share_points shares = gather 10 (λ m. kept_at m (share_at shares m))

-- the value at x of the polynomial through one number of each point
unfoldable pub through : {A : Type 0} → ℕ → List (Said A) → (A → ℕ) → ℕ → ℕ
through q ps number x =
    interpolate q (length ps) (λ i. get_or (map (λ p. p.box) ps) i 0) (λ i. get_or (map (λ p. number p.says) ps) i 0) x

-- "a and a' come from β, β', and b and b' from α, α'": the pair (a(0), a'(0))
unfoldable pub pair_from : ℕ → List (Said Four) → Pair
pair_from q ps = record { first = exponent (through q ps β 0); second = exponent (through q ps β' 0) }

-- a(j), a'(j), b(j), b'(j) from points
unfoldable pub ready_four : ℕ → List (Said Four) → ℕ → Four
ready_four q ps j =
    record {
      alpha = exponent (through q ps β j);
      alpha2 = exponent (through q ps β' j);
      beta = exponent (through q ps α j);
      beta2 = exponent (through q ps α' j);
    }

-- a(j), a'(j), b(j), b'(j) from coefficients
unfoldable pub echo_four : ℕ → ℕ → Polynomials → ℕ → Four
echo_four q k P j =
    record {
      alpha = exponent (value_at q k P.a j);
      alpha2 = exponent (value_at q k P.a2 j);
      beta = exponent (value_at q k P.b j);
      beta2 = exponent (value_at q k P.b2 j);
    }

-- the pair interpolated at 0 from recovery shares
unfoldable pub recovered_from : ℕ → List (Said Pair) → Pair
recovered_from q ps =
    record { first = exponent (through q ps (λ s. s.first.0) 0); second = exponent (through q ps (λ s. s.second.0) 0) }

-- ---- the slot of a matrix

-- in use with this matrix; else "a new one takes the lowest unused of 20 numbered places"
unfoldable pub own_slot : Record → List (List Element) → ℕ
own_slot x C = first_from 20 0 (λ s. (slot_at x s).used and same_matrix x.setup.k (matrix_of (slot_at x s)) C)

unfoldable pub free_slot : Record → ℕ
free_slot x = first_from 20 0 (λ s. not (slot_at x s).used)

unfoldable pub slot_for : Record → List (List Element) → ℕ
slot_for x C = pick (ltb (own_slot x C) 20) (own_slot x C) (free_slot x)

-- the slot as it stands if it is in use, else a new one for this matrix
unfoldable pub opened : List (List Element) → Slot → Slot
opened C slot =
    pick slot.used slot
    (record {
      used = true;
      rows = C;
      places = zero_slot.places;
      echoed = zero_slot.echoed;
      readied = zero_slot.readied;
      pair = zero_slot.pair;
    })

-- "A sender has one point per C, its first checked one, be it in echo or ready"
abbrev pub first_point : Point → Four → Point
first_point Silent f = Held f
first_point (Held g) f = Held g

abbrev pub holding : Slot → ℕ → Four → List Place
holding slot m f = set slot.places m (record { point = first_point (place_at slot m).point f })

-- the marks of a side, where a message of side b is taken
abbrev pub side_marks : Side → Side → Marks → ℕ → Marks
side_marks ByEcho ByEcho ms m = mark ms m
side_marks ByEcho ByReady ms m = ms
side_marks ByReady ByEcho ms m = ms
side_marks ByReady ByReady ms m = mark ms m

-- "its count e for this C goes up by one", "r for this C goes up by one"
abbrev pub taken : Side → Slot → ℕ → Four → Slot
taken b slot m f =
    record {
      used = slot.used;
      rows = slot.rows;
      places = holding slot m f;
      echoed = side_marks ByEcho b slot.echoed m;
      readied = side_marks ByReady b slot.readied m;
      pair = slot.pair;
    }

unfoldable pub keeping : Slot → Pair → Slot
keeping slot s =
    record {
      used = slot.used;
      rows = slot.rows;
      places = slot.places;
      echoed = slot.echoed;
      readied = slot.readied;
      pair = Some s;
    }

-- ---- the steps

-- what a step leaves, sends and tells
pub record Step : Type 0 where
  pub after : Record
  pub sent : Sent
  pub bytes : List ℕ
  pub completed : Bool
  pub recovered : Option Pair

abbrev pub quiet : Record → Step
quiet x = record { after = x; sent = Nothing; bytes = []; completed = false; recovered = None }

abbrev pub sending : Record → Sent → List ℕ → Step
sending x what bytes = record { after = x; sent = what; bytes = bytes; completed = false; recovered = None }

-- "Send, checked: echo to each j with a(j), a'(j), b(j), b'(j)."
unfoldable pub send_step : Record → List (List Element) → Polynomials → Step
send_step x C P = sending x Echo (to_each x.setup (λ j. echo C (echo_four (group_in x).q x.setup.k P j)))

-- slot s anew
abbrev pub with_slot : Record → ℕ → Slot → Record
with_slot x s slot = with_slots x (set x.slots s slot)

-- "interpolate and send ready"; "The record keeps that pair from then on"
unfoldable pub ready_sent : Record → ℕ → Slot → List (Said Four) → Step
ready_sent x s slot ps =
    sending (with_slot x s (keeping slot (pair_from (group_in x).q ps))) Ready
    (to_each x.setup (λ j. ready (matrix_of slot) (ready_four (group_in x).q ps j)))

-- "Interpolation uses the k lowest-numbered senders held"
abbrev pub lowest : Record → Slot → List (Said Four)
lowest x slot = take x.setup.k (points slot.places)

-- "complete with this C .. Only the first completion counts"
abbrev pub first_completion : Option ℕ → ℕ → Option ℕ
first_completion None s = Some s
first_completion (Some s') s = Some s'

unfoldable pub completing : Record → ℕ → Record
completing x s =
    with_progress x
    (record {
      dealt = x.progress.dealt;
      completion = first_completion x.progress.completion s;
      commanded = x.progress.commanded;
    })

unfoldable pub completed : Record → ℕ → Step
completed x s =
    record { after = completing x s; sent = Nothing; bytes = []; completed = not (is_some x.progress.completion); recovered = None }

-- "Echo, checked: its count e for this C goes up by one. If now e = E and r < k, interpolate and send ready."
-- "Ready, checked: r for this C goes up by one. If now r = k and e < E, interpolate and send ready;
abbrev pub ready_due : SetUp → Side → Slot → Bool
ready_due u ByEcho slot = eqb (count_e slot) (echo_quorum u) and ltb (count_r slot) u.k
ready_due u ByReady slot = eqb (count_r slot) u.k and ltb (count_e slot) (echo_quorum u)

-- else if r = k + t, complete with this C and share (a(0), a'(0)), taken from the polynomials interpolated when this box sent
-- ready for this C."
abbrev pub completion_due : SetUp → Side → Slot → Bool
completion_due u ByEcho slot = false
completion_due u ByReady slot = eqb (count_r slot) (u.k + u.t)

unfoldable pub point_at : Side → Record → ℕ → Slot → Step
point_at b x s slot =
    pick (ready_due x.setup b slot) (ready_sent x s slot (lowest x slot))
    (pick (completion_due x.setup b slot) (completed (with_slot x s slot) s) (quiet (with_slot x s slot)))

-- a checked echo or ready of sender m + 1
unfoldable pub point_step : Side → Record → ℕ → List (List Element) → Four → Step
point_step b x m C f = point_at b x (slot_for x C) (taken b (opened C (slot_at x (slot_for x C))) m f)

-- "Each checked recovery share from a new box is kept. At the k-th, give the pair interpolated at 0."
abbrev pub sharing : Record → ℕ → Pair → List (Option Pair)
sharing x m s = set x.shares m (Some s)

unfoldable pub recovering : Record → List (Option Pair) → Step
recovering x shares =
    pick (eqb (shares_kept shares) x.setup.k)
    (record {
      after = with_shares x shares (Some (recovered_from (group_in x).q (share_points shares)));
      sent = Nothing;
      bytes = [];
      completed = false;
      recovered = Some (recovered_from (group_in x).q (share_points shares));
    })
    (quiet (with_shares x shares x.recovered))

unfoldable pub share_step : Record → ℕ → Pair → Step
share_step x m s = recovering x (sharing x m s)

-- a checked message of sender m + 1, which is heard for its tag
abbrev pub message_step : Record → ℕ → Message → Step
message_step x m (send C P) = send_step (heard x 1 m) C P
message_step x m (echo C f) = point_step ByEcho (heard x 2 m) m C f
message_step x m (ready C f) = point_step ByReady (heard x 3 m) m C f
message_step x m (recovery s) = share_step (heard x 4 m) m s

-- the deal: a send to each box
unfoldable pub deal_step : Record → ℕ → List ℕ → Step
deal_step x secret coins =
    sending
    (with_progress x (record { dealt = true; completion = x.progress.completion; commanded = x.progress.commanded }))
    Send
    (to_each x.setup (λ j. send
    (commitment (group_in x) x.setup.k (f_of x.setup secret coins) (f'_of x.setup secret coins))
    (polynomials_of (group_in x).q x.setup.k (f_of x.setup secret coins) (f'_of x.setup secret coins) j)))

-- "Recovery command: send the share to each j."
abbrev pub completed_share : Record → Option ℕ → Option Pair
completed_share x None = None
completed_share x (Some s) = (slot_at x s).pair

abbrev pub share_bytes : SetUp → Option Pair → List ℕ
share_bytes u None = []
share_bytes u (Some s) = to_each u (λ j. recovery s)

unfoldable pub recover_step : Record → Step
recover_step x =
    sending
    (with_progress x (record { dealt = x.progress.dealt; completion = x.progress.completion; commanded = true }))
    Recovery
    (share_bytes x.setup (completed_share x x.progress.completion))

-- Document 01, "Steps of a box": where counts make a box send or complete, and which place a matrix takes.
--
-- In order: classes of ten boxes with t = 2 (k is 3 or 4, so k + t is 5 or 6, and E is 13/2 rounded up, 7); plays in which readies come
-- first, echoes, and the last boxes; a record with a gap between places in use; one that k + t readies did not complete; the twentieth
-- matrix; the statement.
-- Assumes nothing.
use Rattle.rules.specs.declared.Pair.{Pair}
use Rattle.std.specs.Prelude.{◌≡◌, refl, Bool, true, false, List, [], ◌∷◌, ◌++◌, map, ℕ, ◌+◌, ◌*◌, ◌-◌, ◌%◌, ◌^◌, eqb, length, get_or, set, take, drop, replicate}
use Rattle.folds.specs.Tests.{◌and◌, pick}
use Rattle.folds.specs.Runs.{gather}
use Rattle.rules.specs.declared.Answer.{Answer}
use Rattle.std.specs.Prelude.{Option, Some, None}
use Rattle.rules.specs.declared.Element.{Element}
use Rattle.rules.specs.declared.Four.{Four}
use Rattle.rules.specs.declared.Marks.{Marks}
use Rattle.rules.specs.declared.Record.{Record}
use Rattle.rules.specs.declared.SetUp.{SetUp}
use Rattle.rules.specs.declared.Side.TheVariants.{ByEcho, ByReady}
use Rattle.rules.specs.declared.Slot.{Slot}
use Rattle.rules.specs.declared.Sent.TheVariants.{Ready, Recovery}
use Rattle.rules.specs.Numbers.{element}
use Rattle.rules.specs.Matrices.{matrix, entry}
use Rattle.rules.specs.declared.Message.TheVariants.{Echo as echo, Ready as ready, Recovery as recovery}
use Rattle.rules.specs.Record.{slot_at, matrix_of, count_e, count_r, zero_slot, new_record}
use Rattle.rules.specs.Steps.{with_slots, with_heard, heard, opened, taken, keeping}
use Rattle.rules.specs.Computed.{computed}
use Rattle.rules.specs.HandSums.{class, sized, four, pair}
use Rattle.demands.specs.Terms.Histories.{Call, commanded, doing}
use Rattle.instances.specs.Plays.{Played, plays, quiet, sends, completes, recovers, from}

-- ---- ten boxes, two matrices

-- box 10; dealt by box 3 in session 65,535
abbrev ten : ℕ → SetUp
ten k = record { group = 1; n = 10; t = 2; k = k; i = 10; d = 3; session = 65535 }

-- f = c, f' = 0: every point of it is c, 0, c, 0, and every share c, 0
abbrev constant : ℕ → ℕ → List (List Element)
constant k c = matrix k (element 0) (λ j l. element (pick (eqb j 0 and eqb l 0) (2 ^ c) 1))

abbrev echoes : ℕ → ℕ → ℕ → Call
echoes k c m = from (ten k) m (echo (constant k c) (four c 0 c 0))

abbrev readies : ℕ → ℕ → ℕ → Call
readies k c m = from (ten k) m (ready (constant k c) (four c 0 c 0))

abbrev shares : ℕ → Call
shares m = from (ten 3) m (recovery (pair 1 0))

-- box 2 of ten, and the matrix of a deal with k = 3: f = 5 + 3y + 7y² + x(2 + 4y + 9y²) + x²(6 + y + 8y²), and
-- f' = 1 + 6y + 10y² + x(7 + 9y + 3y²) + x²(5 + 2y + 4y²)
abbrev last_class : SetUp
last_class = record { group = 1; n = 10; t = 1; k = 3; i = 2; d = 1; session = 7 }

abbrev last_matrix : List (List Element)
last_matrix = matrix 3 (element 0) (λ j l. element (get_or (4 ∷ 13 ∷ 12 ∷ 8 ∷ 12 ∷ 1 ∷ 4 ∷ 18 ∷ 13 ∷ []) (j * 3 + l) 0))

-- ---- the plays

-- "If now r = k and e < E, interpolate and send ready; else if r = k + t, complete"; at e = E ready is not sent again. "Only the first
-- completion counts; later readies for another C are counted and change neither C nor share.", here at place 0; the third share recovers
abbrev readies_first : List Call
readies_first =
    echoes 3 0 8
    ∷ map (echoes 3 1) (1 ∷ 2 ∷ 3 ∷ [])
    ++ map (readies 3 1) (1 ∷ 2 ∷ 3 ∷ [])
    ++ map (echoes 3 1) (4 ∷ 5 ∷ 6 ∷ 7 ∷ [])
    ++ map (readies 3 1) (4 ∷ 5 ∷ [])
    ++ map (readies 3 0) (6 ∷ 7 ∷ 8 ∷ 9 ∷ 10 ∷ [])
    ++ commanded 2048
    ∷ map shares (10 ∷ 5 ∷ 7 ∷ [])

-- "If now e = E and r < k, interpolate and send ready", and not at E + 1; at r = k ready is not sent again; completion at k + t and
-- not at k + t + 1; here k is 4
abbrev echoes_first : List Call
echoes_first = map (echoes 4 1) (3 ∷ 2 ∷ 1 ∷ 10 ∷ 9 ∷ 8 ∷ 7 ∷ 6 ∷ []) ++ map (readies 4 1) (1 ∷ 2 ∷ 3 ∷ 4 ∷ 5 ∷ 6 ∷ 7 ∷ [])

-- at box 2, out of the points of boxes 8, 9 and 10: "Interpolation uses the k lowest-numbered senders held"
abbrev last_boxes : List Call
last_boxes =
    from last_class 10 (ready last_matrix (four 0 8 9 2))
    ∷ from last_class 9 (ready last_matrix (four 8 2 0 0))
    ∷ from last_class 8 (ready last_matrix (four 8 2 6 7))
    ∷ []

-- what is looked at: each answer, completion, e and r at places 0 and 1, and how what was sent last begins
record Shows : Type 0 where
  told : List Answer
  completion : Option ℕ
  counts : List ℕ
  last : List ℕ

abbrev show : Played → Shows
show p =
    record {
      told = p.told;
      completion = p.left.progress.completion;
      counts = count_e (slot_at p.left 0) ∷ count_r (slot_at p.left 0) ∷ count_e (slot_at p.left 1) ∷ count_r (slot_at p.left 1) ∷ [];
      last = take 10 (get_or p.sent (length p.sent - 1) []);
    }

-- and at last, the end of the first message, and the pair kept at place 0
record Keeps : Type 0 where
  told : List Answer
  ends : List ℕ
  pair : Option Pair

abbrev kept : Played → Keeps
kept p = record { told = p.told; ends = take 8 (drop 25 (get_or p.sent 0 [])); pair = (slot_at p.left 0).pair }

-- ---- places

-- at box 1 of the class of the hand sums: f = c + e xy, f' = 0, whose point from box m is c + e m, 0, c + e m, 0
abbrev other : ℕ → ℕ → List (List Element)
other c e = matrix 2 (element 0) (λ j l. element (pick (eqb j 0 and eqb l 0) (2 ^ c % 23) (pick (eqb j 1 and eqb l 1) (2 ^ e) 1)))

-- places 0 and 2 in use, by echoes of boxes 2 and 3
abbrev slot_of : ℕ → ℕ → Slot
slot_of c m = taken ByEcho (opened (other c 0) zero_slot) m (four c 0 c 0)

abbrev gap : Record
gap = with_slots (heard (heard (new_record class) 2 1) 2 2) (set (set (new_record class).slots 0 (slot_of 1 1)) 2 (slot_of 2 2))

-- "a new one takes the lowest unused of 20 numbered places": place 1; the matrix of place 2 stays there; a next new one takes place 3
abbrev in_the_gap : List Call
in_the_gap =
    from class 4 (echo (other 3 0) (four 3 0 3 0))
    ∷ from class 2 (ready (other 2 0) (four 2 0 2 0))
    ∷ from class 3 (ready (other 4 0) (four 4 0 4 0))
    ∷ []

-- a sound record with r = k + t = 3 and no completion: the fourth ready does not complete it, for r is not k + t then
abbrev passed_by : Record
passed_by =
    let p = four 1 0 1 0 in
    let three = taken ByReady (taken ByReady (taken ByReady (opened (other 1 0) zero_slot) 0 p) 1 p) 2 p in
    with_slots (heard (heard (heard (new_record class) 3 0) 3 1) 3 2) (set (new_record class).slots 0 (keeping three (pair 1 0)))

abbrev fourth : List Call
fourth = from class 4 (ready (other 1 0) (four 1 0 1 0)) ∷ []

-- "at most 20 such C's can occur and there is room for all": ten boxes, each with another matrix in its echo and in its ready, all
-- but the ready of box 10, for which place 19 is left
abbrev large : SetUp
large = sized 10 1 2

abbrev ready_point : ℕ → Four
ready_point m = four ((m + m + 1) % 11) 0 ((m + m + 1) % 11) 0

abbrev ears : List Bool → Marks
ears l = record { at = l }

abbrev nineteen : Record
nineteen =
    with_heard
    (with_slots (new_record large)
    (gather 10 (λ m. slot_of m m ∷ [])
    ++ gather 9 (λ m. taken ByReady (opened (other m 1) zero_slot) m (ready_point m) ∷ [])
    ++ zero_slot
    ∷ []))
    (ears (replicate 10 false) ∷ ears (replicate 10 true) ∷ ears (replicate 9 true ++ false ∷ []) ∷ ears (replicate 10 false) ∷ [])

abbrev twentieth : List Call
twentieth = from large 10 (ready (other 9 1) (ready_point 9)) ∷ []

-- the first and the last entry of the matrix at a place
abbrev ends : Record → ℕ → List ℕ
ends x s = entry (matrix_of (slot_at x s)) 0 0 ∷ entry (matrix_of (slot_at x s)) 1 1 ∷ []

record Stands : Type 0 where
  numbers : List ℕ
  used : List Bool
  matrices : List (List ℕ)

abbrev stand : ℕ → Played → Stands
stand n p =
    record {
      numbers = map (λ (a : Answer). a.no) p.told;
      used = map (λ (s : Slot). s.used) (take n p.left.slots);
      matrices = gather n (λ s. ends p.left s ∷ []);
    }

-- ---- the statement

pub record Counts : Type 0 where
  pub readies_first : show (plays (new_record (ten 3)) readies_first)
      ≡ record {
        told = quiet
            ∷ quiet ∷ quiet ∷ quiet
            ∷ quiet ∷ quiet ∷ sends Ready 330
            ∷ quiet ∷ quiet ∷ quiet ∷ quiet
            ∷ quiet ∷ completes
            ∷ quiet ∷ quiet ∷ sends Ready 330 ∷ quiet ∷ quiet
            ∷ sends Recovery 100
            ∷ quiet ∷ quiet ∷ recovers 1 0 ∷ [];
        completion = Some 1;
        counts = 1 ∷ 5 ∷ 7 ∷ 5 ∷ [];
        last = 4 ∷ 0 ∷ 7 ∷ 3 ∷ 255 ∷ 255 ∷ 0 ∷ 1 ∷ 0 ∷ 0 ∷ [];
      }
  pub echoes_first : show (plays (new_record (ten 4)) echoes_first)
      ≡ record {
        told = quiet ∷ quiet ∷ quiet ∷ quiet ∷ quiet ∷ quiet ∷ sends Ready 470 ∷ quiet
            ∷ quiet ∷ quiet ∷ quiet ∷ quiet ∷ quiet ∷ completes ∷ quiet ∷ [];
        completion = Some 0;
        counts = 8 ∷ 7 ∷ 0 ∷ 0 ∷ [];
        last = 3 ∷ 0 ∷ 44 ∷ 3 ∷ 255 ∷ 255 ∷ 4 ∷ 0 ∷ 2 ∷ 0 ∷ [];
      }
  pub passed_by : show (plays passed_by fourth) ≡ record { told = quiet ∷ []; completion = None; counts = 0 ∷ 4 ∷ 0 ∷ 0 ∷ []; last = [] }
  -- the ready to box 1, which ends with 6, 0, 4, 5, and the pair kept
  pub last_boxes : kept (plays (new_record last_class) last_boxes)
      ≡ record { told = quiet ∷ quiet ∷ sends Ready 330 ∷ []; ends = 0 ∷ 6 ∷ 0 ∷ 0 ∷ 0 ∷ 4 ∷ 0 ∷ 5 ∷ []; pair = Some (pair 0 2) }
  pub in_the_gap : stand 5 (plays gap in_the_gap)
      ≡ record {
        numbers = 0 ∷ 0 ∷ 0 ∷ [];
        used = true ∷ true ∷ true ∷ true ∷ false ∷ [];
        matrices = (2 ∷ 1 ∷ []) ∷ (8 ∷ 1 ∷ []) ∷ (4 ∷ 1 ∷ []) ∷ (16 ∷ 1 ∷ []) ∷ (0 ∷ 0 ∷ []) ∷ [];
      }
  pub room_for_all : stand 20 (plays nineteen twentieth)
      ≡ record {
        numbers = 0 ∷ [];
        used = replicate 20 true;
        matrices = (1 ∷ 1 ∷ []) ∷ (2 ∷ 1 ∷ []) ∷ (4 ∷ 1 ∷ []) ∷ (8 ∷ 1 ∷ []) ∷ (16 ∷ 1 ∷ [])
            ∷ (9 ∷ 1 ∷ []) ∷ (18 ∷ 1 ∷ []) ∷ (13 ∷ 1 ∷ []) ∷ (3 ∷ 1 ∷ []) ∷ (6 ∷ 1 ∷ [])
            ∷ (1 ∷ 2 ∷ []) ∷ (2 ∷ 2 ∷ []) ∷ (4 ∷ 2 ∷ []) ∷ (8 ∷ 2 ∷ []) ∷ (16 ∷ 2 ∷ [])
            ∷ (9 ∷ 2 ∷ []) ∷ (18 ∷ 2 ∷ []) ∷ (13 ∷ 2 ∷ []) ∷ (3 ∷ 2 ∷ []) ∷ (6 ∷ 2 ∷ []) ∷ [];
      }

pub counts : Counts
unfolding plays doing computed
counts = record { readies_first = refl; echoes_first = refl; passed_by = refl; last_boxes = refl; in_the_gap = refl; room_for_all = refl }

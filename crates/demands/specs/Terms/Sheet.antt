-- A sheet on which every test passes and k boxes are verified.
-- Assumes nothing.
use Rattle.std.specs.Prelude.{◌≡◌, true, List, ℕ, ◌≤◌, length, take}
use Rattle.rules.specs.declared.Element.{Element}
use Rattle.std.specs.Prelude.{Option}
use Rattle.rules.specs.declared.Pair.{Pair}
use Rattle.rules.specs.declared.SetUp.{SetUp}
use Rattle.rules.specs.Numbers.{group_of, group_keeps, sizes_keep}
use Rattle.rules.specs.Dealing.{matrix_passes}
use Rattle.rules.specs.Steps.{share_points, recovered_from}
use Rattle.rules.specs.Sheet.{sheet_set_up, matrix_place, sheet_matrix, boxes_place, sheet_shares, first_line_keeps, rest_keeps, verified_shares}

module _ (b : List ℕ) where
  abbrev pub numbers : SetUp
  numbers = sheet_set_up b

  abbrev pub matrix : List (List Element)
  matrix = sheet_matrix b (matrix_place b) numbers.k

  -- what boxes 1 to n say, and of that what is verified
  abbrev pub says : List (Option Pair)
  says = sheet_shares b (boxes_place b numbers.k) numbers.n

  abbrev pub verified : List (Option Pair)
  verified = verified_shares (group_of numbers.group) numbers.k matrix numbers.n says

  -- the pair of the k lowest verified boxes
  abbrev pub secret : Pair
  secret = recovered_from (group_of numbers.group).q (take numbers.k (share_points verified))

  -- every test passes, and at least k boxes are verified
  pub record Opens : Type 0 where
    pub first : first_line_keeps b ≡ true
    pub group : group_keeps numbers ≡ true
    pub sizes : sizes_keep numbers.n numbers.t numbers.k ≡ true
    pub rest : rest_keeps b numbers.n numbers.k ≡ true
    pub passes : matrix_passes (group_of numbers.group) numbers.k matrix ≡ true
    pub enough : numbers.k ≤ length (share_points verified)

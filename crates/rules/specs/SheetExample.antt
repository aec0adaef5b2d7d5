-- Document 01's sheet and what it prints; and the same morning with box 3 silent too.
-- Assumes nothing.
use Rattle.std.specs.Prelude.{◌≡◌, refl}
use Rattle.rules.specs.Text.{text}
use Rattle.rules.specs.Sheet.{printed}
use Rattle.rules.specs.Computed.{computed}

pub sheet_example : printed (text "sheet 1 4 1 2\n4 13 8 12\n1 7 8\n2 silent\n3 0 0\n4 2 1\n")
    ≡ text "1 verified\n2 silent\n3 verified\n4 refused 10\nsecret 5 1 from 1 3\n"
unfolding computed
sheet_example = refl

pub two_silent : printed (text "sheet 1 4 1 2\n4 13 8 12\n1 7 8\n2 silent\n3 silent\n4 2 1\n")
    ≡ text "1 verified\n2 silent\n3 silent\n4 refused 10\nno secret, 1 of 2\n"
unfolding computed
two_silent = refl

-- The verdict on one box of a sheet, and its share if it is verified.
-- Assumes nothing.
use Rattle.std.specs.Prelude.{ℕ, ◌+◌, Option, None}
use Rattle.folds.specs.Tests.{pick}
use Rattle.rules.specs.declared.Pair.{Pair}
use Rattle.rules.specs.declared.Verdict.{Verdict}
use Rattle.rules.specs.Record.{share_at}
use Rattle.rules.specs.Sheet.{verdict, is_verified}
use Rattle.sheet_verdicts.specs.declared.Judged.{Judged}

-- on what box m + 1 says
abbrev pub verdict_on : Judged → ℕ → Verdict
verdict_on s m = verdict s.group s.k s.c (m + 1) (share_at s.shares m)

unfoldable pub verified_on : Judged → ℕ → Option Pair
verified_on s m = pick (is_verified (verdict_on s m)) (share_at s.shares m) None

-- `fill_line` reads until the line that starts at the front ends. Assumes nothing.
use mathlib.Core.List.{List}
use mathlib.Core.Path.{◌≡◌, refl, sym, ap, ◌∙◌}
use Prim.Native.Nat.{ℕ, ◌+◌, ◌≤◌}
use native.Mathlib.Omega.{arith}
use lib.ListN.{length, take}
use lib.Seq.{take-take}
use Rattle.console_lines.specs.Lines.{Fills, line_end, line_end_on, line_end_same, line_end_most}
use Rattle.console_lines.proofs.lines.fill_line.Invariants.{Has}
use Rattle.console_lines.proofs.lines.fill_line.Goals as goal

-- more came
module _ {b buf out : List ℕ} {kept have got : ℕ} (h : Has b kept buf have) (f : Fills buf have got out) where
  front-still : take kept out ≡ take kept b
  front-still =
      let l = h.kept_there in
      sym (take-take kept have out l) ∙ ap (take kept) f.front ∙ take-take kept have buf l ∙ h.front

  same-still : length out ≡ length b
  same-still = f.same ∙ h.same

  none-still : line_end out 0 have ≡ have
  none-still = line_end_same buf out have f.front ∙ h.none

  room-still : have + got ≤ length out
  room-still = omega (arith, f.room, f.same)

  -- the line ends where the rest of it does
  ends : {end : ℕ} → end ≡ line_end out have (have + got) → end ≡ line_end out 0 (have + got)
  ends e = e ∙ line_end_on out have (have + got) none-still (let z : have ≤ have + got = omega arith in z)

  has_more : {end : ℕ} → end ≡ line_end out have (have + got) → have + got ≤ end → Has b kept out (have + got)
  has_more {end} e l =
      let most = line_end_most out have (have + got) (record { order = let z : have ≤ have + got = omega arith in z; room = room-still }) in
      record {
        kept_there = let z = h.kept_there in omega arith;
        room = room-still;
        same = same-still;
        front = front-still;
        none = sym (ends e) ∙ (let z : end ≡ have + got = omega arith in z);
      }

pub returns-then-end-to : goal.returns-then-end-to
returns-then-end-to c =
    let inv = c.loop-have.invariant in
    let came = c.read_more-got.ensures in
    let z = inv.kept_there in
    record {
      same = same-still inv came;
      is = (
        refl,
        record { newline_there = c.if-end-to.true; first = ends inv came c.line_end-end.ensures; behind = refl; room = room-still inv came },
        omega arith,
        front-still inv came,
      );
    }

pub loop-have-preserved : goal.loop-have-preserved
loop-have-preserved c = has_more c.loop-have.invariant c.read_more-got.ensures c.line_end-end.ensures c.if-end-to.false

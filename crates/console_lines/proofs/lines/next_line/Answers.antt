-- `next_line` takes the line that is held, or fills one from what is held. Assumes nothing.
use mathlib.Core.Path.{refl, ap, ◌∙◌}
use Prim.Native.Nat.{ℕ, ◌+◌}
use native.Mathlib.Omega.{arith}
use lib.ListN.{length}
use lib.Seq.{length-sets}
use Rattle.console_lines.specs.declared.lines.Line.TheVariants.{Whole}
use Rattle.console_lines.specs.Lines.{held_bytes, line_end_least, moved_unended, unended_from, filled_from, filled_within, filled_inside}
use Rattle.console_lines.proofs.lines.next_line.Goals as goal

pub returns-then-end-to : goal.returns-then-end-to
returns-then-end-to c =
    let found = c.line_end-end.ensures in
    let held = c.args.held in
    let least = line_end_least c.args.buf.now held.from held.to c.requires in
    let room = c.requires.room in
    record {
      same = refl;
      within = record { order = omega arith; room = room };
      inside = (omega arith, omega arith);
      there = λ l. (refl, ap (Whole held.from) found, ap (λ (n : ℕ). n + 1) found, refl);
      more = λ l. absurd (omega (arith, found, c.if-end-to.true));
    }

pub fill_line-requires : goal.fill_line-requires
fill_line-requires c =
    let held = c.args.held in
    unended_from c.move_front-kept.ensures.1 c.move_front-kept.ensures.0
    (moved_unended c.args.buf.now held.from held.to c.requires (omega (arith, c.line_end-end.ensures, c.if-end-to.false)))

pub returns : goal.returns
returns c =
    let given = c.args in
    let front = c.move_front-kept.ensures.1 in
    let is = c.fill_line.ensures in
    record {
      same = is.same ∙ ap length front ∙ length-sets given.buf.now 0 (held_bytes given.buf.now given.held.from given.held.to);
      within = filled_within is;
      inside = filled_inside is;
      there = λ l. absurd (omega (arith, c.line_end-end.ensures, c.if-end-to.false));
      more = λ l. filled_from front c.move_front-kept.ensures.0 is;
    }

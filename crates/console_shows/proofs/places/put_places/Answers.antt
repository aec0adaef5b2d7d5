-- `put_places` adds a line for each place in use. Assumes nothing.
use Rattle.text.specs.Pages.{runs_none, runs_more}
use Rattle.record_reading.specs.Slots.{slot_in}
use Rattle.console_shows.specs.Parts.{adds_if, adds_unless}
use Rattle.console_shows.proofs.places.put_places.Goals.{then-slot, else-slot}
use Rattle.console_shows.proofs.places.put_places.Goals as goal

pub loop-s-init : goal.loop-s-init
loop-s-init g c = runs_none

pub loop-s-preserved : goal.loop-s-preserved
loop-s-preserved g c =
    runs_more c.loop-s.invariant
    (elim c.if-slot.branch [
      | then-slot w ↦ rw w.page-is (adds_if (slot_in c.args.slots c.loop-s.s).used w.if-slot.true w.put_place.ensures)
      | else-slot w ↦ adds_unless (slot_in c.args.slots c.loop-s.s).used _ 419 w.if-slot.false w.page-is
    ])

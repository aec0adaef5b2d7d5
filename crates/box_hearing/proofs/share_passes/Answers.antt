use Rattle.std.proofs.Common.{arith}
use Rattle.rules.specs.Record.{matrix_of}
use Rattle.rules.proofs.Laws.Sound.{sound_facts, sound_ranges}
use Rattle.box_hearing.proofs.share_passes.Goals as goal

pub group_of-requires : goal.group_of-requires
group_of-requires c = (sound_ranges _ c.requires).group

-- the completed slot is one of the twenty
pub bounds-x-s : goal.bounds-x-s
bounds-x-s c = ((sound_facts _ c.requires).progress.completion _ c.in-Some.is).within

pub offset_bounds-x-s : goal.offset_bounds-x-s
offset_bounds-x-s c = omega (arith, ((sound_facts _ c.requires).progress.completion _ c.in-Some.is).within)

-- and its matrix passed refusal 8
pub share_check-requires : goal.share_check-requires
unfolding matrix_of
share_check-requires c =
    let facts = sound_facts _ c.requires in
    let completed = facts.progress.completion _ c.in-Some.is in
    let r = sound_ranges _ c.requires in
    rw c.group_of.ensures (record {
      modulus = r.numbers.modulus;
      order = r.numbers.some;
      high = r.high;
      passes = (facts.slots.each _ completed.within).contents.passes completed.used;
    })

use Rattle.std.proofs.Common.{ap, ap₂, ◌∙◌, arith}
use Rattle.rules.specs.declared.Message.TheVariants.{Send as send}
use Rattle.rules.specs.declared.Sent.TheVariants.{Send}
use Rattle.rules.specs.Matrices.{to_boxes}
use Rattle.rules.specs.Dealing.{f_of, f'_of, commitment, polynomials_of}
use Rattle.rules.specs.Record.{group_in}
use Rattle.rules.specs.Steps.{deal_step}
use Rattle.rules.proofs.Laws.Sound.{sound_ranges}
use Rattle.record_writing.specs.Anew.{dealt_after}
use Rattle.dealing.specs.Rows.{zero_polynomials}
use Rattle.message_writing.specs.Written.{no_polynomials}
use Rattle.box_steps.specs.Laws.{tells, group_ranges, can_send, deal_coins, each_written}
use Rattle.box_steps.proofs.take_deal.Goals as goal

pub group_of-group-requires : goal.group_of-group-requires
group_of-group-requires c = (sound_ranges _ c.requires.called.is_sound).group

pub overflow_cast-secret : goal.overflow_cast-secret
overflow_cast-secret c =
    omega (arith, (deal_coins c.requires).below, (sound_ranges _ c.requires.called.is_sound).numbers.small)

pub overflow_cast-secret-2 : goal.overflow_cast-secret-2
overflow_cast-secret-2 c =
    omega (arith, (deal_coins c.requires).below, (sound_ranges _ c.requires.called.is_sound).numbers.small)

pub from_coins-f-requires : goal.from_coins-f-requires
from_coins-f-requires c = ((sound_ranges _ c.requires.called.is_sound).high, (deal_coins c.requires).first)

pub from_coins-f2-requires : goal.from_coins-f2-requires
from_coins-f2-requires c = ((sound_ranges _ c.requires.called.is_sound).high, (deal_coins c.requires).both)

pub commit_all-c-requires : goal.commit_all-c-requires
commit_all-c-requires c =
    let r = sound_ranges _ c.requires.called.is_sound in ((group_ranges r c.group_of-group.ensures).modulus, r.high)

pub polynomials_for_all-all-requires : goal.polynomials_for_all-all-requires
polynomials_for_all-all-requires c =
    let r = sound_ranges _ c.requires.called.is_sound in
    record { some = (group_ranges r c.group_of-group.ensures).some; high = r.high; boxes = r.boxes }

pub write_sends-bytes-requires : goal.write_sends-bytes-requires
write_sends-bytes-requires c = can_send (sound_ranges _ c.requires.called.is_sound) c.requires.called.room

pub returns : goal.returns
unfolding deal_step dealt_after f_of f'_of
returns c =
    let a = c.args in
    let u = a.x.setup in
    let group = c.group_of-group.ensures in
    let one = c.from_coins-f in
    let two = c.from_coins-f2 in
    let matrix =
    c.commit_all-c.ensures
    ∙ ap (λ G. commitment G u.k one.result two.result) group
    ∙ ap₂ (commitment (group_in a.x) u.k) one.ensures two.ensures in
    let all =
    c.polynomials_for_all-all.ensures
    ∙ ap (λ G. to_boxes u.n zero_polynomials (polynomials_of G.q u.k one.result two.result)) group
    ∙ ap₂ (λ f f'. to_boxes u.n zero_polynomials (polynomials_of (group_in a.x).q u.k f f')) one.ensures two.ensures in
    tells Send c.sending.ensures c.dealt.ensures
    (each_written u send zero_polynomials no_polynomials _ (sound_ranges _ c.requires.called.is_sound).boxes matrix all c.write_sends-bytes.ensures)

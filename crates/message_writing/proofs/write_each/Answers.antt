use native.Mathlib.Omega.{arith}
use Rattle.message_writing.specs.Laws.{sent_none, sent_more, sent_all}
use Rattle.message_writing.proofs.write_each.Goals as goal

pub loop-j-init : goal.loop-j-init
loop-j-init g c = record { room = omega arith; sent = λ m h. sent_none _ _ _ }

pub loop-j-preserved : goal.loop-j-preserved
loop-j-preserved g c =
    let short = c.requires.short _ _ _ _ c.write-at.ensures in
    record {
      room = omega (arith, c.loop-j.invariant.room, short);
      sent = λ m h. sent_more (c.loop-j.invariant.sent m h) c.requires.can c.loop-j-test.true (h _ _ _ _ c.write-at.ensures, short);
    }

pub returns : goal.returns
returns g c = λ m h. sent_all (c.loop-j.invariant.sent m h) c.requires.can c.loop-j-test.false

-- `put_said` adds the line of a message by its tag. Assumes nothing.
use Rattle.std.proofs.Common.{rules, List, ℕ, ◌≡◌, ◌≤◌, ap, arith}
use Rattle.arrayvec.specs.ArrayVec.{ArrayVec}
use Rattle.rules.specs.declared.SetUp.{SetUp}
use Rattle.rules.specs.Messages.{tag_in}
use Rattle.rules.specs.Text.{text}
use Rattle.rules.specs.Laws.RoundTrip.{Formed}
use Rattle.rules.proofs.Laws.RoundTrip.{formed, by_tag, header, send_long, share_long, point_long, is_send_lem, is_echo_lem, is_ready_lem, is_recovery_lem}
use Rattle.text.specs.Pages.{Adds, adds_room}
use Rattle.console_page.specs.Reading.{message_text, said_line}
use Rattle.console_page.proofs.reading.put_said.Goals as goal

-- what is left is a recovery share
is_share : {u : SetUp} {s : List ℕ} → Formed u s → (tag_in s ≡ 1 → ⊥) → (tag_in s ≡ 2 → ⊥) → (tag_in s ≡ 3 → ⊥) → tag_in s ≡ 4
is_share {u} {s} f a b d = by_tag u s f (λ e. absurd (a e)) (λ e. absurd (b e)) (λ e. absurd (d e)) (λ e. e)

-- the line that was added is that of the message
said : {page page' : ArrayVec ℕ} (u : SetUp) (s : List ℕ) {line : List ℕ} {most : ℕ} → said_line u s ≡ line → most ≤ 633 → Adds page line most page'
    → Adds page (said_line u s) 633 page'
said u s e l h = rw e (adds_room h l)

pub bounds-s-0 : goal.bounds-s-0
bounds-s-0 g c = omega (arith, header c.args.u c.args.s.now c.requires.1)

pub put_send-requires : goal.put_send-requires
put_send-requires g c = (search rules, (c.requires.0, send_long (formed _ _ c.requires.1) c.in-1.is, c.requires.2))

pub returns-in-1 : goal.returns-in-1
unfolding message_text
returns-in-1 g c =
    let s = c.args.s.now in
    said c.args.u s (ap (message_text c.args.u s) (is_send_lem c.args.u s c.in-1.is)) (omega arith) c.put_send.ensures

pub put_point-requires : goal.put_point-requires
put_point-requires g c =
    let tag = c.in-2.is in
    (search rules, (c.requires.0, point_long (formed _ _ c.requires.1) (λ e. omega arith) (λ e. omega arith), omega arith))

pub returns-in-2 : goal.returns-in-2
unfolding message_text text
returns-in-2 g c =
    let s = c.args.s.now in
    said c.args.u s (ap (message_text c.args.u s) (is_echo_lem c.args.u s c.in-2.is)) (omega arith) c.put_point.ensures

pub put_point-requires-in-3 : goal.put_point-requires-in-3
put_point-requires-in-3 g c =
    let tag = c.in-3.is in
    (search rules, (c.requires.0, point_long (formed _ _ c.requires.1) (λ e. omega arith) (λ e. omega arith), omega arith))

pub returns-in-3 : goal.returns-in-3
unfolding message_text text
returns-in-3 g c =
    let s = c.args.s.now in
    said c.args.u s (ap (message_text c.args.u s) (is_ready_lem c.args.u s c.in-3.is)) (omega arith) c.put_point-in-3.ensures

pub put_share-requires : goal.put_share-requires
put_share-requires g c =
    let tag : tag_in c.args.s.now ≡ 4 = is_share (formed _ _ c.requires.1) (λ e. omega arith) (λ e. omega arith) (λ e. omega arith) in
    (search rules, (share_long (formed _ _ c.requires.1) tag, omega arith))

pub returns-in_default : goal.returns-in_default
unfolding message_text
returns-in_default g c =
    let s = c.args.s.now in
    let tag : tag_in s ≡ 4 = is_share (formed _ _ c.requires.1) (λ e. omega arith) (λ e. omega arith) (λ e. omega arith) in
    said c.args.u s (ap (message_text c.args.u s) (is_recovery_lem c.args.u s tag)) (omega arith) c.put_share.ensures

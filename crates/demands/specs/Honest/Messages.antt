-- What is said where all boxes keep the rules and one secret was dealt: the dealt messages.
--
-- In order: what a box says to another, by the kind of message; a message that is one of these; what a call sent to each box,
-- and what comes to one of them; matrices that are written alike are equal.
-- Assumes nothing.
use Rattle.std.specs.Prelude.{◌≡◌, true, List, ℕ}
use Rattle.std.proofs.Math.Path.{refl}
use Rattle.std.proofs.Common.{sym, ap, ◌∙◌, subst}
use Rattle.rules.specs.declared.Element.{Element}
use Rattle.rules.specs.declared.SetUp.{SetUp}
use Rattle.rules.specs.declared.Side.{Side}
use Rattle.rules.specs.declared.Side.TheVariants.{ByEcho, ByReady}
use Rattle.rules.specs.Numbers.{element, is_box}
use Rattle.rules.specs.declared.Message.{Message}
use Rattle.rules.specs.declared.Message.TheVariants.{Send as send, Echo as echo, Ready as ready, Recovery as recovery}
use Rattle.rules.specs.Messages.{saying, side_tag, tag_of, bytes_of, message_in, to_each}
use Rattle.rules.specs.Record.{same_matrix}
use Rattle.rules.proofs.Laws.Numbers.{is_box_lem}
use Rattle.rules.proofs.Laws.Matrices.{matrix_same}
use Rattle.rules.proofs.Laws.Dealing.{value_below}
use Rattle.rules.proofs.Laws.Checks.{pair_below_lem, echo_below}
use Rattle.rules.proofs.Laws.Sound.{agree_at}
use Rattle.rules.proofs.Laws.RoundTrip.{MatrixFits, FourFits, Fits, message_there}
use Rattle.rules.proofs.Laws.Ranges.{four_room, pair_room, dealt_room, dealt_rooms}
use Rattle.demands.specs.Terms.Honest.{Deal}
use Rattle.demands.specs.Terms.Histories.{message_to}
use Rattle.demands.specs.MessageTo.{message_to_lem}
use Rattle.demands.specs.Own.{own_sound}
use Rattle.demands.specs.Terms.Dealing.{Sound, order, dealt_matrix, dealt_to, dealt_point, dealt_share}
use Rattle.demands.specs.Sharing.{size, order_some}

-- ---- what a box says

-- a send, an echo or a ready, a recovery share
pub data Kind : Type 0 where
  a_send : Kind
  a_point : Side → Kind
  a_share : Kind

abbrev pub kind_tag : Kind → ℕ
kind_tag a_send = 1
kind_tag (a_point b) = side_tag b
kind_tag a_share = 4

module _ (u : SetUp) (secret : ℕ) (coins : List ℕ) where
  -- in a message of a kind, one box to another
  abbrev pub dealt_message : Kind → ℕ → ℕ → Message
  dealt_message a_send from to = send (dealt_matrix u secret coins) (dealt_to u secret coins to)
  dealt_message (a_point b) from to = saying b (dealt_matrix u secret coins) (dealt_point u secret coins from to)
  dealt_message a_share from to = recovery (dealt_share u secret coins from)

  -- a message says the dealt matrix, and what was dealt of the two boxes
  abbrev pub Dealt : ℕ → ℕ → Message → Type 0
  Dealt from to (send C P) = (C ≡ dealt_matrix u secret coins) × (P ≡ dealt_to u secret coins to)
  Dealt from to (echo C f) = (C ≡ dealt_matrix u secret coins) × (f ≡ dealt_point u secret coins from to)
  Dealt from to (ready C f) = (C ≡ dealt_matrix u secret coins) × (f ≡ dealt_point u secret coins from to)
  Dealt from to (recovery s) = s ≡ dealt_share u secret coins from

  -- box i sent these n messages in one call: of one kind, and all dealt
  abbrev pub SentDealt : ℕ → List ℕ → Type 0
  SentDealt i run = (kind : Kind) × (run ≡ to_each u (dealt_message kind i)) × (kind_tag kind ≡ 1 → i ≡ u.d)

  -- ---- a message that is one of these

  kind_dealt : (kind : Kind) (from to : ℕ) → Dealt from to (dealt_message kind from to)
  kind_dealt a_send from to = (refl, refl)
  kind_dealt (a_point ByEcho) from to = (refl, refl)
  kind_dealt (a_point ByReady) from to = (refl, refl)
  kind_dealt a_share from to = refl

  kind_tag_lem : (kind : Kind) (from to : ℕ) → tag_of (dealt_message kind from to) ≡ kind_tag kind
  unfolding tag_of
  kind_tag_lem a_send from to = refl
  kind_tag_lem (a_point ByEcho) from to = refl
  kind_tag_lem (a_point ByReady) from to = refl
  kind_tag_lem a_share from to = refl

  -- ---- what comes to a box

  module _ (h : Deal u secret coins) where
    pub sound : Sound u
    sound = own_sound u h.group_keeps_lem h.numbers_keep_lem

    pub matrix_room : MatrixFits u.k (dealt_matrix u secret coins)
    matrix_room = dealt_room u h.group_keeps_lem (size u sound).high _ _

    point_room : (from to : ℕ) → FourFits (dealt_point u secret coins from to)
    point_room from to =
        four_room u h.group_keeps_lem (size u sound).high _ (echo_below (order u) (order_some u sound) u.k (dealt_to u secret coins from) to)

    kind_fits : (kind : Kind) (from to : ℕ) → Fits u (dealt_message kind from to)
    kind_fits a_send from to = (matrix_room, dealt_rooms u h.group_keeps_lem (size u sound).high _ _ to)
    kind_fits (a_point ByEcho) from to = (matrix_room, point_room from to)
    kind_fits (a_point ByReady) from to = (matrix_room, point_room from to)
    kind_fits a_share from to =
        let q = order_some u sound in
        let P = dealt_to u secret coins from in
        pair_room u h.group_keeps_lem (size u sound).high _
        (pair_below_lem (order u) (dealt_share u secret coins from) (value_below (order u) u.k P.a 0 q) (value_below (order u) u.k P.a2 0 q))

    -- of what a box sent to each, box `to` reads what was dealt
    pub comes_dealt : (from to : ℕ) → is_box u to ≡ true → (run : List ℕ) → SentDealt from run
        → Dealt from to (message_in u (message_to u.n run to))
    comes_dealt from to box-to run (kind, sent, dealer) =
        let b = is_box_lem u to box-to in
        let bytes : message_to u.n run to ≡ bytes_of u (dealt_message kind from to) =
        ap (λ (r : List ℕ). message_to u.n r to) sent
        ∙ message_to_lem u (dealt_message kind from) (kind_tag kind) (kind_tag_lem kind from) to b.0 b.1 in
        subst (Dealt from to) (sym (ap (message_in u) bytes ∙ message_there u (dealt_message kind from to) (kind_fits kind from to)))
        (kind_dealt kind from to)

-- ---- matrices

-- two that have room in a message and agree are equal
pub agree_equal : (k : ℕ) (C D : List (List Element)) → MatrixFits k C → MatrixFits k D → same_matrix k C D ≡ true → C ≡ D
agree_equal k C D c d e =
    c.form ∙ matrix_same k (element 0) _ _ (λ j l hj hl. ap element (agree_at k C D e j l hj hl)) ∙ sym d.form

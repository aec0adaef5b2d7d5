-- Laws that the proofs of the writers share.
--
-- In order: runs put one behind the other; a loop that puts runs of one width; a whole message; a message to each box.
-- Assumes nothing.
use borrow.Rule.Slice.PartMut.{put_mid}
use mathlib.Core.List.{List, [], ◌∷◌, ◌++◌, append_assoc}
use Rattle.std.specs.Prelude.{◌≡◌, take, drop}
use Rattle.std.proofs.Math.Path.{refl, sym, ap}
use Rattle.std.proofs.Common.{subst, ◌∙◌, length-append, length-drop, drop-drop}
use Rattle.std.proofs.lemmas.List.Edits.{sets-eq}
use Prim.Native.Nat.{ℕ, ◌+◌, ◌-◌, ◌*◌, ◌<◌, ◌≤◌}
use native.Mathlib.Omega.{arith}
use Rattle.std.proofs.Math.ListN.{length}
use Rattle.std.proofs.Math.Seq.{sets, length-sets}
use Rattle.folds.specs.Runs.{gather, gather-zero, gather-more, gather-same, sets_then, sets-front, sets_part, part_whole}
use Rattle.rules.specs.declared.Element.{Element}
use Rattle.rules.specs.declared.Four.{Four}
use Rattle.rules.specs.declared.SetUp.{SetUp}
use Rattle.rules.specs.declared.Side.{Side}
use Rattle.rules.specs.declared.Side.TheVariants.{ByEcho, ByReady}
use Rattle.rules.specs.declared.Message.{Message}
use Rattle.rules.specs.Messages.{saying, side_tag, two_bytes, matrix_bytes, four_bytes, tag_of, body_of, framed, bytes_of, end_place, to_each, written}
use Rattle.rules.specs.Laws.RoundTrip.{SetUpFits}
use Rattle.rules.proofs.Laws.Lengths.{length_message_le}
use Rattle.message_writing.specs.Written.{head_bytes, opening_bytes, Puts, Writes, CanSend}

-- ---- runs put one behind the other

pub puts_wide : {at v w p : ℕ} {a l l₁ : List ℕ} → v ≡ w → Puts at v a l l₁ p → Puts at w a l l₁ p
puts_wide {at} {p = p} {a} {l} {l₁} e h = subst (λ (n : ℕ). Puts at n a l l₁ p) e h

module _ {at v w p q : ℕ} {a b l l₁ l₂ : List ℕ} where
  pub puts_then : Puts at v a l l₁ p → Puts p w b l₁ l₂ q → Puts at (v + w) (a ++ b) l l₂ q
  puts_then h g =
      let n = length-append a b in
      let m = h.width in
      record {
        place = omega arith;
        width = omega (arith, g.width);
        stored = g.stored ∙ ap (λ (t : List ℕ). sets t p b) h.stored ∙ sets_then l at p a b (omega arith);
      }

-- two bytes copied over a part are put there
pub puts_copied : (at x y : ℕ) (l part : List ℕ) → at + 2 ≤ length l → part ≡ x ∷ y ∷ []
    → Puts at 2 (x ∷ y ∷ []) l (put_mid at (at + 2 - at) l part) (at + 2)
puts_copied at x y l part room e =
    let width : at + 2 - at ≡ 2 = omega arith in
    record { place = refl; width = refl; stored = rw (e, width, sets-eq (x ∷ y ∷ []) l at room, append_assoc, drop-drop) }

-- none of the runs of a loop
puts_none : (f : ℕ → List ℕ) (at : ℕ) (l : List ℕ) → Puts at 0 (gather 0 f) l l at
puts_none f at l =
    let z = gather-zero f in
    record { place = omega arith; width = rw z; stored = rw z }

-- what is put at the front is written
puts_front : {w r : ℕ} {a l l₁ : List ℕ} → Puts 0 w a l l₁ r → w ≤ length l → Writes a l l₁ r
unfolding written
puts_front {a = a} {l} h room =
    let n = h.width in
    record { counted = omega (arith, h.place); front = h.stored ∙ sets-front l a (omega arith) }

-- ---- a loop that puts f 0, .. f (n - 1), w bytes each, from `at` on, has put l of them

pub record Put (f : ℕ → List ℕ) (w n at : ℕ) (out₀ out : List ℕ) (next l : ℕ) : Type 0 where
  pub within : l ≤ n
  pub same : length out ≡ length out₀
  pub puts : Puts at (l * w) (gather l f) out₀ out next

pub put_none : (f : ℕ → List ℕ) (w n at : ℕ) (out : List ℕ) → Put f w n at out out at 0
put_none f w n at out = record { within = omega arith; same = refl; puts = puts_wide (omega arith) (puts_none f at out) }

module _ {f : ℕ → List ℕ} {w n at next l : ℕ} {out₀ out : List ℕ} (h : Put f w n at out₀ out next l) where
  pub put_more : {next' : ℕ} {out' : List ℕ} → l < n → Puts next w (f l) out out' next' → Put f w n at out₀ out' next' (l + 1)
  put_more lt g =
      record {
        within = omega arith;
        same = ap length g.stored ∙ length-sets out next (f l) ∙ h.same;
        puts = rw (gather-more f l) (puts_wide (omega arith) (puts_then h.puts g));
      }

  pub put_all : n ≤ l → Puts at (n * w) (gather n f) out₀ out next
  put_all g =
      let e : l ≡ n = omega arith in
      rw e at h.puts

-- ---- a whole message: a header, and the body behind it

module _ (u : SetUp) (m : Message) (size : ℕ) {tag w r : ℕ} {body l l₁ : List ℕ} (t : tag_of m ≡ tag) (b : body_of u m ≡ body) where
  pub message_written : SetUpFits u → size + 3 ≡ w → w ≤ length l → Puts 0 w (head_bytes u tag size ++ body) l l₁ r
      → Writes (bytes_of u m) l l₁ r × (r ≤ 199)
  unfolding bytes_of framed head_bytes two_bytes
  message_written fits e room h =
      let n = h.width in
      let rest : length (u.d ∷ two_bytes u.session ++ body) ≡ size = omega arith in
      let parts : bytes_of u m ≡ head_bytes u tag size ++ body = rw (t, b, rest) in
      let all : Writes (bytes_of u m) l l₁ r = rw parts (puts_front h room) in
      (all, omega (arith, all.counted, length_message_le u m fits.k))

-- one that goes on with k and the matrix
module _ (u : SetUp) (m : Message) (C : List (List Element)) {tag n p r : ℕ} {end l l₁ l₂ : List ℕ} where
  pub matrix_written : tag_of m ≡ tag → body_of u m ≡ u.k ∷ matrix_bytes u.k C ++ end → SetUpFits u → end_place u + n ≤ length l
      → Puts 0 (end_place u) (opening_bytes u tag n C) l l₁ p → Puts p n end l₁ l₂ r
      → Writes (bytes_of u m) l l₂ r × (r ≤ 199)
  unfolding opening_bytes head_bytes two_bytes
  matrix_written t b fits room h g =
      message_written u m (4 + 2 * (u.k * u.k) + n) t b fits (omega arith) room (puts_then h g)

-- an echo or a ready
module _ (u : SetUp) (C : List (List Element)) (f : Four) where
  pub said_tag : (b : Side) → tag_of (saying b C f) ≡ side_tag b
  unfolding tag_of
  said_tag ByEcho = refl
  said_tag ByReady = refl

  pub said_body : (b : Side) → body_of u (saying b C f) ≡ u.k ∷ matrix_bytes u.k C ++ four_bytes f
  unfolding body_of
  said_body ByEcho = refl
  said_body ByReady = refl

-- ---- a message to each box: a loop that writes g 0, g 1, .. has written j of them, at most 199 bytes each

pub record Sent (u : SetUp) (g : ℕ → Message) (out₀ out : List ℕ) (at j : ℕ) : Type 0 where
  pub within : j ≤ u.n
  pub room : at ≤ 199 * j
  pub same : length out ≡ length out₀
  pub puts : Puts 0 at (gather j (λ i. bytes_of u (g i))) out₀ out at

pub sent_none : (u : SetUp) (g : ℕ → Message) (out : List ℕ) → Sent u g out out 0 0
sent_none u g out = record { within = omega arith; room = omega arith; same = refl; puts = puts_none _ 0 out }

-- what a writer is lent of the buffer
abbrev pub lent : List ℕ → ℕ → List ℕ
lent out at = take (length out - at) (drop at out)

module _ {u : SetUp} {g : ℕ → Message} {out₀ out : List ℕ} {at j : ℕ} (h : Sent u g out₀ out at j) (can : CanSend u out₀) where
  -- there is room in it for one message more
  pub sent_room : j < u.n → SetUpFits u × (199 ≤ length (lent out at))
  sent_room lt = (can.fits, rw (part_whole out at, length-drop at out) (omega (arith, h.room, h.same, can.boxes, can.lent)))

  -- it is written
  pub sent_more : {len : ℕ} {part : List ℕ} → j < u.n → Writes (bytes_of u (g j)) (lent out at) part len × (len ≤ 199)
      → Sent u g out₀ (take at out ++ (part ++ drop (length out - at) (drop at out))) (at + len) (j + 1)
  unfolding written
  sent_more {part = part} lt w =
      let next = bytes_of u (g j) in
      let count = w.0.counted in
      let room = (sent_room lt).1 in
      let front : part ≡ sets (lent out at) 0 next = w.0.front ∙ sym (sets-front (lent out at) next (omega arith)) in
      let stored = sets_part out at part next front in
      record {
        within = omega arith;
        room = omega (arith, h.room);
        same = ap length stored ∙ length-sets out at next ∙ h.same;
        puts = rw (gather-more _ j) (puts_then h.puts (record { place = refl; width = sym count; stored = stored }));
      }

  pub sent_all : u.n ≤ j → Writes (to_each u (λ i. g (i - 1))) out₀ out at
  unfolding to_each
  sent_all e =
      let all : ℕ → List ℕ = λ i. bytes_of u (g i) in
      let done : j ≡ u.n = omega (arith, h.within) in
      let back : (i : ℕ) → i ≡ i + 1 - 1 = λ i. omega arith in
      let each : gather j all ≡ to_each u (λ i. g (i - 1)) = rw done (gather-same all _ u.n (λ i l. ap all (back i))) in
      rw each at (puts_front h.puts (omega (arith, h.room, can.boxes, can.lent)))

-- What `points` says: what the senders' places of one of the 20 places hold.
--
-- In order: a point and its marks; the line of a box; the whole; laws of it.
-- Assumes nothing.
use Rattle.std.specs.Prelude.{Bool, true, false, List, [], ◌++◌, ◌≡◌, ℕ, ◌+◌, ◌<◌, ◌≤◌, eqb, ltb}
use Rattle.std.proofs.Common.{ap, ◌∙◌, ne_eqb, lt-ltb, le-ltb}
use Rattle.folds.specs.Tests.{◌and◌, pick, pick_true, pick-false, and_intro, and_false}
use Rattle.folds.specs.Runs.{gather}
use Rattle.rules.specs.declared.Four.{Four}
use Rattle.rules.specs.declared.Point.{Point}
use Rattle.rules.specs.declared.Point.TheVariants.{Silent, Held}
use Rattle.rules.specs.declared.Record.{Record}
use Rattle.rules.specs.declared.Slot.{Slot}
use Rattle.rules.specs.Matrices.{α, α', β, β'}
use Rattle.rules.specs.Record.{marked, place_at, slot_at}
use Rattle.rules.specs.Text.{text, decimal}
use Rattle.console_shows.specs.Parts.{least, numbered}

unfoldable pub four_text : Four → List ℕ
four_text f = numbered (text " ") (α f) ++ numbered (text " ") (α' f) ++ numbered (text " ") (β f) ++ numbered (text " ") (β' f)

-- the marks that a sender has
unfoldable pub marks_text : Bool → Bool → List ℕ
marks_text echoed readied = pick echoed (text " echo") [] ++ pick readied (text " ready") []

abbrev pub point_text : Bool → Bool → Point → List ℕ
point_text echoed readied Silent = text " silent\n"
point_text echoed readied (Held f) = marks_text echoed readied ++ four_text f ++ text "\n"

-- box m + 1
unfoldable pub point_line : Slot → ℕ → List ℕ
point_line slot m = decimal (m + 1) ++ point_text (marked slot.echoed m) (marked slot.readied m) (place_at slot m).point

-- boxes 1 to n
unfoldable pub point_lines : ℕ → Slot → List ℕ
point_lines n slot = gather (least n 10) (point_line slot)

unfoldable pub points_lines : Record → ℕ → List ℕ
points_lines x place =
    pick (eqb x.setup.group 0) (text "no box\n")
    (pick (ltb place 20 and (slot_at x place).used) (point_lines x.setup.n (slot_at x place)) (text "no place\n"))

-- ---- a place that is in use, that is not, or that there is not

module _ (x : Record) (place : ℕ) (there : x.setup.group ≡ 0 → ⊥) where
  pub points_in : place < 20 → (slot_at x place).used ≡ true → points_lines x place ≡ point_lines x.setup.n (slot_at x place)
  unfolding points_lines
  points_in l e =
      pick-false (eqb x.setup.group 0) _ _ (ne_eqb x.setup.group 0 there)
      ∙ pick_true (ltb place 20 and (slot_at x place).used) _ _ (and_intro (ltb place 20) (slot_at x place).used (lt-ltb place 20 l) e)

  points_not : ltb place 20 and (slot_at x place).used ≡ false → points_lines x place ≡ text "no place\n"
  unfolding points_lines
  points_not e = pick-false (eqb x.setup.group 0) _ _ (ne_eqb x.setup.group 0 there) ∙ pick-false (ltb place 20 and (slot_at x place).used) _ _ e

  pub points_unused : (slot_at x place).used ≡ false → points_lines x place ≡ text "no place\n"
  points_unused e = points_not (ap (λ (t : Bool). ltb place 20 and t) e ∙ and_false (ltb place 20))

  pub points_out : 20 ≤ place → points_lines x place ≡ text "no place\n"
  points_out l = points_not (ap (λ (t : Bool). t and (slot_at x place).used) (le-ltb place 20 l))

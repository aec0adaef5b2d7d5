use Rattle.std.proofs.Common.{rules, ◌≡◌, ℕ, ◌<◌, ◌≤◌, List, ◌++◌, length, take, length-take, length-take-le, map, sym, ap, ◌∙◌, arith}
use lib.ListN.{get_or}
use borrow.Author.Tests.{lt-ltb, le-ltb}
use Rattle.folds.specs.Runs.{gather, gather-same}
use Rattle.rules.specs.declared.Pair.{Pair}
use Rattle.rules.specs.Steps.{Said, share_points, recovered_from}
use Rattle.rules.specs.Text.{text, decimal}
use Rattle.rules.specs.Sheet.{secret_line, no_secret_line, last_line}
use Rattle.interpolation.specs.declared.Points.{Points}
use Rattle.interpolation.specs.Points.{nothing}
use Rattle.interpolation.proofs.Values.{number_at}
use Rattle.record_points.specs.Points.{points_of, boxes_in, in_array_at}
use Rattle.text.specs.Pages.{adds_room, numbers_of, numbers_of_map}
use Rattle.sheet_verdicts.specs.Lines.{secret_text}
use Rattle.sheet_verdicts.proofs.lines.put_last_line.Goals as goal

-- the k lowest of the verified shares, as the code has them
module _ (q k : ℕ) (ps : List (Said Pair)) (all : Points) (found : all ≡ points_of (take k ps)) where
  count_is : all.count ≡ length (take k ps)
  unfolding points_of
  count_is = ap (λ s. s.count) found

  too_few : all.count < k → last_line q k ps ≡ no_secret_line all.count k
  unfolding last_line
  too_few l =
      let all-of-them : length ps ≡ all.count = omega (arith, count_is, length-take k ps) in
      rw (lt-ltb (length ps) k (omega arith)) (ap (λ v. no_secret_line v k) all-of-them)

  number : k ≤ 8 → (j : ℕ) → j < length (take k ps) → (get_or all.said j nothing).number ≡ get_or (map (λ p. p.box) (take k ps)) j 0
  number h j l =
      number_at all j
      ∙ ap (λ (p : Points). get_or (map (λ s. s.number) p.said) j 0) found
      ∙ ap (λ (b : List ℕ). get_or b j 0) (boxes_in (take k ps))
      ∙ in_array_at 0 (λ p. p.box) (take k ps) (omega (arith, length-take k ps)) j l

  enough : k ≤ 8 → k ≤ all.count → (boxes : List ℕ) → numbers_of boxes ≡ gather all.count (λ j. text " " ++ decimal (get_or all.said j nothing).number)
      → secret_text (recovered_from q (take k ps)) boxes ≡ last_line q k ps
  unfolding last_line secret_line secret_text
  enough h l boxes e =
      let s = recovered_from q (take k ps) in
      rw (le-ltb (length ps) k (omega (arith, count_is, length-take k ps)), e, count_is)
      (ap
      (λ (t : List ℕ). text "secret " ++ decimal s.first.0 ++ text " " ++ decimal s.second.0 ++ text " from" ++ t ++ text "\n")
      (gather-same _ _ (length (take k ps)) (λ j b. ap (λ (n : ℕ). text " " ++ decimal n) (number h j b))))

pub slice_bounds-put_secret-end : goal.slice_bounds-put_secret-end
slice_bounds-put_secret-end g c =
    omega (arith, c.map.ensures.items.long, count_is c.args.q c.args.k (share_points c.args.verified) c.points_kept-all.result c.points_kept-all.ensures, length-take c.args.k (share_points c.args.verified))

pub slice_bounds-put_secret-end-else-all-k : goal.slice_bounds-put_secret-end-else-all-k
slice_bounds-put_secret-end-else-all-k g c =
    sym (length-take-le c.points_kept-all.result.count c.map.result
    (omega (arith, c.map.ensures.items.long, count_is c.args.q c.args.k (share_points c.args.verified) c.points_kept-all.result c.points_kept-all.ensures, length-take c.args.k (share_points c.args.verified))))

pub returns-then-all-k : goal.returns-then-all-k
returns-then-all-k g c =
    rw (too_few c.args.q c.args.k (share_points c.args.verified) c.points_kept-all.result c.points_kept-all.ensures c.if-all-k.true)
    (adds_room c.put_no_secret.ensures (omega arith))

pub returns-else-all-k : goal.returns-else-all-k
returns-else-all-k g c =
    let all = c.points_kept-all.result in
    let ps = share_points c.args.verified in
    let few : all.count ≤ 8 = omega (arith, count_is c.args.q c.args.k ps all c.points_kept-all.ensures, length-take c.args.k ps) in
    let boxes = numbers_of_map (λ s. s.number) nothing all.count c.map.ensures.items few (λ p q x y k. search rules) in
    rw (enough c.args.q c.args.k ps all c.points_kept-all.ensures c.requires.1 c.if-all-k.false (take all.count c.map.result) boxes.0) at
    (rw c.recovered_from-pair.ensures at c.put_secret.ensures)

use Rattle.std.specs.Prelude.{◌≡◌, List, ◌∷◌, ℕ, ◌+◌, ◌*◌, get_or}
use Rattle.std.proofs.Common.{ap, ◌∙◌, add_assoc}
use Rattle.folds.specs.Loops.{filling_none, filling_more, filling_all}
use Rattle.rules.specs.Numbers.{exponent}
use Rattle.rules.specs.Matrices.{row, matrix}
use Rattle.rules.specs.Dealing.{from_coins}
use Rattle.rules.proofs.Laws.Matrices.{row_same}
use Rattle.coins.proofs.from_coins.Goals as goal

pub loop-j-init : goal.loop-j-init
loop-j-init c = filling_none

-- row j starts j k behind the first
row_from : (k secret : ℕ) (coins : List ℕ) (from j : ℕ)
    → row k (exponent 0) (λ l. exponent (get_or (secret ∷ coins) (from + j * k + l) 0))
    ≡ row k (exponent 0) (λ l. exponent (get_or (secret ∷ coins) (from + (j * k + l)) 0))
row_from k secret coins from j =
    row_same k (exponent 0) _ _ (λ l h. ap (λ at. exponent (get_or (secret ∷ coins) at 0)) (add_assoc from (j * k) l))

pub loop-j-preserved : goal.loop-j-preserved
loop-j-preserved c =
    filling_more c.loop-j.invariant c.loop-j-test.true
    (c.coin_row.ensures ∙ row_from c.args.u.k c.args.secret c.args.coins.now c.args.from c.loop-j.j)

pub returns : goal.returns
unfolding from_coins matrix
returns c = filling_all c.loop-j.invariant c.loop-j-test.false

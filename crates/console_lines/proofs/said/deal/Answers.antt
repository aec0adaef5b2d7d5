-- `deal` is the command of its word: the secret, and the coins behind it. Assumes nothing.
use native.Mathlib.Omega.{arith}
use Rattle.console_lines.specs.Laws.{deal_few}
use Rattle.console_lines.proofs.said.deal.Goals as goal

pub read_coins-requires : goal.read_coins-requires
read_coins-requires c =
    let few = deal_few c.args.line.now c.requires.formed c.requires.short in
    (omega arith, omega (arith, c.count_items-m.ensures, few), omega arith)

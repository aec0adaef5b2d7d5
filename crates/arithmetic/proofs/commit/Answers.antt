use Rattle.algebra.proofs.Residues.{mods}
use Rattle.rules.specs.Dealing.{committed}
use Rattle.arithmetic.proofs.commit.Goals as goal

pub returns : goal.returns
unfolding committed
returns c = rw (c.times.ensures, c.power-2.ensures, c.power.ensures) (simp mods)

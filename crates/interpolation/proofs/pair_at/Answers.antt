use Rattle.std.proofs.Common.{◌∙◌}
use Rattle.interpolation.proofs.Values.{weighted_through}
use Rattle.interpolation.proofs.pair_at.Goals as goal

pub returns : goal.returns
returns c = (rw c.weights.ensures at c.weighted_pair.ensures) ∙ weighted_through _ _ c.args.x c.requires.fit.few

use Rattle.std.specs.Prelude.{◌≡◌}
use Rattle.std.proofs.Common.{rules}
use Rattle.rules.specs.Numbers.{exponent}
use Rattle.interpolation.specs.Points.{nothing, firsts_of, seconds_of}
use Rattle.interpolation.specs.Lagrange.{weighted_pair}
use Rattle.interpolation.proofs.Values.{map_is}
use Rattle.interpolation.proofs.weighted_pair.Goals as goal

pub returns : goal.returns
unfolding weighted_pair
returns c =
    let firsts : c.map.result ≡ firsts_of c.args.all =
    map_is (λ s. s.pair.first) nothing c.args.all.said c.map.result (search rules) c.map.ensures.items.long
    (λ i l. let called = c.map.ensures.items.at i nothing (exponent 0) l in search rules) in
    let seconds : c.map-2.result ≡ seconds_of c.args.all =
    map_is (λ s. s.pair.second) nothing c.args.all.said c.map-2.result (search rules) c.map-2.ensures.items.long
    (λ i l. let called = c.map-2.ensures.items.at i nothing (exponent 0) l in search rules) in
    rw (c.weighted.ensures, c.weighted-2.ensures, firsts, seconds)

use Rattle.std.proofs.Common.{ap, List, ℕ, length, arith}
use Rattle.mirror_hosts.proofs.Places.{distinct_few}
use Rattle.mirror_hosts.proofs.hosts.numbers.Goals as goal

pub places-requires : goal.places-requires
places-requires c =
    let size = ap (λ (xs : List (List ℕ)). length xs) c.in_ok-known.ensures in
    omega (arith, size, distinct_few c.args.hosts.now, c.requires)

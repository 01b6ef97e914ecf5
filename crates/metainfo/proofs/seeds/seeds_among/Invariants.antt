use Rattle.std.proofs.Common.{◌≡◌, take}
use Rattle.metainfo.specs.Rules.{seeds_among, strings_among}
use Rattle.metainfo.proofs.seeds.seeds_among.Given as goal

abbrev pub invariant-loop-item : goal.invariant-loop-item
invariant-loop-item l = l.seeds ≡ seeds_among (strings_among (take l.item-index l.items))

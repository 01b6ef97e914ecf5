use Rattle.std.proofs.Common.{◌≡◌, ◌∷◌, take, map}
use Rattle.metainfo.specs.Kept.{kept_part}
use Rattle.metainfo.specs.Rules.{strings_among}
use Rattle.metainfo.proofs.files.path_of.Given as goal

abbrev pub invariant-loop-item : goal.invariant-loop-item
invariant-loop-item l = l.path ≡ l.name ∷ map kept_part (strings_among (take l.item-index l.items))

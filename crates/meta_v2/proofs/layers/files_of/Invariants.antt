use Rattle.std.proofs.Common.{◌≡◌, drop}
use Rattle.meta_v2.specs.Layers.{pairs_of}
use Rattle.meta_v2.specs.Rules.{files_from}
use Rattle.meta_v2.proofs.Steps.{with_front}
use Rattle.meta_v2.proofs.layers.files_of.Given as goal

abbrev pub invariant-loop-number : goal.invariant-loop-number
invariant-loop-number l =
    with_front l.files (files_from l.number l.piece_len (pairs_of l.layers) (drop l.number l.entries))
    ≡ files_from 0 l.piece_len (pairs_of l.layers) l.entries

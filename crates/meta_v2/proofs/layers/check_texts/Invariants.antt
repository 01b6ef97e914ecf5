use Rattle.std.proofs.Common.{◌≡◌, true, take}
use Rattle.std.specs.List.{list_all}
use Rattle.meta_v2.specs.Layers.{pairs_of}
use Rattle.meta_v2.specs.Rules.{has_layer}
use Rattle.meta_v2.proofs.layers.check_texts.Given as goal

abbrev pub invariant-loop-entry : goal.invariant-loop-entry
invariant-loop-entry l = list_all (has_layer l.piece_len (pairs_of l.layers)) (take l.entry-index l.entries) ≡ true

use Rattle.std.proofs.Common.{◌≡◌, take}
use Rattle.rpc_envelope.specs.Texts.{passages_text}
use Rattle.rpc_envelope.proofs.texts.bytes_of.Given as goal

abbrev pub invariant-loop-passage : goal.invariant-loop-passage
invariant-loop-passage l = l.bytes.items ≡ passages_text (take l.passage-index l.passages)

use Rattle.std.proofs.Common.{◌≡◌, ◌++◌}
use Rattle.rpc_envelope.specs.Texts.{repeated}
use Rattle.rpc_envelope.proofs.texts.put_passage.Given as goal

abbrev pub invariant-loop : goal.invariant-loop
invariant-loop l = l.bytes.items ≡ l.fn.bytes.items ++ repeated l.passage.text.items l.counter

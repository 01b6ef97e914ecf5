use Rattle.std.proofs.Common.{◌≡◌, take, map}
use Rattle.std.specs.List.{flat_map}
use Rattle.serde_json.specs.View.{view}
use Rattle.rpc_envelope.specs.Asks.{part_calls}
use Rattle.rpc_envelope.specs.Answers.{shared_out, part_answers}
use Rattle.rpc_envelope.specs.Turns.{Walks}
use Rattle.rpc_envelope.proofs.parts.part_values.Given as goal

abbrev pub invariant-loop-part : goal.invariant-loop-part
invariant-loop-part g l = Walks (g.C.Caller.at l.fn.caller l.fn.desk) (g.C.Caller.at l.caller l.desk) (flat_map part_calls (take l.part-index (map view l.parts)))
    (λ ss. map view l.list.items ≡ shared_out part_calls part_answers (take l.part-index (map view l.parts)) ss)

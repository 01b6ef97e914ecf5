use Rattle.std.proofs.Common.{map, option_map}
use Rattle.serde_json.specs.View.{view}
use Rattle.rpc_envelope.proofs.Walks.{walked_one}
use Rattle.rpc_envelope.proofs.parts.invoke.Goals as goal

pub returns : goal.returns
returns g c =
    walked_one c.call.result (g.C.Caller.at c.args.caller.now c.args.desk.now) (g.C.Caller.at c.call.new.self c.call.new.desk)
    (record { method = c.args.method.now; params = option_map (λ list. map view list.now) c.args.params })
    c.call.ensures.took c.call.ensures.plain

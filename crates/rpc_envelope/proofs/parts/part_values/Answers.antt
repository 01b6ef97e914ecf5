use Rattle.std.specs.List.{flat_map}
use Rattle.std.proofs.Common.{◌≡◌, ◌+◌, map, take, drop}
use Rattle.serde_json.specs.View.{view}
use Rattle.rpc_envelope.specs.Asks.{part_calls}
use Rattle.rpc_envelope.specs.Answers.{shared_out, part_answers}
use Rattle.rpc_envelope.proofs.Walks.{walks_on, breaks_on, take_more_seen, split_at_seen, err_breaks}
use Rattle.rpc_envelope.proofs.parts.part_values.Goals as goal

pub returns-in_err-push_part : goal.returns-in_err-push_part
returns-in_err-push_part g c =
    let vs = c.args.parts.now in
    let all = map view vs in
    let i = c.loop-part.part-index in
    err_breaks c.from_residual.result (g.C.Caller.at c.args.caller.now c.args.desk.now) (g.C.Caller.at c.push_part.new.caller c.push_part.new.desk) (flat_map part_calls all) (λ v ss. map view v.items ≡ shared_out part_calls part_answers all ss) c.from_residual.ensures.0
    (breaks_on part_calls part_answers (g.C.Caller.at c.args.caller.now c.args.desk.now) (g.C.Caller.at c.loop-part.caller c.loop-part.desk) (g.C.Caller.at c.push_part.new.caller c.push_part.new.desk)
    (take i all) (view c.part-item.result) (map view (drop (i + 1) vs)) all (λ ss. map view c.loop-part.list.items ≡ shared_out part_calls part_answers (take i all) ss) c.loop-part.invariant c.in_err-push_part.ensures (split_at_seen view vs i c.part-item.result c.loop-part-test.true c.part-item.is))

pub loop-part-preserved : goal.loop-part-preserved
loop-part-preserved g c =
    let vs = c.args.parts.now in
    let all = map view vs in
    let i = c.loop-part.part-index in
    rw (take_more_seen view vs i c.part-item.result c.loop-part-test.true c.part-item.is)
    (walks_on part_calls part_answers (g.C.Caller.at c.args.caller.now c.args.desk.now) (g.C.Caller.at c.loop-part.caller c.loop-part.desk) (g.C.Caller.at c.push_part.new.caller c.push_part.new.desk)
    (take i all) (view c.part-item.result) (map view c.loop-part.list.items) (map view c.push_part.new.list.items) c.loop-part.invariant c.in_ok-push_part.ensures)

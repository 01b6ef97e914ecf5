use Rattle.std.proofs.Common.{◌≡◌, ◌<◌, ◌∙◌, ap, map, length, option_map, sym, rules}
use Rattle.serde_json.specs.View.{view, items_view}
use Rattle.serde_json.specs.Written.{compact_text}
use Rattle.std.specs.List.{flat_map}
use Rattle.rpc_envelope.specs.Asks.{member_calls}
use Rattle.rpc_envelope.specs.Answers.{shared_out, member_answers, list_if_any, batch_answer}
use Rattle.rpc_envelope.proofs.Lists.{batch_some, empty_batch}
use Rattle.rpc_envelope.proofs.Walks.{walked_as}
use Rattle.rpc_envelope.proofs.batches.batch.Goals as goal

pub returns : goal.returns
returns g c =
    let vs = c.args.members.now in
    let some : 0 < length vs = search rules in
    walked_as c.batch_of_some.result (g.C.Caller.at c.args.caller.now c.args.desk.now) (g.C.Caller.at c.batch_of_some.new.caller c.batch_of_some.new.desk) (flat_map member_calls (map view vs))
    (λ text ss. text ≡ option_map compact_text (list_if_any (shared_out member_calls member_answers (map view vs) ss)))
    (λ text ss. text ≡ option_map compact_text (batch_answer (items_view vs) ss))
    (λ text ss e. e ∙ ap (option_map compact_text) (sym (batch_some vs ss some))) c.batch_of_some.ensures

pub returns-then-is_empty : goal.returns-then-is_empty
returns-then-is_empty g c =
    empty_batch (g.C.Caller.at c.args.caller.now c.args.desk.now) c.args.members.now c.in_ok-text.text (sym c.is_empty.ensures ∙ c.if-is_empty.true)
    c.in_ok-text.ensures

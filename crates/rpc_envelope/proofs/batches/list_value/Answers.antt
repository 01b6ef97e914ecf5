use Rattle.serde_json.specs.View.{view}
use Rattle.rpc_envelope.proofs.TextLemmas.{lists_on}
use Rattle.rpc_envelope.proofs.batches.list_value.Goals as goal

pub returns : goal.returns
returns c before is =
    lists_on c.args.list.now c.push.new.self c.in_ok-text.text.items (view c.args.answer.now) c.is_empty.result c.is_empty.ensures
    c.in_ok-text.ensures.text c.in_ok-push.ensures before is

use Rattle.std.proofs.Common.{◌≡◌, List, map, option_map}
use Rattle.serde_json.specs.Data.{Data}
use Rattle.serde_json.specs.View.{view}
use Rattle.serde_json.specs.Written.{compact_text}
use Rattle.rpc_envelope.specs.Answers.{answers_of_all, list_if_any}
use Rattle.rpc_envelope.specs.Asks.{calls_of_all}
use Rattle.rpc_envelope.specs.Texts.{listed_text}
use Rattle.rpc_envelope.proofs.Walks.{text_walked}
use Rattle.rpc_envelope.proofs.batches.batch_of_some.Goals as goal

pub returns : goal.returns
returns g c =
    let ds = map view c.args.members.now in
    text_walked c.close_if_any.result (g.C.Caller.at c.args.caller.now c.args.desk.now)
    (g.C.Caller.at c.members_text.new.caller c.members_text.new.desk) (calls_of_all ds) c.in_ok-list.list
    (λ list ss. list ≡ listed_text (answers_of_all ds ss))
    (λ list text. (items : List Data) → list ≡ listed_text items → text ≡ option_map compact_text (list_if_any items))
    (λ text ss. text ≡ option_map compact_text (list_if_any (answers_of_all ds ss)))
    (λ text ss closes is. closes (answers_of_all ds ss) is) c.close_if_any.ensures c.in_ok-list.ensures

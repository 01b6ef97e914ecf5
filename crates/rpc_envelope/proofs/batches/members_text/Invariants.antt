use Rattle.std.proofs.Common.{◌≡◌, take, map}
use Rattle.std.specs.List.{flat_map}
use Rattle.serde_json.specs.View.{view}
use Rattle.rpc_envelope.specs.Asks.{member_calls}
use Rattle.rpc_envelope.specs.Answers.{shared_out, member_answers}
use Rattle.rpc_envelope.specs.Texts.{listed_text}
use Rattle.rpc_envelope.specs.Turns.{Walks}
use Rattle.rpc_envelope.proofs.batches.members_text.Given as goal

abbrev pub invariant-loop-member : goal.invariant-loop-member
invariant-loop-member g l = Walks (g.C.Caller.at l.fn.caller l.fn.desk) (g.C.Caller.at l.caller l.desk) (flat_map member_calls (take l.member-index (map view l.members)))
    (λ ss. l.list ≡ listed_text (shared_out member_calls member_answers (take l.member-index (map view l.members)) ss))

use Rattle.std.specs.List.{flat_map}
use Rattle.std.proofs.Common.{◌≡◌, ◌+◌, map, take, drop}
use Rattle.serde_json.specs.View.{view}
use Rattle.rpc_envelope.specs.Asks.{member_calls}
use Rattle.rpc_envelope.specs.Answers.{shared_out, member_answers}
use Rattle.rpc_envelope.specs.Texts.{listed_text, ListsFurther}
use Rattle.rpc_envelope.proofs.Walks.{walks_both, breaks_on, take_more_seen, split_at_seen, err_breaks}
use Rattle.rpc_envelope.proofs.batches.members_text.Goals as goal

pub returns-in_err-list_member : goal.returns-in_err-list_member
returns-in_err-list_member g c =
    let vs = c.args.members.now in
    let all = map view vs in
    let i = c.loop-member.member-index in
    err_breaks c.from_residual.result (g.C.Caller.at c.args.caller.now c.args.desk.now) (g.C.Caller.at c.list_member.new.caller c.list_member.new.desk)
    (flat_map member_calls all) (λ list ss. list ≡ listed_text (shared_out member_calls member_answers all ss)) c.from_residual.ensures.0
    (breaks_on member_calls member_answers (g.C.Caller.at c.args.caller.now c.args.desk.now) (g.C.Caller.at c.loop-member.caller c.loop-member.desk)
    (g.C.Caller.at c.list_member.new.caller c.list_member.new.desk)
    (take i all) (view c.member-item.result) (map view (drop (i + 1) vs)) all
    (λ ss. c.loop-member.list ≡ listed_text (shared_out member_calls member_answers (take i all) ss)) c.loop-member.invariant
    c.in_err-list_member.ensures (split_at_seen view vs i c.member-item.result c.loop-member-test.true c.member-item.is))

pub loop-member-preserved : goal.loop-member-preserved
loop-member-preserved g c =
    let vs = c.args.members.now in
    let all = map view vs in
    let i = c.loop-member.member-index in
    rw (take_more_seen view vs i c.member-item.result c.loop-member-test.true c.member-item.is)
    (walks_both member_calls member_answers (g.C.Caller.at c.args.caller.now c.args.desk.now) (g.C.Caller.at c.loop-member.caller c.loop-member.desk)
    (g.C.Caller.at c.list_member.new.caller c.list_member.new.desk) (take i all) (view c.member-item.result)
    (λ xs. c.loop-member.list ≡ listed_text xs) (ListsFurther c.loop-member.list c.list_member.new.list)
    (λ zs. c.list_member.new.list ≡ listed_text zs) (λ xs ys is further. further xs is) c.loop-member.invariant c.in_ok-list_member.ensures)

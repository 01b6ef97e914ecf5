use Rattle.std.proofs.Common.{◌≡◌, sym, subst}
use Rattle.serde_json.specs.View.{view}
use Rattle.rpc_envelope.specs.Answers.{member_answers}
use Rattle.rpc_envelope.specs.Asks.{member_calls}
use Rattle.rpc_envelope.specs.Outcomes.{answers_in}
use Rattle.rpc_envelope.specs.Texts.{ArePlainData, ListsFurther}
use Rattle.rpc_envelope.specs.Turns.{outcomes_in}
use Rattle.rpc_envelope.proofs.Plain.{members_plain}
use Rattle.rpc_envelope.proofs.Walks.{text_walked}
use Rattle.rpc_envelope.proofs.batches.list_member.Goals as goal

pub list_if_any-requires : goal.list_if_any-requires
list_if_any-requires g c =
    let walks = c.in_ok-answer.ensures in
    subst ArePlainData (sym walks.holds) (members_plain (view c.args.value.now) (outcomes_in walks.mine) walks.came)

pub returns : goal.returns
returns g c =
    let d = view c.args.value.now in
    text_walked c.list_if_any.result (g.C.Caller.at c.args.caller.now c.args.desk.now)
    (g.C.Caller.at c.member_answer.new.caller c.member_answer.new.desk) (member_calls d) c.in_ok-answer.answer
    (λ answer ss. answers_in answer ≡ member_answers d ss)
    (λ answer done. ListsFurther c.args.list.now c.list_if_any.new.list (answers_in answer))
    (λ done ss. ListsFurther c.args.list.now c.list_if_any.new.list (member_answers d ss))
    (λ done ss further is. subst (ListsFurther c.args.list.now c.list_if_any.new.list) is further) c.list_if_any.ensures c.in_ok-answer.ensures

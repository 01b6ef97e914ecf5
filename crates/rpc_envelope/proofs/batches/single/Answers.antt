use Rattle.std.proofs.Common.{◌≡◌, ◌∙◌, ap, sym, subst, option_map}
use Rattle.serde_json.specs.View.{view}
use Rattle.serde_json.specs.Written.{compact_text}
use Rattle.rpc_envelope.specs.Answers.{member_answers, first_of}
use Rattle.rpc_envelope.specs.Asks.{member_calls}
use Rattle.rpc_envelope.specs.Outcomes.{answers_in}
use Rattle.rpc_envelope.specs.Texts.{ArePlainData}
use Rattle.rpc_envelope.specs.Turns.{outcomes_in}
use Rattle.rpc_envelope.proofs.Plain.{members_plain}
use Rattle.rpc_envelope.proofs.Walks.{text_walked}
use Rattle.rpc_envelope.proofs.batches.single.Goals as goal

pub text_if_any-requires : goal.text_if_any-requires
text_if_any-requires g c =
    let walks = c.in_ok-answer.ensures in
    subst ArePlainData (sym walks.holds) (members_plain (view c.args.value.now) (outcomes_in walks.mine) walks.came)

pub returns : goal.returns
returns g c =
    let d = view c.args.value.now in
    text_walked c.text_if_any.result (g.C.Caller.at c.args.caller.now c.args.desk.now)
    (g.C.Caller.at c.member_answer.new.caller c.member_answer.new.desk) (member_calls d) c.in_ok-answer.answer
    (λ answer ss. answers_in answer ≡ member_answers d ss)
    (λ answer text. text ≡ option_map compact_text (first_of (answers_in answer)))
    (λ text ss. text ≡ option_map compact_text (first_of (member_answers d ss)))
    (λ text ss is same. is ∙ ap (λ ds. option_map compact_text (first_of ds)) same) c.text_if_any.ensures c.in_ok-answer.ensures

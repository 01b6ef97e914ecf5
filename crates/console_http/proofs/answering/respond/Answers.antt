use Rattle.std.proofs.Common.{ap}
use Rattle.request_stream.specs.Responses.{served_response}
use Rattle.rpc_envelope.specs.Answers.{answer_text, read_bytes}
use Rattle.rpc_envelope.specs.Asks.{found_calls}
use Rattle.console_http.proofs.Sending.{responded, unsent}
use Rattle.console_http.proofs.answering.respond.Goals as goal

pub returns-in_err-answer-clause-responded : goal.returns-in_err-answer-clause-responded
returns-in_err-answer-clause-responded g c =
    unsent g.S.Caller.at g.A.Doors (found_calls (read_bytes c.args.body.now))
    (λ came. served_response (answer_text (read_bytes c.args.body.now) came)) c.args.session.now c.args.desk.now
    c.answer_body.new.caller c.answer_body.new.desk c.args.door.now c.from_residual.result c.from_residual.ensures.1
    c.in_err-answer.ensures

pub returns-clause-responded : goal.returns-clause-responded
returns-clause-responded g c =
    let read = read_bytes c.args.body.now in
    responded g.S.Caller.at g.A.Doors (found_calls read) (λ came. served_response (answer_text read came)) c.args.session.now
    c.args.desk.now c.answer_body.new.caller c.answer_body.new.desk c.args.door.now c.send_response.new.door
    (served_response c.in_ok-answer.answer) c.send_response.result
    (let walks = c.in_ok-answer.ensures in record {
      mine = walks.mine;
      extends = walks.extends;
      asked = walks.asked;
      came = walks.came;
      holds = ap served_response walks.holds;
    }) c.send_response.ensures.sent

use Rattle.std.proofs.Common.{sym, subst}
use Rattle.request_stream.specs.Responses.{served_response}
use Rattle.rpc_envelope.specs.Texts.{passages_text}
use Rattle.console_http.specs.Writing.{HasSent, writer_at}
use Rattle.console_http.proofs.WritingLemmas.{not_all_sent, sends_last, whole_response}
use Rattle.console_http.proofs.writing.send_response.Goals as goal

pub returns-in_err-write_passages-clause-sent : goal.returns-in_err-write_passages-clause-sent
returns-in_err-write_passages-clause-sent g c =
    let head = c.in_ok-waiting.waiting.items in
    let text = passages_text c.passages.result.now in
    let whole = whole_response c.args.answer.now c.in-Some.text head text c.len.result c.in-Some.is c.len.ensures c.in_ok-waiting.ensures
    c.passages.ensures in
    not_all_sent g.A.Doors text (served_response c.args.answer.now) (writer_at c.args.door.now head)
    (writer_at c.write_passages.new.door c.write_passages.new.waiting.items) c.from_residual-in_err-write_passages.result
    c.in_err-write_passages.field-0.0 c.from_residual-in_err-write_passages.ensures.1 whole c.in_err-write_passages.ensures.written

pub returns-clause-sent : goal.returns-clause-sent
returns-clause-sent g c =
    let head = c.in_ok-waiting.waiting.items in
    let text = passages_text c.passages.result.now in
    let whole = whole_response c.args.answer.now c.in-Some.text head text c.len.result c.in-Some.is c.len.ensures c.in_ok-waiting.ensures
    c.passages.ensures in
    subst (λ bytes. HasSent g.A.Doors bytes c.args.door.now c.send-2.new.self c.send-2.result) (sym whole)
    (sends_last c.newest_connection_is_one.ensures g.A.Doors text (writer_at c.args.door.now head)
    (writer_at c.write_passages.new.door c.write_passages.new.waiting.items) c.send-2.new.self c.send-2.result
    c.in_ok-write_passages.ensures.written (rw c.deref-2.ensures.value at c.send-2.ensures.sent) c.send-2.ensures.cause)

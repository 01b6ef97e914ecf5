use Rattle.request_stream.specs.Responses.{refusal_response}
use Rattle.console_http.proofs.Sending.{turned_away_by}
use Rattle.console_http.proofs.answering.turn_away.Goals as goal

pub returns-in-Err-clause-turned_away : goal.returns-in-Err-clause-turned_away
returns-in-Err-clause-turned_away g c =
    let sent = rw c.refusal_response.ensures at c.in-Err.ensures.sent in
    rw c.end_by_error.ensures
    (turned_away_by g.A.Doors (refusal_response c.args.refusal) c.args.door.now c.send.new.self c.in-Err.error sent c.in-Err.ensures.cause)

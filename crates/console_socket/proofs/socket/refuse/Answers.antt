use Rattle.console_socket.proofs.Whole.{refused_part, refused_whole}
use Rattle.console_socket.proofs.socket.refuse.Goals as goal

pub returns-in-Ok-clause-refused : goal.returns-in-Ok-clause-refused
returns-in-Ok-clause-refused g c =
    refused_whole g.A.Doors c.refusal_response.result.now c.args.door.now c.send.new.self c.refusal_response.ensures
    c.in-Ok.ensures.sent c.in-Ok.ensures.cause.done

pub returns-in-Err-clause-refused : goal.returns-in-Err-clause-refused
returns-in-Err-clause-refused g c =
    rw c.end_by_error.ensures (refused_part g.A.Doors c.refusal_response.result.now c.in-Err.error c.args.door.now c.send.new.self
    c.refusal_response.ensures c.in-Err.ensures.sent c.in-Err.ensures.cause)

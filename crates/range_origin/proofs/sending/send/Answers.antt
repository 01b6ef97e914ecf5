use Rattle.std.proofs.Common.{sym, subst}
use Rattle.std.specs.Prelude.{Some}
use Rattle.range_origin.specs.Talking.{HasSent}
use Rattle.range_origin.proofs.SentTexts.{sent_all, sent_part}
use Rattle.range_origin.proofs.sending.send.Goals as goal

pub returns-in-Ok-clause-sent : goal.returns-in-Ok-clause-sent
returns-in-Ok-clause-sent g c =
    sent_all g.A.Doors c.newest_connection_is_one.ensures c.args.bytes.now c.args.door.now c.send.new.self c.send.result
    c.in-Ok.is c.send.ensures.sent c.send.ensures.cause

pub returns-in-Err-clause-sent : goal.returns-in-Err-clause-sent
returns-in-Err-clause-sent g c =
    subst (λ end. HasSent g.A.Doors c.args.bytes.now (Some end) c.args.door.now c.send.new.self) (sym c.visit_end_by.ensures)
    (sent_part g.A.Doors c.newest_connection_is_one.ensures c.args.bytes.now c.args.door.now c.send.new.self c.send.result
    c.in-Err.error c.in-Err.is c.send.ensures.sent c.send.ensures.cause)

use Rattle.rpc_envelope.specs.Outcomes.{seen_if_any, turn_of}
use Rattle.console_session.proofs.Carrying.{called_on}
use Rattle.console_session.specs.Sessions.{session_at}
use Rattle.console_session.proofs.attendant.AttendantCaller.call.Goals as goal

pub returns-clause-took : goal.returns-clause-took
returns-clause-took g c first began earlier =
    called_on g.T.Desk.sight g.T.Desk.desk_id g.K.Clock.reads c.turns_add_up.ensures.more
    (session_at first.session began) (session_at c.args.self.now.session c.args.desk.now)
    (session_at c.call.new.self c.call.new.desk) earlier
    (turn_of c.args.method.now (seen_if_any c.args.params) c.call.result) c.call.ensures.carries

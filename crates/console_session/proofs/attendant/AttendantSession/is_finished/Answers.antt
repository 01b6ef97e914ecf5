use Rattle.console_session.proofs.Carrying.{asked_on}
use Rattle.console_session.specs.Sessions.{session_at}
use Rattle.console_session.proofs.attendant.AttendantSession.is_finished.Goals as goal

pub returns-clause-calls : goal.returns-clause-calls
returns-clause-calls g c first began earlier =
    asked_on g.T.Desk.sight g.T.Desk.desk_id g.K.Clock.reads c.turns_add_up.ensures.more
    (session_at first.session began) (session_at c.args.self.now.session c.args.desk.now)
    (session_at c.is_finished.new.self c.is_finished.new.desk) earlier c.is_finished.result c.is_finished.ensures

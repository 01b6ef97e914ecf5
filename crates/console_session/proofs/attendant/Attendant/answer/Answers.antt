use Rattle.std.proofs.Common.{[], ap}
use Rattle.console_socket.specs.Sessions.{seen_inward}
use Rattle.console_socket.specs.declared.session.Inward.{Inward}
use Rattle.console_session.proofs.Stepping.{none_answered}
use Rattle.console_session.specs.Sessions.{session_at}
use Rattle.console_session.specs.SocketSteps.{answers_to, calls_in}
use Rattle.console_session.proofs.attendant.Attendant.answer.Goals as goal

pub returns-in-Join : goal.returns-in-Join
returns-in-Join g c =
    none_answered g.T.Desk.sight g.T.Desk.desk_id g.K.Clock.reads c.turns_add_up.ensures.none
    (seen_inward c.args.inward.now) (session_at c.args.self.now.session c.args.desk.now)
    (ap (λ (i : Inward). calls_in (seen_inward i)) c.in-Join.is)
    (ap (λ (i : Inward). answers_to (seen_inward i) []) c.in-Join.is)

pub returns-in-Tick : goal.returns-in-Tick
returns-in-Tick g c =
    none_answered g.T.Desk.sight g.T.Desk.desk_id g.K.Clock.reads c.turns_add_up.ensures.none
    (seen_inward c.args.inward.now) (session_at c.args.self.now.session c.args.desk.now)
    (ap (λ (i : Inward). calls_in (seen_inward i)) c.in-Tick.is)
    (ap (λ (i : Inward). answers_to (seen_inward i) []) c.in-Tick.is)

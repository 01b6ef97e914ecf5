use Rattle.console_session.proofs.TellingAll.{tell_all}
use Rattle.console_session.proofs.laws.socket_steps_tell_all.Goals as goal

pub returns : goal.returns
returns c =
    tell_all c.notices_go_on.ensures.on c.notices_go_on.ensures.upto c.notices_go_on.ensures.stays c.notices_go_on.ensures.end

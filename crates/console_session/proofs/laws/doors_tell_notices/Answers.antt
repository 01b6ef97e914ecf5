use Rattle.console_session.proofs.DoorTells.{tells_notices}
use Rattle.console_session.proofs.laws.doors_tell_notices.Goals as goal

pub returns : goal.returns
returns c = tells_notices c.socket_steps_tell_all.ensures

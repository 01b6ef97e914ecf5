use Rattle.console_session.proofs.Placing.{where_replied}
use Rattle.console_session.proofs.laws.calls_stand_where_replied.Goals as goal

pub returns : goal.returns
returns g = where_replied

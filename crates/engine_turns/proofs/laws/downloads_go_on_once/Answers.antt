use Rattle.engine_turns.proofs.Gone.{ended_gone, gone_stay}
use Rattle.engine_turns.proofs.laws.downloads_go_on_once.Goals as goal

pub returns-clause-gone : goal.returns-clause-gone
returns-clause-gone c = gone_stay

pub returns-clause-ended : goal.returns-clause-ended
returns-clause-ended c = ended_gone

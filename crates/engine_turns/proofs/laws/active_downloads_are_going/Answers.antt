use Rattle.engine_turns.proofs.Going.{active_going}
use Rattle.engine_turns.proofs.Idle.{inactive_idle}
use Rattle.engine_turns.proofs.laws.active_downloads_are_going.Goals as goal

pub returns-clause-going : goal.returns-clause-going
returns-clause-going c = active_going

pub returns-clause-idle : goal.returns-clause-idle
returns-clause-idle c = inactive_idle

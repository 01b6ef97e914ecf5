use Rattle.engine_turns.proofs.Turned.{handed_active, turns_append}
use Rattle.engine_turns.proofs.laws.turns_tell_runs.Goals as goal

pub returns-clause-appended : goal.returns-clause-appended
returns-clause-appended c = turns_append

pub returns-clause-handed : goal.returns-clause-handed
returns-clause-handed c = handed_active

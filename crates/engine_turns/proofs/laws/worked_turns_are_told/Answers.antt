use Rattle.engine_turns.proofs.Worked.{worked_rows, worked_turns}
use Rattle.engine_turns.proofs.laws.worked_turns_are_told.Goals as goal

pub returns-clause-handed : goal.returns-clause-handed
returns-clause-handed c = worked_turns

pub returns-clause-rows : goal.returns-clause-rows
returns-clause-rows c = worked_rows

use Rattle.served_runs.proofs.Working.{work_is_answered}
use Rattle.served_runs.proofs.serving.work_is_answered.Goals as goal

pub returns : goal.returns
returns c = work_is_answered

use Rattle.worker_turns.proofs.Rising.{leisure_active}
use Rattle.worker_turns.proofs.laws.leisure_is_active.Goals as goal

pub returns : goal.returns
returns c = leisure_active

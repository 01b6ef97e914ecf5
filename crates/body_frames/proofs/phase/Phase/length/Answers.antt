use Rattle.body_frames.proofs.Runs.{none_left}
use Rattle.body_frames.proofs.phase.Phase.length.Goals as goal

pub returns-in-None-clause-means : goal.returns-in-None-clause-means
returns-in-None-clause-means c = λ more. rw (c.in-None.ensures) (none_left more)

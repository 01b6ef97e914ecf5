use Rattle.resume_core.proofs.Same.{give_same, sound_same, agrees_same, agrees_seen}
use Rattle.resume_core.proofs.laws.same_files_give_the_same.Goals as goal

pub returns-clause-give : goal.returns-clause-give
returns-clause-give c = give_same

pub returns-clause-sound : goal.returns-clause-sound
returns-clause-sound c = sound_same

pub returns-clause-agree : goal.returns-clause-agree
returns-clause-agree c = agrees_same

pub returns-clause-read : goal.returns-clause-read
returns-clause-read c = agrees_seen

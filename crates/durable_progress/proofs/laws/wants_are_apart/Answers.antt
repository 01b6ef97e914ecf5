use Rattle.durable_progress.proofs.Beside.{agrees_stays, gives_same, lengths_stay, sound_stays, stays}
use Rattle.durable_progress.proofs.laws.wants_are_apart.Goals as goal

pub returns-clause-files : goal.returns-clause-files
returns-clause-files c = λ want other old new changes. stays want other changes.apart old new changes.besides

pub returns-clause-lengths : goal.returns-clause-lengths
returns-clause-lengths c = lengths_stay

pub returns-clause-give : goal.returns-clause-give
returns-clause-give c = gives_same

pub returns-clause-sound : goal.returns-clause-sound
returns-clause-sound c = sound_stays

pub returns-clause-agree : goal.returns-clause-agree
returns-clause-agree c = agrees_stays

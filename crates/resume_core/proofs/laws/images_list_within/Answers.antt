use Rattle.resume_core.proofs.Torn.{sound_within, whole_within}
use Rattle.resume_core.proofs.laws.images_list_within.Goals as goal

pub returns-clause-sound : goal.returns-clause-sound
returns-clause-sound c = sound_within

pub returns-clause-whole : goal.returns-clause-whole
returns-clause-whole c = whole_within

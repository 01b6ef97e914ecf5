use Rattle.resume_core.proofs.Saving.{gives_either, sound_either, agrees_either}
use Rattle.resume_core.proofs.laws.saves_give_either.Goals as goal

pub returns-clause-give : goal.returns-clause-give
returns-clause-give c = gives_either c.control_files_are_read.ensures.back

pub returns-clause-sound : goal.returns-clause-sound
returns-clause-sound c = sound_either c.control_files_are_read.ensures.back

pub returns-clause-agree : goal.returns-clause-agree
returns-clause-agree c = agrees_either c.control_files_are_read.ensures.back

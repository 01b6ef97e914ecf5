use Rattle.resume_core.proofs.Saving.{sound_finished, agrees_finished}
use Rattle.resume_core.proofs.laws.finished_files_are_sound.Goals as goal

pub returns-clause-sound : goal.returns-clause-sound
returns-clause-sound c = sound_finished

pub returns-clause-agree : goal.returns-clause-agree
returns-clause-agree c = agrees_finished

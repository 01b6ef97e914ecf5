use Rattle.resume_core.proofs.Saved.{written_is_used, gives_just, sound_saved, agrees_saved}
use Rattle.resume_core.proofs.laws.saved_files_give_what_is_listed.Goals as goal

pub returns-clause-used : goal.returns-clause-used
returns-clause-used c = written_is_used c.control_files_are_read.ensures.back

pub returns-clause-just : goal.returns-clause-just
returns-clause-just c = gives_just c.control_files_are_read.ensures.back

pub returns-clause-sound : goal.returns-clause-sound
returns-clause-sound c = sound_saved c.control_files_are_read.ensures.back

pub returns-clause-agrees : goal.returns-clause-agrees
returns-clause-agrees c = agrees_saved

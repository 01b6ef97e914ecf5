use Rattle.resume_core.proofs.Stretched.{still_piece, still_block, gives_the_same, sound_still, agrees_still}
use Rattle.resume_core.proofs.laws.stretched_files_keep_what_is_given.Goals as goal

pub returns-clause-pieces : goal.returns-clause-pieces
returns-clause-pieces c = still_piece

pub returns-clause-blocks : goal.returns-clause-blocks
returns-clause-blocks c = still_block

pub returns-clause-same : goal.returns-clause-same
returns-clause-same c = gives_the_same

pub returns-clause-sound : goal.returns-clause-sound
returns-clause-sound c = sound_still

pub returns-clause-agree : goal.returns-clause-agree
returns-clause-agree c = λ want was now old new under change sound agrees. agrees_still want old new under sound was now
    change agrees

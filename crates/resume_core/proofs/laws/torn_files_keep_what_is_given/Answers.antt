use Rattle.resume_core.proofs.Torn.{still_piece, still_block, gives_the_same, sound_still, agrees_still}
use Rattle.resume_core.proofs.laws.torn_files_keep_what_is_given.Goals as goal

pub returns-clause-pieces : goal.returns-clause-pieces
returns-clause-pieces c = still_piece c.plan_laws.ensures.follow

pub returns-clause-blocks : goal.returns-clause-blocks
returns-clause-blocks c = still_block c.plan_laws.ensures.follow

pub returns-clause-same : goal.returns-clause-same
returns-clause-same c = gives_the_same c.plan_laws.ensures.follow

pub returns-clause-sound : goal.returns-clause-sound
returns-clause-sound c = sound_still c.plan_laws.ensures.follow

pub returns-clause-agree : goal.returns-clause-agree
returns-clause-agree c = λ want run was now old new under change within agrees.
    agrees_still c.plan_laws.ensures.follow want run old new under within was now change agrees

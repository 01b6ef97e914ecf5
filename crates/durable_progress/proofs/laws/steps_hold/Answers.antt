use Rattle.durable_progress.proofs.Holding.{elsewhere_hold, finishes_hold, held_gives, held_lacks, opened_held, same_held, saved_held, saves_hold, writes_hold}
use Rattle.durable_progress.proofs.laws.steps_hold.Goals as goal

pub returns-clause-give : goal.returns-clause-give
returns-clause-give c = held_gives c.control_files_are_read.ensures.back

pub returns-clause-opened : goal.returns-clause-opened
returns-clause-opened c = opened_held

pub returns-clause-saves : goal.returns-clause-saves
returns-clause-saves c = λ want table listing seen before image from.
    saves_hold c.plan_laws.ensures.of_pieces want table seen from listing before image

pub returns-clause-saved : goal.returns-clause-saved
returns-clause-saved c = λ want table seen image from. saved_held c.plan_laws.ensures.of_pieces want table seen from image

pub returns-clause-lack : goal.returns-clause-lack
returns-clause-lack c = λ want listing run seen image is none held.
    held_lacks c.control_files_are_read.ensures.back want listing seen image is held run none

pub returns-clause-writes : goal.returns-clause-writes
returns-clause-writes c = λ want listing run was now before image writes.
    writes_hold c.control_files_are_read.ensures.back c.plan_laws.ensures.follow want listing run was now writes before image

pub returns-clause-elsewhere : goal.returns-clause-elsewhere
returns-clause-elsewhere c = λ want listing run was now image writes.
    elsewhere_hold c.control_files_are_read.ensures.back c.plan_laws.ensures.follow want listing run was now writes image

pub returns-clause-finishes : goal.returns-clause-finishes
returns-clause-finishes c = finishes_hold

pub returns-clause-same : goal.returns-clause-same
returns-clause-same c = same_held

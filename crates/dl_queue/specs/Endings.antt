-- The statuses of stopped downloads (aria2 manual, `aria2.tellStatus`).
use Rattle.std.specs.Prelude.{Option, None, Some}
use Rattle.dl_kinds.specs.declared.status.Status.{Status}
use Rattle.dl_kinds.specs.declared.status.Status.TheVariants as status
use Rattle.dl_queue.specs.declared.kinds.Ending.{Ending}
use Rattle.dl_queue.specs.declared.kinds.Ending.TheVariants.{Failed, Complete, Removed}

abbrev pub ended_status : Ending → Status
ended_status Failed = status.Failed
ended_status Complete = status.Complete
ended_status Removed = status.Removed

abbrev pub ending_by_status : Status → Ending
ending_by_status status.Complete = Complete
ending_by_status status.Removed = Removed
ending_by_status other = Failed

abbrev pub ending_by_standing : Option Status → Ending
ending_by_standing None = Failed
ending_by_standing (Some status) = ending_by_status status

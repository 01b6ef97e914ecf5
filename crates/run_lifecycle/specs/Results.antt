-- What is left of a run, apart from what it was given beside the disk.
use Rattle.run_lifecycle.specs.declared.ended.Ended.{Ended}
use Rattle.run_lifecycle.specs.declared.ended.Finished.{Finished}

abbrev pub ended_of : {D L K A : Type 0} → Finished D L K A → Ended D
ended_of r = record { ending = r.ending; disk = r.disk; journal = r.journal }

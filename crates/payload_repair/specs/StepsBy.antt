-- What several calls of a disk make of its files, where some of them read.
use Rattle.dl_disk.specs.Files.{Files}
use Rattle.dl_disk.specs.Passes.{Passes}
use Rattle.dl_disk.specs.State.{DiskState}
use Rattle.payload_files.specs.Names.{KeepsFolders}

-- The calls from old to new took this step, in what is read, and at each moment in what a crash might leave. Folders that
-- were made stand.
pub record StepsBy (step : Files → Files → Type 0) (old new : DiskState) : Type 0 where
  pub seen : step old.seen new.seen
  pub passes : Passes step old new
  pub folders : KeepsFolders old.folders new.folders

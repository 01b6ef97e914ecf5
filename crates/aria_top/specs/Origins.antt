-- Runs that serve a folder.
use Rattle.std.specs.Prelude.{◌≡◌, ℕ, List, []}
use Rattle.command_meanings.specs.Meanings.{AskToServe}
use Rattle.command_meanings.specs.declared.modes.ServeLine.{ServeLine}
use Rattle.dl_disk.specs.declared.disk.Disk.{Ghosts as DiskSays}
use Rattle.door_source.specs.declared.Doors.{Ghosts as DoorSays}
use Rattle.origin_run.specs.Folders.{FolderGiven, FolderLeft, ServesFolder}
use Rattle.aria_top.specs.OneRun.{OneRun, events_of_run}

module _ {D L K A O : Type 0} (disk : DiskSays D) (doors : DoorSays A) (run : OneRun D L K A O) where
  -- the folder on the disk of the run, and its doors
  abbrev pub folder_of_run : List ℕ → FolderGiven D A K
  folder_of_run dir = record { dir = dir; disk = run.given.disk; doors = run.given.doors }

  -- .. and what was left of them
  abbrev pub left_of_run : FolderLeft D A K
  left_of_run = record {
    disk = run.came.ended.disk;
    doors = run.came.doors;
    transcripts = run.came.transcripts;
    ending = run.came.ended.ending;
  }

  -- The folder was served at all doors. Nothing was printed, links weren't used, and nothing is told as an event.
  pub record RanOrigin (dir : List ℕ) : Type 0 where
    pub served : ServesFolder disk doors (folder_of_run dir) left_of_run
    pub none : events_of_run run ≡ []
    pub links : run.came.links ≡ run.given.links
    pub out : run.came.out ≡ run.given.out

  -- words that ask for a folder have it served
  abbrev pub ServesFolders : Type 0
  ServesFolders = (line : ServeLine) → AskToServe run.given.words line → RanOrigin line.dir

-- A folder that is served.
use Rattle.std.specs.Prelude.{◌≡◌, ℕ, IsTrue, List, [], Some, map, slice_get}
use Rattle.std.specs.List.{AllByRecursion}
use Rattle.console_http.specs.Visits.{RoseBy}
use Rattle.console_session.specs.declared.serving.Transcript.{Transcript}
use Rattle.desk_participants.specs.Uses.{AreUsed}
use Rattle.dl_disk.specs.Files.{Files, IsSame}
use Rattle.dl_disk.specs.declared.disk.Disk.{Ghosts as DiskSays}
use Rattle.door_source.specs.declared.Doors.{Ghosts as DoorSays}
use Rattle.range_origin.specs.Shelves.{IsAsked, folder_at, shelf_name}
use Rattle.range_origin.specs.Talking.{ShelfTurn}
use Rattle.range_origin.specs.Visits.{AreTurnsOf}
use Rattle.run_report.specs.declared.endings.RunEnding.{RunEnding}
use Rattle.run_report.specs.declared.endings.RunEnding.TheVariants.{Done, NoMemory}
use Rattle.turn_desk.specs.Turns.{turns_by}
use Rattle.origin_run.specs.declared.serving.ServedFolder.{ServedFolder}
use Rattle.origin_run.specs.Doors.{IsServedDoor, ServedDoor, disk_faults_at}

-- what is to be served: a disk, the name of a folder on it, and the doors, each with a clock
pub record FolderGiven (D A K : Type 0) : Type 0 where
  pub dir : List ℕ
  pub disk : D
  pub doors : List (A × K)

-- what is left of it, and what was done at the doors that were used
pub record FolderLeft (D A K : Type 0) : Type 0 where
  pub disk : D
  pub doors : List (A × K)
  pub transcripts : List Transcript
  pub ending : RunEnding

abbrev pub folder_given : {D A K : Type 0} → List ℕ → D → List (A × K) → FolderGiven D A K
folder_given {D} {A} {K} dir disk doors = record { dir = dir; disk = disk; doors = doors }

abbrev pub folder_left : {D A K : Type 0} → ServedFolder D A K → FolderLeft D A K
folder_left {D} {A} {K} served =
    record {
      disk = served.disk;
      doors = served.doors.items;
      transcripts = served.transcripts.items;
      ending = served.ending;
    }

module _ {D A K : Type 0} (disk : DiskSays D) (doors : DoorSays A) (given : FolderGiven D A K) (left : FolderLeft D A K) where
  -- the files below the folder, as the disk had them at the start
  abbrev pub files_given : Files
  files_given name = (disk.state given.disk).seen (shelf_name given.dir name)

  -- Each door was served to its end, by turns of its own: what its clients were sent is of the files at the start. Nothing on
  -- the disk was changed. The disk's count of faults rose by as many at least as replies told that it failed and connections
  -- ended by it, over all doors, or stands at its last value.
  pub record FolderServed : Type 0 where
    pub served : List (ServedDoor A K)
    pub used : AreUsed given.doors left.doors left.transcripts (map (λ (one : ServedDoor A K). one.used) served)
    pub each : (number : ℕ) (one : ServedDoor A K) → slice_get served number ≡ Some one
        → IsServedDoor doors disk.tells files_given number one
    pub turns : List (ShelfTurn D)
    pub asked : AllByRecursion (IsAsked disk (folder_at disk given.disk given.dir)) turns
    pub own : (number : ℕ) (one : ServedDoor A K) → slice_get served number ≡ Some one
        → AreTurnsOf one.visits (turns_by number turns)
    pub same : IsTrue disk.tells → IsSame (disk.state given.disk).seen (disk.state left.disk).seen
    pub faults : RoseBy (disk_faults_at served) (disk.faults given.disk) (disk.faults left.disk)

  -- memory was wanting for a desk: no door was used
  pub record FolderUntouched : Type 0 where
    pub disk_is : left.disk ≡ given.disk
    pub doors_are : left.doors ≡ given.doors
    pub untold : left.transcripts ≡ []

  abbrev pub ServesBy : RunEnding → Type 0
  ServesBy Done = FolderServed
  ServesBy NoMemory = FolderUntouched
  ServesBy other = ⊥

  -- the folder was served at all doors, or want of memory left all as it was
  abbrev pub ServesFolder : Type 0
  ServesFolder = ServesBy left.ending

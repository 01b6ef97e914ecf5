-- What was done at a door of a folder that is served.
use Rattle.std.specs.Prelude.{◌≡◌, ℕ, ◌+◌, Bool, List, [], ◌∷◌, Some}
use Rattle.console_http.specs.Visits.{capped}
use Rattle.console_http.specs.declared.ends.DoorEnd.{DoorEnd}
use Rattle.console_http.specs.declared.ends.DoorEnd.TheVariants.{Closed as DoorClosed, Fault as DoorFault, NoBuffers}
use Rattle.console_session.specs.declared.serving.Transcript.{Transcript}
use Rattle.desk_participants.specs.Uses.{Use}
use Rattle.dl_disk.specs.Files.{Files}
use Rattle.dl_disk.specs.declared.disk.Disk.{Ghosts as DiskSays}
use Rattle.door_source.specs.declared.Doors.{Ghosts as DoorSays}
use Rattle.range_origin.specs.Keeping.{HasKept, KeepsDoor, disk_faults_in, starved_at_end, starved_in}
use Rattle.range_origin.specs.Talking.{ShelfSight}
use Rattle.range_origin.specs.Visits.{Visit}
use Rattle.range_origin.specs.declared.ends.OriginEnd.{OriginEnd}
use Rattle.range_origin.specs.declared.ends.OriginEnd.TheVariants.{Closed, Fault, NoMemory}

abbrev pub door_end_of : OriginEnd → DoorEnd
door_end_of Closed = DoorClosed
door_end_of (Fault count) = DoorFault count
door_end_of NoMemory = NoBuffers

-- a transcript of the door of this number: without calls, and with the connections that want of memory ended
pub record IsTranscript (number : ℕ) (visits : List Visit) (end : OriginEnd) (transcript : Transcript) : Type 0 where
  pub session : transcript.session ≡ number + 1
  pub places : transcript.places.items ≡ []
  pub starved : transcript.starved ≡ capped (starved_in visits + starved_at_end (Some end))
  pub end_is : transcript.end ≡ door_end_of end

-- a door before and after it was served, the connections that came, and how it ended
pub record ServedDoor (A K : Type 0) : Type 0 where
  pub used : Use A K Transcript
  pub visits : List Visit
  pub end : OriginEnd

-- how many replies tell that the look for a length met a fault, and how many connections the disk ended
abbrev pub disk_faults_at : {A K : Type 0} → List (ServedDoor A K) → ℕ
disk_faults_at [] = 0
disk_faults_at (one ∷ served) = disk_faults_in one.visits + disk_faults_at served

module _ {A K : Type 0} (doors : DoorSays A) (known : Bool) (files : Files) where
  -- The door of this number was kept to its end, connection by connection, and its transcript tells so.
  pub record IsServedDoor (number : ℕ) (one : ServedDoor A K) : Type 0 where
    pub kept : KeepsDoor known files doors one.visits (Some one.end) one.used.old.0 one.used.new.0
    pub clock : one.used.new.1 ≡ one.used.old.1
    pub transcript : IsTranscript number one.visits one.end one.used.came

module _ {D A : Type 0} (disk : DiskSays D) (doors : DoorSays A) where
  -- .. by the turns of its pass
  pub record KeepsByTurns (number : ℕ) (from : ShelfSight D) (old : A) (to : ShelfSight D) (new : A) (came : Transcript)
      : Type 0 where
    pub visits : List Visit
    pub end : OriginEnd
    pub kept : HasKept disk doors visits (Some end) from old to new
    pub transcript : IsTranscript number visits end came

  -- .. beside a clock that isn't used
  abbrev pub ServesDoorAt : {K : Type 0} → ℕ → ShelfSight D → A × K → ShelfSight D → A × K → Transcript → Type 0
  ServesDoorAt {K} number from old to new came =
      KeepsByTurns number from old.0 to new.0 came × (new.1 ≡ old.1)

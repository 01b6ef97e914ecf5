-- What a turn of the folder is, and what holds after some.
use Rattle.std.specs.Prelude.{◌≡◌, ℕ, ◌+◌, ◌-◌, ◌<◌, ◌≤◌, Bool, false, ◌&&◌, nat_le, IsTrue, List, [], ◌++◌, length, Option, Some, None, option_map}
use Rattle.dl_kinds.specs.Counts.{Rose}
use Rattle.dl_kinds.specs.declared.outside.IoErr.{IoErr}
use Rattle.dl_kinds.specs.declared.outside.IoErr.TheVariants.{Fault as DiskFault, NoMemory as DiskNoMemory}
use Rattle.dl_disk.specs.Files.{Files, IsSame, ReadsAt}
use Rattle.dl_disk.specs.declared.disk.Disk.{Ghosts as DiskSays}
use Rattle.payload_files.specs.Names.{root_of}
use Rattle.std.specs.List.{AllByRecursion}
use Rattle.turn_desk.specs.Turns.{last_mark}
use Rattle.turn_desk.specs.declared.turn.Stamp.{Stamp}
use Rattle.turn_desk.specs.declared.turn.Turn.{Turn}
use Rattle.range_origin.specs.declared.shelf.Ask.{Ask}
use Rattle.range_origin.specs.declared.shelf.Ask.TheVariants.{Length as AskLength, Read}
use Rattle.range_origin.specs.declared.shelf.Folder.{Folder}
use Rattle.range_origin.specs.declared.shelf.Told.{Told}
use Rattle.range_origin.specs.declared.shelf.Told.TheVariants.{Length, Bytes, Fault, NoMemory}

-- the name on the disk of a file below the folder
abbrev pub shelf_name : List ℕ → List ℕ → List ℕ
shelf_name dir name = root_of dir ++ name

abbrev pub place_asked : List ℕ → Ask → List ℕ
place_asked dir (AskLength name) = shelf_name dir name
place_asked dir (Read name at room) = shelf_name dir name

-- ---- answers

-- an answer of a kind that goes with what was asked, on any disk
abbrev pub FitsAsk : Ask → Told → Type 0
FitsAsk (AskLength name) (Length len) = Unit {0}
FitsAsk (AskLength name) (Bytes bytes) = ⊥
FitsAsk (Read name at room) (Length told) = told ≡ None
FitsAsk (Read name at room) (Bytes bytes) = length bytes ≡ length room
FitsAsk ask (Fault count) = Unit {0}
FitsAsk ask NoMemory = Unit {0}

-- the file doesn't hold so many bytes from this place on
abbrev pub LacksSlice : Option (List ℕ) → ℕ → ℕ → Type 0
LacksSlice None at len = Unit {0}
LacksSlice (Some bytes) at len = length bytes < at + len

-- what is told of a file is so
abbrev pub IsToldOf : Option (List ℕ) → Ask → Told → Type 0
IsToldOf file (AskLength name) (Length len) = len ≡ option_map length file
IsToldOf file (AskLength name) (Bytes bytes) = ⊥
IsToldOf file (Read name at room) (Length told) = LacksSlice file at (length room)
IsToldOf file (Read name at room) (Bytes bytes) = ReadsAt file at bytes
IsToldOf file ask (Fault count) = Unit {0}
IsToldOf file ask NoMemory = Unit {0}

-- .. of the file that was asked about
abbrev pub IsTold : Files → List ℕ → Ask → Told → Type 0
IsTold seen dir ask told = IsToldOf (seen (place_asked dir ask)) ask told

-- the count of faults rose where a fault is told, and there alone
abbrev pub CausesFault : Told → ℕ → ℕ → Type 0
CausesFault (Fault count) before now = Rose before now × (count ≡ now)
CausesFault (Length len) before now = now ≡ before
CausesFault (Bytes bytes) before now = now ≡ before
CausesFault NoMemory before now = now ≡ before

abbrev pub told_of_error : ℕ → IoErr → Told
told_of_error faults DiskFault = Fault faults
told_of_error faults DiskNoMemory = NoMemory

-- a file of this length has so many bytes from this place on
abbrev pub holds : Option ℕ → ℕ → ℕ → Bool
holds None at len = false
holds (Some total) at len = nat_le len total && nat_le at (total - len)

module _ {D : Type 0} (says : DiskSays D) where
  -- ---- one answer

  -- the answer is of the disk's files, and changed none
  pub record HasToldOf (ask : Ask) (place : List ℕ) (old new : D) (told : Told) : Type 0 where
    pub fits : FitsAsk ask told
    pub told_is : IsTrue says.tells → IsToldOf ((says.state old).seen place) ask told
    pub same : IsTrue says.tells → IsSame (says.state old).seen (says.state new).seen
    pub later : says.faults old ≤ says.faults new
    pub cause : CausesFault told (says.faults old) (says.faults new)

  abbrev pub HasTold : List ℕ → Ask → D → D → Told → Type 0
  HasTold dir ask old new told = HasToldOf ask (place_asked dir ask) old new told

  -- ---- turns

  abbrev pub folder_at : D → List ℕ → Folder D
  folder_at disk dir = record { disk = disk; dir = dir }

  abbrev pub mark_of : D → Stamp
  mark_of disk = record { time = 0; faults = says.faults disk }

  -- a turn of the folder, whichever turns came before
  pub record IsAsked (start : Folder D) (t : Turn Ask Told (Folder D)) : Type 0 where
    pub none : t.events ≡ []
    pub fits : FitsAsk t.op t.answer
    pub told : IsTrue says.tells → IsTold (says.state start.disk).seen start.dir t.op t.answer
    pub cause : CausesFault t.answer t.before.faults t.after.faults

  abbrev pub AsksFolder : Folder D → List (Turn Ask Told (Folder D)) → Turn Ask Told (Folder D) → Type 0
  AsksFolder start turns t = IsAsked start t

  -- The files are those at the start, each turn is one of the folder, and the mark is that behind the last of them. The disk is
  -- as it was, where there is none.
  pub record IsShelfAfter (first : D) (dir : List ℕ) (disk : D) (turns : List (Turn Ask Told (Folder D))) : Type 0 where
    pub same : IsTrue says.tells → IsSame (says.state first).seen (says.state disk).seen
    pub each : AllByRecursion (IsAsked (folder_at first dir)) turns
    pub mark : mark_of disk ≡ last_mark (mark_of disk) turns
    pub still : turns ≡ [] → disk ≡ first

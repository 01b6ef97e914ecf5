-- What is received and sent in a connection, and the turns at the desk beside it.
use Rattle.std.specs.Prelude.{◌≡◌, ℕ, ◌+◌, Bool, true, IsTrue, List, [], ◌∷◌, ◌++◌, Option, Some, None}
use Rattle.dl_disk.specs.Files.{Files}
use Rattle.dl_disk.specs.declared.disk.Disk.{Ghosts as DiskSays}
use Rattle.door_source.specs.Doors.{Connection, DoorState}
use Rattle.door_source.specs.declared.Doors.{Ghosts as DoorSays}
use Rattle.turn_desk.specs.Sights.{Went}
use Rattle.turn_desk.specs.declared.turn.Given.{Given}
use Rattle.turn_desk.specs.declared.turn.Sight.{Sight}
use Rattle.turn_desk.specs.declared.turn.Turn.{Turn}
use Rattle.range_origin.specs.Ends.{CausesIfEnd, disk_failed_if}
use Rattle.range_origin.specs.Shelves.{AsksFolder, shelf_name}
use Rattle.range_origin.specs.declared.ends.VisitEnd.{VisitEnd}
use Rattle.range_origin.specs.declared.ends.VisitEnd.TheVariants.{AtItsEnd, HungUp, Failed, Cut, Starved}
use Rattle.range_origin.specs.declared.shelf.Ask.{Ask}
use Rattle.range_origin.specs.declared.shelf.Ask.TheVariants.{Length as AskLength, Read}
use Rattle.range_origin.specs.declared.shelf.Folder.{Folder}
use Rattle.range_origin.specs.declared.shelf.Told.{Told}
use Rattle.range_origin.specs.declared.shelf.Told.TheVariants.{Fault}

abbrev pub ShelfTurn : Type 0 → Type 0
ShelfTurn D = Turn Ask Told (Folder D)

abbrev pub ShelfSight : Type 0 → Type 0
ShelfSight D = Sight (Folder D) Ask Told (Folder D)

-- ---- turns

abbrev pub fault_told : Told → ℕ
fault_told (Fault count) = 1
fault_told other = 0

-- whether the disk failed where the length of a file was looked up: once or not
abbrev pub look_failed : Ask → Told → ℕ
look_failed (AskLength name) told = fault_told told
look_failed (Read name at room) told = 0

-- .. where bytes of a file were read
abbrev pub read_failed : Ask → Told → ℕ
read_failed (AskLength name) told = 0
read_failed (Read name at room) told = fault_told told

-- in how many of the turns the look for a length met a fault
abbrev pub looks_failed : {D : Type 0} → List (ShelfTurn D) → ℕ
looks_failed [] = 0
looks_failed (t ∷ turns) = look_failed t.op t.answer + looks_failed turns

-- .. and in how many the reading of bytes did
abbrev pub reads_failed : {D : Type 0} → List (ShelfTurn D) → ℕ
reads_failed [] = 0
reads_failed (t ∷ turns) = read_failed t.op t.answer + reads_failed turns

module _ {D : Type 0} (says : DiskSays D) where
  -- the files below the folder, at the start
  abbrev pub files_below : Given (Folder D) (Folder D) → Files
  files_below given name = (says.state given.start.disk).seen (shelf_name given.start.dir name)

  -- Some turns were taken. In just so many the look for a length met a fault, and in so many the reading of bytes.
  pub record TookTurns (s : ShelfSight D) (looks reads : ℕ) (s' : ShelfSight D) : Type 0 where
    pub mine : List (ShelfTurn D)
    pub went : Went (AsksFolder says) s mine s'
    pub looks_are : looks_failed mine ≡ looks
    pub reads_are : reads_failed mine ≡ reads

-- an end by a call of the door
abbrev pub IsSendEnd : Option VisitEnd → Type 0
IsSendEnd None = Unit {0}
IsSendEnd (Some Failed) = Unit {0}
IsSendEnd (Some Starved) = Unit {0}
IsSendEnd (Some other) = ⊥

-- an end within an answer
abbrev pub IsBreak : Option VisitEnd → Type 0
IsBreak None = Unit {0}
IsBreak (Some AtItsEnd) = ⊥
IsBreak (Some HungUp) = ⊥
IsBreak (Some other) = Unit {0}

-- ---- the door

-- so much was received and sent behind what a connection had before
abbrev pub with_more : Connection → List ℕ → List ℕ → Connection
with_more c received sent = record c { received = c.received ++ received; sent = c.sent ++ sent }

-- the newest connection has this much more, which its peer sent, and all that its peer sends, where this is asked for
pub record GrowsTo (all : Type 0) (earlier : List Connection) (c : Connection) (received sent : List ℕ) (new : DoorState) : Type 0 where
  pub are : new.connections ≡ earlier ++ with_more c received sent ∷ []
  pub rest : List ℕ
  pub front : c.whole ≡ (c.received ++ received) ++ rest
  pub none_left : all → rest ≡ []

pub record Grows (all : Type 0) (received sent : List ℕ) (old new : DoorState) : Type 0 where
  pub grows : (earlier : List Connection) (c : Connection) (rest : List ℕ) → old.connections ≡ earlier ++ c ∷ []
      → c.whole ≡ c.received ++ rest → GrowsTo all earlier c received sent new
  pub is_open : new.is_open ≡ old.is_open
  pub is_closed : new.is_closed ≡ old.is_closed

module _ {A : Type 0} (says : DoorSays A) where
  -- this piece came: all that the peer had still to send, where it is over
  pub record HasHeard (piece : List ℕ) (is_over : Bool) (end : Option VisitEnd) (old new : A) : Type 0 where
    pub told : IsTrue says.tells → Grows (is_over ≡ true) piece [] (says.state old) (says.state new)
    pub cause : CausesIfEnd end (says.faults old) (says.faults new)
    pub kind : IsSendEnd end

  -- a front of the text was sent, and all of it, unless it is told how the connection ends
  pub record HasSent (text : List ℕ) (end : Option VisitEnd) (old new : A) : Type 0 where
    pub part : List ℕ
    pub rest : List ℕ
    pub front : text ≡ part ++ rest
    pub whole : end ≡ None → rest ≡ []
    pub kind : IsSendEnd end
    pub told : IsTrue says.tells → Grows ⊥ [] part (says.state old) (says.state new)
    pub cause : CausesIfEnd end (says.faults old) (says.faults new)

-- a desk and a door
pub record OriginAt (T A : Type 0) : Type 0 where
  pub desk : T
  pub door : A

abbrev pub origin_at : {T A : Type 0} → T → A → OriginAt T A
origin_at {T} {A} desk door = record { desk = desk; door = door }

module _ {D T A : Type 0} (sight : T → ShelfSight D) (disk : DiskSays D) (doors : DoorSays A) where
  -- By turns a front of the text was sent, as far as the disk tells what it is. In so many turns the look for a length met a
  -- fault.
  pub record SendsText (text : List ℕ) (looks : ℕ) (end : Option VisitEnd) (a b : OriginAt T A) : Type 0 where
    pub part : List ℕ
    pub rest : List ℕ
    pub front : IsTrue disk.tells → text ≡ part ++ rest
    pub whole : IsTrue disk.tells → end ≡ None → rest ≡ []
    pub took : TookTurns disk (sight a.desk) looks (disk_failed_if end) (sight b.desk)
    pub told : IsTrue doors.tells → Grows ⊥ [] part (doors.state a.door) (doors.state b.door)
    pub cause : CausesIfEnd end (doors.faults a.door) (doors.faults b.door)
    pub kind : IsBreak end
    pub uncut : IsTrue disk.tells → end ≡ Some Cut → ⊥

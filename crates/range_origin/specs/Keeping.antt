-- What a door did, connection by connection.
use Rattle.std.specs.Prelude.{◌≡◌, ℕ, ◌+◌, Bool, true, false, IsTrue, List, [], ◌∷◌, ◌++◌, Option, Some, None}
use Rattle.console_http.specs.Visits.{RoseBy, capped}
use Rattle.dl_disk.specs.Files.{Files}
use Rattle.dl_disk.specs.declared.disk.Disk.{Ghosts as DiskSays}
use Rattle.door_source.specs.Doors.{Accepts, Connection, DoorState}
use Rattle.door_source.specs.declared.Came.TheVariants.{Somebody}
use Rattle.door_source.specs.declared.Doors.{Ghosts as DoorSays}
use Rattle.turn_desk.specs.Sights.{Went}
use Rattle.range_origin.specs.Answers.{once}
use Rattle.range_origin.specs.Conversations.{HasServed}
use Rattle.range_origin.specs.Ends.{disk_failed_once}
use Rattle.range_origin.specs.Shelves.{AsksFolder}
use Rattle.range_origin.specs.Talking.{OriginAt, ShelfSight, ShelfTurn, files_below}
use Rattle.range_origin.specs.Visits.{Answered, AreTurnsOf, IsVisited, Visit}
use Rattle.range_origin.specs.declared.ends.OriginEnd.{OriginEnd}
use Rattle.range_origin.specs.declared.ends.OriginEnd.TheVariants.{Closed, Fault, NoMemory}
use Rattle.range_origin.specs.declared.ends.VisitEnd.{VisitEnd}
use Rattle.range_origin.specs.declared.ends.VisitEnd.TheVariants.{Failed, Starved}
use Rattle.range_origin.specs.declared.keeping.Visited.{Visited}
use Rattle.range_origin.specs.declared.keeping.Visited.TheVariants.{NobodyCame, Served, Ended}

-- ---- counts

-- how many replies tell that the look for a length met a fault
abbrev pub failures_told : List Answered → ℕ
failures_told [] = 0
failures_told (answer ∷ answers) = once answer.fault + failures_told answers

-- .. and how many connections the disk ended
abbrev pub disk_faults_in : List Visit → ℕ
disk_faults_in [] = 0
disk_faults_in (visit ∷ visits) =
    failures_told visit.answers + disk_failed_once visit.end + disk_faults_in visits

abbrev pub failed_once : VisitEnd → ℕ
failed_once Failed = 1
failed_once end = 0

-- how many connections a call of the door ended
abbrev pub failed_in : List Visit → ℕ
failed_in [] = 0
failed_in (visit ∷ visits) = failed_once visit.end + failed_in visits

abbrev pub starved_once : VisitEnd → ℕ
starved_once Starved = 1
starved_once end = 0

-- how many connections want of memory ended
abbrev pub starved_in : List Visit → ℕ
starved_in [] = 0
starved_in (visit ∷ visits) = starved_once visit.end + starved_in visits

-- what came of letting a client in: none or one
abbrev pub starved_at : Visited → ℕ
starved_at (Served end) = starved_once end
starved_at other = 0

-- ---- the end of a door

-- how the door ends, if it does
abbrev pub end_at : Visited → Option OriginEnd
end_at (Ended end) = Some end
end_at other = None

abbrev pub failed_at_end : Option OriginEnd → ℕ
failed_at_end (Some (Fault count)) = 1
failed_at_end other = 0

abbrev pub starved_at_end : Option OriginEnd → ℕ
starved_at_end (Some NoMemory) = 1
starved_at_end other = 0

-- whether it was told that no client comes any more
abbrev pub is_closed_at : Option OriginEnd → Bool → Bool
is_closed_at (Some Closed) was = true
is_closed_at other was = was

-- whether the newest connection is open
abbrev pub is_open_behind : List Visit → Bool → Bool
is_open_behind [] was = was
is_open_behind (visit ∷ visits) was = false

-- ---- the connections of a door

module _ (known : Bool) (files : Files) where
  -- these connections came to these visits, one to one
  abbrev pub AreVisited : List Visit → List Connection → Type 0
  AreVisited [] [] = Unit {0}
  AreVisited (visit ∷ visits) (connection ∷ connections) =
      IsVisited known files visit connection × AreVisited visits connections
  AreVisited visits connections = ⊥

  -- they came behind those that the door had
  pub record GainsVisits (visits : List Visit) (end : Option OriginEnd) (old new : DoorState) : Type 0 where
    pub gained : List Connection
    pub are : AreVisited visits gained
    pub connections : new.connections ≡ old.connections ++ gained
    pub is_open : new.is_open ≡ is_open_behind visits old.is_open
    pub is_closed : new.is_closed ≡ is_closed_at end old.is_closed

  -- The visits of a door, until this end, if it came. So many of the connections, and the door itself, a call of it ended at
  -- most; where the buffers couldn't be made nobody was let in.
  pub record KeepsDoor {A : Type 0} (doors : DoorSays A) (visits : List Visit) (end : Option OriginEnd) (old new : A)
      : Type 0 where
    pub told : IsTrue doors.tells → GainsVisits visits end (doors.state old) (doors.state new)
    pub faults : RoseBy (failed_in visits + failed_at_end end) (doors.faults old) (doors.faults new)
    pub count : (count : ℕ) → end ≡ Some (Fault count) → count ≡ doors.faults new
    pub none : end ≡ Some NoMemory → (visits ≡ []) × (new ≡ old)

module _ {D A : Type 0} (disk : DiskSays D) (doors : DoorSays A) where
  -- .. beside just these turns at the desk
  pub record HasKept (visits : List Visit) (end : Option OriginEnd) (s : ShelfSight D) (door : A) (s' : ShelfSight D)
      (door' : A) : Type 0 where
    pub door_is : KeepsDoor disk.tells (files_below disk s.given) doors visits end door door'
    pub mine : List (ShelfTurn D)
    pub went : Went (AsksFolder disk) s mine s'
    pub turns : AreTurnsOf visits mine

  -- A door was kept to this end, and `starved` counts the connections that want of memory ended, and 1 where the buffers
  -- couldn't be made.
  pub record KeepsOrigin (end : OriginEnd) (s : ShelfSight D) (door : A) (before : ℕ) (s' : ShelfSight D) (door' : A)
      (now : ℕ) : Type 0 where
    pub visits : List Visit
    pub kept : HasKept visits (Some end) s door s' door'
    pub starved : now ≡ capped (before + starved_in visits + starved_at_end (Some end))

module _ {D T A : Type 0} (sight : T → ShelfSight D) (disk : DiskSays D) (doors : DoorSays A) where
  -- ---- calls

  -- no connection came
  pub record StaysEmpty (a b : OriginAt T A) : Type 0 where
    pub desk : b.desk ≡ a.desk
    pub told : IsTrue doors.tells → doors.state b.door ≡ doors.state a.door
    pub faults : doors.faults b.door ≡ doors.faults a.door

  -- a client was let in
  pub record LetsIn (a b : OriginAt T A) : Type 0 where
    pub desk : b.desk ≡ a.desk
    pub told : IsTrue doors.tells → Accepts Somebody (doors.state a.door) (doors.state b.door)
    pub faults : doors.faults b.door ≡ doors.faults a.door

  -- what came of letting a client in
  abbrev pub HasVisited : OriginAt T A → OriginAt T A → Visited → Type 0
  HasVisited a b NobodyCame = StaysEmpty a b
  HasVisited a b (Served end) = (m : OriginAt T A) × LetsIn a m × HasServed sight disk doors end m b
  HasVisited a b (Ended end) =
      (b.desk ≡ a.desk) × KeepsDoor disk.tells (files_below disk (sight a.desk).given) doors [] (Some end) a.door b.door
      × (starved_at_end (Some end) ≡ 0)

  -- These visits were made, and counted, since the door was taken up.
  pub record IsKept (end : Option OriginEnd) (a : OriginAt T A) (before : ℕ) (b : OriginAt T A) (now : ℕ) : Type 0 where
    pub visits : List Visit
    pub kept : HasKept disk doors visits end (sight a.desk) a.door (sight b.desk) b.door
    pub starved : now ≡ capped (before + starved_in visits + starved_at_end end)

  -- whatever was done before, the door is kept on from the one to the other, or ends there
  abbrev pub KeepsOn : OriginAt T A → ℕ → OriginAt T A → ℕ → Option OriginEnd → Type 0
  KeepsOn a before b now end =
      (start : OriginAt T A) (first : ℕ) → IsKept None start first a before → IsKept end start first b now

-- What a door with clients in memory tells of itself.
use Rattle.std.specs.Prelude.{◌≡◌, ◌⊎◌, ℕ, ◌+◌, ◌-◌, ◌^◌, min, nat_lt, Bool, false, not, ◌||◌, List, [], ◌∷◌, ◌++◌, length, map, take, drop, Contains, option_map, unwrap_or, slice_get, Result, IsErrOf}
use Rattle.dl_kinds.specs.declared.outside.IoErr.{IoErr}
use Rattle.dl_kinds.specs.declared.outside.IoErr.TheVariants.{NoMemory}
use Rattle.door_source.specs.Doors.{Connection, DoorState, Meets, left_of}
use Rattle.door_source.specs.declared.Came.{Came}
use Rattle.door_source.specs.declared.Came.TheVariants.{Somebody, Closed}
use Rattle.door_source.specs.declared.memory.MemDoors.{MemDoors}

abbrev pub door_state : MemDoors → DoorState
door_state doors = record {
  connections = take doors.came doors.sessions.items;
  is_open = doors.is_open;
  is_closed = doors.is_closed;
}

-- what each client sends that has still to come, the next one first
abbrev pub coming : MemDoors → List (List ℕ)
coming doors = map (λ connection. connection.whole) (drop doors.came doors.sessions.items)

abbrev pub door_faults : MemDoors → ℕ
door_faults doors = doors.calls.faults

-- the most bytes that it gives at once
abbrev pub door_cut : MemDoors → ℕ
door_cut doors = doors.cut

-- how many of its calls were answered or failed, up to 2^64 - 1
abbrev pub door_calls : MemDoors → ℕ
door_calls doors = doors.calls.made

-- the numbers of the calls that fail
abbrev pub failing_door_calls : MemDoors → List ℕ
failing_door_calls doors = doors.calls.failing.items

-- the next call is one of those that fail
abbrev pub FailsNext : MemDoors → Type 0
FailsNext doors = Contains (failing_door_calls doors) (door_calls doors)

-- The next client came, or none is left.
abbrev pub AcceptsNext : List (List ℕ) → Came → MemDoors → MemDoors → Type 0
AcceptsNext [] came old new = (came ≡ Closed) × (coming new ≡ [])
AcceptsNext (whole ∷ others) came old new =
    (came ≡ Somebody) × Meets whole (door_state old) (door_state new) × (coming new ≡ others)

-- as many bytes of the newest connection as are left, the buffer takes and the cut allows
pub record GivesNext (count room : ℕ) (doors : MemDoors) : Type 0 where
  pub earlier : List Connection
  pub newest : Connection
  pub stands : (door_state doors).connections ≡ earlier ++ newest ∷ []
  pub most : count ≡ min (min (length (left_of newest)) room) (door_cut doors)

-- it was told that nothing of the newest connection is left
abbrev pub has_told_idle : MemDoors → Bool
has_told_idle doors = doors.told_idle

-- A byte of the newest connection is left, or it was told before that none is, so that its end is received next.
pub record TellsReady (is_ready : Bool) (old new : MemDoors) : Type 0 where
  pub earlier : List Connection
  pub newest : Connection
  pub stands : (door_state old).connections ≡ earlier ++ newest ∷ []
  pub is : is_ready ≡ (has_told_idle old || nat_lt 0 (length (left_of newest)))
  pub told : has_told_idle new ≡ (not is_ready || has_told_idle old)

-- A call is numbered, unless it is answered with want of memory. It changes neither the numbers that fail nor the cut.
pub record IsDoorCall {T : Type 0} (old new : MemDoors) (result : Result T IoErr) : Type 0 where
  pub failing : failing_door_calls new ≡ failing_door_calls old
  pub cut : door_cut new ≡ door_cut old
  pub counted : IsErrOf result NoMemory ⊎ (door_calls new ≡ min (door_calls old + 1) (2 ^ 64 - 1))
  pub free : IsErrOf result NoMemory → door_calls new ≡ door_calls old

-- a door to which these clients will come, that had no call yet
pub record IsNewDoor (sessions : List (List ℕ)) (cut : ℕ) (failing : List ℕ) (doors : MemDoors) : Type 0 where
  pub connections : (door_state doors).connections ≡ []
  pub shut : (door_state doors).is_open ≡ false
  pub unclosed : (door_state doors).is_closed ≡ false
  pub coming_are : coming doors ≡ sessions
  pub faults : door_faults doors ≡ 0
  pub untold : has_told_idle doors ≡ false
  pub cut_is : door_cut doors ≡ cut
  pub failing_are : failing_door_calls doors ≡ failing
  pub none_made : door_calls doors ≡ 0

-- what was sent in the connection of this number, the first being 0
abbrev pub sent_in : MemDoors → ℕ → List ℕ
sent_in doors number = unwrap_or (option_map (λ connection. connection.sent) (slice_get (door_state doors).connections number)) []

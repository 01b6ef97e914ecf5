-- Laws of the newest connection of a door.
use Rattle.std.specs.Prelude.{◌≡◌, List, [], ◌∷◌, ◌++◌}
use Rattle.door_source.specs.Doors.{Connection, DoorState, Becomes}

-- the connection that changes is the last one of the list
abbrev pub NewestIsOne : Type 0
NewestIsOne = (before after newest : Connection) (earlier : List Connection) (old new : DoorState) → Becomes before after old new
    → old.connections ≡ earlier ++ newest ∷ [] → (before ≡ newest) × (new.connections ≡ earlier ++ after ∷ [])

-- What is received of a connection, and what is sent in it.
use Rattle.std.specs.Prelude.{◌≡◌, ◌⊎◌, ℕ, ◌<◌, List, [], ◌++◌, length, IsTrue, Option, Some, None}
use Rattle.dl_kinds.specs.Counts.{Rose}
use Rattle.door_source.specs.Doors.{Connection, DoorState, Becomes}
use Rattle.door_source.specs.declared.Doors.{Ghosts as DoorSays}
use Rattle.console_http.specs.declared.ends.ConnectionEnd.{ConnectionEnd}
use Rattle.console_http.specs.declared.ends.ConnectionEnd.TheVariants.{AtItsEnd, HungUp, RunEnded, Failed, Starved, Socket}

-- the newest connection received these bytes, which its peer sends next
pub record TakesIn (piece : List ℕ) (old new : DoorState) : Type 0 where
  pub newest : Connection
  pub becomes : Becomes newest (record newest { received = newest.received ++ piece }) old new
  pub rest : List ℕ
  pub next : newest.whole ≡ newest.received ++ piece ++ rest

-- it received all that its peer sends
pub record HearsAll (old new : DoorState) : Type 0 where
  pub newest : Connection
  pub becomes : Becomes newest newest old new
  pub all : newest.received ≡ newest.whole

-- it was sent these bytes
pub record GivesOut (bytes : List ℕ) (old new : DoorState) : Type 0 where
  pub newest : Connection
  pub becomes : Becomes newest (record newest { sent = newest.sent ++ bytes }) old new

-- .. or none, as no call was made
abbrev pub GivesPart : List ℕ → DoorState → DoorState → Type 0
GivesPart bytes old new = GivesOut bytes old new ⊎ ((bytes ≡ []) × (new ≡ old))

module _ {A : Type 0} (says : DoorSays A) where
  -- as far as it is told
  pub record ReceivesPiece (piece : List ℕ) (old new : A) : Type 0 where
    pub some : 0 < length piece
    pub told : IsTrue says.tells → TakesIn piece (says.state old) (says.state new)
    pub faults : says.faults new ≡ says.faults old

  pub record ReceivesAll (old new : A) : Type 0 where
    pub told : IsTrue says.tells → HearsAll (says.state old) (says.state new)
    pub faults : says.faults new ≡ says.faults old

  pub record SendsAll (bytes : List ℕ) (old new : A) : Type 0 where
    pub told : IsTrue says.tells → GivesOut bytes (says.state old) (says.state new)
    pub faults : says.faults new ≡ says.faults old

  -- nothing was received or sent
  pub record StaysSilent (old new : A) : Type 0 where
    pub told : IsTrue says.tells → says.state new ≡ says.state old
    pub faults : says.faults new ≡ says.faults old

  -- .. since a call failed
  pub record BreaksDown (old new : A) : Type 0 where
    pub told : IsTrue says.tells → says.state new ≡ says.state old
    pub cause : Rose (says.faults old) (says.faults new)

  -- bytes came that couldn't be put behind the others, or none could be received
  abbrev pub RunsOut : A → A → Type 0
  RunsOut old new = StaysSilent old new ⊎ ((piece : List ℕ) × ReceivesPiece piece old new)

  -- what came stands behind the bytes that were there, or the connection ends
  abbrev pub HasReceived : A → List ℕ → A → List ℕ → Option ConnectionEnd → Type 0
  HasReceived old was new now None = (piece : List ℕ) × ReceivesPiece piece old new × (now ≡ was ++ piece)
  HasReceived old was new now (Some AtItsEnd) = ReceivesAll old new
  HasReceived old was new now (Some Failed) = BreaksDown old new
  HasReceived old was new now (Some Starved) = RunsOut old new
  HasReceived old was new now (Some HungUp) = ⊥
  HasReceived old was new now (Some RunEnded) = ⊥
  HasReceived old was new now (Some (Socket how)) = ⊥

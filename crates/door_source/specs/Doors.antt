-- What a door tells of its connections, and what a call makes of them.
use Rattle.std.specs.Prelude.{◌≡◌, ℕ, Bool, true, false, List, [], ◌∷◌, ◌++◌, length, take, drop, Result, OnOk, IsErrOf}
use Rattle.dl_kinds.specs.declared.outside.IoErr.{IoErr}
use Rattle.dl_kinds.specs.declared.outside.IoErr.TheVariants.{NoMemory}
use Rattle.door_source.specs.declared.Came.{Came}
use Rattle.door_source.specs.declared.Came.TheVariants.{Somebody, Nobody, Closed}

-- what was received in a connection and sent, and all that its peer sends
pub record Connection : Type 0 where
  pub received : List ℕ
  pub sent : List ℕ
  pub whole : List ℕ

-- The connections, the oldest first, whether the newest of them is open, and whether accept told that no more will come.
pub record DoorState : Type 0 where
  pub connections : List Connection
  pub is_open : Bool
  pub is_closed : Bool

-- a door of which nothing is known
abbrev pub no_door : DoorState
no_door = record { connections = []; is_open = false; is_closed = false }

-- a connection that just came
abbrev pub met : List ℕ → Connection
met whole = record { received = []; sent = []; whole = whole }

-- nothing was received or sent
abbrev pub IsUntouched : Connection → Type 0
IsUntouched connection = connection ≡ met connection.whole

-- what the peer has still to send
abbrev pub left_of : Connection → List ℕ
left_of connection = drop (length connection.received) connection.whole

-- one more connection is open
pub record Meets (whole : List ℕ) (old new : DoorState) : Type 0 where
  pub connections : new.connections ≡ old.connections ++ met whole ∷ []
  pub is_open : new.is_open ≡ true
  pub is_closed : new.is_closed ≡ old.is_closed

-- by what accept answers
abbrev pub Accepts : Came → DoorState → DoorState → Type 0
Accepts Somebody old new = (whole : List ℕ) × Meets whole old new
Accepts Nobody old new = new ≡ old
Accepts Closed old new = new ≡ record old { is_closed = true }

-- the newest connection was the one and is the other; all else stands as it was
pub record Becomes (before after : Connection) (old new : DoorState) : Type 0 where
  pub earlier : List Connection
  pub were : old.connections ≡ earlier ++ before ∷ []
  pub are : new.connections ≡ earlier ++ after ∷ []
  pub is_open : new.is_open ≡ old.is_open
  pub is_closed : new.is_closed ≡ old.is_closed

-- the connection has received the first bytes of the buffer, so many, which its peer sends next; none only where it sends no more
pub record ReceivesFromPeer (count : ℕ) (buffer : List ℕ) (old new : DoorState) : Type 0 where
  pub newest : Connection
  pub becomes : Becomes newest (record newest { received = newest.received ++ take count buffer }) old new
  pub rest : List ℕ
  pub next : newest.whole ≡ newest.received ++ take count buffer ++ rest
  pub end : count ≡ 0 → newest.received ≡ newest.whole

-- the connection was sent a part of the bytes: all of them, unless it failed, and none for want of memory
pub record SendsToPeer (bytes : List ℕ) (result : Result (Unit {0}) IoErr) (old new : DoorState) : Type 0 where
  pub newest : Connection
  pub part : List ℕ
  pub becomes : Becomes newest (record newest { sent = newest.sent ++ part }) old new
  pub rest : List ℕ
  pub front : bytes ≡ part ++ rest
  pub whole : OnOk result (part ≡ bytes)
  pub none : IsErrOf result NoMemory → part ≡ []

-- the same door, its connection closed
abbrev pub hung_up : DoorState → DoorState
hung_up door = record door { is_open = false }

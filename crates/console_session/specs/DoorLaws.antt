-- What follows of all that a session did for the clients of its door.
use Rattle.std.specs.Prelude.{ℕ, Bool, IsSome, List, [], ◌∷◌, reverse, Option, Some, None}
use Rattle.console_http.specs.Conversations.{conversation_of}
use Rattle.console_http.specs.Visits.{Visit, Waits, Welcomes}
use Rattle.console_http.specs.declared.ends.ConnectionEnd.TheVariants.{Socket}
use Rattle.console_socket.specs.Sockets.{SocketEvent, SocketTalk, Stepped, AskedRun}
use Rattle.engine_turns.specs.RunTurns.{MayComeAfter}
use Rattle.engine_turns.specs.Told.{AllTurns, RunTurn}
use Rattle.machine_core.specs.Starts.{RunStart}
use Rattle.machine_core.specs.declared.notices.Cursor.{Cursor}
use Rattle.console_session.specs.DoorSessions.{AreServed, MakeSockets}
use Rattle.console_session.specs.SocketLaws.{StandAmong, TellsAll}

module _ (secret : Option (List ℕ)) (session : ℕ) (start : RunStart) (told : List RunTurn) where
  -- a WebSocket carried out its calls, and told the notices of the history since it joined, if its joining came to an end
  abbrev pub SocketTells : List SocketEvent → Type 0
  SocketTells [] = Unit {0}
  SocketTells (AskedRun finished ∷ events) = Unit {0}
  SocketTells (Stepped step ∷ events) =
      IsSome step.texts → (turns : List RunTurn) × (to : Option Cursor)
      × TellsAll secret session start told (Stepped step ∷ events) turns to

  abbrev pub TellsIfAny : Option SocketTalk → Type 0
  TellsIfAny None = Unit {0}
  TellsIfAny (Some socket) = SocketTells socket.events

  -- .. each one of these visits did
  abbrev pub SocketsTell : List Visit → Type 0
  SocketsTell [] = Unit {0}
  SocketsTell (Waits ∷ visits) = SocketsTell visits
  SocketsTell (Welcomes steps (Socket how) ∷ visits) = TellsIfAny (conversation_of steps).socket × SocketsTell visits
  SocketsTell (Welcomes steps end ∷ visits) = SocketsTell visits

-- whatever turns of others stand between those of a door
abbrev pub DoorsTellNotices : Type 0
DoorsTellNotices =
    (secret : Option (List ℕ)) (session : ℕ) (start : RunStart) (told : List RunTurn) (knows : Bool) (most : ℕ)
    (visits : List Visit) (turns : List RunTurn)
    → AllTurns (MayComeAfter start) told → StandAmong turns (reverse told)
    → AreServed knows most visits → MakeSockets secret session visits turns
    → SocketsTell secret session start told visits

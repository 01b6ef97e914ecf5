-- What was read of a connection, and all that a conversation touches.
use Rattle.std.specs.Prelude.{ℕ, Bool, false, List, []}
pub use Rattle.console_socket.specs.Places.{DoorAt, door_at}

-- The most bytes of a content, the bytes that were received and not answered yet, and whether a request was answered since it
-- was last asked whether the run is finished.
pub record Reading : Type 0 where
  pub most : ℕ
  pub unread : List ℕ
  pub is_due : Bool

-- nothing was received yet
abbrev pub fresh_reading : ℕ → Reading
fresh_reading most = record { most = most; unread = []; is_due = false }

-- a session, its desk and its door, and what was read of the connection that is open
pub record ConsoleAt (S T A : Type 0) : Type 0 where
  pub place : DoorAt S T A
  pub reading : Reading

abbrev pub console_at : {S T A : Type 0} → S → T → A → Reading → ConsoleAt S T A
console_at {S} {T} {A} session desk door reading = record { place = door_at session desk door; reading = reading }

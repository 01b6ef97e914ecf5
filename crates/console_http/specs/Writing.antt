-- A response that is sent in pieces.
use Rattle.std.specs.Prelude.{◌≡◌, ℕ, List, ◌++◌, IsTrue, Result, Ok, Err}
use Rattle.dl_kinds.specs.declared.outside.IoErr.{IoErr}
use Rattle.door_source.specs.declared.Doors.{Ghosts as DoorSays}
use Rattle.console_http.specs.Answering.{SendsFront}
use Rattle.console_http.specs.Ends.{end_by_error}
use Rattle.console_http.specs.Receiving.{GivesPart, SendsAll}

-- a door, and what waits to be sent there
pub record WriterAt (A : Type 0) : Type 0 where
  pub door : A
  pub waiting : List ℕ

abbrev pub writer_at : {A : Type 0} → A → List ℕ → WriterAt A
writer_at {A} door waiting = record { door = door; waiting = waiting }

module _ {A : Type 0} (says : DoorSays A) where
  -- of what waited and the text behind it a part was sent, and the rest waits
  pub record WritesBehind (text : List ℕ) (a b : WriterAt A) : Type 0 where
    pub part : List ℕ
    pub whole : a.waiting ++ text ≡ part ++ b.waiting
    pub told : IsTrue says.tells → GivesPart part (says.state a.door) (says.state b.door)
    pub faults : says.faults b.door ≡ says.faults a.door

  -- .. or a front of both was sent, and this ended the connection
  abbrev pub HasWritten : List ℕ → WriterAt A → WriterAt A → Result (Unit {0}) IoErr → Type 0
  HasWritten text a b (Ok done) = WritesBehind text a b
  HasWritten text a b (Err error) =
      (part : List ℕ) × SendsFront says (a.waiting ++ text) part (end_by_error error) a.door b.door

  -- all of the bytes were sent, or a front of them, and this ended the connection
  abbrev pub HasSent : List ℕ → A → A → Result (Unit {0}) IoErr → Type 0
  HasSent bytes old new (Ok done) = SendsAll says bytes old new
  HasSent bytes old new (Err error) = (part : List ℕ) × SendsFront says bytes part (end_by_error error) old new

-- What was done at the doors of a run, and what its history shows of that.
use Rattle.std.specs.Prelude.{◌≡◌, ◌⊎◌, ◌≤◌, ◌+◌, ◌++◌, ℕ, Bool, true, false, Contains, List, [], ◌∷◌, Some, length, reverse, slice_get}
use Rattle.command_line.specs.Lines.{IsLine}
use Rattle.command_line.specs.declared.line.CommandLine.{CommandLine}
use Rattle.console_http.specs.declared.ends.DoorEnd.TheVariants.{Finished}
use Rattle.console_session.specs.DoorLaws.{SocketsTell}
use Rattle.console_session.specs.SessionLaws.{call_places}
use Rattle.console_session.specs.declared.serving.Transcript.{Transcript}
use Rattle.desk_participants.specs.Uses.{AreUsed, Use}
use Rattle.dl_clock.specs.declared.clock.Clock.{Ghosts as ClockSays}
use Rattle.dl_kinds.specs.declared.runs.Moment.{Moment}
use Rattle.door_source.specs.declared.Doors.{Ghosts as DoorSays}
use Rattle.engine_turns.specs.Told.{RunTurn}
use Rattle.engine_turns.specs.declared.operations.Operation.TheVariants as operation
use Rattle.engine_turns.specs.declared.operations.Said.TheVariants.{Replied}
use Rattle.machine_core.specs.Reads.{is_finished_in}
use Rattle.machine_core.specs.Starts.{RunStart}
use Rattle.machine_core.specs.declared.calls.Call.{Call}
use Rattle.machine_core.specs.declared.events.Event.{Event}
use Rattle.machine_core.specs.declared.events.Event.TheVariants.{Called}
use Rattle.run_lifecycle.specs.Begins.{start_of_line}
use Rattle.run_lifecycle.specs.Consoles.{console_of, is_console_on}
use Rattle.run_lifecycle.specs.declared.ended.Ended.{Ended}
use Rattle.run_report.specs.Replies.{IsReplyAt}
use Rattle.run_report.specs.declared.kinds.Reply.{Reply}
use Rattle.run_report.specs.declared.endings.RunEnding.TheVariants.{NoMemory}
use Rattle.turn_desk.specs.Turns.{events_of}
use Rattle.shared_run.specs.Participants.{session_of}
use Rattle.shared_run.specs.Together.{Edges, UsesDoor}

-- ---- calls

-- The event of the call stands at this place of the history, and this is the reply of the history before it.
pub record CallStands (start : RunStart) (events : List Event) (session : ℕ) (call : Call) (asked : Moment) (place : ℕ)
    (reply : Reply) : Type 0 where
  pub before : List Event
  pub now : Moment
  pub later : List Event
  pub cut : events ≡ before ++ Called session call now ∷ later
  pub place_is : place ≡ length before
  pub since : asked.0 ≤ now.0
  pub replied : IsReplyAt start (reverse before) call now reply

-- at this place of the history stands a call of the session
abbrev pub IsPlaceOfCall : List Event → ℕ → ℕ → Type 0
IsPlaceOfCall events session place =
    (call : Call) × (now : Moment) × (slice_get events place ≡ Some (Called session call now))

-- the transcript of the session's door names this place
pub record IsNamedPlace {A K : Type 0} (uses : List (Use A K Transcript)) (session place : ℕ) : Type 0 where
  pub door : ℕ
  pub one : Use A K Transcript
  pub is : slice_get uses door ≡ Some one
  pub by : session ≡ session_of door
  pub named : Contains one.came.places.items place

-- a front of the history finds the run finished: told to shut down, or stopped, or with no door there and nothing left to do
pub record FindsFinished (start : RunStart) (events : List Event) : Type 0 where
  pub front : List Event
  pub rest : List Event
  pub cut : events ≡ front ++ rest
  pub finished : is_finished_in start (reverse front) ≡ true

-- ---- doors

-- the words mean a line that doesn't turn the console on
abbrev pub LacksConsole : List (List ℕ) → Type 0
LacksConsole words = (line : CommandLine) × IsLine words line × (is_console_on line.globals ≡ false)

-- the line's own call is of session 0, and comes before all else
abbrev pub IsOwnPlace : ℕ → ℕ → Type 0
IsOwnPlace session place = (session ≡ 0) × (place ≡ 0)

module _ {D L A K : Type 0} (doors : DoorSays A) (clocks : ClockSays K) (words : List (List ℕ)) (gids : ℕ)
    (olds : Edges L A K) (ended : Ended D) (news : Edges L A K) (transcripts : List Transcript) where
  -- the run ended before it began, and each door is as it was
  pub record NeverOpened : Type 0 where
    pub same : news.doors ≡ olds.doors
    pub untold : transcripts ≡ []
    pub none : ended.journal.events.items ≡ []

  -- No door was served, and each is as it was: the run's console is off, or memory was wanting. No call is in the history but
  -- the line's own.
  pub record NoneServed : Type 0 where
    pub same : news.doors ≡ olds.doors
    pub untold : transcripts ≡ []
    pub why : LacksConsole words ⊎ (ended.ending ≡ NoMemory)
    pub calls : (session place : ℕ) → IsPlaceOfCall ended.journal.events.items session place → IsOwnPlace session place

  module _ (line : CommandLine) (turns : List RunTurn) (last : RunTurn) where
    -- The session served the door by its own turns. Each of its calls that was replied to stands in the history where the
    -- reply says, and the reply is that of the history before it. In the transcript are the places of calls of the session,
    -- and all of them, in order. Each WebSocket at the door told the notices of the history, that of all turns, since it
    -- joined. Where the session found the run finished a front of the history says so.
    pub record IsServedDoor (door : ℕ) (used : Use A K Transcript) : Type 0 where
      pub its : UsesDoor D doors clocks (console_of line.globals) turns (length olds.links + door) door used
      pub calls : (t : RunTurn) (call : Call) (asked : Moment) (place : ℕ) (reply : Reply) (starved : Bool)
          → Contains its.its.before t → t.op ≡ operation.Call (session_of door) call asked
          → t.answer.said ≡ Replied place reply starved
          → CallStands (start_of_line gids (length olds.doors) line.globals) ended.journal.events.items
          (session_of door) call asked place reply
      pub places : (place : ℕ) → Contains used.came.places.items place
          → IsPlaceOfCall ended.journal.events.items (session_of door) place
      pub all : used.came.places.items ≡ call_places (session_of door) ended.journal.events.items
      pub sockets : SocketsTell (console_of line.globals).secret (session_of door)
          (start_of_line gids (length olds.doors) line.globals) (reverse (turns ++ last ∷ [])) its.its.serves.visits
      pub finished : used.came.end ≡ Finished
          → FindsFinished (start_of_line gids (length olds.doors) line.globals) ended.journal.events.items

  -- The console is on. Turns came, and a last one that stops the run; their events are the history, and among them are those
  -- that serve the doors. Each call in the history is the line's own, or in the transcript of its session's door.
  pub record DoorsServed : Type 0 where
    pub line : CommandLine
    pub means : IsLine words line
    pub on : is_console_on line.globals ≡ true
    pub turns : List RunTurn
    pub last : RunTurn
    pub stops : last.op ≡ operation.Stop (record { 0 = 0 })
    pub history : ended.journal.events.items ≡ events_of (turns ++ last ∷ [])
    pub uses : List (Use A K Transcript)
    pub used : AreUsed olds.doors news.doors transcripts uses
    pub each : (door : ℕ) (one : Use A K Transcript) → slice_get uses door ≡ Some one
        → IsServedDoor line turns last door one
    pub calls : (session place : ℕ) → IsPlaceOfCall ended.journal.events.items session place
        → IsOwnPlace session place ⊎ IsNamedPlace uses session place

  abbrev pub DoorsCauses : Type 0
  DoorsCauses = NoneServed ⊎ DoorsServed

  abbrev pub ShowsDoors : Type 0
  ShowsDoors = NeverOpened ⊎ DoorsCauses

-- Who takes part in the desk of a run, and what each does there.
use Rattle.std.specs.Prelude.{◌≡◌, ◌+◌, ℕ, Bool, List, Ok, Option}
use Rattle.conn_worker.specs.Works.{RunSight, WorkedByClock}
use Rattle.conn_worker.specs.declared.ends.WorkEnd.{WorkEnd}
use Rattle.console_session.specs.DoorSessions.{ReadsMoments, ServesDoor}
use Rattle.console_session.specs.declared.serving.Transcript.{Transcript}
use Rattle.desk_participants.specs.declared.participants.Participant.{Participant}
use Rattle.dl_clock.specs.declared.clock.Clock.{Ghosts as ClockSays}
use Rattle.door_source.specs.declared.Doors.{Ghosts as DoorSays}
use Rattle.engine_core.specs.EngineViews.{EngineStart}
use Rattle.engine_turns.specs.declared.operations.Answer.{Answer}
use Rattle.engine_turns.specs.declared.operations.Operation.{Operation}
use Rattle.link_source.specs.declared.Links.{Ghosts as LinkSays}
use Rattle.machine_core.specs.declared.events.Event.{Event}
use Rattle.turn_desk.specs.Passes.{PassView, TurnDeskView}
use Rattle.run_lifecycle.specs.Stops.{ends_short}
use Rattle.run_lifecycle.specs.declared.console.ConsoleTerms.{ConsoleTerms}

-- a pass of a run
abbrev pub RunPass : Type 0 → Type 0
RunPass D = PassView (EngineStart D) Operation Answer Event

-- the desk of a run
abbrev pub RunDesk : Type 0 → Type 0
RunDesk D = TurnDeskView (EngineStart D) Event

-- one who works over a link; what comes of it is whether memory was wanting
abbrev pub Worker : (D L K : Type 0) → Type 0
Worker D L K = Participant (RunPass D) L K Bool

-- one who serves a door
abbrev pub DoorKeeper : (D A K : Type 0) → Type 0
DoorKeeper D A K = Participant (RunPass D) A K Transcript

-- the session of a door, by the door's number; the line's own call is of session 0
abbrev pub session_of : ℕ → ℕ
session_of door = door + 1

-- The session served the door as the console asks. For each of its calls, in order, its clock was read once, from its first
-- moment on and without a pause, and told the call's moment.
pub record ServedByClock {D A K : Type 0} (doors : DoorSays A) (clocks : ClockSays K) (session : ℕ)
    (secret : Option (List ℕ)) (most : ℕ) (from : RunSight D) (old : A × K) (to : RunSight D) (new : A × K)
    (transcript : Transcript) : Type 0 where
  pub its : ServesDoor doors session secret most from old.0 to new.0 transcript
  pub asked : ReadsMoments clocks.reads old.1 from to

module _ {D K : Type 0} where
  -- The worker of this number worked over its link, by its clock, until a turn ended its work. It was seen whether
  -- memory was wanting.
  pub record WorksAt {L : Type 0} (links : LinkSays L) (clocks : ClockSays K) (worker : ℕ) (from : RunSight D)
      (old : L × K) (to : RunSight D) (new : L × K) (short : Bool) : Type 0 where
    pub came : WorkEnd
    pub worked : WorkedByClock links clocks worker from old to new (Ok came)
    pub short_is : short ≡ ends_short (Ok came)

  -- the session of the door served it, by its clock, as the console asks
  abbrev pub ServesAt : {A : Type 0} → DoorSays A → ClockSays K → ConsoleTerms → ℕ → RunSight D → A × K → RunSight D
      → A × K → Transcript → Type 0
  ServesAt doors clocks console door from old to new transcript =
      ServedByClock doors clocks (session_of door) console.secret console.most from old to new transcript

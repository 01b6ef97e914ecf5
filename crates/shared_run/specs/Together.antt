-- What the workers of a run and the sessions of its doors did together, and its last turn.
use Rattle.std.specs.Prelude.{◌≡◌, ◌⊎◌, ◌+◌, ◌++◌, ◌||◌, ℕ, zero, suc, Bool, true, List, [], ◌∷◌, Ok, Some, length, slice_get}
use Rattle.std.specs.List.{All, list_any}
use Rattle.conn_worker.specs.Works.{RunSight, WorkedByClock}
use Rattle.conn_worker.specs.declared.ends.WorkEnd.{WorkEnd}
use Rattle.console_session.specs.DoorSessions.{ReadsMoments, ServesDoor}
use Rattle.console_session.specs.declared.serving.Transcript.{Transcript}
use Rattle.desk_participants.specs.Seats.{HasSeatsFor}
use Rattle.desk_participants.specs.Uses.{AreUsed, Use}
use Rattle.dl_clock.specs.declared.clock.Clock.{Ghosts as ClockSays}
use Rattle.dl_disk.specs.declared.disk.Disk.{Ghosts as DiskSays}
use Rattle.door_source.specs.declared.Doors.{Ghosts as DoorSays}
use Rattle.engine_core.specs.EngineViews.{EngineStart, EngineView}
use Rattle.engine_turns.specs.Told.{RunTurn}
use Rattle.engine_turns.specs.declared.operations.Operation.TheVariants.{Stop}
use Rattle.link_source.specs.declared.Links.{Ghosts as LinkSays}
use Rattle.machine_core.specs.declared.events.Event.{Event}
use Rattle.turn_desk.specs.Passes.{AreNewPasses, AreNumbered, IsPassOf}
use Rattle.turn_desk.specs.Turns.{StartsWith, turns_by}
use Rattle.turn_desk.specs.declared.turn.Given.{Given}
use Rattle.run_lifecycle.specs.Begins.{is_no_memory}
use Rattle.run_lifecycle.specs.Stops.{IsAfter, ends_short}
use Rattle.run_lifecycle.specs.declared.console.ConsoleTerms.{ConsoleTerms}
use Rattle.shared_run.specs.Participants.{session_of}
use Rattle.shared_run.specs.declared.work.Shared.{Shared}

-- ---- a desk

-- these are no turns, or one that is the first of all
abbrev pub ComesFirst : List RunTurn → Type 0
ComesFirst turns = (turns ≡ []) ⊎ ((t : RunTurn) × (turns ≡ t ∷ []) × (t.rank ≡ 0))

module _ {D L A K : Type 0} where
  -- the desk goes on from this one, with so many new passes
  pub record IsShared (solo : RunSight D) (passes : ℕ) (shared : Shared D L A K) : Type 0 where
    pub given : shared.desk.given ≡ solo.given
    pub count : shared.desk.passes ≡ passes
    pub many : length shared.passes.items ≡ passes
    pub new : AreNewPasses solo shared.desk shared.passes.items
    pub of_desk : All (IsPassOf shared.desk) shared.passes.items

  -- so many workers may take part, and so many sessions of doors
  pub record HasRoom (links doors : ℕ) (shared : Shared D L A K) : Type 0 where
    pub for_links : HasSeatsFor links shared.workers
    pub for_doors : HasSeatsFor doors shared.keepers

-- ---- links and doors

-- the links of a run and its doors, each with a clock
pub record Edges (L A K : Type 0) : Type 0 where
  pub links : List (L × K)
  pub doors : List (A × K)

-- the turns that a worker's number had before the work: the line's own call is the first one's
abbrev pub own_before : ℕ → List RunTurn → List RunTurn
own_before zero call = call
own_before (suc worker) call = []

-- The worker's turns among all are those that it took over its link, by its clock, until one of them ended its work.
pub record UsesLink {L K : Type 0} (D : Type 0) (links : LinkSays L) (clocks : ClockSays K) (call turns : List RunTurn)
    (worker : ℕ) (used : Use L K Bool) : Type 0 where
  pub from : RunSight D
  pub to : RunSight D
  pub came : WorkEnd
  pub by_clock : WorkedByClock links clocks worker from used.old to used.new (Ok came)
  pub own : turns_by worker turns ≡ own_before worker call ++ (by_clock.its.worked ++ by_clock.its.stop)
  pub short_is : used.came ≡ ends_short (Ok came)

-- The turns of this pass among all are those by which the session of the door served it. For each call among them, in order,
-- its clock was read once, from its first moment on and without a pause, and told the call's moment.
pub record UsesDoor {A K : Type 0} (D : Type 0) (doors : DoorSays A) (clocks : ClockSays K) (console : ConsoleTerms)
    (turns : List RunTurn) (pass door : ℕ) (used : Use A K Transcript) : Type 0 where
  pub from : RunSight D
  pub to : RunSight D
  pub its : ServesDoor doors (session_of door) console.secret console.most from used.old.0 to used.new.0 used.came
  pub asked : ReadsMoments clocks.reads used.old.1 from to
  pub own : turns_by pass turns ≡ its.before ++ its.last ∷ []

-- ---- all together

module _ {L A K : Type 0} (D : Type 0) (links : LinkSays L) (clocks : ClockSays K) (doors : DoorSays A)
    (console : ConsoleTerms) where
  -- Each link was used by the worker of its number, and each door by the session of its number. All turns are theirs,
  -- behind the line's own call.
  pub record WorkedTogether (call : List RunTurn) (olds news : Edges L A K) (transcripts : List Transcript)
      (turns : List RunTurn) (short : Bool) : Type 0 where
    pub uses : List (Use L K Bool)
    pub shorts : List Bool
    pub used : AreUsed olds.links news.links shorts uses
    pub short_is : short ≡ list_any (λ (its : Bool). its) shorts
    pub door_uses : List (Use A K Transcript)
    pub doors_used : AreUsed olds.doors news.doors transcripts door_uses
    pub first : StartsWith turns call
    pub numbered : AreNumbered (length uses + length door_uses) turns
    pub each : (worker : ℕ) (one : Use L K Bool) → slice_get uses worker ≡ Some one
        → UsesLink D links clocks call turns worker one
    pub each_door : (door : ℕ) (one : Use A K Transcript) → slice_get door_uses door ≡ Some one
        → UsesDoor D doors clocks console turns (length uses + door) door one

-- memory was wanting for a desk: nobody worked, and no door was served
pub record NobodyWorked {E : Type 0} (call : List RunTurn) (olds news : E) (transcripts : List Transcript)
    (turns : List RunTurn) (short : Bool) : Type 0 where
  pub same : news ≡ olds
  pub untold : transcripts ≡ []
  pub none : turns ≡ call
  pub short_is : short ≡ true

abbrev pub EdgesUsed : {L A K : Type 0} → (D : Type 0) → LinkSays L → ClockSays K → DoorSays A → ConsoleTerms
    → List RunTurn → (olds news : Edges L A K) → List Transcript → List RunTurn → Bool → Type 0
EdgesUsed {L} {A} {K} D links clocks doors console call olds news transcripts turns short =
    WorkedTogether D links clocks doors console call olds news transcripts turns short
    ⊎ NobodyWorked call olds news transcripts turns short

module _ {D L A K : Type 0} (says : DiskSays D) (links : LinkSays L) (clocks : ClockSays K) (doors : DoorSays A)
    (console : ConsoleTerms) where
  -- the engine is the one after all turns of those who took part
  pub record WorkEnds (s : RunSight D) (olds news : Edges L A K) (transcripts : List Transcript) (v : EngineView D)
      (short : Bool) : Type 0 where
    pub turns : List RunTurn
    pub worked : EdgesUsed D links clocks doors console s.own olds news transcripts turns short
    pub after : IsAfter says s.given turns v

-- ---- the last turn

-- one turn more came, which stops the run, and it was seen whether memory was wanting
pub record StopsBehind {D : Type 0} (says : DiskSays D) (old new : EngineView D) (short : Bool) : Type 0 where
  pub stops : (given : Given (EngineStart D) Event) (turns : List RunTurn) → IsAfter says given turns old
      → (last : RunTurn) × (last.op ≡ Stop (record { 0 = 0 })) × (short ≡ is_no_memory last.answer.said)
      × IsAfter says given (turns ++ last ∷ []) new

module _ {D L A K : Type 0} (says : DiskSays D) (links : LinkSays L) (clocks : ClockSays K) (doors : DoorSays A)
    (console : ConsoleTerms) where
  -- All turns of those who took part came, and a last one that stops the run; of all it was seen whether memory was wanting.
  pub record WorksAndStops (s : RunSight D) (olds news : Edges L A K) (transcripts : List Transcript) (v : EngineView D)
      (short : Bool) : Type 0 where
    pub turns : List RunTurn
    pub work_short : Bool
    pub worked : EdgesUsed D links clocks doors console s.own olds news transcripts turns work_short
    pub last : RunTurn
    pub op : last.op ≡ Stop (record { 0 = 0 })
    pub short_is : short ≡ work_short || is_no_memory last.answer.said
    pub after : IsAfter says s.given (turns ++ last ∷ []) v

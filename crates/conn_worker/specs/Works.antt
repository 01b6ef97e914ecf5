-- What a worker does, over its own turns and its link.
use Rattle.std.specs.Prelude.{◌≡◌, ◌⊎◌, ◌≤◌, ◌-◌, ℕ, max, Bool, List, [], ◌∷◌, ◌++◌, length, Option, Some, None, Result, Ok, Err}
use Rattle.dl_clock.specs.declared.clock.Clock.{Ghosts as ClockSays}
use Rattle.dl_clock.specs.declared.clock.TheConstants.{LATEST_MOMENT}
use Rattle.dl_kinds.specs.declared.runs.Moment.{Moment}
use Rattle.engine_core.specs.Beginnings.{ties_run}
use Rattle.engine_turns.specs.Told.{RunTurn}
use Rattle.engine_turns.specs.declared.operations.Answer.{Answer}
use Rattle.engine_turns.specs.declared.operations.Operation.{Operation}
use Rattle.engine_turns.specs.declared.operations.Operation.TheVariants.{Stop}
use Rattle.link_source.specs.declared.Links.{Ghosts as LinkSays}
use Rattle.engine_core.specs.EngineViews.{EngineStart}
use Rattle.machine_core.specs.declared.events.Event.{Event}
use Rattle.turn_desk.specs.Sights.{Went}
use Rattle.turn_desk.specs.declared.turn.Sight.{Sight}
use Rattle.conn_worker.specs.Clocks.{ClockAt, ReadsClockFor, ReadsClockForEach, clock_at}
use Rattle.conn_worker.specs.Ends.{moment_behind, pause_of}
use Rattle.conn_worker.specs.Hands.{WorkerAt, fresh, link_at}
use Rattle.conn_worker.specs.Holding.{StandsAs}
use Rattle.conn_worker.specs.Parts.{part_behind}
use Rattle.conn_worker.specs.Table.{FollowsAnswer, due_op, end_behind}
use Rattle.conn_worker.specs.declared.ends.Spent.{Spent}
use Rattle.conn_worker.specs.declared.ends.WorkEnd.{WorkEnd}
use Rattle.conn_worker.specs.declared.ends.WorkEnd.TheVariants as end
use Rattle.conn_worker.specs.declared.state.WorkState.{WorkState}
use Rattle.conn_worker.specs.declared.working.TheConstants.{MAX_TURNS}

-- ---- turns of the table

-- the moment of a turn: no earlier than the worker's
abbrev pub turn_moment : ℕ → ℕ → Moment
turn_moment told moment = record { 0 = max told moment }

-- One turn of the table, by a moment that a clock told, and what follows it.
pub record Does (tells : Bool) (worker told : ℕ) (t : RunTurn) (a b : WorkerAt) : Type 0 where
  pub told_is : told ≤ LATEST_MOMENT
  pub op : t.op ≡ due_op worker a.hand (turn_moment told a.moment)
  pub follows : FollowsAnswer tells a.hand t.answer.said a.link b.hand b.link
  pub moment : b.moment ≡ moment_behind (max told a.moment) (pause_of t.answer.said)

-- the end comes with the last turn alone
abbrev pub EndsOrGoesOn : Option WorkEnd → Type 0 → Type 0 → Type 0
EndsOrGoesOn (Some end) Ended GoingOn = Ended
EndsOrGoesOn None Ended GoingOn = GoingOn

-- these turns of the table, in order; the last one ends the work, where anything does
abbrev pub Works : Bool → ℕ → List RunTurn → WorkerAt → WorkerAt → Option WorkEnd → Type 0
Works tells worker [] a b end = (b ≡ a) × (end ≡ None)
Works tells worker (t ∷ ts) a b end =
    (told : ℕ) × (m : WorkerAt) × Does tells worker told t a m
    × EndsOrGoesOn (end_behind t.answer.said m.hand)
    ((ts ≡ []) × (b ≡ m) × (end ≡ end_behind t.answer.said m.hand))
    (Works tells worker ts m b end)

-- ---- how work comes out

abbrev pub RunSight : Type 0 → Type 0
RunSight D = Sight (EngineStart D) Operation Answer Event

-- by how its last turn ended it
abbrev pub IsOutcomeOf : Option WorkEnd → Result WorkEnd Spent → Type 0
IsOutcomeOf end (Ok by) = end ≡ Some by
IsOutcomeOf end (Err spent) = end ≡ None

-- no more turns than a worker may take whose turns are limited, and just as many where none of them ended the work
abbrev pub IsWithinTurns : ℕ → Result WorkEnd Spent → Type 0
IsWithinTurns turns (Ok by) = turns ≤ MAX_TURNS
IsWithinTurns turns (Err spent) = turns ≡ MAX_TURNS

-- turns of the table, until one ended the work, or no more were taken
pub record ComesOut (tells : Bool) (worker : ℕ) (worked : List RunTurn) (a b : WorkerAt) (result : Result WorkEnd Spent)
    : Type 0 where
  pub end : Option WorkEnd
  pub works : Works tells worker worked a b end
  pub is : IsOutcomeOf end result

-- the room of a fetch couldn't be made, and no turn of the table was taken
pub record HasNoRoom (worked : List RunTurn) (a b : WorkerAt) (result : Result WorkEnd Spent) : Type 0 where
  pub none : worked ≡ []
  pub same : b ≡ a
  pub result_is : result ≡ Ok end.NoMemory

-- the run is stopped behind all of them, unless it was finished
abbrev pub StopsUnlessFinished : Result WorkEnd Spent → ℕ → List RunTurn → Type 0
StopsUnlessFinished (Ok end.Finished) moment turns = turns ≡ []
StopsUnlessFinished result moment turns =
    (t : RunTurn) × (turns ≡ t ∷ []) × (t.op ≡ Stop (record { 0 = moment }))

-- The worker took these turns of the table, and no others but the one that stops the run.
pub record Worked {D L : Type 0} (links : LinkSays L) (worker : ℕ) (s : RunSight D) (link : L) (s' : RunSight D) (link' : L)
    (result : Result WorkEnd Spent) : Type 0 where
  pub worked : List RunTurn
  pub stop : List RunTurn
  pub b : WorkerAt
  pub link_is : b.link ≡ link_at links link'
  pub comes_out : ComesOut links.tells worker worked (fresh (link_at links link)) b result
      ⊎ HasNoRoom worked (fresh (link_at links link)) b result
  pub stops : StopsUnlessFinished result b.moment stop
  pub went : Went ties_run s (worked ++ stop) s'

-- ---- calls

-- all that a worker touches
pub record Workplace (D L K : Type 0) : Type 0 where
  pub sight : RunSight D
  pub state : WorkState
  pub link : L
  pub clock : K

abbrev pub workplace : {D L K : Type 0} → RunSight D → WorkState → L → K → Workplace D L K
workplace {D} {L} {K} sight state link clock = record { sight = sight; state = state; link = link; clock = clock }

-- the run was stopped at this moment
abbrev pub StopsAt : {D : Type 0} → Moment → RunSight D → RunSight D → Type 0
StopsAt {D} now s s' = (t : RunTurn) × Went ties_run s (t ∷ []) s' × (t.op ≡ Stop now)

-- .. unless it was finished
abbrev pub EndsRun : {D : Type 0} → Result WorkEnd Spent → ℕ → RunSight D → RunSight D → Type 0
EndsRun {D} result moment s s' = (stop : List RunTurn) × StopsUnlessFinished result moment stop × Went ties_run s stop s'

module _ {D L K : Type 0} (links : LinkSays L) (clocks : ClockSays K) where
  -- the state stands for this, over its link
  abbrev pub StandsIn : Workplace D L K → WorkerAt → Type 0
  StandsIn p a = StandsAs links.tells p.state (link_at links p.link) a

  abbrev pub clock_in : Workplace D L K → ClockAt K
  clock_in p = clock_at p.state.moment.0 p.clock

  -- One turn was taken, and what its answer asks was done: whatever the state stood for, it is as the table says. How long the turn came
  -- behind the one before tells how many bytes the next step takes.
  pub record WorksOnce (old new : Workplace D L K) (result : Option WorkEnd) : Type 0 where
    pub turn : RunTurn
    pub went : Went ties_run old.sight (turn ∷ []) new.sight
    pub told : ℕ
    pub asked : ReadsClockFor clocks told turn (clock_in old) (clock_in new)
    pub worker : new.state.worker ≡ old.state.worker
    pub part : new.state.part.bytes ≡ part_behind turn.answer.said
        (max told old.state.moment.0 - old.state.moment.0) old.state.part.bytes
    pub does : (a : WorkerAt) → StandsIn old a → (b : WorkerAt)
        × Does links.tells old.state.worker told turn a b
        × StandsIn new b × (result ≡ end_behind turn.answer.said b.hand)

  -- .. and turns were taken on and on
  pub record WorksOn (old new : Workplace D L K) (result : Result WorkEnd Spent) : Type 0 where
    pub worked : List RunTurn
    pub went : Went ties_run old.sight worked new.sight
    pub asked : ReadsClockForEach clocks worked (clock_in old) (clock_in new)
    pub worker : new.state.worker ≡ old.state.worker
    pub does : (a : WorkerAt) → StandsIn old a → (b : WorkerAt)
        × ComesOut links.tells old.state.worker worked a b result × StandsIn new b

  -- .. no more of them than a limited worker may take
  pub record WorksOnWithin (old new : Workplace D L K) (result : Result WorkEnd Spent) : Type 0 where
    pub its : WorksOn old new result
    pub few : IsWithinTurns (length its.worked) result

  -- The worker took its turns over the link, and its clock was asked once for each of the table's, and for nothing else.
  pub record WorkedByClock (worker : ℕ) (s : RunSight D) (edge : L × K) (s' : RunSight D) (edge' : L × K)
      (result : Result WorkEnd Spent) : Type 0 where
    pub its : Worked links worker s edge.0 s' edge'.0 result
    pub asked : ReadsClockForEach clocks its.worked (clock_at 0 edge.1) (clock_at its.b.moment edge'.1)

  -- .. and took no more of them than a limited worker may
  pub record WorkedWithin (worker : ℕ) (s : RunSight D) (edge : L × K) (s' : RunSight D) (edge' : L × K)
      (result : Result WorkEnd Spent) : Type 0 where
    pub its : WorkedByClock worker s edge s' edge' result
    pub few : IsWithinTurns (length its.its.worked) result

-- What follows of the steps of a session over a WebSocket.
use Rattle.std.specs.Prelude.{◌≡◌, ℕ, All, Contains, IsSome, List, [], ◌∷◌, ◌++◌, map, reverse, Option, Some, None}
use Rattle.std.specs.List.{flat_map}
use Rattle.console_socket.specs.Sessions.{SocketStep, joins}
use Rattle.console_socket.specs.Sockets.{SocketEvent, Stepped, AskedRun, IsBehindJoining, turns_of_event}
use Rattle.engine_turns.specs.RunTurns.{MayComeAfter}
use Rattle.engine_turns.specs.Told.{AllTurns, RunTurn, history_of}
use Rattle.engine_turns.specs.declared.operations.Operation.TheVariants as operation
use Rattle.machine_core.specs.Notices.{due, end_of}
use Rattle.machine_core.specs.Starts.{RunStart}
use Rattle.machine_core.specs.declared.events.Event.{Event}
use Rattle.machine_core.specs.declared.notices.Cursor.{Cursor}
use Rattle.machine_core.specs.declared.notices.Notice.{Notice}
use Rattle.rpc_envelope.specs.Turns.{BeginsWith, invocations_in, outcomes_in}
use Rattle.console_session.specs.CallTurns.{CameInOrder, call_turns}
use Rattle.console_session.specs.NoticeTexts.{notice_text}
use Rattle.console_session.specs.SocketSteps.{MakeEvents, answers_to, calls_in}

-- ---- turns among others

-- they stand among these turns, in order
abbrev pub StandAmong : List RunTurn → List RunTurn → Type 0
StandAmong [] all = Unit {0}
StandAmong (t ∷ ts) all = (front : List RunTurn) × (back : List RunTurn) × (all ≡ front ++ t ∷ back) × StandAmong ts back

-- ---- notices

-- those of a history from a place on, in order
abbrev pub notices_since : RunStart → List Event → Cursor → List Notice
notices_since start past from = map (λ p. p.notice) (due start past from)

-- one of the turns asked where the history ends, and it ended there. Of the turns of the run, the newest is the first.
pub record JoinsAt (told turns : List RunTurn) (joined : Cursor) : Type 0 where
  pub front : List RunTurn
  pub turn : RunTurn
  pub back : List RunTurn
  pub cut : reverse told ≡ front ++ turn ∷ back
  pub own : Contains turns turn
  pub op : turn.op ≡ operation.Notices None
  pub place : joined ≡ end_of (history_of (reverse front))

-- ---- texts

-- the texts of a step are what answers its calls, and these notices; none where memory ran out
abbrev pub AreTextsOf : SocketStep → Option (List (List ℕ)) → List Notice → Type 0
AreTextsOf step (Some texts) notices =
    texts ≡ answers_to step.inward (outcomes_in step.turns) ++ map notice_text notices
AreTextsOf step None notices = notices ≡ []

abbrev pub TextsOfEvent : SocketEvent → List Notice → Type 0
TextsOfEvent (Stepped step) notices = AreTextsOf step step.texts notices
TextsOfEvent (AskedRun finished) notices = notices ≡ []

-- .. of each of these events, in order, and no notice is left
abbrev pub TellInOrder : List SocketEvent → List Notice → Type 0
TellInOrder [] notices = notices ≡ []
TellInOrder (event ∷ events) notices =
    (its : List Notice) × (others : List Notice) × (notices ≡ its ++ others) × TextsOfEvent event its
    × TellInOrder events others

-- ---- calls

-- the calls that a step carried out are those that came; where memory ran out, the first ones of them
abbrev pub CarriesOut : SocketStep → Option (List (List ℕ)) → Type 0
CarriesOut step (Some texts) = invocations_in step.turns ≡ calls_in step.inward
CarriesOut step None = BeginsWith (calls_in step.inward) (invocations_in step.turns)

abbrev pub CarriesOutEvent : SocketEvent → Type 0
CarriesOutEvent (Stepped step) = CarriesOut step step.texts
CarriesOutEvent (AskedRun finished) = Unit {0}

-- ---- all

-- The calls were carried out in turns, in order, each once. Of the history of all turns, the notices since the session joined
-- are those that it gave as texts, in order, and then those that are due still, from the place on that it keeps.
pub record TellsAll (secret : Option (List ℕ)) (session : ℕ) (start : RunStart) (told : List RunTurn)
    (events : List SocketEvent) (turns : List RunTurn) (to : Option Cursor) : Type 0 where
  pub came : CameInOrder secret session (call_turns turns) (flat_map turns_of_event events)
  pub calls : All CarriesOutEvent events
  pub joined : Cursor
  pub joins : JoinsAt told turns joined
  pub notices : List Notice
  pub texts : TellInOrder events notices
  pub upto : Cursor
  pub upto_is : to ≡ Some upto
  pub all : notices_since start (history_of told) joined
      ≡ notices ++ notices_since start (history_of told) upto

-- whatever turns of others stand between those of a session whose first step joined
abbrev pub SocketStepsTellAll : Type 0
SocketStepsTellAll =
    (secret : Option (List ℕ)) (session : ℕ) (start : RunStart) (told : List RunTurn) (step : SocketStep)
    (events : List SocketEvent) (turns : List RunTurn) (from to : Option Cursor)
    → AllTurns (MayComeAfter start) told → StandAmong turns (reverse told)
    → step.inward ≡ joins → IsSome step.texts → All IsBehindJoining events
    → MakeEvents secret session (Stepped step ∷ events) turns from to
    → TellsAll secret session start told (Stepped step ∷ events) turns to

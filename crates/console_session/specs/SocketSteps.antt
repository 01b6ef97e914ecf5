-- What a session over a WebSocket does in its turns, step by step, and which texts it gives.
use Rattle.std.specs.Prelude.{◌≡◌, ℕ, Bool, List, [], ◌∷◌, ◌++◌, map, Option, Some, None}
use Rattle.std.specs.Option.{option_to_list}
use Rattle.console_socket.specs.Sessions.{InwardData, joins, says, ticks, SocketStep}
use Rattle.console_socket.specs.Sockets.{SocketEvent, Stepped, AskedRun}
use Rattle.engine_turns.specs.Told.{RunTurn}
use Rattle.engine_turns.specs.declared.operations.Operation.TheVariants as operation
use Rattle.engine_turns.specs.declared.operations.Said.TheVariants as said
use Rattle.machine_core.specs.declared.notices.Cursor.{Cursor}
use Rattle.machine_core.specs.declared.notices.Notice.{Notice}
use Rattle.rpc_envelope.specs.Answers.{answer_text, read_bytes}
use Rattle.rpc_envelope.specs.Asks.{found_calls}
use Rattle.rpc_envelope.specs.Turns.{BeginsWith, Invocation, OutcomeData, invocations_in, outcomes_in}
use Rattle.console_session.specs.CallTurns.{CameInOrder, call_turns, is_finish}
use Rattle.console_session.specs.NoticeTexts.{notice_text}

-- ---- what comes

-- the calls of a text
abbrev pub calls_in : InwardData → List Invocation
calls_in joins = []
calls_in (says text) = found_calls (read_bytes text)
calls_in ticks = []

-- what answers them, by what came of them
abbrev pub answers_to : InwardData → List (Option OutcomeData) → List (List ℕ)
answers_to joins came = []
answers_to (says text) came = option_to_list (answer_text (read_bytes text) came)
answers_to ticks came = []

-- from where on notices are asked for: one that joins asks where the history ends
abbrev pub asked_from : InwardData → Option Cursor → Option Cursor
asked_from joins from = None
asked_from (says text) from = from
asked_from ticks from = from

-- ---- a step

-- no turn, or one that asks for the notices from there on
abbrev pub AsksOnce : Option Cursor → List RunTurn → Type 0
AsksOnce from [] = Unit {0}
AsksOnce from (t ∷ []) = t.op ≡ operation.Notices from
AsksOnce from (t ∷ u ∷ more) = ⊥

-- All calls were carried out, one turn told notices, and the texts are the answer and these. The place up to which they
-- were told is kept.
pub record GivesAll (step : SocketStep) (own : List RunTurn) (from to : Option Cursor) (texts : List (List ℕ))
    : Type 0 where
  pub called : invocations_in step.turns ≡ calls_in step.inward
  pub turn : RunTurn
  pub only : own ≡ turn ∷ []
  pub op : turn.op ≡ operation.Notices (asked_from step.inward from)
  pub notices : List Notice
  pub upto : Cursor
  pub told : turn.answer.said ≡ said.Notices notices upto
  pub kept : to ≡ Some upto
  pub texts_are : texts ≡ answers_to step.inward (outcomes_in step.turns) ++ map notice_text notices

-- .. or memory ran out, and the place is as it was
abbrev pub GivesTexts : SocketStep → List RunTurn → (from to : Option Cursor) → Option (List (List ℕ)) → Type 0
GivesTexts step own from to (Some texts) = GivesAll step own from to texts
GivesTexts step own from to None = AsksOnce (asked_from step.inward from) own × (to ≡ from)

module _ (secret : Option (List ℕ)) (session : ℕ) where
  -- By these turns a step was made: the first ones of the calls that came were carried out, in order, each once, and notices
  -- were asked for behind them.
  pub record MakesStep (step : SocketStep) (turns : List RunTurn) (from to : Option Cursor) : Type 0 where
    pub calling : List RunTurn
    pub own : List RunTurn
    pub are : turns ≡ calling ++ own
    pub came : CameInOrder secret session (call_turns calling) step.turns
    pub front : BeginsWith (calls_in step.inward) (invocations_in step.turns)
    pub texts : GivesTexts step own from to step.texts

  -- ---- all of a socket

  -- a turn asked whether the run is finished
  pub record AsksRun (finished : Bool) (turns : List RunTurn) (from to : Option Cursor) : Type 0 where
    pub turn : RunTurn
    pub only : turns ≡ turn ∷ []
    pub op : turn.op ≡ operation.Pulse
    pub answer : finished ≡ is_finish turn.answer.said
    pub kept : to ≡ from

  abbrev pub MakesEvent : SocketEvent → List RunTurn → (from to : Option Cursor) → Type 0
  MakesEvent (Stepped step) turns from to = MakesStep step turns from to
  MakesEvent (AskedRun finished) turns from to = AsksRun finished turns from to

  -- each of these events, in order, by its own turns, and no turn is left
  abbrev pub MakeEvents : List SocketEvent → List RunTurn → (from to : Option Cursor) → Type 0
  MakeEvents [] turns from to = (turns ≡ []) × (to ≡ from)
  MakeEvents (event ∷ events) turns from to =
      (its : List RunTurn) × (others : List RunTurn) × (mid : Option Cursor) × (turns ≡ its ++ others)
      × MakesEvent event its from mid × MakeEvents events others mid to

-- What follows of the turns of a session.
use Rattle.std.specs.Prelude.{◌≡◌, ◌==◌, ℕ, suc, Bool, false, List, [], ◌∷◌, filter, if◌then◌else◌, length, reverse}
use Rattle.dl_kinds.specs.declared.runs.Moment.{Moment}
use Rattle.engine_turns.specs.RunTurns.{MayComeAfter}
use Rattle.engine_turns.specs.Told.{AllTurns, RunTurn, history_of, moment_in}
use Rattle.engine_turns.specs.declared.operations.Operation.{Operation}
use Rattle.engine_turns.specs.declared.operations.Operation.TheVariants as operation
use Rattle.engine_turns.specs.declared.operations.Said.TheVariants as said
use Rattle.machine_core.specs.Starts.{RunStart}
use Rattle.machine_core.specs.declared.calls.Call.{Call}
use Rattle.machine_core.specs.declared.events.Event.{Event}
use Rattle.machine_core.specs.declared.events.Event.TheVariants.{Called}
use Rattle.run_report.specs.Replies.{IsReplyAt}
use Rattle.run_report.specs.declared.kinds.Reply.{Reply}
use Rattle.console_session.specs.CallTurns.{reply_places}

-- The turn's first event is the call, at this place of the history, and the reply is that of the history before it. Of
-- the turns before, the newest is the first.
pub record RepliesTo (start : RunStart) (told : List RunTurn) (t : RunTurn) (session : ℕ) (call : Call) (place : ℕ)
    (reply : Reply) : Type 0 where
  pub place_is : place ≡ length (history_of told)
  pub reply_is : IsReplyAt start (history_of told) call (moment_in told t.op) reply
  pub saves : List Event
  pub events_are : t.events ≡ Called session call (moment_in told t.op) ∷ saves

-- what a turn of a call tells is the reply to it
abbrev pub RepliesAreOfTheHistory : Type 0
RepliesAreOfTheHistory =
    (start : RunStart) (told : List RunTurn) (t : RunTurn) (session : ℕ) (call : Call) (now : Moment) (place : ℕ)
    (reply : Reply) (starved : Bool)
    → MayComeAfter start told t → t.op ≡ operation.Call session call now
    → t.answer.said ≡ said.Replied place reply starved → RepliesTo start told t session call place reply

-- ---- the calls of a session in the history

abbrev pub is_call_of : ℕ → Event → Bool
is_call_of session (Called number call now) = number == session
is_call_of session e = false

-- where they stand among events, of which the first stands at this place
abbrev pub call_places_from : ℕ → ℕ → List Event → List ℕ
call_places_from session at [] = []
call_places_from session at (e ∷ events) =
    if is_call_of session e then at ∷ call_places_from session (suc at) events
    else call_places_from session (suc at) events

-- .. in a history, the oldest event of which is the first
abbrev pub call_places : ℕ → List Event → List ℕ
call_places session events = call_places_from session 0 events

-- the session calls by it
abbrev pub calls_by : ℕ → Operation → Bool
calls_by session (operation.Call number call now) = number == session
calls_by session op = false

-- the turns by which the session calls, in order
abbrev pub turns_calling : ℕ → List RunTurn → List RunTurn
turns_calling session turns = filter (λ (t : RunTurn). calls_by session t.op) turns

-- the events of a session's calls stand just where its turns were replied to, in order, each once
abbrev pub CallsStandWhereReplied : Type 0
CallsStandWhereReplied =
    (start : RunStart) (told : List RunTurn) (session : ℕ) → AllTurns (MayComeAfter start) told
    → call_places session (reverse (history_of told)) ≡ reply_places (turns_calling session (reverse told))

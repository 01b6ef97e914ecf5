-- What the turns of a session make of it and its desk.
use Rattle.std.specs.Prelude.{◌≡◌, ◌⊎◌, ◌+◌, ℕ, Bool, IsTrue, List, [], ◌∷◌, ◌++◌, All, IfOk, OnOk, Option, None, Result}
use Rattle.std.specs.Option.{option_to_list}
use Rattle.console_http.specs.Readings.{DoorAt}
use Rattle.console_http.specs.Visits.{GainsTalks, RoseBy, Visit, capped, failed_in, faults_of_end, starved_in, starved_of_end, turns_in}
use Rattle.console_http.specs.declared.keeping.DoorKept.{DoorKept}
use Rattle.console_socket.specs.Sessions.{InwardData, SocketStep}
use Rattle.door_source.specs.declared.Doors.{Ghosts as DoorSays}
use Rattle.engine_core.specs.Beginnings.{ties_run}
use Rattle.engine_turns.specs.Told.{RunTurn}
use Rattle.engine_turns.specs.declared.operations.Operation.TheVariants as operation
use Rattle.engine_turns.specs.declared.operations.Said.{Said}
use Rattle.engine_turns.specs.declared.operations.Said.TheVariants as said
use Rattle.machine_core.specs.declared.calls.Call.{Call}
use Rattle.machine_core.specs.declared.notices.Cursor.{Cursor}
use Rattle.machine_core.specs.declared.notices.Notice.{Notice}
use Rattle.rpc_console.specs.declared.asking.Keys.{Keys}
use Rattle.rpc_envelope.specs.Turns.{BeginsWith, Invoked, OutcomeData, invocations_in, outcomes_in}
use Rattle.turn_desk.specs.Sights.{DeskId, Went}
use Rattle.console_session.specs.CallTurns.{AreReadFrom, CameBy, CameInOrder, IsOfSession, IsToldOrLost, SessionSight, call_turns, is_finish, outcome_by, places_by, reply_places, starved_in_reply}
use Rattle.console_session.specs.DoorSessions.{AreServed, EndsLast, IsCauseOf, MakeSockets, MakeVisits}
pub use Rattle.console_session.specs.SessionPlaces.{SessionAt, secret_of, session_at}
use Rattle.console_session.specs.SocketSteps.{MakesStep, answers_to, calls_in}
use Rattle.console_session.specs.declared.session.ConsoleSession.{ConsoleSession}

-- the count with that of these turns, up to its last value at each
abbrev pub starved_after : ℕ → List RunTurn → ℕ
starved_after count [] = count
starved_after count (t ∷ ts) = starved_after (capped (count + starved_in_reply t.answer.said)) ts

module _ {K : Type 0} where
  -- the same session, whose clock may have told more moments, and whose places and count may have risen
  pub record GoesOnAs (old new : ConsoleSession K) : Type 0 where
    pub number : new.number ≡ old.number
    pub secret : secret_of new ≡ secret_of old

  -- what an answer leaves in the session
  pub record NotesAnswer (answer : Said) (old new : ConsoleSession K) : Type 0 where
    pub goes_on : GoesOnAs old new
    pub clock : new.clock.now ≡ old.clock.now
    pub places : new.places.items ≡ old.places.items ++ places_by answer
    pub starved : new.starved ≡ capped (old.starved + starved_in_reply answer)

module _ {D T K : Type 0} (sight : T → SessionSight D) (desk_id : T → DeskId) (reads : K → ℕ → K → Type 0) where
  -- These turns were taken, the clock was read for each call of them, and the session has noted the replies.
  pub record TakesTurns (turns : List RunTurn) (a b : SessionAt K T) : Type 0 where
    pub goes_on : GoesOnAs a.session b.session
    pub went : Went ties_run (sight a.desk) turns (sight b.desk)
    pub desk_is : desk_id b.desk ≡ desk_id a.desk
    pub kinds : All (λ (t : RunTurn). IsOfSession a.session.number t.op) turns
    pub read : AreReadFrom reads a.session.clock.now (call_turns turns) b.session.clock.now
    pub places : b.session.places.items ≡ a.session.places.items ++ reply_places (call_turns turns)
    pub starved : b.session.starved ≡ starved_after a.session.starved (call_turns turns)

  -- a call was carried out in a turn, or memory ran out before it
  abbrev pub TakesCallTurn : Call → Keys → (a b : SessionAt K T) → Option OutcomeData → Type 0
  TakesCallTurn call keys a b came =
      ((came ≡ None) × TakesTurns [] a b)
      ⊎ ((t : RunTurn) × (moment : ℕ) × (t.op ≡ operation.Call a.session.number call (record { 0 = moment }))
      × IsToldOrLost (outcome_by keys t.answer.said) came × TakesTurns (t ∷ []) a b)

  -- a call came to this by a turn, or by none
  pub record CarriesOutCall (invoked : Invoked) (a b : SessionAt K T) : Type 0 where
    pub turns : List RunTurn
    pub takes : TakesTurns turns a b
    pub came : CameBy (secret_of a.session) a.session.number (call_turns turns) invoked

  -- it was asked in one turn whether the run is finished
  pub record AsksForFinish (a : SessionAt K T) (finished : Bool) (b : SessionAt K T) : Type 0 where
    pub turn : RunTurn
    pub op : turn.op ≡ operation.Pulse
    pub answer : finished ≡ is_finish turn.answer.said
    pub takes : TakesTurns (turn ∷ []) a b
    pub cursor : b.session.cursor ≡ a.session.cursor

  -- .. for the notices from a place on; they were told, with the place behind them, or memory ran out
  pub record AsksForNotices {E : Type 0} (from : Option Cursor) (a : SessionAt K T)
      (result : Result (List Notice × Cursor) E) (b : SessionAt K T) : Type 0 where
    pub turn : RunTurn
    pub op : turn.op ≡ operation.Notices from
    pub told : IfOk result (λ told. turn.answer.said ≡ said.Notices told.0 told.1)
    pub takes : TakesTurns (turn ∷ []) a b
    pub cursor : b.session.cursor ≡ a.session.cursor

  -- Since it was the first one the session took turns, in which just these calls were carried out.
  pub record HasCarriedOut (first : SessionAt K T) (invoked : List Invoked) (b : SessionAt K T) : Type 0 where
    pub turns : List RunTurn
    pub takes : TakesTurns turns first b
    pub came : CameInOrder (secret_of first.session) first.session.number (call_turns turns) invoked

  -- The calls that came were carried out in turns, and this answers them; or the first ones were, and memory ran out.
  pub record HasAnswered {E : Type 0} (inward : InwardData) (a : SessionAt K T) (result : Result (Option (List ℕ)) E)
      (b : SessionAt K T) : Type 0 where
    pub invoked : List Invoked
    pub turns : List RunTurn
    pub takes : TakesTurns turns a b
    pub came : CameInOrder (secret_of a.session) a.session.number (call_turns turns) invoked
    pub front : BeginsWith (calls_in inward) (invocations_in invoked)
    pub called : OnOk result (invocations_in invoked ≡ calls_in inward)
    pub text : IfOk result (λ text. option_to_list text ≡ answers_to inward (outcomes_in invoked))
    pub cursor : b.session.cursor ≡ a.session.cursor

  -- a step of a WebSocket was made in turns
  pub record TakesStep (step : SocketStep) (a b : SessionAt K T) : Type 0 where
    pub turns : List RunTurn
    pub takes : TakesTurns turns a b
    pub makes : MakesStep (secret_of a.session) a.session.number step turns a.session.cursor b.session.cursor

  module _ {A : Type 0} (says : DoorSays A) (most : ℕ) where
    abbrev pub session_in : DoorAt (ConsoleSession K) T A → SessionAt K T
    session_in place = session_at place.session place.desk

    -- by these turns the calls of a door's clients were carried out, up to the door's end
    pub record Attends (kept : DoorKept) (a b : DoorAt (ConsoleSession K) T A) : Type 0 where
      pub turns : List RunTurn
      pub takes : TakesTurns turns (session_in a) (session_in b)
      pub visits : List Visit
      pub served : AreServed says.tells most visits
      pub last : EndsLast visits kept.end
      pub came : CameInOrder (secret_of a.session) a.session.number (call_turns turns) (turns_in visits)
      pub sockets : MakeSockets (secret_of a.session) a.session.number visits turns
      pub found : MakeVisits (secret_of a.session) a.session.number kept.end visits turns
      pub told : IsTrue says.tells → GainsTalks visits (says.state a.door) (says.state b.door)
      pub faults : RoseBy (failed_in visits + faults_of_end kept.end) (says.faults a.door) (says.faults b.door)
      pub cause : IsCauseOf says kept.end turns visits b.door
      pub starved : kept.starved ≡ capped (starved_in visits + starved_of_end kept.end)

-- The response to one request.
use Rattle.std.specs.Prelude.{◌≡◌, ◌⊎◌, ℕ, All, IsTrue, List, [], Option, Result, Ok, Err}
use Rattle.dl_kinds.specs.declared.outside.IoErr.{IoErr}
use Rattle.dl_kinds.specs.Counts.{Rose}
use Rattle.door_source.specs.declared.Doors.{Ghosts as DoorSays}
use Rattle.rpc_envelope.specs.Turns.{Invocation, Invoked, OutcomeData, BeginsWith, CamePlain, Extends, invocations_in, outcomes_in}
use Rattle.console_http.specs.Ends.{end_by_error}
use Rattle.console_http.specs.Readings.{DoorAt}
use Rattle.console_http.specs.Receiving.{GivesPart, SendsAll}
use Rattle.console_http.specs.Sessions.{CallsAt}
use Rattle.console_http.specs.declared.ends.ConnectionEnd.{ConnectionEnd}
use Rattle.console_http.specs.declared.ends.ConnectionEnd.TheVariants.{HungUp, Failed, Starved}

-- a response, by what came of calls
abbrev pub ResponseBy : Type 0
ResponseBy = List (Option OutcomeData) → List ℕ

-- just these calls were carried out, in order, and memory sufficed for each
pub record CarriesOut (calls : List Invocation) (turns : List Invoked) : Type 0 where
  pub asked : invocations_in turns ≡ calls
  pub came : All CamePlain (outcomes_in turns)

-- A front of the response was sent, behind all of the calls. Or the first of the calls were carried out, and nothing was
-- sent.
abbrev pub IsResponseBegun : List Invocation → ResponseBy → List Invoked → List ℕ → Type 0
IsResponseBegun calls response turns part =
    (CarriesOut calls turns × BeginsWith (response (outcomes_in turns)) part)
    ⊎ (BeginsWith calls (invocations_in turns) × (part ≡ []))

-- what became of the count of faults where a connection ends before its time
abbrev pub CausesBreak : ConnectionEnd → ℕ → ℕ → Type 0
CausesBreak Failed before now = Rose before now
CausesBreak Starved before now = now ≡ before
CausesBreak end before now = ⊥

-- ---- a request that is turned away

module _ {A : Type 0} (says : DoorSays A) where
  -- a front of the bytes was sent, and this ended the connection
  pub record SendsFront (bytes part : List ℕ) (end : ConnectionEnd) (old new : A) : Type 0 where
    pub front : BeginsWith bytes part
    pub told : IsTrue says.tells → GivesPart part (says.state old) (says.state new)
    pub cause : CausesBreak end (says.faults old) (says.faults new)

  abbrev pub HasTurnedAway : List ℕ → A → A → ConnectionEnd → Type 0
  HasTurnedAway bytes old new HungUp = SendsAll says bytes old new
  HasTurnedAway bytes old new end = (part : List ℕ) × SendsFront bytes part end old new

-- ---- a request that is served

module _ {S T A : Type 0} (at : CallsAt S T) (says : DoorSays A) where
  -- all calls, and then all of the response
  pub record Responds (calls : List Invocation) (response : ResponseBy) (turns : List Invoked)
      (a b : DoorAt S T A) : Type 0 where
    pub extends : Extends (at a.session a.desk) (at b.session b.desk) turns
    pub carried : CarriesOut calls turns
    pub sends : SendsAll says (response (outcomes_in turns)) a.door b.door

  -- .. and this ended the connection
  pub record BeginsResponse (calls : List Invocation) (response : ResponseBy) (turns : List Invoked) (part : List ℕ)
      (end : ConnectionEnd) (a b : DoorAt S T A) : Type 0 where
    pub extends : Extends (at a.session a.desk) (at b.session b.desk) turns
    pub begun : IsResponseBegun calls response turns part
    pub told : IsTrue says.tells → GivesPart part (says.state a.door) (says.state b.door)
    pub cause : CausesBreak end (says.faults a.door) (says.faults b.door)

  abbrev pub HasResponded : List Invocation → ResponseBy → DoorAt S T A → DoorAt S T A → Result (Unit {0}) IoErr → Type 0
  HasResponded calls response a b (Ok done) = (turns : List Invoked) × Responds calls response turns a b
  HasResponded calls response a b (Err error) =
      (turns : List Invoked) × (part : List ℕ) × BeginsResponse calls response turns part (end_by_error error) a b

-- What a door did, visit by visit.
use Rattle.std.specs.Prelude.{◌≡◌, ◌≤◌, ℕ, ◌+◌, ◌-◌, ◌^◌, min, Bool, true, false, IsTrue, List, [], ◌∷◌, ◌++◌, Option, Some, None}
use Rattle.std.specs.Bool.{MatchBool}
use Rattle.door_source.specs.Doors.{Connection, DoorState, Accepts}
use Rattle.door_source.specs.declared.Came.{Came}
use Rattle.door_source.specs.declared.Came.TheVariants.{Somebody, Closed as NoneAnyMore}
use Rattle.door_source.specs.declared.Doors.{Ghosts as DoorSays}
use Rattle.rpc_envelope.specs.Turns.{Invoked, Extends}
use Rattle.console_http.specs.Conversations.{Conversation, Serves, conversation_of}
use Rattle.console_http.specs.Readings.{DoorAt}
use Rattle.console_http.specs.Receiving.{BreaksDown, StaysSilent}
use Rattle.console_http.specs.Sessions.{AskingAt, CallsAt, SteppingAt}
use Rattle.console_http.specs.Talks.{TalkStep, AsksSession, StaysAtDesk}
use Rattle.console_http.specs.declared.ends.ConnectionEnd.{ConnectionEnd}
use Rattle.console_http.specs.declared.ends.ConnectionEnd.TheVariants.{AtItsEnd, RunEnded, Failed, Starved, Socket}
use Rattle.console_http.specs.declared.ends.DoorEnd.{DoorEnd}
use Rattle.console_http.specs.declared.ends.DoorEnd.TheVariants.{Closed, Finished, Fault, NoBuffers}
use Rattle.console_http.specs.declared.keeping.DoorKept.{DoorKept}
use Rattle.console_http.specs.declared.keeping.Visited.{Visited}
use Rattle.console_http.specs.declared.keeping.Visited.TheVariants.{NobodyCame, Talked, Ended}
use Rattle.console_socket.specs.declared.ends.SocketEnd.{SocketEnd}
use Rattle.console_socket.specs.declared.ends.SocketEnd.TheVariants.{Failed as SocketFailed, Starved as SocketStarved}

pub data Visit : Type 0 where
  -- nobody came, or memory was wanting to let one in
  Waits : Visit
  -- a client was let in, and its connection was served
  Welcomes : (steps : List TalkStep) → (end : ConnectionEnd) → Visit

-- it was found that the run is finished
abbrev pub ends_run : ConnectionEnd → Bool
ends_run RunEnded = true
ends_run end = false

abbrev pub finds_end : Visit → Bool
finds_end Waits = false
finds_end (Welcomes steps end) = ends_run end

-- ---- counts

abbrev pub failed_by_socket : SocketEnd → ℕ
failed_by_socket SocketFailed = 1
failed_by_socket how = 0

abbrev pub failed_by : ConnectionEnd → ℕ
failed_by Failed = 1
failed_by (Socket how) = failed_by_socket how
failed_by end = 0

-- how many connections a call of the door ended
abbrev pub failed_in : List Visit → ℕ
failed_in [] = 0
failed_in (Waits ∷ visits) = failed_in visits
failed_in (Welcomes steps end ∷ visits) = failed_by end + failed_in visits

abbrev pub starved_by_socket : SocketEnd → ℕ
starved_by_socket SocketStarved = 1
starved_by_socket how = 0

abbrev pub starved_by : ConnectionEnd → ℕ
starved_by Starved = 1
starved_by (Socket how) = starved_by_socket how
starved_by end = 0

-- how many connections want of memory ended
abbrev pub starved_in : List Visit → ℕ
starved_in [] = 0
starved_in (Waits ∷ visits) = starved_in visits
starved_in (Welcomes steps end ∷ visits) = starved_by end + starved_in visits

-- how many connections want of memory ended: none or one
abbrev pub starved_at : Visited → ℕ
starved_at (Talked end) = starved_by end
starved_at other = 0

-- up to the last number of 32 bits
abbrev pub capped : ℕ → ℕ
capped count = min count (2 ^ 32 - 1)

-- a count of faults rose by as many at least, or stands at its last value
abbrev pub RoseBy : ℕ → ℕ → ℕ → Type 0
RoseBy count before now = min (before + count) (2 ^ 64 - 1) ≤ now

-- ---- what came of them

-- all calls, in order
abbrev pub turns_in : List Visit → List Invoked
turns_in [] = []
turns_in (Waits ∷ visits) = turns_in visits
turns_in (Welcomes steps end ∷ visits) = (conversation_of steps).turns ++ turns_in visits

-- the connection had this conversation; all that its peer sends was received, where it is at its end
pub record HadConversation (end : ConnectionEnd) (talk : Conversation) (connection : Connection) : Type 0 where
  pub received : connection.received ≡ talk.received
  pub sent : connection.sent ≡ talk.sent
  pub rest : List ℕ
  pub front : connection.whole ≡ talk.received ++ rest
  pub all : end ≡ AtItsEnd → rest ≡ []

-- the connections, one for each client that was let in, in order
abbrev pub AreGained : List Visit → List Connection → Type 0
AreGained [] gained = gained ≡ []
AreGained (Waits ∷ visits) gained = AreGained visits gained
AreGained (Welcomes steps end ∷ visits) gained =
    (connection : Connection) × (others : List Connection) × (gained ≡ connection ∷ others)
    × HadConversation end (conversation_of steps) connection × AreGained visits others

-- they came behind those that the door had
pub record GainsTalks (visits : List Visit) (old new : DoorState) : Type 0 where
  pub gained : List Connection
  pub are : AreGained visits gained
  pub connections : new.connections ≡ old.connections ++ gained

abbrev pub faults_of_end : DoorEnd → ℕ
faults_of_end (Fault count) = 1
faults_of_end end = 0

abbrev pub starved_of_end : DoorEnd → ℕ
starved_of_end NoBuffers = 1
starved_of_end end = 0

-- how a door ends, if it does, by whether the run is finished
abbrev pub end_if : Bool → Option DoorEnd
end_if true = Some Finished
end_if false = None

abbrev pub AsksForEnd : {S T : Type 0} → CallsAt S T → AskingAt S T → S → T → S → T
    → Option DoorEnd → Type 0
AsksForEnd {S} {T} at asks session desk session' desk' end =
    (finished : Bool) × AsksSession at asks finished session desk session' desk' × (end ≡ end_if finished)

-- .. behind a visit, unless that was found, or no client could be let in
abbrev pub AsksBehind : {S T : Type 0} → CallsAt S T → AskingAt S T → Visited
    → S → T → S → T → Option DoorEnd → Type 0
AsksBehind {S} {T} at asks NobodyCame session desk session' desk' end = AsksForEnd at asks session desk session' desk' end
AsksBehind {S} {T} at asks (Talked how) session desk session' desk' end =
    MatchBool (ends_run how) ((session' ≡ session) × (desk' ≡ desk) × (end ≡ Some Finished))
    (AsksForEnd at asks session desk session' desk' end)
AsksBehind {S} {T} at asks (Ended how) session desk session' desk' end =
    (session' ≡ session) × (desk' ≡ desk) × (end ≡ Some how)

module _ {S T A : Type 0} (at : CallsAt S T) (asks : AskingAt S T) (moves : SteppingAt S T) (says : DoorSays A) (most : ℕ) where
  -- what accept told is so
  pub record HasAccepted (came : Came) (a b : DoorAt S T A) : Type 0 where
    pub stays : StaysAtDesk at asks moves says a b
    pub told : IsTrue says.tells → Accepts came (says.state a.door) (says.state b.door)
    pub faults : says.faults b.door ≡ says.faults a.door

  abbrev pub IsVisit : Visit → DoorAt S T A → DoorAt S T A → Type 0
  IsVisit Waits a b = StaysAtDesk at asks moves says a b × StaysSilent says a.door b.door
  IsVisit (Welcomes steps end) a b = (m : DoorAt S T A) × HasAccepted Somebody a m × Serves at asks moves says most steps end m b

  -- it was asked whether the run is finished
  pub record AsksDoor (finished : Bool) (a b : DoorAt S T A) : Type 0 where
    pub asks_session : AsksSession at asks finished a.session a.desk b.session b.desk
    pub door : b.door ≡ a.door

  -- no client could be let in
  abbrev pub EndsDoor : DoorEnd → DoorAt S T A → DoorAt S T A → Type 0
  EndsDoor Closed a b = HasAccepted NoneAnyMore a b
  EndsDoor (Fault count) a b =
      StaysAtDesk at asks moves says a b × BreaksDown says a.door b.door × (count ≡ says.faults b.door)
  EndsDoor Finished a b = ⊥
  EndsDoor NoBuffers a b = ⊥

  -- These visits, in order, and then this end. Behind each it was asked whether the run is finished, unless that was found
  -- before.
  abbrev pub Keeps : List Visit → DoorEnd → DoorAt S T A → DoorAt S T A → Type 0
  Keeps [] end a b = EndsDoor end a b
  Keeps (visit ∷ visits) end a b =
      (m : DoorAt S T A) × IsVisit visit a m
      × MatchBool (finds_end visit) ((visits ≡ []) × (end ≡ Finished) × (b ≡ m))
      ((n : DoorAt S T A) × (finished : Bool) × AsksDoor finished m n
      × MatchBool finished ((visits ≡ []) × (end ≡ Finished) × (b ≡ n)) (Keeps visits end n b))

  -- from the one a door can be kept behind the visit as from the other
  abbrev pub KeepsOn : List Visit → DoorAt S T A → DoorAt S T A → Type 0
  KeepsOn done a b =
      (visits : List Visit) (end : DoorEnd) (c : DoorAt S T A) → Keeps visits end b c → Keeps (done ++ visits) end a c

  -- ---- calls

  abbrev pub HasVisited : DoorAt S T A → DoorAt S T A → Visited → Type 0
  HasVisited a b NobodyCame = IsVisit Waits a b
  HasVisited a b (Talked end) = (steps : List TalkStep) × IsVisit (Welcomes steps end) a b
  HasVisited a b (Ended end) = EndsDoor end a b

  -- the door is kept on, or not, and the starved connections were counted
  abbrev pub HasKeptOn : DoorAt S T A → ℕ → DoorAt S T A → ℕ → Option DoorEnd → Type 0
  HasKeptOn a before b now None =
      (visit : Visit) × KeepsOn (visit ∷ []) a b × (now ≡ capped (before + starved_in (visit ∷ [])))
  HasKeptOn a before b now (Some end) =
      (visits : List Visit) × Keeps visits end a b × (now ≡ capped (before + starved_in visits))

  -- ---- the whole

  -- the visits, or none where the buffers couldn't be made
  abbrev pub KeepsToEnd : List Visit → DoorEnd → DoorAt S T A → DoorAt S T A → Type 0
  KeepsToEnd visits NoBuffers a b = (visits ≡ []) × (b ≡ a)
  KeepsToEnd visits end a b = Keeps visits end a b

  -- the visits, their calls, the connections that the door gained, and how many of them a fault or want of memory ended
  pub record KeepsDoor (visits : List Visit) (kept : DoorKept) (a b : DoorAt S T A) : Type 0 where
    pub keeps : KeepsToEnd visits kept.end a b
    pub extends : Extends (at a.session a.desk) (at b.session b.desk) (turns_in visits)
    pub told : IsTrue says.tells → GainsTalks visits (says.state a.door) (says.state b.door)
    pub faults : RoseBy (failed_in visits + faults_of_end kept.end) (says.faults a.door) (says.faults b.door)
    pub starved : kept.starved ≡ capped (starved_in visits + starved_of_end kept.end)

-- The WebSockets of a door tell all notices since each joined.
use Rattle.std.proofs.Common.{ℕ, Bool, List, [], ◌∷◌, ◌++◌, Option, sym, ap, ◌∙◌, subst, append_assoc}
use Rattle.std.specs.Prelude.{reverse}
use Rattle.console_http.specs.Conversations.{IsServedBy, conversation_of}
use Rattle.console_http.specs.Talks.{TalkStep}
use Rattle.console_http.specs.Visits.{Visit, Waits, Welcomes}
use Rattle.console_http.specs.declared.ends.ConnectionEnd.{ConnectionEnd}
use Rattle.console_http.specs.declared.ends.ConnectionEnd.TheVariants.{AtItsEnd, HungUp, RunEnded, Failed, Starved, Socket}
use Rattle.console_socket.specs.Sockets.{SocketEvent, SocketTalk, Stepped, AskedRun, JoinsAtFirst}
use Rattle.console_socket.specs.declared.ends.SocketEnd.{SocketEnd}
use Rattle.engine_turns.specs.RunTurns.{MayComeAfter}
use Rattle.engine_turns.specs.Told.{AllTurns, RunTurn}
use Rattle.machine_core.specs.Starts.{RunStart}
use Rattle.machine_core.specs.declared.notices.Cursor.{Cursor}
use Rattle.console_session.specs.DoorLaws.{DoorsTellNotices, SocketTells, SocketsTell, TellsIfAny}
use Rattle.console_session.specs.DoorSessions.{AreServed, MakeSockets, MakesSocket}
use Rattle.console_session.specs.SocketLaws.{SocketStepsTellAll, StandAmong}
use Rattle.console_session.specs.SocketSteps.{MakeEvents}

-- ---- turns among others

pub among_more : (ts front all : List RunTurn) → StandAmong ts all → StandAmong ts (front ++ all)
among_more [] front all among = tt
among_more (t ∷ ts) front all (before, back, are, rest) = (
  front ++ before,
  back,
  ap (λ (l : List RunTurn). front ++ l) are ∙ sym (append_assoc front before (t ∷ back)),
  rest,
)

pub among_first : (ts us all : List RunTurn) → StandAmong (ts ++ us) all → StandAmong ts all
among_first [] us all among = tt
among_first (t ∷ ts) us all (before, back, are, rest) = (before, back, are, among_first ts us back rest)

among_last : (ts us all : List RunTurn) → StandAmong (ts ++ us) all → StandAmong us all
among_last [] us all among = among
among_last (t ∷ ts) us all (before, back, are, rest) =
    let later = among_last ts us back rest in
    subst (StandAmong us) (append_assoc before (t ∷ []) back ∙ sym are) (among_more us (before ++ t ∷ []) back later)

-- ---- visits

module _ (law : SocketStepsTellAll) (secret : Option (List ℕ)) (session : ℕ) (start : RunStart) (told : List RunTurn)
    (ties : AllTurns (MayComeAfter start) told) where
  events_tell : (events : List SocketEvent) (its : List RunTurn) (from to : Option Cursor) → JoinsAtFirst events
      → StandAmong its (reverse told) → MakeEvents secret session events its from to
      → SocketTells secret session start told events
  events_tell [] its from to joins among makes = tt
  events_tell (AskedRun finished ∷ events) its from to joins among makes = tt
  events_tell (Stepped step ∷ events) its from to joins among makes =
      λ some. (its, to, law secret session start told step events its from to ties among joins.0 some joins.1 makes)

  -- by the socket that the connection was kept as
  socket_tells : (knows : Bool) (most : ℕ) (steps : List TalkStep) (how : SocketEnd) (its : List RunTurn)
      → IsServedBy knows most (Socket how) (conversation_of steps) → StandAmong its (reverse told)
      → MakesSocket secret session (conversation_of steps).socket its
      → TellsIfAny secret session start told (conversation_of steps).socket
  socket_tells knows most steps how its (socket, is, up_to) among makes =
      let made = subst (λ (s : Option SocketTalk). MakesSocket secret session s its) is makes in
      subst (TellsIfAny secret session start told) (sym is)
      (events_tell socket.events its made.0 made.1 up_to.behind.goes_on.joins among made.2)

  -- behind a connection that was kept as none
  tell_behind : (knows : Bool) (most : ℕ) (steps : List TalkStep) (end : ConnectionEnd) (visits : List Visit)
      (turns : List RunTurn) → StandAmong turns (reverse told) → AreServed knows most (Welcomes steps end ∷ visits)
      → MakeSockets secret session (Welcomes steps end ∷ visits) turns
      → ((others : List RunTurn) → StandAmong others (reverse told) → AreServed knows most visits
      → MakeSockets secret session visits others → SocketsTell secret session start told visits)
      → SocketsTell secret session start told visits
  tell_behind knows most steps end visits turns among served (before, its, others, are, mine, more) on =
      let all = subst (λ (ts : List RunTurn). StandAmong ts (reverse told)) are among in
      let behind = among_last before (its ++ others) (reverse told) all in
      on others (among_last its others (reverse told) behind) served.1 more

  tell : (knows : Bool) (most : ℕ) (visits : List Visit) (turns : List RunTurn) → StandAmong turns (reverse told)
      → AreServed knows most visits → MakeSockets secret session visits turns
      → SocketsTell secret session start told visits
  tell knows most [] turns among served makes = tt
  tell knows most (Waits ∷ visits) turns among served makes = tell knows most visits turns among served makes
  tell knows most (Welcomes steps (Socket how) ∷ visits) turns among served (before, its, others, are, mine, more) =
      let all = subst (λ (ts : List RunTurn). StandAmong ts (reverse told)) are among in
      let behind = among_last before (its ++ others) (reverse told) all in (
        socket_tells knows most steps how its served.0 (among_first its others (reverse told) behind) mine,
        tell knows most visits others (among_last its others (reverse told) behind) served.1 more,
      )
  tell knows most (Welcomes steps AtItsEnd ∷ visits) turns among served makes =
      tell_behind knows most steps AtItsEnd visits turns among served makes (λ others. tell knows most visits others)
  tell knows most (Welcomes steps HungUp ∷ visits) turns among served makes =
      tell_behind knows most steps HungUp visits turns among served makes (λ others. tell knows most visits others)
  tell knows most (Welcomes steps RunEnded ∷ visits) turns among served makes =
      tell_behind knows most steps RunEnded visits turns among served makes (λ others. tell knows most visits others)
  tell knows most (Welcomes steps Failed ∷ visits) turns among served makes =
      tell_behind knows most steps Failed visits turns among served makes (λ others. tell knows most visits others)
  tell knows most (Welcomes steps Starved ∷ visits) turns among served makes =
      tell_behind knows most steps Starved visits turns among served makes (λ others. tell knows most visits others)

pub tells_notices : SocketStepsTellAll → DoorsTellNotices
tells_notices law secret session start told knows most visits turns ties among served makes =
    tell law secret session start told ties knows most visits turns among served makes

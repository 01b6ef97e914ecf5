-- The turns of a door, visit by visit, each with the asking behind it.
use Rattle.std.proofs.Common.{◌≡◌, ℕ, Bool, true, false, List, [], ◌∷◌, ◌++◌, Option, refl, sym, subst, append-nil}
use Rattle.std.specs.Bool.{MatchBool}
use Rattle.std.proofs.lemmas.Bool.{false≢true}
use Rattle.console_http.specs.Readings.{ConsoleAt, DoorAt}
use Rattle.console_http.specs.Talks.{TalkStep, Answers, AsksRun, Begins, Hears, Upgrades}
use Rattle.console_http.specs.Visits.{Visit, Waits, Welcomes, AsksDoor, IsVisit, KeepsToEnd, finds_end}
use Rattle.console_http.specs.declared.ends.ConnectionEnd.{ConnectionEnd}
use Rattle.console_http.specs.declared.ends.ConnectionEnd.TheVariants.{HungUp, RunEnded}
use Rattle.console_http.specs.declared.ends.DoorEnd.{DoorEnd}
use Rattle.console_http.specs.declared.ends.DoorEnd.TheVariants.{Closed, Finished, Fault, NoBuffers}
use Rattle.door_source.specs.declared.Doors.{Ghosts as DoorSays}
use Rattle.engine_core.specs.Beginnings.{ties_run}
use Rattle.engine_turns.specs.Told.{RunTurn}
use Rattle.rpc_envelope.specs.Turns.{Invoked}
use Rattle.turn_desk.specs.Laws.{NoTurnsChangeNothing, TurnsAddUp}
use Rattle.turn_desk.specs.Sights.{DeskId}
use Rattle.console_session.proofs.Carrying.{takes_none}
use Rattle.console_session.proofs.DoorTurns as door
use Rattle.console_session.specs.CallTurns.{CameInOrder, SessionSight, call_turns}
use Rattle.console_session.specs.DoorSessions.{AskOnce, AsksTurn, EndsFinished, MakeVisits, MakesTalk, MakesVisit}
use Rattle.console_session.specs.Sessions.{AsksForFinish, HasCarriedOut, SessionAt, TakesTurns, secret_of, session_at}
use Rattle.console_session.specs.declared.session.ConsoleSession.{ConsoleSession}

module _ {D T K : Type 0} (sight : T → SessionSight D) (desk_id : T → DeskId) (reads : K → ℕ → K → Type 0) {S : Type 0}
    (of : S → ConsoleSession K) (none : NoTurnsChangeNothing (ties_run {D = D})) (add_up : TurnsAddUp (ties_run {D = D}))
    {A : Type 0} (says : DoorSays A) (secret : Option (List ℕ)) (session : ℕ) where
  abbrev attending : DoorAt S T A → SessionAt K T
  attending place = session_at (of place.session) place.desk

  abbrev Takes : List RunTurn → SessionAt K T → SessionAt K T → Type 0
  Takes turns a b = TakesTurns sight desk_id reads turns a b

  abbrev IsThis : SessionAt K T → Type 0
  IsThis a = door.IsThis sight desk_id reads of none add_up says secret session a

  on_with : (turns : List RunTurn) (a b : SessionAt K T) → IsThis a → Takes turns a b → IsThis b
  on_with turns a b this takes = door.still_this sight desk_id reads of none add_up says secret session turns a b this takes

  joined : (a m b : SessionAt K T) (first more : List RunTurn) → Takes first a m → Takes more m b → Takes (first ++ more) a b
  joined a m b first more one other = door.both sight desk_id reads of none add_up says secret session a m b first more one other

  no_turns : (a : SessionAt K T) → Takes [] a a
  no_turns a = takes_none sight desk_id reads none a

  -- the asking of a turn
  asks_turn : (finished : Bool) (a b : SessionAt K T) (asked : AsksForFinish sight desk_id reads a finished b)
      → AsksTurn finished asked.turn
  asks_turn finished a b asked = record { op = asked.op; answer = asked.answer }

  -- the calls of a request came in order, for this session
  came_for : (calls : List Invoked) (a b : SessionAt K T) → IsThis a → (did : HasCarriedOut sight desk_id reads a calls b)
      → CameInOrder secret session (call_turns did.turns) calls
  came_for calls a b this did =
      subst (λ (key : Option (List ℕ)). CameInOrder key session (call_turns did.turns) calls) this.secret_is
      (subst (λ (n : ℕ). CameInOrder (secret_of a.session) n (call_turns did.turns) calls) this.number did.came)

  -- ---- a connection

  abbrev TalksOn : List TalkStep → ConnectionEnd → ConsoleAt S T A → DoorAt S T A → Type 0
  TalksOn steps end a b = door.TalksOn sight desk_id reads of none add_up says secret session steps end a b

  record HasTold (end : ConnectionEnd) (steps : List TalkStep) (a b : SessionAt K T) : Type 0 where
    turns : List RunTurn
    takes : Takes turns a b
    makes : MakesTalk secret session end steps turns

  abbrev Told : ConnectionEnd → List TalkStep → DoorAt S T A → DoorAt S T A → Type 0
  Told end steps a b = HasTold end steps (attending a) (attending b)

  told_nothing : (end : ConnectionEnd) (steps : List TalkStep) (m b : DoorAt S T A) → steps ≡ [] → b ≡ m → Told end steps m b
  told_nothing end steps m b nothing same =
      subst (λ (place : DoorAt S T A). Told end steps m place) (sym same)
      (subst (λ (others : List TalkStep). Told end others m m) (sym nothing)
      (record { turns = []; takes = no_turns (attending m); makes = refl }))

  -- behind an answer the connection ended, or went on
  answered : (last : Bool) (steps : List TalkStep) (end : ConnectionEnd) (m : ConsoleAt S T A) (b : DoorAt S T A)
      → (TalksOn steps end m b → Told end steps m.place b)
      → MatchBool last ((steps ≡ []) × (end ≡ HungUp) × (b ≡ m.place)) (TalksOn steps end m b) → Told end steps m.place b
  answered true steps end m b on is = told_nothing end steps m.place b is.0 is.2
  answered false steps end m b on goes = on goes

  abbrev LastIfFound : Bool → List TalkStep → ConnectionEnd → Type 0
  LastIfFound finished steps end = finished ≡ true → (steps ≡ []) × (end ≡ RunEnded)

  -- .. and behind an asking
  asked : (finished : Bool) (steps : List TalkStep) (end : ConnectionEnd) (m : ConsoleAt S T A) (b : DoorAt S T A)
      → (TalksOn steps end m b → Told end steps m.place b)
      → MatchBool finished ((steps ≡ []) × (end ≡ RunEnded) × (b ≡ m.place)) (TalksOn steps end m b)
      → Told end steps m.place b × LastIfFound finished steps end
  asked true steps end m b on is = (told_nothing end steps m.place b is.0 is.2, λ found. (is.0, is.1))
  asked false steps end m b on goes = (on goes, λ found. absurd (false≢true found))

  told : (steps : List TalkStep) (end : ConnectionEnd) (a : ConsoleAt S T A) (b : DoorAt S T A) → IsThis (attending a.place)
      → TalksOn steps end a b → Told end steps a.place b
  told [] end a b this here = record {
    turns = [];
    takes = door.quiet sight desk_id reads of none add_up says secret session end a b here;
    makes = refl;
  }
  told (Hears piece ∷ steps) end a b this (m, is, then) =
      let came = door.stayed sight desk_id reads of none add_up says secret session a.place m.place is.stays in
      let rest = told steps end m b (on_with [] (attending a.place) (attending m.place) this came) then in record {
        turns = rest.turns;
        takes = joined (attending a.place) (attending m.place) (attending b) [] rest.turns came rest.takes;
        makes = rest.makes;
      }
  told (Answers request calls ∷ steps) end a b this (m, is, then) =
      let did = door.called sight desk_id reads of none add_up says secret session a.place m.place calls is.responds.extends in
      let this' = on_with did.turns (attending a.place) (attending m.place) this did.takes in
      let rest = answered _ steps end m b (λ more. told steps end m b this' more) then in record {
        turns = did.turns ++ rest.turns;
        takes = joined (attending a.place) (attending m.place) (attending b) did.turns rest.turns did.takes rest.takes;
        makes = (
          did.turns,
          rest.turns,
          refl,
          came_for calls (attending a.place) (attending m.place) this did,
          rest.makes,
        );
      }
  told (AsksRun finished ∷ steps) end a b this (m, is, then) =
      let its = is.asks_session.asked in
      let this' = on_with (its.turn ∷ []) (attending a.place) (attending m.place) this its.takes in
      let both = asked finished steps end m b (λ more. told steps end m b this' more) then in
      let rest = both.0 in record {
        turns = its.turn ∷ rest.turns;
        takes = joined (attending a.place) (attending m.place) (attending b) (its.turn ∷ []) rest.turns its.takes rest.takes;
        makes = (
          its.turn,
          rest.turns,
          refl,
          asks_turn finished (attending a.place) (attending m.place) its,
          both.1,
          rest.makes,
        );
      }
  told (Begins request calls part ∷ steps) end a b this (is, last) =
      let did = door.called sight desk_id reads of none add_up says secret session a.place b calls is.begins.extends in record {
        turns = did.turns;
        takes = did.takes;
        makes = came_for calls (attending a.place) (attending b) this did;
      }
  told (Upgrades socket ∷ steps) end a b this (is, last) =
      let made = door.events_made sight desk_id reads of none add_up says secret session socket.events a.place.session
      a.place.desk b.session b.desk this is.keeps.goes in record {
        turns = made.turns;
        takes = made.takes;
        makes = ((of a.place.session).cursor, (of b.session).cursor, made.makes);
      }

  -- ---- a door

  module _ (most : ℕ) where
    abbrev KeepsFrom : List Visit → DoorEnd → DoorAt S T A → DoorAt S T A → Type 0
    KeepsFrom visits end a b = door.KeepsFrom sight desk_id reads of none add_up says secret session most visits end a b

    abbrev Stops : List Visit → DoorEnd → DoorAt S T A → DoorAt S T A → Type 0
    Stops visits end m b = door.Stops sight desk_id reads of none add_up says secret session most visits end m b

    pub record HasVisited (end : DoorEnd) (visits : List Visit) (a b : SessionAt K T) : Type 0 where
      pub turns : List RunTurn
      pub takes : Takes turns a b
      pub makes : MakeVisits secret session end visits turns

    abbrev Visited : DoorEnd → List Visit → DoorAt S T A → DoorAt S T A → Type 0
    Visited end visits a b = HasVisited end visits (attending a) (attending b)

    none_visited : (end : DoorEnd) (a b : DoorAt S T A) → Takes [] (attending a) (attending b) → Visited end [] a b
    none_visited end a b takes = record { turns = []; takes = takes; makes = refl }

    ended : (end : DoorEnd) (a b : DoorAt S T A) → KeepsFrom [] end a b → Visited end [] a b
    ended Closed a b ends =
        none_visited Closed a b (door.stayed sight desk_id reads of none add_up says secret session a b ends.stays)
    ended (Fault count) a b ends =
        none_visited (Fault count) a b (door.stayed sight desk_id reads of none add_up says secret session a b ends.0)
    ended Finished a b never = absurd never
    ended NoBuffers a b never = absurd never

    -- the door's last turns
    record HasEnded (Is : List RunTurn → Type 0) (a b : SessionAt K T) : Type 0 where
      turns : List RunTurn
      takes : Takes turns a b
      so : Is turns

    stopped : (visits : List Visit) (end : DoorEnd) (m b : DoorAt S T A) → Stops visits end m b
        → HasEnded (EndsFinished end visits) (attending m) (attending b)
    stopped visits end m b is = record {
      turns = [];
      takes = subst (λ (place : DoorAt S T A). Takes [] (attending m) (attending place)) (sym is.2) (no_turns (attending m));
      so = (refl, is.0, is.1);
    }

    abbrev Behind : Bool → DoorEnd → List Visit → SessionAt K T → SessionAt K T → Type 0
    Behind found end visits a b =
        HasEnded (AskOnce found (EndsFinished end visits) (λ others. MakeVisits secret session end visits others)) a b

    abbrev StopsOrGoes : Bool → DoorEnd → List Visit → SessionAt K T → SessionAt K T → Type 0
    StopsOrGoes finished end visits a b = HasEnded
        (λ others. MatchBool finished (EndsFinished end visits others) (MakeVisits secret session end visits others)) a b

    stops_or_goes : (finished : Bool) (visits : List Visit) (end : DoorEnd) (n b : DoorAt S T A)
        → (KeepsFrom visits end n b → Visited end visits n b)
        → MatchBool finished (Stops visits end n b) (KeepsFrom visits end n b)
        → StopsOrGoes finished end visits (attending n) (attending b)
    stops_or_goes true visits end n b on stops =
        let is = stopped visits end n b stops in record { turns = is.turns; takes = is.takes; so = is.so }
    stops_or_goes false visits end n b on goes =
        let rest = on goes in record { turns = rest.turns; takes = rest.takes; so = rest.makes }

    behind : (found : Bool) (visits : List Visit) (end : DoorEnd) (m b : DoorAt S T A) → IsThis (attending m)
        → ((n : DoorAt S T A) → IsThis (attending n) → KeepsFrom visits end n b → Visited end visits n b)
        → MatchBool found (Stops visits end m b)
        ((n : DoorAt S T A) × (finished : Bool)
        × AsksDoor (door.at_attending sight desk_id reads of) (door.asks_attending sight desk_id reads of)
        (door.moves_attending sight desk_id reads of) says most finished m n
        × MatchBool finished (Stops visits end n b) (KeepsFrom visits end n b))
        → Behind found end visits (attending m) (attending b)
    behind true visits end m b this on stops =
        let is = stopped visits end m b stops in record { turns = is.turns; takes = is.takes; so = is.so }
    behind false visits end m b this on (n, finished, asks, more) =
        let its = asks.asks_session.asked in
        let this' = on_with (its.turn ∷ []) (attending m) (attending n) this its.takes in
        let rest = stops_or_goes finished visits end n b (λ keeps. on n this' keeps) more in record {
          turns = its.turn ∷ rest.turns;
          takes = joined (attending m) (attending n) (attending b) (its.turn ∷ []) rest.turns its.takes rest.takes;
          so = (its.turn, rest.turns, finished, refl, asks_turn finished (attending m) (attending n) its, rest.so);
        }

    record HasServed (visit : Visit) (a b : SessionAt K T) : Type 0 where
      turns : List RunTurn
      takes : Takes turns a b
      makes : MakesVisit secret session visit turns

    served : (visit : Visit) (a m : DoorAt S T A) → IsThis (attending a)
        → IsVisit (door.at_attending sight desk_id reads of) (door.asks_attending sight desk_id reads of)
        (door.moves_attending sight desk_id reads of) says most visit a m → HasServed visit (attending a) (attending m)
    served Waits a m this is = record {
      turns = [];
      takes = door.stayed sight desk_id reads of none add_up says secret session a m is.0;
      makes = refl;
    }
    served (Welcomes steps how) a m this (k, accepted, serves) =
        let came = door.stayed sight desk_id reads of none add_up says secret session a k accepted.stays in
        let talk = told steps how _ serves.closing (on_with [] (attending a) (attending k) this came) serves.talks in
        let closed = door.at_same sight desk_id reads of none add_up says secret session serves.closing m serves.closes.session
        serves.closes.desk in
        let whole = joined (attending k) (attending serves.closing) (attending m) talk.turns [] talk.takes closed in record {
          turns = talk.turns;
          takes = joined (attending a) (attending k) (attending m) [] talk.turns came
              (subst (λ (l : List RunTurn). Takes l (attending k) (attending m)) (append-nil talk.turns) whole);
          makes = talk.makes;
        }

    visited : (visits : List Visit) (end : DoorEnd) (a b : DoorAt S T A) → IsThis (attending a) → KeepsFrom visits end a b
        → Visited end visits a b
    visited [] end a b this ends = ended end a b ends
    visited (visit ∷ visits) end a b this (m, is, rest) =
        let its = served visit a m this is in
        let this' = on_with its.turns (attending a) (attending m) this its.takes in
        let others = behind (finds_end visit) visits end m b this' (λ n at keeps. visited visits end n b at keeps) rest in
        record {
          turns = its.turns ++ others.turns;
          takes = joined (attending a) (attending m) (attending b) its.turns others.turns its.takes others.takes;
          makes = (its.turns, others.turns, refl, its.makes, others.so);
        }

    pub visited_to_end : (visits : List Visit) (end : DoorEnd) (a b : DoorAt S T A) → IsThis (attending a)
        → KeepsToEnd (door.at_attending sight desk_id reads of) (door.asks_attending sight desk_id reads of)
        (door.moves_attending sight desk_id reads of) says most visits end a b → Visited end visits a b
    visited_to_end visits NoBuffers a b this (no_visits, same) =
        subst (λ (vs : List Visit). Visited NoBuffers vs a b) (sym no_visits)
        (none_visited NoBuffers a b
        (subst (λ (place : DoorAt S T A). Takes [] (attending a) (attending place)) (sym same) (no_turns (attending a))))
    visited_to_end visits Closed a b this keeps = visited visits Closed a b this keeps
    visited_to_end visits Finished a b this keeps = visited visits Finished a b this keeps
    visited_to_end visits (Fault count) a b this keeps = visited visits (Fault count) a b this keeps

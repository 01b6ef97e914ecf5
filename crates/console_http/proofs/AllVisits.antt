-- What the visits of a door come to.
use Rattle.std.proofs.Common.{◌≡◌, inl, inr, ℕ, ◌+◌, Bool, true, false, List, [], ◌∷◌, ◌++◌, refl, ap, sym, ◌∙◌, subst, append_assoc, arith}
use Rattle.std.proofs.lemmas.Bool.{MatchBool-at_true, MatchBool-at_false, cases_Bool}
use Rattle.std.proofs.lemmas.List.{append-nil}
use Rattle.std.specs.Bool.{MatchBool}
use Rattle.std.specs.Prelude.{IsTrue}
use Rattle.door_source.specs.DoorLaws.{NewestIsOne}
use Rattle.door_source.specs.Doors.{Connection, DoorState, met}
use Rattle.door_source.specs.declared.Came.TheVariants.{Somebody}
use Rattle.door_source.specs.declared.Doors.{Ghosts as DoorSays}
use Rattle.rpc_envelope.specs.Turns.{Invoked}
use Rattle.console_http.proofs.Calling.{CallsBetween, calls_both, calls_none}
use Rattle.console_http.specs.Conversations.{CausesEnd, Conversation, Serves, conversation_of}
use Rattle.console_http.specs.Readings.{DoorAt}
use Rattle.console_http.specs.Sessions.{AskingAt, CallsAt, SteppingAt}
use Rattle.console_http.specs.Talks.{TalkStep}
use Rattle.console_http.specs.Visits.{Visit, Waits, Welcomes, AsksDoor, EndsDoor, GainsTalks, HadConversation, HasAccepted, IsVisit, Keeps, KeepsDoor, KeepsToEnd, RoseBy, capped, failed_by, failed_by_socket, failed_in, faults_of_end, finds_end, starved_in, starved_of_end, turns_in}
use Rattle.console_http.specs.declared.ends.ConnectionEnd.{ConnectionEnd}
use Rattle.console_http.specs.declared.ends.ConnectionEnd.TheVariants.{AtItsEnd, HungUp, RunEnded, Failed, Starved, Socket}
use Rattle.console_socket.specs.Sockets.{CausesSocketEnd}
use Rattle.console_socket.specs.declared.ends.SocketEnd.{SocketEnd}
use Rattle.console_socket.specs.declared.ends.SocketEnd.TheVariants.{Finished as SocketFinished, Closed as SocketClosed, Refused as SocketRefused, Broken as SocketBroken, Failed as SocketFailed, Starved as SocketStarved}
use Rattle.console_http.specs.declared.ends.DoorEnd.{DoorEnd}
use Rattle.console_http.specs.declared.ends.DoorEnd.TheVariants.{Closed, Finished, Fault, NoBuffers}
use Rattle.console_http.specs.declared.keeping.DoorKept.{DoorKept}

-- ---- faults

rose_none : (before now : ℕ) → now ≡ before → RoseBy 0 before now
rose_none before now is = omega (arith, is)

rose_both : (m n k : ℕ) (before middle now : ℕ) → RoseBy m before middle → RoseBy (n + k) middle now
    → RoseBy (m + n + k) before now
rose_both m n k before middle now first then = omega (arith, first, then)

rose_by_socket : (how : SocketEnd) (before now : ℕ) → CausesSocketEnd how before now → RoseBy (failed_by_socket how) before now
rose_by_socket SocketFailed before now cause = cause
rose_by_socket SocketFinished before now same = rose_none before now same
rose_by_socket SocketClosed before now same = rose_none before now same
rose_by_socket SocketRefused before now same = rose_none before now same
rose_by_socket SocketBroken before now same = rose_none before now same
rose_by_socket SocketStarved before now same = rose_none before now same

rose_by : (end : ConnectionEnd) (before now : ℕ) → CausesEnd end before now → RoseBy (failed_by end) before now
rose_by Failed before now cause = cause
rose_by AtItsEnd before now same = rose_none before now same
rose_by HungUp before now same = rose_none before now same
rose_by RunEnded before now same = rose_none before now same
rose_by Starved before now same = rose_none before now same
rose_by (Socket how) before now cause = rose_by_socket how before now cause

-- ---- connections

gains_none : (old new : DoorState) → new.connections ≡ old.connections → GainsTalks [] old new
gains_none old new same = record { gained = []; are = refl; connections = same ∙ sym (append-nil old.connections) }

gains_waiting : (visits : List Visit) (old middle new : DoorState) → middle ≡ old → GainsTalks visits middle new
    → GainsTalks (Waits ∷ visits) old new
gains_waiting visits old middle new same gains =
    let P : DoorState → Type 0 = λ s. GainsTalks visits s new in
    let here = subst P same gains in
    record { gained = here.gained; are = here.are; connections = here.connections }

-- a connection that had its conversation, in front of the others
gains_one : (steps : List TalkStep) (end : ConnectionEnd) (visits : List Visit) (connection : Connection)
    (old middle new : DoorState) → HadConversation end (conversation_of steps) connection
    → middle.connections ≡ old.connections ++ connection ∷ [] → GainsTalks visits middle new
    → GainsTalks (Welcomes steps end ∷ visits) old new
gains_one steps end visits connection old middle new had one gains = record {
  gained = connection ∷ gains.gained;
  are = (connection, gains.gained, refl, had, gains.are);
  connections = gains.connections
      ∙ (ap (λ before. before ++ gains.gained) one ∙ append_assoc old.connections (connection ∷ []) gains.gained);
}

module _ (newest_is_one : NewestIsOne) {S T A : Type 0} (at : CallsAt S T)
    (asks : AskingAt S T) (moves : SteppingAt S T) (says : DoorSays A) (most : ℕ) where
  -- the calls of these visits, the connections gained in them, and their faults
  record ComesTo (visits : List Visit) (end : DoorEnd) (a b : DoorAt S T A) : Type 0 where
    extends : CallsBetween at asks moves says a b (turns_in visits)
    told : IsTrue says.tells → GainsTalks visits (says.state a.door) (says.state b.door)
    faults : RoseBy (failed_in visits + faults_of_end end) (says.faults a.door) (says.faults b.door)
    -- the buffers were made
    buffered : end ≡ NoBuffers → ⊥

  -- ---- the end

  ends_to : (end : DoorEnd) (a b : DoorAt S T A) → EndsDoor at asks moves says most end a b → ComesTo [] end a b
  ends_to Closed a b ends = record {
    extends = calls_none at asks moves says a b ends.stays;
    told = λ told. gains_none _ _ (ap (λ (s : DoorState). s.connections) (ends.told told));
    faults = rose_none _ _ ends.faults;
    buffered = λ e. cc;
  }
  ends_to (Fault count) a b ends = record {
    extends = calls_none at asks moves says a b ends.0;
    told = λ told. gains_none _ _ (ap (λ (s : DoorState). s.connections) (ends.1.told told));
    faults = ends.1.cause;
    buffered = λ e. cc;
  }
  ends_to Finished a b never = absurd never
  ends_to NoBuffers a b never = absurd never

  stops_to : (a : DoorAt S T A) → ComesTo [] Finished a a
  stops_to a = record {
    extends = calls_none at asks moves says a a (record { session = refl; desk = refl });
    told = λ _. gains_none _ _ refl;
    faults = rose_none _ _ refl;
    buffered = λ e. cc;
  }

  -- ---- one visit

  waits_to : (visits : List Visit) (end : DoorEnd) (a m b : DoorAt S T A) → IsVisit at asks moves says most Waits a m
      → ComesTo visits end m b → ComesTo (Waits ∷ visits) end a b
  waits_to visits end a m b is then = record {
    extends = calls_both at asks moves says a m b [] (turns_in visits) (calls_none at asks moves says a m is.0) then.extends;
    told = λ told. gains_waiting visits _ _ _ (is.1.told told) (then.told told);
    faults = subst (λ n. RoseBy (failed_in visits + faults_of_end end) n (says.faults b.door)) is.1.faults then.faults;
    buffered = then.buffered;
  }

  had : (steps : List TalkStep) (end : ConnectionEnd) (a m k b : DoorAt S T A) → HasAccepted at asks moves says most Somebody a m
      → Serves at asks moves says most steps end m b → (told : IsTrue says.tells)
      → (connection : Connection) × HadConversation end (conversation_of steps) connection
      × ((says.state b.door).connections ≡ (says.state a.door).connections ++ connection ∷ [])
  had steps end a m k b accepted serves told =
      let meets = accepted.told told in
      let talk : Conversation = conversation_of steps in
      let show = serves.told told in
      let connection : Connection = record { received = talk.received; sent = talk.sent; whole = show.whole } in
      let one = newest_is_one (met show.whole) connection (met meets.0) (says.state a.door).connections (says.state m.door)
      (says.state serves.closing.door) show.becomes meets.1.connections in (
        connection,
        record { received = refl; sent = refl; rest = show.rest; front = show.front; all = show.all },
        ap (λ (s : DoorState). s.connections) (serves.closes.told told) ∙ one.1,
      )

  welcomes_to : (steps : List TalkStep) (how : ConnectionEnd) (visits : List Visit) (end : DoorEnd) (a m b : DoorAt S T A)
      → IsVisit at asks moves says most (Welcomes steps how) a m → ComesTo visits end m b → ComesTo (Welcomes steps how ∷ visits) end a b
  welcomes_to steps how visits end a m b (k, accepted, serves) then =
      let turns : List Invoked = (conversation_of steps).turns in
      let mine = calls_both at asks moves says a k m [] turns (calls_none at asks moves says a k accepted.stays) serves.extends in
      let rose = rose_by how _ _ serves.cause in
      let begun = subst (λ n. RoseBy (failed_by how) n (says.faults m.door)) accepted.faults rose in
      record {
        extends = calls_both at asks moves says a m b turns (turns_in visits) mine then.extends;
        told = λ told.
            let one = had steps how a k k m accepted serves told in
            gains_one steps how visits one.0 _ _ _ one.1 one.2 (then.told told);
        faults = rose_both (failed_by how) (failed_in visits) (faults_of_end end) _ _ _ begun then.faults;
        buffered = then.buffered;
      }

  visit_to : (visit : Visit) (visits : List Visit) (end : DoorEnd) (a m b : DoorAt S T A)
      → IsVisit at asks moves says most visit a m → ComesTo visits end m b → ComesTo (visit ∷ visits) end a b
  visit_to Waits visits end a m b is then = waits_to visits end a m b is then
  visit_to (Welcomes steps how) visits end a m b is then = welcomes_to steps how visits end a m b is then

  asks_to : (finished : Bool) (visits : List Visit) (end : DoorEnd) (m n b : DoorAt S T A)
      → AsksDoor at asks moves says most finished m n → ComesTo visits end n b → ComesTo visits end m b
  asks_to finished visits end m n b asked then = record {
    extends = calls_both at asks moves says m n b [] (turns_in visits) asked.asks_session.extends then.extends;
    told = λ told. subst (λ d. GainsTalks visits (says.state d) (says.state b.door)) asked.door (then.told told);
    faults = subst (λ d. RoseBy (failed_in visits + faults_of_end end) (says.faults d) (says.faults b.door)) asked.door then.faults;
    buffered = then.buffered;
  }

  -- ---- all visits

  abbrev Stops : List Visit → DoorEnd → DoorAt S T A → DoorAt S T A → Type 0
  Stops visits end m b = (visits ≡ []) × (end ≡ Finished) × (b ≡ m)

  abbrev GoesOnFrom : List Visit → DoorEnd → DoorAt S T A → DoorAt S T A → Type 0
  GoesOnFrom visits end m b =
      (n : DoorAt S T A) × (finished : Bool) × AsksDoor at asks moves says most finished m n
      × MatchBool finished (Stops visits end n b) (Keeps at asks moves says most visits end n b)

  stopped : (visits : List Visit) (end : DoorEnd) (m b : DoorAt S T A) → Stops visits end m b → ComesTo visits end m b
  stopped visits end m b is =
      subst (ComesTo visits end m) (sym is.2)
      (subst (λ others. ComesTo others end m m) (sym is.0) (subst (λ e. ComesTo [] e m m) (sym is.1) (stops_to m)))

  stops_or_goes : (finished : Bool) (visits : List Visit) (end : DoorEnd) (n b : DoorAt S T A)
      → MatchBool finished (Stops visits end n b) (Keeps at asks moves says most visits end n b)
      → (Keeps at asks moves says most visits end n b → ComesTo visits end n b) → ComesTo visits end n b
  stops_or_goes true visits end n b stops on = stopped visits end n b stops
  stops_or_goes false visits end n b goes on = on goes

  behind : (visit : Visit) (visits : List Visit) (end : DoorEnd) (m b : DoorAt S T A)
      → MatchBool (finds_end visit) (Stops visits end m b) (GoesOnFrom visits end m b)
      → ((n : DoorAt S T A) → Keeps at asks moves says most visits end n b → ComesTo visits end n b) → ComesTo visits end m b
  behind visit visits end m b then on = elim (cases_Bool (finds_end visit)) [
    | inl found ↦
        stopped visits end m b (MatchBool-at_true (Stops visits end m b) (GoesOnFrom visits end m b) found then)
    | inr more ↦
        let goes = MatchBool-at_false (Stops visits end m b) (GoesOnFrom visits end m b) more then in
        asks_to goes.1 visits end m goes.0 b goes.2 (stops_or_goes goes.1 visits end goes.0 b goes.3 (on goes.0))
  ]

  comes_to : (visits : List Visit) (end : DoorEnd) (a b : DoorAt S T A) → Keeps at asks moves says most visits end a b
      → ComesTo visits end a b
  comes_to [] end a b ends = ends_to end a b ends
  comes_to (visit ∷ visits) end a b (m, is, then) =
      visit_to visit visits end a m b is (behind visit visits end m b then (λ n keeps. comes_to visits end n b keeps))

  kept_to_end : (visits : List Visit) (end : DoorEnd) (a b : DoorAt S T A) → Keeps at asks moves says most visits end a b
      → (end ≡ NoBuffers → ⊥) → KeepsToEnd at asks moves says most visits end a b × (starved_of_end end ≡ 0)
  kept_to_end visits Closed a b keeps buffered = (keeps, refl)
  kept_to_end visits Finished a b keeps buffered = (keeps, refl)
  kept_to_end visits (Fault count) a b keeps buffered = (keeps, refl)
  kept_to_end visits NoBuffers a b keeps buffered = absurd (buffered refl)

  pub keeps_door : (visits : List Visit) (kept : DoorKept) (a b : DoorAt S T A) → Keeps at asks moves says most visits kept.end a b
      → kept.starved ≡ capped (starved_in visits) → KeepsDoor at asks moves says most visits kept a b
  keeps_door visits kept a b keeps counted =
      let comes = comes_to visits kept.end a b keeps in
      let ends = kept_to_end visits kept.end a b keeps comes.buffered in
      let none : starved_of_end kept.end ≡ 0 = ends.1 in
      record {
        keeps = ends.0;
        extends = comes.extends;
        told = comes.told;
        faults = comes.faults;
        starved = omega (arith, counted, none);
      }

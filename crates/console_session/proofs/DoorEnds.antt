-- How a door came to its end, by the steps of its visits.
use Rattle.std.proofs.Common.{◌≡◌, ◌⊎◌, inl, inr, ℕ, Bool, true, false, List, [], ◌∷◌, ◌++◌, sym, subst}
use Rattle.std.specs.Bool.{MatchBool}
use Rattle.door_source.specs.declared.Doors.{Ghosts as DoorSays}
use Rattle.rpc_envelope.specs.Turns.{Invoked}
use Rattle.console_http.specs.Conversations.{conversation_of}
use Rattle.console_http.specs.Readings.{ConsoleAt, DoorAt, console_at, fresh_reading}
use Rattle.console_http.specs.Sessions.{AskingAt, CallsAt, SteppingAt}
use Rattle.console_http.specs.Talks.{TalkStep, Answers, AsksRun, Begins, Hears, Upgrades, StaysAtDesk, Talks}
use Rattle.console_http.specs.Visits.{Visit, Waits, Welcomes, AsksDoor, EndsDoor, IsVisit, Keeps}
use Rattle.console_http.specs.declared.ends.ConnectionEnd.{ConnectionEnd}
use Rattle.console_http.specs.declared.ends.ConnectionEnd.TheVariants.{AtItsEnd, HungUp, RunEnded, Failed, Starved, Socket}
use Rattle.console_socket.specs.declared.ends.SocketEnd.{SocketEnd}
use Rattle.console_http.specs.declared.ends.DoorEnd.{DoorEnd}
use Rattle.console_http.specs.declared.ends.DoorEnd.TheVariants.{Finished}

hung_up_is_no_end : RunEnded ≡ HungUp → ⊥
hung_up_is_no_end is = subst (λ (end : ConnectionEnd). IsEnd end) is tt
  where
    IsEnd : ConnectionEnd → Type 0
    IsEnd RunEnded = Unit {0}
    IsEnd other = ⊥

socket_is_no_end : (how : SocketEnd) → RunEnded ≡ Socket how → ⊥
socket_is_no_end how is = cc

-- since it was this session at this desk
module _ {S T A : Type 0} (at : CallsAt S T) (asks : AskingAt S T) (moves : SteppingAt S T) (says : DoorSays A)
    (first : S) (began : T) where
  -- it was asked whether the run is finished, behind some calls, and it was
  pub record HasFoundEnd (session' : S) (desk' : T) : Type 0 where
    pub session : S
    pub desk : T
    pub earlier : List Invoked
    pub was : at session desk first began earlier
    pub asked : asks session desk true session' desk'

  stayed : (earlier : List Invoked) (a b : DoorAt S T A) → StaysAtDesk at asks moves says a b → at a.session a.desk first began earlier
      → at b.session b.desk first began earlier
  stayed earlier a b stays was =
      subst (λ (s : S). at s b.desk first began earlier) (sym stays.session)
      (subst (λ (d : T). at a.session d first began earlier) (sym stays.desk) was)

  -- ---- a connection

  -- it went on behind an answer
  answered_in : (steps : List TalkStep) (last : Bool) (m : ConsoleAt S T A) (b : DoorAt S T A)
      → (Talks at asks moves says steps RunEnded m b → HasFoundEnd b.session b.desk)
      → MatchBool last ((steps ≡ []) × (RunEnded ≡ HungUp) × (b ≡ m.place)) (Talks at asks moves says steps RunEnded m b)
      → HasFoundEnd b.session b.desk
  answered_in steps true m b on ends = absurd (hung_up_is_no_end ends.1)
  answered_in steps false m b on talks = on talks

  found_in : (steps : List TalkStep) (a : ConsoleAt S T A) (b : DoorAt S T A) (earlier : List Invoked)
      → at a.place.session a.place.desk first began earlier → Talks at asks moves says steps RunEnded a b → HasFoundEnd b.session b.desk
  found_in [] a b earlier was ends = absurd ends
  found_in (Hears piece ∷ steps) a b earlier was (m, hears, talks) =
      found_in steps m b earlier (stayed earlier a.place m.place hears.stays was) talks
  found_in (Answers request turns ∷ steps) a b earlier was (m, answers, talks) =
      answered_in steps _ m b (found_in steps m b (earlier ++ turns) (answers.responds.extends first began earlier was)) talks
  found_in (AsksRun true ∷ steps) a b earlier was (m, asking, ends) =
      subst (λ (place : DoorAt S T A). HasFoundEnd place.session place.desk) (sym ends.2) (record {
        session = a.place.session;
        desk = a.place.desk;
        earlier = earlier;
        was = was;
        asked = asking.asks_session.asked;
      })
  found_in (AsksRun false ∷ steps) a b earlier was (m, asking, talks) =
      found_in steps m b (earlier ++ []) (asking.asks_session.extends first began earlier was) talks
  found_in (Begins request turns part ∷ steps) a b earlier was (begins, none) = absurd begins.begins.cause
  found_in (Upgrades socket ∷ steps) a b earlier was (upgrades, none) = absurd (socket_is_no_end upgrades.how upgrades.end_is)

  module _ (most : ℕ) where
    found_by : (steps : List TalkStep) (a m : DoorAt S T A) (earlier : List Invoked) → at a.session a.desk first began earlier
        → IsVisit at asks moves says most (Welcomes steps RunEnded) a m → HasFoundEnd m.session m.desk
    found_by steps a m earlier was (n, accepted, serves) =
        let found = found_in steps (console_at n.session n.desk n.door (fresh_reading most)) serves.closing earlier
        (stayed earlier a n accepted.stays was) serves.talks in
        subst (λ (s : S). HasFoundEnd s m.desk) (sym serves.closes.session)
        (subst (λ (d : T). HasFoundEnd serves.closing.session d) (sym serves.closes.desk) found)

    -- what was carried out up to the end of a visit
    visited : (visit : Visit) (a m : DoorAt S T A) (earlier : List Invoked) → at a.session a.desk first began earlier
        → IsVisit at asks moves says most visit a m → (all : List Invoked) × at m.session m.desk first began all
    visited Waits a m earlier was (stays, silent) = (earlier, stayed earlier a m stays was)
    visited (Welcomes steps end) a m earlier was (n, accepted, serves) =
        (earlier ++ (conversation_of steps).turns, serves.extends first began earlier (stayed earlier a n accepted.stays was))

    -- ---- a door

    -- what follows behind a visit
    abbrev AsksBehindVisit : List Visit → DoorEnd → (m b : DoorAt S T A) → Type 0
    AsksBehindVisit visits end m b =
        (n : DoorAt S T A) × (finished : Bool) × AsksDoor at asks moves says most finished m n
        × MatchBool finished ((visits ≡ []) × (end ≡ Finished) × (b ≡ n)) (Keeps at asks moves says most visits end n b)

    -- .. with the others, if the run goes on
    abbrev FindsOn : List Visit → DoorAt S T A → Type 0
    FindsOn visits b =
        (n : DoorAt S T A) (earlier : List Invoked) → at n.session n.desk first began earlier
        → Keeps at asks moves says most visits Finished n b → HasFoundEnd b.session b.desk

    asked_last : (visits : List Visit) (m b : DoorAt S T A) (earlier : List Invoked) → at m.session m.desk first began earlier
        → FindsOn visits b → AsksBehindVisit visits Finished m b → HasFoundEnd b.session b.desk
    asked_last visits m b earlier was on (n, true, asks_door, ends) =
        subst (λ (place : DoorAt S T A). HasFoundEnd place.session place.desk) (sym ends.2) (record {
          session = m.session;
          desk = m.desk;
          earlier = earlier;
          was = was;
          asked = asks_door.asks_session.asked;
        })
    asked_last visits m b earlier was on (n, false, asks_door, keeps) =
        on n (earlier ++ []) (asks_door.asks_session.extends first began earlier was) keeps

    -- behind a visit that went on
    asked_on : (visit : Visit) (visits : List Visit) (a m b : DoorAt S T A) (earlier : List Invoked)
        → at a.session a.desk first began earlier → IsVisit at asks moves says most visit a m → FindsOn visits b
        → AsksBehindVisit visits Finished m b → HasFoundEnd b.session b.desk
    asked_on visit visits a m b earlier was is on asked =
        let then = visited visit a m earlier was is in asked_last visits m b then.0 then.1 on asked

    -- a door that ends since the run is finished found that in its last asking
    pub found_last : (visits : List Visit) (a b : DoorAt S T A) (earlier : List Invoked) → at a.session a.desk first began earlier
        → Keeps at asks moves says most visits Finished a b → HasFoundEnd b.session b.desk
    found_last [] a b earlier was ends = absurd ends
    found_last (Waits ∷ visits) a b earlier was (m, is, asked) =
        asked_on Waits visits a m b earlier was is (λ n. found_last visits n b) asked
    found_last (Welcomes steps RunEnded ∷ visits) a b earlier was (m, is, ends) =
        subst (λ (place : DoorAt S T A). HasFoundEnd place.session place.desk) (sym ends.2)
        (found_by steps a m earlier was is)
    found_last (Welcomes steps AtItsEnd ∷ visits) a b earlier was (m, is, asked) =
        asked_on (Welcomes steps AtItsEnd) visits a m b earlier was is (λ n. found_last visits n b) asked
    found_last (Welcomes steps HungUp ∷ visits) a b earlier was (m, is, asked) =
        asked_on (Welcomes steps HungUp) visits a m b earlier was is (λ n. found_last visits n b) asked
    found_last (Welcomes steps Failed ∷ visits) a b earlier was (m, is, asked) =
        asked_on (Welcomes steps Failed) visits a m b earlier was is (λ n. found_last visits n b) asked
    found_last (Welcomes steps Starved ∷ visits) a b earlier was (m, is, asked) =
        asked_on (Welcomes steps Starved) visits a m b earlier was is (λ n. found_last visits n b) asked
    found_last (Welcomes steps (Socket how) ∷ visits) a b earlier was (m, is, asked) =
        asked_on (Welcomes steps (Socket how)) visits a m b earlier was is (λ n. found_last visits n b) asked

    -- it was found that the run is finished, or no client could be let in
    abbrev pub ComesToEnd : DoorEnd → DoorAt S T A → Type 0
    ComesToEnd end b = (end ≡ Finished) ⊎ ((m : DoorAt S T A) × EndsDoor at asks moves says most end m b)

    ended_behind : (visits : List Visit) (end : DoorEnd) (m b : DoorAt S T A)
        → ((n : DoorAt S T A) → Keeps at asks moves says most visits end n b → ComesToEnd end b)
        → AsksBehindVisit visits end m b → ComesToEnd end b
    ended_behind visits end m b on (n, true, asks_door, ends) = inl ends.1
    ended_behind visits end m b on (n, false, asks_door, keeps) = on n keeps

    ended_from : (visits : List Visit) (end : DoorEnd) (found : Bool) (m b : DoorAt S T A)
        → ((n : DoorAt S T A) → Keeps at asks moves says most visits end n b → ComesToEnd end b)
        → MatchBool found ((visits ≡ []) × (end ≡ Finished) × (b ≡ m)) (AsksBehindVisit visits end m b)
        → ComesToEnd end b
    ended_from visits end true m b on ends = inl ends.1
    ended_from visits end false m b on asked = ended_behind visits end m b on asked

    pub ended_by : (visits : List Visit) (end : DoorEnd) (a b : DoorAt S T A) → Keeps at asks moves says most visits end a b
        → ComesToEnd end b
    ended_by [] end a b ends = inr (a, ends)
    ended_by (visit ∷ visits) end a b (m, is, rest) =
        ended_from visits end _ m b (λ n. ended_by visits end n b) rest

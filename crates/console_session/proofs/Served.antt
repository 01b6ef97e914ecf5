-- What a session did for its door, by the keeping of the door.
use Rattle.std.proofs.Common.{◌≡◌, inl, inr, ℕ, Bool, true, false, List, [], ◌∷◌, ◌++◌, refl, sym, ap, ◌∙◌, subst, append-nil, append_assoc}
use Rattle.std.specs.Prelude.{IsTrue}
use Rattle.std.specs.Bool.{MatchBool}
use Rattle.std.proofs.lemmas.Bool.{false≢true}
use Rattle.std.proofs.lemmas.List.{append_cancel_left}
use Rattle.console_http.specs.Readings.{DoorAt, door_at}
use Rattle.console_http.specs.Sessions.{AskingAt, CallsAt, SteppingAt}
use Rattle.console_http.specs.Visits.{Visit, Waits, Welcomes, AsksDoor, Keeps, KeepsDoor, KeepsToEnd, ends_run}
use Rattle.console_http.specs.declared.ends.DoorEnd.{DoorEnd}
use Rattle.console_http.specs.declared.ends.DoorEnd.TheVariants.{Closed, Finished, Fault, NoBuffers}
use Rattle.console_http.specs.declared.keeping.DoorKept.{DoorKept}
use Rattle.door_source.specs.Doors.{DoorState}
use Rattle.door_source.specs.declared.Doors.{Ghosts as DoorSays}
use Rattle.engine_core.specs.Beginnings.{ties_run}
use Rattle.engine_turns.specs.Told.{RunTurn}
use Rattle.engine_turns.specs.declared.operations.Said.{Said}
use Rattle.engine_turns.specs.declared.operations.Said.TheVariants as said
use Rattle.turn_desk.specs.Laws.{NoTurnsChangeNothing, TurnsAddUp}
use Rattle.turn_desk.specs.Sights.{DeskId}
use Rattle.console_session.proofs.Carrying.{carried_none}
use Rattle.console_session.proofs.DoorEnds.{ComesToEnd, ended_by, found_last}
use Rattle.console_session.proofs.DoorAskings.{visited_to_end}
use Rattle.console_session.proofs.DoorTurns.{asks_attending, at_attending, kept_to_end, moves_attending}
use Rattle.console_session.specs.CallTurns.{FindsFinish, SessionSight, is_finish}
use Rattle.console_session.specs.DoorSessions.{AreServed, EndsLast, IsCauseOf, MakeSockets, MakeVisits}
use Rattle.console_session.specs.Sessions.{AsksForFinish, Attends, HasCarriedOut, SessionAt, TakesTurns, secret_of, session_at}
use Rattle.console_session.specs.declared.session.ConsoleSession.{ConsoleSession}

-- ---- answers and ends

finish_only : (s : Said) → is_finish s ≡ true → s ≡ said.Finished
finish_only said.Finished is = refl
finish_only (said.Replied place reply starved) is = absurd (false≢true is)
finish_only (said.Grant grant) is = absurd (false≢true is)
finish_only (said.Kept counted repeated) is = absurd (false≢true is)
finish_only (said.Allow bytes) is = absurd (false≢true is)
finish_only said.Void is = absurd (false≢true is)
finish_only (said.Hold ms) is = absurd (false≢true is)
finish_only said.Idle is = absurd (false≢true is)
finish_only said.Done is = absurd (false≢true is)
finish_only (said.JournalFull count) is = absurd (false≢true is)
finish_only (said.Notices list upto) is = absurd (false≢true is)
finish_only said.NoMemory is = absurd (false≢true is)

abbrev is_finished_end : DoorEnd → Bool
is_finished_end Finished = true
is_finished_end other = false

-- ---- visits

module _ {S T A : Type 0} (at : CallsAt S T) (asks : AskingAt S T) (moves : SteppingAt S T) (says : DoorSays A) (most : ℕ) where
  abbrev ServedIn : List Visit → Type 0
  ServedIn visits = AreServed says.tells most visits

  served_behind : (visits : List Visit) (end : DoorEnd) (finished : Bool) (n b : DoorAt S T A)
      → (Keeps at asks moves says most visits end n b → ServedIn visits)
      → MatchBool finished ((visits ≡ []) × (end ≡ Finished) × (b ≡ n)) (Keeps at asks moves says most visits end n b)
      → ServedIn visits
  served_behind visits end true n b on ends = subst ServedIn (sym ends.0) tt
  served_behind visits end false n b on keeps = on keeps

  -- a visit that found the run finished is the last one
  served_from : (visits : List Visit) (end : DoorEnd) (found : Bool) (m b : DoorAt S T A)
      → ((n : DoorAt S T A) → Keeps at asks moves says most visits end n b → ServedIn visits)
      → MatchBool found ((visits ≡ []) × (end ≡ Finished) × (b ≡ m))
      ((n : DoorAt S T A) × (finished : Bool) × AsksDoor at asks moves says most finished m n
      × MatchBool finished ((visits ≡ []) × (end ≡ Finished) × (b ≡ n)) (Keeps at asks moves says most visits end n b))
      → ServedIn visits
  served_from visits end true m b on ends = subst ServedIn (sym ends.0) tt
  served_from visits end false m b on (n, finished, asked, more) = served_behind visits end finished n b (on n) more

  served_by : (visits : List Visit) (end : DoorEnd) (a b : DoorAt S T A) → Keeps at asks moves says most visits end a b
      → ServedIn visits
  served_by [] end a b ends = tt
  served_by (Waits ∷ visits) end a b (m, is, rest) =
      served_from visits end false m b (λ n. served_by visits end n b) rest
  served_by (Welcomes steps how ∷ visits) end a b (m, is, rest) =
      (is.2.served, served_from visits end (ends_run how) m b (λ n. served_by visits end n b) rest)

  pub all_served : (visits : List Visit) (end : DoorEnd) (a b : DoorAt S T A)
      → KeepsToEnd at asks moves says most visits end a b → ServedIn visits
  all_served visits NoBuffers a b (none, same) = subst ServedIn (sym none) tt
  all_served visits Closed a b keeps = served_by visits Closed a b keeps
  all_served visits Finished a b keeps = served_by visits Finished a b keeps
  all_served visits (Fault count) a b keeps = served_by visits (Fault count) a b keeps

  -- ---- the last one

  last_behind : (visits : List Visit) (end : DoorEnd) (finished : Bool) (n b : DoorAt S T A)
      → (Keeps at asks moves says most visits end n b → EndsLast visits end)
      → MatchBool finished ((visits ≡ []) × (end ≡ Finished) × (b ≡ n)) (Keeps at asks moves says most visits end n b)
      → EndsLast visits end
  last_behind visits end true n b on ends = subst (λ (vs : List Visit). EndsLast vs end) (sym ends.0) tt
  last_behind visits end false n b on keeps = on keeps

  last_from : (visits : List Visit) (end : DoorEnd) (found : Bool) (m b : DoorAt S T A)
      → ((n : DoorAt S T A) → Keeps at asks moves says most visits end n b → EndsLast visits end)
      → MatchBool found ((visits ≡ []) × (end ≡ Finished) × (b ≡ m))
      ((n : DoorAt S T A) × (finished : Bool) × AsksDoor at asks moves says most finished m n
      × MatchBool finished ((visits ≡ []) × (end ≡ Finished) × (b ≡ n)) (Keeps at asks moves says most visits end n b))
      → MatchBool found ((visits ≡ []) × (end ≡ Finished)) (EndsLast visits end)
  last_from visits end true m b on ends = (ends.0, ends.1)
  last_from visits end false m b on (n, finished, asked, more) = last_behind visits end finished n b (on n) more

  last_by : (visits : List Visit) (end : DoorEnd) (a b : DoorAt S T A) → Keeps at asks moves says most visits end a b
      → EndsLast visits end
  last_by [] end a b ends = tt
  last_by (Waits ∷ visits) end a b (m, is, rest) = last_from visits end false m b (λ n. last_by visits end n b) rest
  last_by (Welcomes steps how ∷ visits) end a b (m, is, rest) =
      last_from visits end (ends_run how) m b (λ n. last_by visits end n b) rest

  pub ends_last : (visits : List Visit) (end : DoorEnd) (a b : DoorAt S T A)
      → KeepsToEnd at asks moves says most visits end a b → EndsLast visits end
  ends_last visits NoBuffers a b (none, same) = subst (λ (vs : List Visit). EndsLast vs NoBuffers) (sym none) tt
  ends_last visits Closed a b keeps = last_by visits Closed a b keeps
  ends_last visits Finished a b keeps = last_by visits Finished a b keeps
  ends_last visits (Fault count) a b keeps = last_by visits (Fault count) a b keeps

-- ---- a session

module _ {D T K : Type 0} (sight : T → SessionSight D) (desk_id : T → DeskId) (reads : K → ℕ → K → Type 0) where
  -- turns are those that the desk shows
  same_turns : (a b : SessionAt K T) (turns others : List RunTurn) → TakesTurns sight desk_id reads turns a b
      → (sight b.desk).own ≡ (sight a.desk).own ++ others → turns ≡ others
  same_turns a b turns others takes own =
      append_cancel_left (sight a.desk).own turns others (sym takes.went.own ∙ own)

  -- an asking behind some turns is the last of all
  asked_last : (a m b : SessionAt K T) (turns front : List RunTurn) → TakesTurns sight desk_id reads turns a b
      → TakesTurns sight desk_id reads front a m → AsksForFinish sight desk_id reads m true b → FindsFinish turns
  asked_last a m b turns front takes before asks = record {
    front = front;
    asking = asks.turn;
    are = same_turns a b turns (front ++ asks.turn ∷ []) takes
        (asks.takes.went.own ∙ (ap (λ (l : List RunTurn). l ++ asks.turn ∷ []) before.went.own
        ∙ append_assoc (sight a.desk).own front (asks.turn ∷ [])));
    op = asks.op;
    said = finish_only asks.turn.answer.said (sym asks.answer);
  }

  module _ {S A : Type 0} (of : S → ConsoleSession K) (says : DoorSays A) (most : ℕ) where
    abbrev at : CallsAt S T
    at = at_attending sight desk_id reads of

    abbrev asks : AskingAt S T
    asks = asks_attending sight desk_id reads of

    abbrev moves : SteppingAt S T
    moves = moves_attending sight desk_id reads of

    abbrev attending : DoorAt S T A → SessionAt K T
    attending place = session_at (of place.session) place.desk

    module _ (a b : DoorAt S T A) (turns : List RunTurn)
        (takes : TakesTurns sight desk_id reads turns (attending a) (attending b)) (visits : List Visit)
        (begun : HasCarriedOut sight desk_id reads (attending a) [] (attending a)) where
      found : Keeps at asks moves says most visits Finished a b → FindsFinish turns
      found keeps =
          let last = found_last at asks moves says a.session a.desk most visits a b [] begun keeps in
          asked_last (attending a) (session_at (of last.session) last.desk) (attending b) turns last.was.turns takes
          last.was.takes last.asked

      closed : ComesToEnd at asks moves says a.session a.desk most Closed b → IsTrue says.tells
          → (says.state b.door).is_closed ≡ true
      closed (inl finished) tells = absurd (false≢true (ap is_finished_end finished))
      closed (inr (m, accepted)) tells = ap (λ (s : DoorState). s.is_closed) (accepted.told tells)

      faulted : (count : ℕ) → ComesToEnd at asks moves says a.session a.desk most (Fault count) b → count ≡ says.faults b.door
      faulted count (inl finished) = absurd (false≢true (ap is_finished_end finished))
      faulted count (inr (m, ends)) = ends.2

      none_without : b ≡ a → turns ≡ []
      none_without same =
          same_turns (attending a) (attending b) turns [] takes
          (ap (λ (place : DoorAt S T A). (sight place.desk).own) same ∙ sym (append-nil (sight a.desk).own))

      pub cause_of : (end : DoorEnd) → KeepsToEnd at asks moves says most visits end a b
          → IsCauseOf says end turns visits b.door
      cause_of Closed keeps = closed (ended_by at asks moves says a.session a.desk most visits Closed a b keeps)
      cause_of Finished keeps = found keeps
      cause_of (Fault count) keeps =
          faulted count (ended_by at asks moves says a.session a.desk most visits (Fault count) a b keeps)
      cause_of NoBuffers (none, same) = (none_without same, none)

    -- the keeping of a door
    pub attended : NoTurnsChangeNothing (ties_run {D = D}) → TurnsAddUp (ties_run {D = D}) → (a b : DoorAt S T A)
        → (kept : DoorKept) (visits : List Visit) → KeepsDoor at asks moves says most visits kept a b
        → Attends sight desk_id reads says most kept (door_at (of a.session) a.desk a.door)
        (door_at (of b.session) b.desk b.door)
    attended none add_up a b kept visits keeps =
        let begun = carried_none sight desk_id reads none (attending a) in
        let all = keeps.extends a.session a.desk [] begun in
        let secret = secret_of (of a.session) in
        let number = (of a.session).number in
        let made = kept_to_end sight desk_id reads of none add_up says secret number most visits kept.end a b
        (record { number = refl; secret_is = refl }) keeps.keeps in
        let found = visited_to_end sight desk_id reads of none add_up says secret number most visits kept.end a b
        (record { number = refl; secret_is = refl }) keeps.keeps in
        record {
          turns = all.turns;
          takes = all.takes;
          visits = visits;
          served = all_served at asks moves says most visits kept.end a b keeps.keeps;
          last = ends_last at asks moves says most visits kept.end a b keeps.keeps;
          came = all.came;
          sockets = subst (MakeSockets secret number visits)
              (same_turns (attending a) (attending b) made.0 all.turns made.1 all.takes.went.own) made.2;
          found = subst (MakeVisits secret number kept.end visits)
              (same_turns (attending a) (attending b) found.turns all.turns found.takes all.takes.went.own) found.makes;
          told = keeps.told;
          faults = keeps.faults;
          cause = cause_of a b all.turns all.takes visits begun kept.end keeps.keeps;
          starved = keeps.starved;
        }

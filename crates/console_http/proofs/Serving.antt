-- A connection that was served and closed.
use Rattle.std.proofs.Common.{◌≡◌, ℕ, List, refl, sym, subst}
use Rattle.std.specs.Prelude.{IsTrue}
use Rattle.door_source.specs.DoorLaws.{NewestIsOne}
use Rattle.door_source.specs.Doors.{met}
use Rattle.door_source.specs.declared.Doors.{Ghosts as DoorSays}
use Rattle.request_stream.specs.StreamLaws.{RequestStays, RequestIsWithin}
use Rattle.rpc_envelope.specs.Turns.{Invoked, Extends}
use Rattle.console_http.proofs.Calling.{CallsBetween, calls_of_talk, causes_of_talk}
use Rattle.console_http.proofs.Outcomes.{outcome}
use Rattle.console_http.proofs.Showing.{IsNewest, shows}
use Rattle.console_http.specs.Conversations.{ClosesConnection, CausesEnd, HadTalk, HasMet, Serves, conversation_of}
use Rattle.console_http.specs.Readings.{Reading, DoorAt, console_at, fresh_reading}
use Rattle.console_http.specs.Sessions.{AskingAt, CallsAt, SteppingAt}
use Rattle.console_http.specs.Talks.{TalkStep, Talks}
use Rattle.console_http.specs.Upgrading.{NoUpgradeStays}
use Rattle.console_http.specs.declared.ends.ConnectionEnd.{ConnectionEnd}

module _ (stays : RequestStays) (within : RequestIsWithin) (plain_stays : NoUpgradeStays) (newest_is_one : NewestIsOne) {S T A : Type 0}
    (at : CallsAt S T) (asks : AskingAt S T) (moves : SteppingAt S T) (says : DoorSays A) where
  had_talk : (steps : List TalkStep) (end : ConnectionEnd) (most : ℕ) (a closing : DoorAt S T A)
      → (IsTrue says.tells → HasMet (says.state a.door))
      → Talks at asks moves says steps end (console_at a.session a.desk a.door (fresh_reading most)) closing → IsTrue says.tells
      → HadTalk end (conversation_of steps) (says.state a.door) (says.state closing.door)
  had_talk steps end most a closing met_one talks told =
      let one = met_one told in
      let newest : IsNewest (met one.whole) (says.state a.door) =
      record { earlier = one.earlier; stands = one.connections; rest = one.whole; front = refl } in
      let grows = shows newest_is_one at asks moves says told steps end _ closing (met one.whole) newest talks in
      record { whole = one.whole; becomes = grows.becomes; rest = grows.rest; front = grows.front; all = grows.all }

  closed_calls : (steps : List TalkStep) (a closing b : DoorAt S T A) → ClosesConnection at asks moves says closing b
      → CallsBetween at asks moves says a closing (conversation_of steps).turns → CallsBetween at asks moves says a b (conversation_of steps).turns
  closed_calls steps a closing b closes calls =
      let turns : List Invoked = (conversation_of steps).turns in
      subst (λ s. Extends (at a.session a.desk) (at s b.desk) turns) (sym closes.session)
      (subst (λ d. Extends (at a.session a.desk) (at closing.session d) turns) (sym closes.desk) calls)

  pub serves : (steps : List TalkStep) (end : ConnectionEnd) (most : ℕ) (reading : Reading) (a closing b : DoorAt S T A)
      → (IsTrue says.tells → HasMet (says.state a.door)) → reading ≡ fresh_reading most
      → Talks at asks moves says steps end (console_at a.session a.desk a.door reading) closing
      → (closes : ClosesConnection at asks moves says closing b) → Serves at asks moves says most steps end a b
  serves steps end most reading a closing b met_one fresh talks closes =
      let begun : Talks at asks moves says steps end (console_at a.session a.desk a.door (fresh_reading most)) closing =
      subst (λ r. Talks at asks moves says steps end (console_at a.session a.desk a.door r) closing) fresh talks in
      record {
        closing = closing;
        talks = begun;
        closes = closes;
        served = outcome stays within plain_stays at asks moves says steps end _ closing begun;
        extends = closed_calls steps a closing b closes (calls_of_talk at asks moves says steps end _ closing begun);
        told = had_talk steps end most a closing met_one begun;
        cause = subst (λ n. CausesEnd end (says.faults a.door) n) (sym closes.faults)
            (causes_of_talk at asks moves says steps end _ closing begun);
      }

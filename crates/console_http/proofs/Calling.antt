-- The calls of a conversation, and the faults.
use Rattle.std.proofs.Common.{◌≡◌, ℕ, Bool, true, false, List, [], ◌∷◌, ◌++◌, refl, sym, subst, append_assoc}
use Rattle.std.proofs.lemmas.List.{append-nil}
use Rattle.std.specs.Bool.{MatchBool}
use Rattle.door_source.specs.declared.Doors.{Ghosts as DoorSays}
use Rattle.request_stream.specs.Requests.{is_last}
use Rattle.rpc_envelope.specs.Turns.{Invoked, Extends, Since}
use Rattle.console_http.proofs.Steps.{extends_none}
use Rattle.console_http.specs.Answering.{CausesBreak}
use Rattle.console_http.specs.Conversations.{CausesEnd, conversation_of, with_step}
use Rattle.console_http.specs.Readings.{DoorAt, ConsoleAt}
use Rattle.console_http.specs.Sessions.{AskingAt, CallsAt, SteppingAt}
use Rattle.console_http.specs.Talks.{TalkStep, Hears, Answers, AsksRun, Begins, Upgrades, EndsHere, StaysAtDesk, Talks}
use Rattle.console_http.specs.declared.ends.ConnectionEnd.{ConnectionEnd}
use Rattle.console_http.specs.declared.ends.ConnectionEnd.TheVariants.{AtItsEnd, HungUp, RunEnded, Failed, Starved, Socket}
use Rattle.console_socket.specs.Sockets.{turns_of_socket}

pub extends_both : {S T : Type 0} (before middle after : Since S T) (first then : List Invoked)
    → Extends before middle first → Extends middle after then → Extends before after (first ++ then)
extends_both before middle after first then one other caller desk earlier stood =
    subst (after caller desk) (append_assoc earlier first then)
    (other caller desk (earlier ++ first) (one caller desk earlier stood))

module _ {S T A : Type 0} (at : CallsAt S T) (asks : AskingAt S T) (moves : SteppingAt S T) (says : DoorSays A) where
  -- these calls lead from the one to the other
  abbrev pub CallsBetween : DoorAt S T A → DoorAt S T A → List Invoked → Type 0
  CallsBetween a b turns = Extends (at a.session a.desk) (at b.session b.desk) turns

  pub calls_none : (a b : DoorAt S T A) → StaysAtDesk at asks moves says a b → CallsBetween a b []
  calls_none a b stays =
      subst (λ s. Extends (at a.session a.desk) (at s b.desk) []) (sym stays.session)
      (subst (λ d. Extends (at a.session a.desk) (at a.session d) []) (sym stays.desk) (extends_none (at a.session a.desk)))

  quiet_calls : (end : ConnectionEnd) (a : ConsoleAt S T A) (b : DoorAt S T A) → EndsHere at asks moves says end a b → CallsBetween a.place b []
  quiet_calls AtItsEnd a b here = calls_none a.place b here.1
  quiet_calls Failed a b here = calls_none a.place b here.1
  quiet_calls Starved a b here = calls_none a.place b here.0
  quiet_calls HungUp a b here = absurd here
  quiet_calls RunEnded a b here = absurd here
  quiet_calls (Socket how) a b here = absurd here

  pub calls_both : (a m b : DoorAt S T A) (first then : List Invoked) → CallsBetween a m first → CallsBetween m b then → CallsBetween a b (first ++ then)
  calls_both a m b first then one other =
      extends_both (at a.session a.desk) (at m.session m.desk) (at b.session b.desk) first then one other

  abbrev LastOf : List TalkStep → ConnectionEnd → ConnectionEnd → ConsoleAt S T A → DoorAt S T A → Type 0
  LastOf steps end how m b = (steps ≡ []) × (end ≡ how) × (b ≡ m.place)

  last_calls : (steps : List TalkStep) (end how : ConnectionEnd) (m : ConsoleAt S T A) (b : DoorAt S T A)
      → LastOf steps end how m b → CallsBetween m.place b (conversation_of steps).turns
  last_calls steps end how m b is =
      subst (λ d. CallsBetween m.place d (conversation_of steps).turns) (sym is.2)
      (subst (λ others. CallsBetween m.place m.place (conversation_of others).turns) (sym is.0)
      (extends_none (at m.place.session m.place.desk)))

  ends_or_goes : (last : Bool) (steps : List TalkStep) (end how : ConnectionEnd) (m : ConsoleAt S T A) (b : DoorAt S T A)
      → MatchBool last (LastOf steps end how m b) (Talks at asks moves says steps end m b)
      → (Talks at asks moves says steps end m b → CallsBetween m.place b (conversation_of steps).turns)
      → CallsBetween m.place b (conversation_of steps).turns
  ends_or_goes true steps end how m b is on = last_calls steps end how m b is
  ends_or_goes false steps end how m b goes on = on goes

  -- the calls were carried out, as the conversation says
  pub calls_of_talk : (steps : List TalkStep) (end : ConnectionEnd) (a : ConsoleAt S T A) (b : DoorAt S T A)
      → Talks at asks moves says steps end a b → CallsBetween a.place b (conversation_of steps).turns
  calls_of_talk [] end a b here = quiet_calls end a b here
  calls_of_talk (Hears piece ∷ steps) end a b (m, is, then) =
      calls_both a.place m.place b [] _ (calls_none a.place m.place is.stays) (calls_of_talk steps end m b then)
  calls_of_talk (Answers request turns ∷ steps) end a b (m, is, then) =
      calls_both a.place m.place b turns _ is.responds.extends
      (ends_or_goes (is_last request) steps end HungUp m b then (λ more. calls_of_talk steps end m b more))
  calls_of_talk (AsksRun finished ∷ steps) end a b (m, is, then) =
      calls_both a.place m.place b [] _ is.asks_session.extends
      (ends_or_goes finished steps end RunEnded m b then (λ more. calls_of_talk steps end m b more))
  calls_of_talk (Begins request turns part ∷ steps) end a b (is, none) =
      subst (λ others. CallsBetween a.place b (with_step (Begins request turns part) (conversation_of others)).turns) (sym none)
      (subst (CallsBetween a.place b) (sym (append-nil turns)) is.begins.extends)
  calls_of_talk (Upgrades socket ∷ steps) end a b (is, none) =
      subst (λ others. CallsBetween a.place b (with_step (Upgrades socket) (conversation_of others)).turns) (sym none)
      (subst (CallsBetween a.place b) (sym (append-nil (turns_of_socket socket))) is.keeps.extends)

  -- ---- faults

  abbrev Causes : ConnectionEnd → A → A → Type 0
  Causes end old new = CausesEnd end (says.faults old) (says.faults new)

  quiet_causes : (end : ConnectionEnd) (a : ConsoleAt S T A) (b : DoorAt S T A) → EndsHere at asks moves says end a b
      → Causes end a.place.door b.door
  quiet_causes AtItsEnd a b here = here.2.faults
  quiet_causes Failed a b here = here.2.cause
  quiet_causes Starved a b here = here.1.faults
  quiet_causes HungUp a b here = absurd here
  quiet_causes RunEnded a b here = absurd here
  quiet_causes (Socket how) a b here = absurd here

  last_causes : (last : Bool) (steps : List TalkStep) (end how : ConnectionEnd) (m : ConsoleAt S T A) (b : DoorAt S T A)
      → MatchBool last (LastOf steps end how m b) (Talks at asks moves says steps end m b) → Causes how m.place.door m.place.door
      → (Talks at asks moves says steps end m b → Causes end m.place.door b.door) → Causes end m.place.door b.door
  last_causes true steps end how m b is here on =
      subst (λ (d : DoorAt S T A). Causes end m.place.door d.door) (sym is.2)
      (subst (λ e. Causes e m.place.door m.place.door) (sym is.1) here)
  last_causes false steps end how m b goes here on = on goes

  break_causes : (end : ConnectionEnd) (before now : ℕ) → CausesBreak end before now → CausesEnd end before now
  break_causes Failed before now cause = cause
  break_causes Starved before now cause = cause
  break_causes AtItsEnd before now never = absurd never
  break_causes HungUp before now never = absurd never
  break_causes RunEnded before now never = absurd never
  break_causes (Socket how) before now never = absurd never

  -- the count of faults rose where a call of the door failed, and there alone
  pub causes_of_talk : (steps : List TalkStep) (end : ConnectionEnd) (a : ConsoleAt S T A) (b : DoorAt S T A)
      → Talks at asks moves says steps end a b → Causes end a.place.door b.door
  causes_of_talk [] end a b here = quiet_causes end a b here
  causes_of_talk (Hears piece ∷ steps) end a b (m, is, then) =
      subst (λ n. CausesEnd end n (says.faults b.door)) is.receives.faults (causes_of_talk steps end m b then)
  causes_of_talk (Answers request turns ∷ steps) end a b (m, is, then) =
      subst (λ n. CausesEnd end n (says.faults b.door)) is.responds.sends.faults
      (last_causes (is_last request) steps end HungUp m b then refl (λ more. causes_of_talk steps end m b more))
  causes_of_talk (AsksRun finished ∷ steps) end a b (m, is, then) =
      subst (λ d. Causes end d b.door) is.door
      (last_causes finished steps end RunEnded m b then refl (λ more. causes_of_talk steps end m b more))
  causes_of_talk (Begins request turns part ∷ steps) end a b (is, none) = break_causes end _ _ is.begins.cause
  causes_of_talk (Upgrades socket ∷ steps) end a b (is, none) =
      subst (λ e. Causes e a.place.door b.door) (sym is.end_is) is.keeps.cause

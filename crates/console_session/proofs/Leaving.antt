-- A door that left, behind all that its session did.
use Rattle.std.proofs.Common.{◌≡◌, ℕ, List, [], ◌∷◌, ◌++◌, refl, sym, ap, ◌∙◌, subst, append-nil, append_assoc, arith}
use Rattle.std.specs.Prelude.{◌+◌, if◌then◌else◌, min, ◌^◌, ◌-◌}
use Rattle.console_http.specs.Readings.{door_at}
use Rattle.console_http.specs.Visits.{capped, starved_in, starved_of_end}
use Rattle.console_http.specs.declared.keeping.DoorKept.{DoorKept}
use Rattle.door_source.specs.declared.Doors.{Ghosts as DoorSays}
use Rattle.engine_core.specs.Beginnings.{ties_run}
use Rattle.engine_turns.specs.Told.{RunTurn}
use Rattle.engine_turns.specs.declared.operations.Answer.{Answer}
use Rattle.engine_turns.specs.declared.operations.Operation.{Operation}
use Rattle.engine_turns.specs.declared.operations.Operation.TheVariants.{Leave}
use Rattle.turn_desk.specs.Laws.{OneTurnGoes, TurnsAddUp}
use Rattle.turn_desk.specs.Sights.{DeskId, Took}
use Rattle.console_session.proofs.CallTurnLists.{call_turns_on, starved_all}
use Rattle.console_session.specs.CallTurns.{AreReadFrom, SessionSight, call_turns, is_call, reply_places, starved_replies}
use Rattle.console_session.specs.DoorSessions.{ReadsMoments, ServesDoor}
use Rattle.console_session.specs.Sessions.{Attends, secret_of, starved_after}
use Rattle.console_session.specs.declared.serving.Transcript.{Transcript}
use Rattle.console_session.specs.declared.session.ConsoleSession.{ConsoleSession}

leaves_none : (t : RunTurn) → t.op ≡ Leave → call_turns (t ∷ []) ≡ []
leaves_none t is = subst (λ (op : Operation). (if is_call op then t ∷ [] else []) ≡ []) (sym is) refl

capped_both : (m n first second : ℕ) → first ≡ capped m → second ≡ capped n
    → min (first + second) (2 ^ 32 - 1) ≡ capped (m + n)
capped_both m n first second one two = omega (arith, one, two)

module _ {D T K A : Type 0} (sight : T → SessionSight D) (desk_id : T → DeskId) (reads : K → ℕ → K → Type 0)
    (says : DoorSays A) (most : ℕ) (add_up : TurnsAddUp (ties_run {D = D})) (one : OneTurnGoes (ties_run {D = D}))
    (old new : ConsoleSession K) (desk desk' desk'' : T) (door door' : A) (kept : DoorKept) (answer : Answer)
    (did : Attends sight desk_id reads says most kept (door_at old desk door) (door_at new desk' door'))
    (took : Took ties_run (sight desk') Leave answer (sight desk'')) where
  -- a session that was just made
  pub served : (transcript : Transcript) → old.places.items ≡ [] → old.starved ≡ 0 → transcript.session ≡ new.number
      → transcript.places.items ≡ new.places.items → transcript.starved ≡ min (kept.starved + new.starved) (2 ^ 32 - 1)
      → transcript.end ≡ kept.end → ServesDoor says old.number (secret_of old) most (sight desk) door (sight desk'') door' transcript
  served transcript no_places none_starved session_is places_are starved_is end_is = record {
    before = did.turns;
    last = took.turn;
    went = add_up (sight desk) (sight desk') (sight desk'') did.turns (took.turn ∷ []) did.takes.went
        (one (sight desk') (sight desk'') Leave answer took);
    leaves = took.op_is;
    serves = record {
      kinds = did.takes.kinds;
      visits = did.visits;
      end = kept.end;
      served = did.served;
      last = did.last;
      came = did.came;
      sockets = did.sockets;
      found = did.found;
      told = did.told;
      faults = did.faults;
      cause = did.cause;
      session_is = session_is ∙ did.takes.goes_on.number;
      places_are = places_are ∙ (did.takes.places
          ∙ ap (λ (l : List ℕ). l ++ reply_places (call_turns did.turns)) no_places);
      starved_is = starved_is
          ∙ capped_both (starved_in did.visits + starved_of_end kept.end) (starved_replies (call_turns did.turns))
          kept.starved new.starved did.starved
          (did.takes.starved ∙ (ap (λ (n : ℕ). starved_after n (call_turns did.turns)) none_starved
          ∙ starved_all (call_turns did.turns)));
      end_is = end_is;
    };
  }

  pub read : ReadsMoments reads old.clock.now (sight desk) (sight desk'')
  read = record {
    turns = did.turns ++ took.turn ∷ [];
    took = took.own ∙ (ap (λ (l : List RunTurn). l ++ took.turn ∷ []) did.takes.went.own
        ∙ append_assoc (sight desk).own did.turns (took.turn ∷ []));
    behind = new.clock.now;
    read = subst (λ (l : List RunTurn). AreReadFrom reads old.clock.now l new.clock.now)
        (sym (call_turns_on did.turns (took.turn ∷ [])
        ∙ (ap (λ (l : List RunTurn). call_turns did.turns ++ l) (leaves_none took.turn took.op_is)
        ∙ append-nil (call_turns did.turns)))) did.takes.read;
  }

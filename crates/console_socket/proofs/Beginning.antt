-- A socket for which memory was wanting before anything happened.
use Rattle.std.proofs.Common.{refl, sym, subst, inr, List, [], ℕ}
use Rattle.std.proofs.lemmas.List.{append-nil}
use Rattle.rpc_envelope.specs.Turns.{Extends, Since}
use Rattle.console_socket.specs.Places.{door_at}
use Rattle.console_socket.specs.Sessions.{CallsAt, AskingAt, SteppingAt}
use Rattle.console_socket.specs.Sockets.{SocketTalk, KeepsSocket}
use Rattle.console_socket.specs.declared.ends.SocketEnd.TheVariants.{Starved}
use Rattle.door_source.specs.declared.Doors.{Ghosts as DoorSays}

pub extends_none : {S T : Type 0} (before : Since S T) → Extends before before []
extends_none before caller desk earlier stood = subst (before caller desk) (sym (append-nil earlier)) stood

-- nothing happened
pub starved_at_once : {S T A : Type 0} (at : CallsAt S T) (asks : AskingAt S T) (steps : SteppingAt S T) (says : DoorSays A) (most : ℕ) (bytes : List ℕ)
    (session : S) (desk : T) (door : A)
    → (talk : SocketTalk) × KeepsSocket at asks steps says most bytes talk Starved (door_at session desk door) (door_at session desk door)
starved_at_once {S} {T} {A} at asks steps says most bytes session desk door = (
  record { events = []; received = []; sent = [] },
  record {
    goes = (refl, refl);
    extends = extends_none (at session desk);
    joins = tt;
    stops = tt;
    finishes = λ e. absurd (cc e);
    stops_finished = tt;
    answers = inr (inr (inr (record { ends = refl; events = refl; received = refl; sent = refl })));
    told = λ _. inr (refl, refl, refl);
    cause = refl;
  },
)

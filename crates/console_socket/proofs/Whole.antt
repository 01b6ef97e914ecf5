-- The parts of keeping a socket, put together.
use Rattle.std.proofs.Common.{◌≡◌, refl, sym, ap, subst, ◌∙◌, inl, inr, ⊎_elim, ℕ, Bool, true, false, List, [], ◌++◌, append-nil, true≢false}
use Rattle.std.specs.Prelude.{IsTrue, Ok, Err}
use Rattle.dl_kinds.specs.Causes.{HasCause}
use Rattle.dl_kinds.specs.declared.outside.IoErr.{IoErr}
use Rattle.door_source.specs.Doors.{DoorState, SendsToPeer}
use Rattle.door_source.specs.declared.Doors.{Ghosts as DoorSays}
use Rattle.request_stream.specs.Responses.{refusal_response}
use Rattle.request_stream.specs.declared.refusal.Refusal.TheVariants.{BadRequest}
use Rattle.rpc_envelope.specs.Turns.{BeginsWith}
use Rattle.websocket.specs.Handshake.{accept_key_of}
use Rattle.console_socket.proofs.Beginning.{extends_none}
use Rattle.console_socket.proofs.Closing.{causes_end, causes_error, causes_on, ends_error, gains_all, gains_part, gains_sent, put_whole}
use Rattle.console_socket.specs.Frames.{HaveFrames, tells_all}
use Rattle.console_socket.specs.Keeping.{HasRefused, HasSwitched, IsSwitchedBy, KeepsStream, end_by_error, front_of}
use Rattle.console_socket.specs.Places.{DoorAt, door_at}
use Rattle.console_socket.specs.Sessions.{CallsAt, AskingAt, SteppingAt}
use Rattle.console_socket.specs.Sockets.{AnswersUpgrade, GainsBytes, KeepsSocket, SocketTalk}
use Rattle.console_socket.specs.Streams.{last_of, received_since, sent_since, is_failing}
use Rattle.console_socket.specs.Talking.{texts_of_events}
use Rattle.console_socket.specs.Upgrades.{IsWelcome, switching_text}
use Rattle.console_socket.specs.declared.ends.SocketEnd.{SocketEnd}
use Rattle.console_socket.specs.declared.ends.SocketEnd.TheVariants.{Finished, Refused, Starved}

sent_in_part : (tells : Bool) (bytes : List ℕ) (error : IoErr) (old new : DoorState) → (IsTrue tells → SendsToPeer bytes (Err error) old new)
    → (part : List ℕ) × BeginsWith bytes part × (IsTrue tells → GainsBytes [] part old new)
sent_in_part true bytes error old new sends =
    let s = sends refl in (s.part, (s.rest, s.front), λ _. gains_part bytes error old new s)
sent_in_part false bytes error old new sends = ([], (bytes, refl), λ e. absurd (true≢false (sym e)))

unfinished : (error : IoErr) → end_by_error error ≡ Finished → ⊥
unfinished error is = ⊎_elim (λ e. cc (e, is)) (λ e. cc (e, is)) (ends_error error)

module _ {A : Type 0} (says : DoorSays A) where
  pub refused_whole : (bytes : List ℕ) (old new : A) → bytes ≡ refusal_response BadRequest
      → (IsTrue says.tells → SendsToPeer bytes (Ok tt) (says.state old) (says.state new)) → says.faults new ≡ says.faults old
      → HasRefused says Refused old new
  refused_whole bytes old new is sends stands = record {
    sent = bytes;
    front = ([], sym is ∙ sym (append-nil bytes));
    ends = inl (refl, is);
    told = λ e. inl (gains_sent bytes (says.state old) (says.state new) (sends e));
    cause = stands;
  }

  pub refused_part : {R : Type 0} (bytes : List ℕ) (error : IoErr) (old new : A) → bytes ≡ refusal_response BadRequest
      → (IsTrue says.tells → SendsToPeer bytes (Err error) (says.state old) (says.state new))
      → HasCause {T = R} (says.faults old) (says.faults new) (Err error)
      → HasRefused says (end_by_error error) old new
  refused_part {R} bytes error old new is sends cause =
      let part = sent_in_part says.tells bytes error (says.state old) (says.state new) sends in
      record {
        sent = part.0;
        front = (part.1.0, sym is ∙ part.1.1);
        ends = inr (ends_error error);
        told = λ e. inl (part.2 e);
        cause = causes_error {R = R} error (says.faults old) (says.faults new) cause;
      }

module _ {S T A : Type 0} (at : CallsAt S T) (asks : AskingAt S T) (steps : SteppingAt S T) (says : DoorSays A) where
  pub switched_none : (accept : List ℕ) (a : DoorAt S T A) → HasSwitched at asks steps says accept Starved a a
  switched_none accept a = record {
    talk = record { events = []; received = []; sent = [] };
    goes = (refl, refl);
    extends = extends_none (at a.session a.desk);
    joins = tt;
    stops = tt;
    finishes = λ e. absurd (cc e);
    stops_finished = tt;
    switched = inr (refl, refl, (switching_text accept, refl), inr refl);
    told = λ _. inr (refl, refl, refl);
    cause = refl;
  }

  pub switched_part : {R : Type 0} (accept bytes : List ℕ) (error : IoErr) (session : S) (desk : T) (old new : A) → bytes ≡ switching_text accept
      → (IsTrue says.tells → SendsToPeer bytes (Err error) (says.state old) (says.state new))
      → HasCause {T = R} (says.faults old) (says.faults new) (Err error)
      → HasSwitched at asks steps says accept (end_by_error error) (door_at session desk old) (door_at session desk new)
  switched_part {R} accept bytes error session desk old new is sends cause =
      let part = sent_in_part says.tells bytes error (says.state old) (says.state new) sends in
      record {
        talk = record { events = []; received = []; sent = part.0 };
        goes = (refl, refl);
        extends = extends_none (at session desk);
        joins = tt;
        stops = tt;
        finishes = λ e. absurd (unfinished error e);
        stops_finished = tt;
        switched = inr (refl, refl, (part.1.0, sym is ∙ part.1.1), ends_error error);
        told = λ e. inl (part.2 e);
        cause = causes_error {R = R} error (says.faults old) (says.faults new) cause;
      }

  pub switched_all : (accept bytes : List ℕ) (end : SocketEnd) (session : S) (desk : T) (session' : S) (desk' : T) (old mid new : A)
      → bytes ≡ switching_text accept → (IsTrue says.tells → SendsToPeer bytes (Ok tt) (says.state old) (says.state mid))
      → says.faults mid ≡ says.faults old → (IsTrue says.tells → (says.state old).is_open ≡ true)
      → KeepsStream at asks steps says.tells (front_of (says.state mid).connections) (last_of (says.state mid).connections)
      (says.state mid).is_closed (says.faults mid) end session desk session' desk' (says.state new) (says.faults new)
      → HasSwitched at asks steps says accept end (door_at session desk old) (door_at session' desk' new)
  switched_all accept bytes end session desk session' desk' old mid new is sends stands opened keeps =
      let b = last_of (says.state mid).connections in
      let out = sent_since b (says.state new) in
      let trust = λ (all : tells_all end ≡ true) (e : IsTrue says.tells).
      put_whole says.tells keeps.put (is_failing keeps.trouble) (says.state mid) (says.state new) (keeps.texts all).0 e keeps.told in
      record {
        talk = record { events = keeps.events; received = received_since b (says.state new); sent = bytes ++ out };
        goes = keeps.carry.goes;
        extends = keeps.carry.extends;
        joins = keeps.joined;
        stops = keeps.ends.stops;
        finishes = keeps.ends.finishes;
        stops_finished = keeps.ends.stops_finished;
        switched = inl (
          keeps.ends.by.1,
          λ _. (out, ap (λ xs. xs ++ out) is),
          λ e all. record {
            more = out;
            are = ap (λ xs. xs ++ out) is;
            frames = subst (HaveFrames (texts_of_events keeps.events)) (trust all e) ((keeps.texts all).1 e);
          },
        );
        told = λ e. inl (gains_all says.tells bytes keeps.put (is_failing keeps.trouble) (says.state old) (says.state mid) (says.state new)
            (sends e) (opened e) e keeps.told);
        cause = causes_on end (says.faults old) (says.faults mid) (says.faults new) stands
            (causes_end end keeps.trouble (says.faults mid) (says.faults new) keeps.ends.by keeps.counts);
      }

  pub kept_switched : (most : ℕ) (bytes accept key : List ℕ) (used : ℕ) (end : SocketEnd) (a b : DoorAt S T A) → IsWelcome bytes used key
      → accept ≡ accept_key_of key → HasSwitched at asks steps says accept end a b
      → (talk : SocketTalk) × KeepsSocket at asks steps says most bytes talk end a b
  kept_switched most bytes accept key used end a b welcome is has =
      let by = subst (λ k. IsSwitchedBy at asks steps says k has.talk end) is has.switched in
      let answers : AnswersUpgrade says.tells bytes has.talk end = ⊎_elim
      (λ whole. inl (record { used = used; key = key; welcome = welcome; unrefused = whole.0; begins = whole.1; texts = whole.2 }))
      (λ part. inr (inl (record { used = used; key = key; welcome = welcome; events = part.0; received = part.1; front = part.2; ends = part.3 }))) by in (
        has.talk,
        record {
          goes = has.goes;
          extends = has.extends;
          joins = has.joins;
          stops = has.stops;
          finishes = has.finishes;
          stops_finished = has.stops_finished;
          answers = answers;
          told = has.told;
          cause = has.cause;
        },
      )

  pub kept_refused : (most : ℕ) (bytes : List ℕ) (end : SocketEnd) (session : S) (desk : T) (old new : A)
      → ((used : ℕ) (key : List ℕ) → IsWelcome bytes used key → ⊥) → HasRefused says end old new
      → (talk : SocketTalk) × KeepsSocket at asks steps says most bytes talk end (door_at session desk old) (door_at session desk new)
  kept_refused most bytes end session desk old new wrong has =
      let talk : SocketTalk = record { events = []; received = []; sent = has.sent } in (
        talk,
        record {
          goes = (refl, refl);
          extends = extends_none (at session desk);
          joins = tt;
          stops = tt;
          stops_finished = tt;
          finishes = λ e. absurd (⊎_elim (λ p. cc (p.0, e)) (λ p. ⊎_elim (λ q. cc (q, e)) (λ q. cc (q, e)) p) has.ends);
          answers = inr (inr (inl (record { wrong = wrong; events = refl; received = refl; sent = has.front; ends = has.ends })));
          told = has.told;
          cause = has.cause;
        },
      )

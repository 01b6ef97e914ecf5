-- One step of a conversation in front of others.
use Rattle.std.proofs.Common.{◌≡◌, inl, ℕ, Bool, true, false, List, [], ◌∷◌, drop, refl, sym, ◌∙◌, subst, true≢false}
use Rattle.std.proofs.lemmas.List.{append-nil}
use Rattle.std.proofs.lemmas.List.Elements.{All-nil}
use Rattle.std.specs.Bool.{MatchBool}
use Rattle.std.specs.Prelude.{IsTrue, Option, Some, None, slice_range}
use Rattle.door_source.specs.declared.Doors.{Ghosts as DoorSays}
use Rattle.request_stream.specs.Requests.{Request, is_last, served, turned_away, IsOneRequest}
use Rattle.request_stream.specs.Responses.{refusal_response, served_response}
use Rattle.request_stream.specs.declared.refusal.Refusal.{Refusal}
use Rattle.request_stream.specs.Next.{IsServedBetween}
use Rattle.rpc_envelope.specs.Answers.{answer_text, read_bytes}
use Rattle.rpc_envelope.specs.Asks.{found_calls}
use Rattle.rpc_envelope.specs.Turns.{Invoked, CamePlain, Extends, Since}
use Rattle.console_http.specs.Answering.{BeginsResponse, HasTurnedAway, Responds, SendsFront}
use Rattle.console_http.specs.Readings.{Reading, DoorAt, ConsoleAt, console_at, door_at}
use Rattle.console_http.specs.Sessions.{AskingAt, CallsAt, SteppingAt}
use Rattle.console_http.specs.Talks.{Hears, Answers, Begins, Upgrades, IsHearing, IsAnswering, IsBeginning, TalksToEnd, TalksOn, HasTalkedOn}
use Rattle.console_http.specs.Upgrading.{HasNoUpgrade}
use Rattle.console_http.specs.declared.ends.ConnectionEnd.{ConnectionEnd}
use Rattle.console_http.specs.declared.ends.ConnectionEnd.TheVariants.{AtItsEnd, HungUp, RunEnded, Failed, Starved, Socket}
use Rattle.console_socket.specs.Sockets.{KeepsSocket, SocketTalk}
use Rattle.console_socket.specs.Upgrades.{IsUpgradeAt}
use Rattle.console_socket.specs.declared.ends.SocketEnd.{SocketEnd}

pub if_true : (b : Bool) (P Q : Type 0) → b ≡ true → P → MatchBool b P Q
if_true true P Q e p = p
if_true false P Q e p = absurd (true≢false (sym e))

pub if_false : (b : Bool) (P Q : Type 0) → b ≡ false → Q → MatchBool b P Q
if_false true P Q e q = absurd (true≢false e)
if_false false P Q e q = q

pub extends_none : {S T : Type 0} (before : Since S T) → Extends before before []
extends_none before caller desk earlier stood = subst (before caller desk) (sym (append-nil earlier)) stood

module _ {S T A : Type 0} (at : CallsAt S T) (asks : AskingAt S T) (moves : SteppingAt S T) (says : DoorSays A) where
  pub last_answer : (request : Request) (turns : List Invoked) (a m : ConsoleAt S T A)
      → IsAnswering at asks moves says request turns a m → is_last request ≡ true → TalksToEnd at asks moves says HungUp a m.place
  last_answer request turns a m is last =
      (Answers request turns ∷ [], (m, is, if_true (is_last request) _ _ last (refl, refl, refl)))

  pub answers_on : (request : Request) (turns : List Invoked) (a m : ConsoleAt S T A)
      → IsAnswering at asks moves says request turns a m → is_last request ≡ false → TalksOn at asks moves says a m
  answers_on request turns a m is more end c ends =
      (Answers request turns ∷ ends.0, (m, is, if_false (is_last request) _ _ more ends.1))

  -- the request between the places was answered
  pub is_answered : (from used : ℕ) (last : Bool) (body : List ℕ) (turns : List Invoked) (a b : ConsoleAt S T A)
      → IsServedBetween a.reading.most a.reading.unread from used last → HasNoUpgrade a.reading.unread
      → body ≡ slice_range a.reading.unread from used
      → Responds at says (found_calls (read_bytes body)) (λ came. served_response (answer_text (read_bytes body) came)) turns
      a.place b.place
      → b.reading ≡ record a.reading { unread = drop used a.reading.unread; is_due = true }
      → IsAnswering at asks moves says (served body last) turns a b
  is_answered from used last body turns a b between plain is responds reading =
      let P : List ℕ → Type 0 = λ part. IsOneRequest a.reading.most a.reading.unread (served part last) used in
      record { used = used; is = subst P (sym is) between.is; plain = plain; responds = responds; reading = reading }

  pub is_begun : (from used : ℕ) (last : Bool) (body : List ℕ) (turns : List Invoked) (part : List ℕ) (end : ConnectionEnd)
      (a : ConsoleAt S T A) (b : DoorAt S T A)
      → IsServedBetween a.reading.most a.reading.unread from used last → HasNoUpgrade a.reading.unread
      → body ≡ slice_range a.reading.unread from used
      → BeginsResponse at says (found_calls (read_bytes body)) (λ came. served_response (answer_text (read_bytes body) came)) turns
      part end a.place b
      → IsBeginning at asks moves says (served body last) turns part end a b
  is_begun from used last body turns part end a b between plain is begun =
      let P : List ℕ → Type 0 = λ text. IsOneRequest a.reading.most a.reading.unread (served text last) used in
      record { used = used; is = subst P (sym is) between.is; plain = plain; begins = begun }

  pub begins : (request : Request) (turns : List Invoked) (part : List ℕ) (end : ConnectionEnd) (a : ConsoleAt S T A)
      (b : DoorAt S T A) → IsBeginning at asks moves says request turns part end a b → TalksToEnd at asks moves says end a b
  begins request turns part end a b is = (Begins request turns part ∷ [], (is, refl))

  pub hears_on : (piece : List ℕ) (a m : ConsoleAt S T A) → IsHearing at asks moves says piece a m → TalksOn at asks moves says a m
  hears_on piece a m is end c ends = (Hears piece ∷ ends.0, (m, is, ends.1))

  pub goes_both : (a m b : ConsoleAt S T A) (gone : Option ConnectionEnd) → TalksOn at asks moves says a m
      → HasTalkedOn at asks moves says m b gone → HasTalkedOn at asks moves says a b gone
  goes_both a m b None first then = λ end c ends. first end c (then end c ends)
  goes_both a m b (Some end) first then = first end b.place then

  -- ---- a request that is turned away

  away_begun : (refusal : Refusal) (used : ℕ) (s : S) (d : T) (old new : A) (reading : Reading) (end : ConnectionEnd)
      → IsOneRequest reading.most reading.unread (turned_away refusal) used → HasNoUpgrade reading.unread
      → (part : List ℕ) × SendsFront says (refusal_response refusal) part end old new
      → TalksToEnd at asks moves says end (console_at s d old reading) (door_at s d new)
  away_begun refusal used s d old new reading end is plain (part, front) =
      begins (turned_away refusal) [] part end _ _ (record {
        used = used;
        is = is;
        plain = plain;
        begins = record {
          extends = extends_none (at s d);
          begun = inl (record { asked = refl; came = All-nil CamePlain }, front.front);
          told = front.told;
          cause = front.cause;
        };
      })

  pub turned_off : (refusal : Refusal) (used : ℕ) (s : S) (d : T) (old new : A) (reading : Reading) (end : ConnectionEnd)
      → IsOneRequest reading.most reading.unread (turned_away refusal) used → HasNoUpgrade reading.unread
      → HasTurnedAway says (refusal_response refusal) old new end
      → TalksToEnd at asks moves says end (console_at s d old reading) (door_at s d new)
  turned_off refusal used s d old new reading HungUp is plain sends =
      last_answer (turned_away refusal) [] _ (console_at s d new (record reading { unread = drop used reading.unread; is_due = true })) (record {
        used = used;
        is = is;
        plain = plain;
        responds = record {
          extends = extends_none (at s d);
          carried = record { asked = refl; came = All-nil CamePlain };
          sends = sends;
        };
        reading = refl;
      }) refl
  turned_off refusal used s d old new reading AtItsEnd is plain front =
      away_begun refusal used s d old new reading AtItsEnd is plain front
  turned_off refusal used s d old new reading RunEnded is plain front =
      away_begun refusal used s d old new reading RunEnded is plain front
  turned_off refusal used s d old new reading Failed is plain front =
      away_begun refusal used s d old new reading Failed is plain front
  turned_off refusal used s d old new reading Starved is plain front =
      away_begun refusal used s d old new reading Starved is plain front
  turned_off refusal used s d old new reading (Socket how) is plain front =
      away_begun refusal used s d old new reading (Socket how) is plain front

  -- ---- a request for a WebSocket

  -- memory ran out before it was known whether it is one
  pub starved_before : (s : S) (d : T) (door : A) (reading : Reading)
      → TalksToEnd at asks moves says Starved (console_at s d door reading) (door_at s d door)
  starved_before s d door reading =
      ([], (record { session = refl; desk = refl }, record { told = λ _. refl; faults = refl }))

  pub upgraded : (used : ℕ) (socket : SocketTalk) (how : SocketEnd) (a : ConsoleAt S T A) (b : DoorAt S T A)
      → IsUpgradeAt a.reading.unread used
      → KeepsSocket at asks moves says a.reading.most a.reading.unread socket how a.place b
      → TalksToEnd at asks moves says (Socket how) a b
  upgraded used socket how a b is keeps =
      (Upgrades socket ∷ [], (record { used = used; is = is; how = how; end_is = refl; keeps = keeps }, refl))

  -- ---- a conversation that goes on

  -- as far as it has come
  pub record IsGoing (a b : ConsoleAt S T A) : Type 0 where
    pub opened : IsTrue says.tells → (says.state b.place.door).is_open ≡ true
    pub most : b.reading.most ≡ a.reading.most
    pub goes : TalksOn at asks moves says a b

  pub not_gone : (a b : ConsoleAt S T A) → (IsTrue says.tells → (says.state a.place.door).is_open ≡ true) → a ≡ b → IsGoing a b
  not_gone a b opened same = subst (IsGoing a) same (record { opened = opened; most = refl; goes = λ end c ends. ends })

  pub going_on : (a m b : ConsoleAt S T A) (gone : Option ConnectionEnd) → IsGoing a m → gone ≡ None
      → (IsTrue says.tells → (says.state b.place.door).is_open ≡ true) → b.reading.most ≡ m.reading.most
      → HasTalkedOn at asks moves says m b gone → IsGoing a b
  going_on a m b None going is opened most gone =
      record { opened = opened; most = most ∙ going.most; goes = λ end c ends. going.goes end c (gone end c ends) }
  going_on a m b (Some end) going is opened most gone = cc

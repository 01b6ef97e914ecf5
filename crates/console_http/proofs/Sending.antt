-- What was sent in a connection.
use Rattle.std.proofs.Common.{◌≡◌, inl, inr, ℕ, ◌<◌, ◌≤◌, Bool, true, false, List, [], ◌++◌, length, length-take-le, take, refl, sym, subst, true≢false, arith}
use Rattle.std.specs.Prelude.{IsTrue, Option, Some, None, Result, Ok, Err, MatchOption}
use Rattle.std.specs.Result.{IsErrAnd}
use Rattle.dl_kinds.specs.Causes.{HasCause}
use Rattle.dl_kinds.specs.declared.outside.IoErr.{IoErr}
use Rattle.dl_kinds.specs.declared.outside.IoErr.TheVariants.{Fault, NoMemory}
use Rattle.door_source.specs.Doors.{DoorState, Becomes, ReceivesFromPeer, SendsToPeer}
use Rattle.door_source.specs.declared.Doors.{Ghosts as DoorSays}
use Rattle.rpc_envelope.specs.Turns.{Invocation, BeginsWith, StopsShort, Walks}
use Rattle.console_http.specs.Answering.{ResponseBy, CausesBreak, HasResponded, HasTurnedAway, SendsFront}
use Rattle.console_http.specs.Ends.{end_by_error}
use Rattle.console_http.specs.Readings.{door_at}
use Rattle.console_http.specs.Receiving.{GivesOut, HasReceived, ReceivesPiece, SendsAll}
use Rattle.console_http.specs.Sessions.{CallsAt}
use Rattle.console_http.specs.Writing.{HasSent}
use Rattle.console_http.specs.declared.ends.ConnectionEnd.{ConnectionEnd}
use Rattle.console_http.specs.declared.ends.ConnectionEnd.TheVariants.{Starved}

pub gives_all : (bytes : List ℕ) (old new : DoorState) → SendsToPeer bytes (Ok tt) old new → GivesOut bytes old new
gives_all bytes old new sends =
    let P : List ℕ → Type 0 = λ part. Becomes sends.newest (record sends.newest { sent = sends.newest.sent ++ part }) old new in
    record { newest = sends.newest; becomes = subst P sends.whole sends.becomes }

-- the part that was sent by a call that failed, as far as it is told
record SentPart (told : Bool) (bytes : List ℕ) (error : IoErr) (old new : DoorState) : Type 0 where
  part : List ℕ
  front : BeginsWith bytes part
  gives : IsTrue told → GivesOut part old new

sent_part : (told : Bool) (bytes : List ℕ) (error : IoErr) (old new : DoorState)
    → (IsTrue told → SendsToPeer bytes (Err error) old new) → SentPart told bytes error old new
sent_part true bytes error old new sends =
    let is = sends refl in
    record {
      part = is.part;
      front = (is.rest, is.front);
      gives = λ _. record { newest = is.newest; becomes = is.becomes };
    }
sent_part false bytes error old new sends =
    record { part = []; front = (bytes, refl); gives = λ e. absurd (true≢false (sym e)) }

cause_of : (error : IoErr) (before now : ℕ) → HasCause {T = Unit {0}} before now (Err error) → CausesBreak (end_by_error error) before now
cause_of Fault before now cause = cause.fault refl
cause_of NoMemory before now cause = cause.none refl

module _ {A : Type 0} (says : DoorSays A) where
  turned_away_front : (bytes : List ℕ) (old new : A) (error : IoErr)
      → (part : List ℕ) × SendsFront says bytes part (end_by_error error) old new → HasTurnedAway says bytes old new (end_by_error error)
  turned_away_front bytes old new Fault front = front
  turned_away_front bytes old new NoMemory front = front

  pub sent_front : (bytes : List ℕ) (old new : A) (error : IoErr)
      → (IsTrue says.tells → SendsToPeer bytes (Err error) (says.state old) (says.state new))
      → HasCause {T = Unit {0}} (says.faults old) (says.faults new) (Err error)
      → (part : List ℕ) × SendsFront says bytes part (end_by_error error) old new
  sent_front bytes old new error sends cause =
      let sent = sent_part says.tells bytes error (says.state old) (says.state new) sends in
      (sent.part, record { front = sent.front; told = λ e. inl (sent.gives e); cause = cause_of error _ _ cause })

  -- the response to a request that is turned away couldn't be sent whole
  pub turned_away_by : (bytes : List ℕ) (old new : A) (error : IoErr)
      → (IsTrue says.tells → SendsToPeer bytes (Err error) (says.state old) (says.state new))
      → HasCause {T = Unit {0}} (says.faults old) (says.faults new) (Err error)
      → HasTurnedAway says bytes old new (end_by_error error)
  turned_away_by bytes old new error sends cause =
      turned_away_front bytes old new error (sent_front bytes old new error sends cause)

module _ {A : Type 0} (says : DoorSays A) where
  -- bytes came, and stand behind the others, or couldn't be put there
  pub received_by : (old new : A) (was now buffer : List ℕ) (count : ℕ) (gone : Option ConnectionEnd)
      → (count ≡ 0 → ⊥) → count ≤ length buffer
      → (IsTrue says.tells → ReceivesFromPeer count buffer (says.state old) (says.state new))
      → says.faults new ≡ says.faults old
      → MatchOption gone (now ≡ was ++ take count buffer) (λ end. (end ≡ Starved) × (now ≡ was))
      → HasReceived says old was new now gone
  received_by old new was now buffer count gone some bound receives faults put =
      let taken : length (take count buffer) ≡ count = length-take-le count buffer bound in
      let piece : ReceivesPiece says (take count buffer) old new = record {
        some = some_of count (take count buffer) some taken;
        told = λ e. let is = receives e in record {
          newest = is.newest;
          becomes = is.becomes;
          rest = is.rest;
          next = is.next;
        };
        faults = faults;
      } in
      put_by old new was now (take count buffer) gone piece put
    where
      some_of : (count : ℕ) (piece : List ℕ) → (count ≡ 0 → ⊥) → length piece ≡ count → 0 < length piece
      some_of count piece some is = omega (arith, some, is)

      put_by : (old new : A) (was now piece : List ℕ) (gone : Option ConnectionEnd) → ReceivesPiece says piece old new
          → MatchOption gone (now ≡ was ++ piece) (λ end. (end ≡ Starved) × (now ≡ was))
          → HasReceived says old was new now gone
      put_by old new was now piece None receives put = (piece, receives, put)
      put_by old new was now piece (Some end) receives put =
          let P : ConnectionEnd → Type 0 = λ how. HasReceived says old was new now (Some how) in
          subst P (sym put.0) (inr (piece, receives))

module _ {S T A : Type 0} (at : CallsAt S T) (says : DoorSays A) where
  -- the response is sent behind the calls
  pub responded : (calls : List Invocation) (response : ResponseBy) (s : S) (d : T) (s' : S) (d' : T) (old new : A)
      (text : List ℕ) (r : Result (Unit {0}) IoErr)
      → Walks (at s d) (at s' d') calls (λ came. text ≡ response came)
      → HasSent says text old new r
      → HasResponded at says calls response (door_at s d old) (door_at s' d' new) r
  responded calls response s d s' d' old new text (Ok done) walks sends =
      let P : List ℕ → Type 0 = λ bytes. SendsAll says bytes old new in (
        walks.mine,
        record {
          extends = walks.extends;
          carried = record { asked = walks.asked; came = walks.came };
          sends = subst P walks.holds sends;
        },
      )
  responded calls response s d s' d' old new text (Err error) walks (part, sends) =
      let P : List ℕ → Type 0 = λ bytes. BeginsWith bytes part in (
        walks.mine,
        part,
        record {
          extends = walks.extends;
          begun = inl (record { asked = walks.asked; came = walks.came }, subst P walks.holds sends.front);
          told = sends.told;
          cause = sends.cause;
        },
      )

  -- memory ran out before anything was sent
  pub unsent : (calls : List Invocation) (response : ResponseBy) (s : S) (d : T) (s' : S) (d' : T) (door : A)
      (r : Result (Unit {0}) IoErr) → IsErrAnd r (λ error. error ≡ NoMemory) → StopsShort (at s d) (at s' d') calls
      → HasResponded at says calls response (door_at s d door) (door_at s' d' door) r
  unsent calls response s d s' d' door (Ok done) never short = absurd never
  unsent calls response s d s' d' door (Err error) is short = (
    short.mine,
    [],
    record {
      extends = short.extends;
      begun = inr (short.front, refl);
      told = λ _. inr (refl, refl);
      cause = subst (λ e. CausesBreak (end_by_error e) (says.faults door) (says.faults door)) (sym is) refl;
    },
  )

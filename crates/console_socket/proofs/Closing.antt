-- What a socket comes to, from its answer to its end.
use Rattle.std.proofs.Common.{arith, ◌≡◌, ◌+◌, ◌-◌, ◌^◌, min, refl, sym, ap, subst, ◌∙◌, inl, inr, ℕ, Bool, true, false, List, [], ◌∷◌, ◌++◌, length, append_assoc, append-nil}
use Rattle.std.proofs.Math.Logic.{∥∥₁_elim}
use Rattle.std.specs.Coded.{Coded, Coded-set, code_by, coded×, coded_list, coded_ℕ, coded_bool}
use Rattle.std.specs.Prelude.{◌==◌, ◌⊎◌, nat_lt, not, IsTrue, Ok, Err}
use Rattle.dl_kinds.specs.Causes.{HasCause}
use Rattle.dl_kinds.specs.Counts.{Rose}
use Rattle.dl_kinds.specs.declared.outside.IoErr.{IoErr}
use Rattle.dl_kinds.specs.declared.outside.IoErr.TheVariants.{Fault, NoMemory}
use Rattle.door_source.specs.Doors.{Connection, DoorState, SendsToPeer}
use Rattle.console_socket.proofs.Further.{since, split, take_all}
use Rattle.console_socket.specs.Frames.{HaveFrames}
use Rattle.console_socket.specs.Hearing.{EndsBy}
use Rattle.console_socket.specs.Keeping.{end_by_error, front_of}
use Rattle.console_socket.specs.Sockets.{CausesSocketEnd, GainsBytes}
use Rattle.console_socket.specs.Streams.{IsFurther, counts_as, good_of, last_of, received_since, sent_since, unread_of}
use Rattle.console_socket.specs.declared.ends.SocketEnd.{SocketEnd}
use Rattle.console_socket.specs.declared.ends.SocketEnd.TheVariants.{Finished, Closed, Refused, Broken, Failed as FailedEnd, Starved as StarvedEnd}
use Rattle.console_socket.specs.declared.stream.Trouble.{Trouble}
use Rattle.console_socket.specs.declared.stream.Trouble.TheVariants.{Nothing, Quiet, Ended, Failed, Starved}

connection_code : Coded Connection
connection_code =
    code_by (List ℕ × (List ℕ × List ℕ)) (coded× (coded_list coded_ℕ) (coded× (coded_list coded_ℕ) (coded_list coded_ℕ)))
    (λ c. (c.received, (c.sent, c.whole))) (λ p. record { received = p.0; sent = p.1.0; whole = p.1.1 }) (λ _. refl)

same_connections : (xs ys : List Connection) → IsProp (xs ≡ ys)
same_connections xs ys = Coded-set (coded_list connection_code) xs ys

same_bytes : (xs ys : List ℕ) → IsProp (xs ≡ ys)
same_bytes xs ys = Coded-set (coded_list coded_ℕ) xs ys

ends_of : (e : List Connection) (x : Connection) → (front_of (e ++ x ∷ []) ≡ e) × (last_of (e ++ x ∷ []) ≡ x)
ends_of [] x = (refl, refl)
ends_of (y ∷ []) x = (refl, refl)
ends_of (y ∷ z ∷ e) x = let others = ends_of (z ∷ e) x in (ap (λ xs. y ∷ xs) others.0, others.1)

fields_are : (a b : Connection) → a.received ≡ b.received → a.sent ≡ b.sent → a.whole ≡ b.whole → a ≡ b
fields_are a b r s w = rw (r, s, w) refl

-- ---- the answer was sent

pub begins_further : (bytes : List ℕ) (old new : DoorState) → SendsToPeer bytes (Ok tt) old new → old.is_open ≡ true
    → IsFurther (front_of new.connections) (last_of new.connections) new.is_closed 0 false new
begins_further bytes old new sends opened =
    let after = record sends.newest { sent = sends.newest.sent ++ sends.part } in
    let ends = ends_of sends.becomes.earlier after in
    let b = last_of new.connections in
    record {
      connections = sends.becomes.are ∙ sym (cc (ap front_of sends.becomes.are ∙ ends.0, ap last_of sends.becomes.are ∙ ends.1));
      is_open = sends.becomes.is_open ∙ opened;
      closed = refl;
      received = split b.received b.received [] (sym (append-nil b.received));
      sent = split b.sent b.sent [] (sym (append-nil b.sent));
      whole = refl;
      front = λ begins. split b.received b.whole begins.0 begins.1;
      put_fits = omega arith;
      put_all = λ _. sym (ap length (since b.sent b.sent [] (sym (append-nil b.sent))));
    }

-- ---- the count of faults

is_equal : (a b : ℕ) → (a == b) ≡ true → a ≡ b
is_equal a b e = grind arith

rose_by : (before now : ℕ) → not (nat_lt now (min (before + 1) (2 ^ 64 - 1))) ≡ true → Rose before now
rose_by before now test = grind arith

stood_by : (trouble : Trouble) (before now : ℕ) → (trouble ≡ Failed → ⊥) → counts_as trouble before now ≡ true → now ≡ before
stood_by Nothing before now other counts = is_equal now before counts
stood_by Quiet before now other counts = is_equal now before counts
stood_by Ended before now other counts = is_equal now before counts
stood_by Failed before now other counts = absurd (other refl)
stood_by Starved before now other counts = is_equal now before counts

failed_by : (trouble : Trouble) (before now : ℕ) → trouble ≡ Failed → counts_as trouble before now ≡ true → Rose before now
failed_by trouble before now is counts = rose_by before now (subst (λ t. counts_as t before now ≡ true) is counts)

pub causes_end : (end : SocketEnd) (trouble : Trouble) (before now : ℕ) → EndsBy end trouble → counts_as trouble before now ≡ true
    → CausesSocketEnd end before now
causes_end Finished trouble before now by counts = stood_by trouble before now (λ is. absurd (cc (by.0.1 is))) counts
causes_end Closed trouble before now by counts = stood_by trouble before now (λ is. absurd (cc (by.0.1 is))) counts
causes_end Refused trouble before now by counts = stood_by trouble before now (λ is. absurd (cc (by.0.1 is))) counts
causes_end Broken trouble before now by counts = stood_by trouble before now (λ is. absurd (cc (by.0.1 is))) counts
causes_end FailedEnd trouble before now by counts = failed_by trouble before now (by.0.0 refl) counts
causes_end StarvedEnd trouble before now by counts = stood_by trouble before now (λ is. absurd (cc (by.0.1 is))) counts

pub causes_on : (end : SocketEnd) (before middle now : ℕ) → middle ≡ before → CausesSocketEnd end middle now → CausesSocketEnd end before now
causes_on end before middle now is causes = subst (λ n. CausesSocketEnd end n now) is causes

pub causes_error : {R : Type 0} (error : IoErr) (before now : ℕ) → HasCause {T = R} before now (Err error) → CausesSocketEnd (end_by_error error) before now
causes_error Fault before now cause = cause.fault refl
causes_error NoMemory before now cause = cause.none refl

pub ends_error : (error : IoErr) → (end_by_error error ≡ FailedEnd) ⊎ (end_by_error error ≡ StarvedEnd)
ends_error Fault = inl refl
ends_error NoMemory = inr refl

-- ---- what the door shows

pub gains_part : (bytes : List ℕ) (error : IoErr) (old new : DoorState) → (sends : SendsToPeer bytes (Err error) old new)
    → GainsBytes [] sends.part old new
gains_part bytes error old new sends = record {
  newest = sends.newest;
  becomes = record {
    earlier = sends.becomes.earlier;
    were = sends.becomes.were;
    are = sends.becomes.are ∙ ap (λ xs. sends.becomes.earlier ++ (record sends.newest { received = xs; sent = sends.newest.sent ++ sends.part }) ∷ [])
        (sym (append-nil sends.newest.received));
    is_open = sends.becomes.is_open;
    is_closed = sends.becomes.is_closed;
  };
  next = λ begins. (begins.0, begins.1 ∙ ap (λ xs. xs ++ begins.0) (sym (append-nil sends.newest.received)));
}

pub gains_sent : (bytes : List ℕ) (old new : DoorState) → (sends : SendsToPeer bytes (Ok tt) old new) → GainsBytes [] bytes old new
gains_sent bytes old new sends = record {
  newest = sends.newest;
  becomes = record {
    earlier = sends.becomes.earlier;
    were = sends.becomes.were;
    are = sends.becomes.are
        ∙ ap (λ xs. sends.becomes.earlier ++ (record sends.newest { sent = sends.newest.sent ++ xs }) ∷ []) sends.whole
        ∙ ap (λ xs. sends.becomes.earlier ++ (record sends.newest { received = xs; sent = sends.newest.sent ++ bytes }) ∷ []) (sym (append-nil sends.newest.received));
    is_open = sends.becomes.is_open;
    is_closed = sends.becomes.is_closed;
  };
  next = λ begins. (begins.0, begins.1 ∙ ap (λ xs. xs ++ begins.0) (sym (append-nil sends.newest.received)));
}

-- behind the answer the stream received and sent these
pub gains_all : (tells : Bool) (bytes : List ℕ) (put : ℕ) (fails : Bool) (old new last : DoorState) → (sends : SendsToPeer bytes (Ok tt) old new) → old.is_open ≡ true → IsTrue tells
    → ∥ (IsTrue tells → IsFurther (front_of new.connections) (last_of new.connections) new.is_closed put fails last) ∥₁
    → GainsBytes (received_since (last_of new.connections) last) (bytes ++ sent_since (last_of new.connections) last) old last
gains_all tells bytes put fails old new last sends opened e held =
    let after = record sends.newest { sent = sends.newest.sent ++ sends.part } in
    let ends = ends_of sends.becomes.earlier after in
    let b = last_of new.connections in
    let b_is : b ≡ after = ap last_of sends.becomes.are ∙ ends.1 in
    let front_is : front_of new.connections ≡ sends.becomes.earlier = ap front_of sends.becomes.are ∙ ends.0 in
    let got = received_since b last in
    let out = sent_since b last in
    let n = sends.newest in
    let target : Connection = record n { received = n.received ++ got; sent = n.sent ++ (bytes ++ out) } in
    let received_is : b.received ≡ n.received = ap (λ c. c.received) b_is in
    let sent_is : b.sent ≡ n.sent ++ bytes = ap (λ c. c.sent) b_is ∙ ap (λ xs. n.sent ++ xs) sends.whole in
    let whole_is : b.whole ≡ n.whole = ap (λ c. c.whole) b_is in
    record {
      newest = n;
      becomes = record {
        earlier = sends.becomes.earlier;
        were = sends.becomes.were;
        are = ∥∥₁_elim held (same_connections _ _) (λ far.
            let f = far e in
            let last_is : last_of last.connections ≡ target = fields_are (last_of last.connections) target
            (f.received ∙ ap (λ xs. xs ++ got) received_is)
            (f.sent ∙ ap (λ xs. xs ++ out) sent_is ∙ append_assoc n.sent bytes out)
            (f.whole ∙ whole_is) in
            f.connections ∙ ap (λ xs. xs ++ last_of last.connections ∷ []) front_is ∙ ap (λ c. sends.becomes.earlier ++ c ∷ []) last_is);
        is_open = ∥∥₁_elim held (Coded-set coded_bool _ _) (λ far. (far e).is_open ∙ sym opened);
        is_closed = ∥∥₁_elim held (Coded-set coded_bool _ _) (λ far. (far e).closed ∙ sends.becomes.is_closed);
      };
      next = λ begins. (
        unread_of b last,
        ∥∥₁_elim held (same_bytes _ _) (λ far.
            let f = far e in
            sym whole_is
            ∙ f.front (begins.0, whole_is ∙ begins.1 ∙ ap (λ xs. xs ++ begins.0) (sym received_is))
            ∙ ap (λ xs. xs ++ unread_of b last) (f.received ∙ ap (λ xs. xs ++ got) received_is)),
      );
    }

pub opened_still : (tells : Bool) (earlier : List Connection) (newest : Connection) (closed : Bool) (put : ℕ) (fails : Bool) (door : DoorState)
    → ∥ (IsTrue tells → IsFurther earlier newest closed put fails door) ∥₁ → IsTrue tells → door.is_open ≡ true
opened_still tells earlier newest closed put fails door held e = ∥∥₁_elim held (Coded-set coded_bool _ _) (λ far. (far e).is_open)

-- all that was sent behind the answer was sent whole
pub put_whole : (tells : Bool) (put : ℕ) (fails : Bool) (middle door : DoorState) → fails ≡ false → IsTrue tells
    → ∥ (IsTrue tells → IsFurther (front_of middle.connections) (last_of middle.connections) middle.is_closed put fails door) ∥₁
    → good_of put (last_of middle.connections) door ≡ sent_since (last_of middle.connections) door
put_whole tells put fails middle door sound e held =
    ∥∥₁_elim held (same_bytes _ _) (λ far. take_all put (sent_since (last_of middle.connections) door) ((far e).put_all sound))

-- of nothing that was sent before, all that was sent is what was sent meanwhile
pub have_whole : (texts : List (List ℕ)) (before more out : List ℕ) → before ≡ [] → out ≡ before ++ more → HaveFrames texts more → HaveFrames texts out
have_whole texts before more out none is have = subst (HaveFrames texts) (sym (is ∙ ap (λ xs. xs ++ more) none)) have

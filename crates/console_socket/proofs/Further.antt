-- What the calls of a door make of its newest connection, since a stream began.
use Rattle.std.proofs.Common.{◌≡◌, ◌≤◌, refl, sym, ap, subst, ◌∙◌, ℕ, Bool, false, List, [], ◌∷◌, ◌++◌, length, drop, take, append_assoc, true≢false}
use Rattle.std.proofs.Math.Seq.{take-length}
use Rattle.std.proofs.lemmas.List.{take-append-le}
use Rattle.std.specs.Prelude.{Result}
use Rattle.dl_kinds.specs.declared.outside.IoErr.{IoErr}
use Rattle.door_source.specs.DoorLaws.{NewestIsOne}
use Rattle.door_source.specs.Doors.{Connection, DoorState, Becomes, ReceivesFromPeer, SendsToPeer}
use Rattle.console_socket.specs.Streams.{IsFurther, is_failing, is_over, last_of, received_since, sent_since, unread_of}
use Rattle.console_socket.specs.declared.stream.Trouble.{Trouble}
use Rattle.console_socket.specs.declared.stream.Trouble.TheVariants.{Nothing, Quiet, Ended, Failed, Starved}

-- ---- lists

pub since : (front xs ys : List ℕ) → xs ≡ front ++ ys → drop (length front) xs ≡ ys
since [] xs ys is = is
since (x ∷ front) xs ys is = ap (drop (length (x ∷ front))) is ∙ since front (front ++ ys) ys refl

pub split : (front xs ys : List ℕ) → xs ≡ front ++ ys → xs ≡ front ++ drop (length front) xs
split front xs ys is = is ∙ ap (λ rest. front ++ rest) (sym (since front xs ys is))

last_snoc : (xs : List Connection) (x : Connection) → last_of (xs ++ x ∷ []) ≡ x
last_snoc [] x = refl
last_snoc (y ∷ []) x = refl
last_snoc (y ∷ z ∷ xs) x = last_snoc (z ∷ xs) x

pub take_front : (n : ℕ) (xs ys : List ℕ) → n ≤ length xs → take n (xs ++ ys) ≡ take n xs
take_front n xs ys fits = take-append-le n xs ys fits

pub take_all : (n : ℕ) (xs : List ℕ) → n ≡ length xs → take n xs ≡ xs
take_all n xs is = ap (λ k. take k xs) is ∙ take-length xs

pub not_failing : (trouble : Trouble) → is_over trouble ≡ false → is_failing trouble ≡ false
not_failing Nothing e = refl
not_failing Quiet e = refl
not_failing Ended e = absurd (true≢false e)
not_failing Failed e = absurd (true≢false e)
not_failing Starved e = absurd (true≢false e)

-- ---- the newest connection changes

module _ (one : NewestIsOne) (earlier : List Connection) (newest : Connection) (closed : Bool) where
  -- it is this one now
  pub gone_on : (put : ℕ) (fails : Bool) (before after : Connection) (old new : DoorState) → IsFurther earlier newest closed put fails old
      → Becomes before after old new
      → (before ≡ last_of old.connections) × (new.connections ≡ earlier ++ after ∷ []) × (last_of new.connections ≡ after)
  gone_on put fails before after old new far becomes =
      let is = one before after (last_of old.connections) earlier old new becomes far.connections in
      (is.0, is.1, ap last_of is.1 ∙ last_snoc earlier after)

  pub received_on : (put : ℕ) (fails : Bool) (count : ℕ) (buffer : List ℕ) (old new : DoorState) → IsFurther earlier newest closed put fails old
      → ReceivesFromPeer count buffer old new
      → IsFurther earlier newest closed put fails new × (unread_of newest old ≡ take count buffer ++ unread_of newest new)
      × (sent_since newest new ≡ sent_since newest old)
  received_on put fails count buffer old new far received =
      let piece = take count buffer in
      let gone = gone_on put fails received.newest _ old new far received.becomes in
      let b = last_of old.connections in
      let rl : (last_of new.connections).received ≡ b.received ++ piece =
      ap (λ c. c.received) gone.2 ∙ ap (λ c. c.received ++ piece) gone.0 in
      let sl : (last_of new.connections).sent ≡ b.sent = ap (λ c. c.sent) gone.2 ∙ ap (λ c. c.sent) gone.0 in
      let wl : (last_of new.connections).whole ≡ newest.whole = ap (λ c. c.whole) gone.2 ∙ ap (λ c. c.whole) gone.0 ∙ far.whole in
      let whole : newest.whole ≡ (b.received ++ piece) ++ received.rest =
      sym far.whole ∙ sym (ap (λ c. c.whole) gone.0) ∙ received.next ∙ ap (λ c. c.received ++ piece ++ received.rest) gone.0 in
      let sent_is : sent_since newest new ≡ sent_since newest old = ap (drop (length newest.sent)) sl in
      let right : newest.whole ≡ (last_of new.connections).received ++ received.rest = whole ∙ ap (λ xs. xs ++ received.rest) (sym rl) in
      let further : IsFurther earlier newest closed put fails new = record {
        connections = gone.1 ∙ ap (λ c. earlier ++ c ∷ []) (sym gone.2);
        is_open = received.becomes.is_open ∙ far.is_open;
        closed = received.becomes.is_closed ∙ far.closed;
        received = split newest.received (last_of new.connections).received (received_since newest old ++ piece)
            (rl ∙ ap (λ xs. xs ++ piece) far.received ∙ append_assoc newest.received (received_since newest old) piece);
        sent = sl ∙ far.sent ∙ ap (λ xs. newest.sent ++ xs) (sym sent_is);
        whole = wl;
        front = λ _. split (last_of new.connections).received newest.whole received.rest right;
        put_fits = subst (λ xs. put ≤ length xs) (sym sent_is) far.put_fits;
        put_all = λ no. far.put_all no ∙ ap length (sym sent_is);
      } in
      let link : unread_of newest old ≡ piece ++ unread_of newest new =
      since b.received newest.whole (piece ++ received.rest) (whole ∙ append_assoc b.received piece received.rest)
      ∙ ap (λ xs. piece ++ xs) (sym (since (last_of new.connections).received newest.whole received.rest right)) in
      (further, link, sent_is)

  pub sent_on : (put : ℕ) (fails : Bool) (put' : ℕ) (fails' : Bool) (bytes : List ℕ) (result : Result (Unit {0}) IoErr) (old new : DoorState)
      → IsFurther earlier newest closed put fails old → (sends : SendsToPeer bytes result old new)
      → put' ≤ length (sent_since newest old ++ sends.part) → (fails' ≡ false → put' ≡ length (sent_since newest old ++ sends.part))
      → IsFurther earlier newest closed put' fails' new × (unread_of newest new ≡ unread_of newest old)
      × (sent_since newest new ≡ sent_since newest old ++ sends.part)
  sent_on put fails put' fails' bytes result old new far sends fits all =
      let part = sends.part in
      let gone = gone_on put fails sends.newest _ old new far sends.becomes in
      let b = last_of old.connections in
      let rl : (last_of new.connections).received ≡ b.received = ap (λ c. c.received) gone.2 ∙ ap (λ c. c.received) gone.0 in
      let sl : (last_of new.connections).sent ≡ b.sent ++ part = ap (λ c. c.sent) gone.2 ∙ ap (λ c. c.sent ++ part) gone.0 in
      let wl : (last_of new.connections).whole ≡ newest.whole = ap (λ c. c.whole) gone.2 ∙ ap (λ c. c.whole) gone.0 ∙ far.whole in
      let sent_whole : (last_of new.connections).sent ≡ newest.sent ++ (sent_since newest old ++ part) =
      sl ∙ ap (λ xs. xs ++ part) far.sent ∙ append_assoc newest.sent (sent_since newest old) part in
      let sent_is : sent_since newest new ≡ sent_since newest old ++ part = since newest.sent (last_of new.connections).sent _ sent_whole in
      let unread_is : unread_of newest new ≡ unread_of newest old = ap (λ xs. drop (length xs) newest.whole) rl in (
        record {
          connections = gone.1 ∙ ap (λ c. earlier ++ c ∷ []) (sym gone.2);
          is_open = sends.becomes.is_open ∙ far.is_open;
          closed = sends.becomes.is_closed ∙ far.closed;
          received = rl ∙ far.received ∙ ap (λ xs. newest.received ++ drop (length newest.received) xs) (sym rl);
          sent = split newest.sent (last_of new.connections).sent _ sent_whole;
          whole = wl;
          front = λ begins. far.front begins ∙ ap (λ xs. xs ++ drop (length xs) newest.whole) (sym rl);
          put_fits = subst (λ xs. put' ≤ length xs) (sym sent_is) fits;
          put_all = λ no. all no ∙ ap length (sym sent_is);
        },
        unread_is,
        sent_is,
      )

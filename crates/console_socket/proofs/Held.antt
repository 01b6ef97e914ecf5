-- What a stream holds of its door, whether that tells or not.
use Rattle.std.proofs.Common.{arith, ◌≡◌, ◌≤◌, ◌<◌, ◌+◌, ◌-◌, ◌^◌, min, refl, sym, ap, subst, ◌∙◌, ℕ, Bool, true, false, List, [], ◌∷◌, ◌++◌, length, drop, take, append_assoc, true≢false}
use Rattle.std.proofs.Math.Logic.{∥∥₁_elim, ∥∥₁_map}
use Rattle.std.proofs.Math.Seq.{take-length}
use Rattle.std.proofs.lemmas.List.{length-append, length-drop, take-append-drop}
use Rattle.tungstenite.proofs.SocketLemmas.{drop-drop, drop-past}
use Rattle.std.specs.Coded.{Coded-set, coded_list, coded_ℕ, coded_bool}
use Rattle.std.specs.Io.KnownBytes.{Appends, Consumes, Keeps}
use Rattle.std.specs.Prelude.{◌==◌, nat_lt, not, IsTrue, Ok, Err}
use Rattle.dl_kinds.specs.Causes.{HasCause}
use Rattle.dl_kinds.specs.Counts.{Rose}
use Rattle.dl_kinds.specs.declared.outside.IoErr.{IoErr}
use Rattle.dl_kinds.specs.declared.outside.IoErr.TheVariants.{Fault, NoMemory}
use Rattle.door_source.specs.DoorLaws.{NewestIsOne}
use Rattle.door_source.specs.Doors.{Connection, DoorState, ReceivesFromPeer, SendsToPeer}
use Rattle.console_socket.proofs.Further.{received_on, sent_on, take_all, take_front}
use Rattle.console_socket.specs.Streams.{IsFurther, counts_as, good_of, is_failing, is_over, known_if, left_of_stream, marked_before, marked_behind, sent_since, trouble_by, unread_of}
use Rattle.console_socket.specs.declared.stream.Trouble.{Trouble}
use Rattle.console_socket.specs.declared.stream.Trouble.TheVariants.{Nothing, Quiet, Ended, Failed, Starved}

-- ---- known bytes

if_consumes : (tells : Bool) (xs ys got : List ℕ) → (IsTrue tells → xs ≡ got ++ ys) → Consumes (known_if tells xs) (known_if tells ys) got
if_consumes true xs ys got is = is refl
if_consumes false xs ys got is = tt

if_appends : (tells : Bool) (xs ys sent : List ℕ) → (IsTrue tells → ys ≡ xs ++ sent) → Appends (known_if tells xs) (known_if tells ys) sent
if_appends true xs ys sent is = is refl
if_appends false xs ys sent is = tt

if_keeps : (tells : Bool) (xs ys : List ℕ) → (IsTrue tells → ys ≡ xs) → Keeps (known_if tells xs) (known_if tells ys)
if_keeps true xs ys is = is refl
if_keeps false xs ys is = tt

marked : (piece l l' g g' : List ℕ) → l ≡ piece ++ l' → g' ≡ g → marked_behind l g ≡ piece ++ marked_behind l' g'
marked piece l l' g g' left good =
    ap (λ xs. marked_behind xs g) left
    ∙ ap (λ xs. xs ++ length g ∷ []) (append_assoc piece l' g)
    ∙ append_assoc piece (l' ++ g) (length g ∷ [])
    ∙ ap (λ xs. piece ++ marked_behind l' xs) (sym good)

grown : (l l' g g' bytes : List ℕ) → l' ≡ l → g' ≡ g ++ bytes → marked_before l' g' ≡ marked_before l g ++ bytes
grown l l' g g' bytes left good =
    ap (λ xs. marked_before xs g') left
    ∙ ap (λ xs. length l ∷ (l ++ xs)) good
    ∙ ap (λ xs. length l ∷ xs) (sym (append_assoc l g bytes))

same_bytes : (xs ys : List ℕ) → IsProp (xs ≡ ys)
same_bytes xs ys = Coded-set (coded_list coded_ℕ) xs ys

pub given_some : (first : List ℕ) (at count room : ℕ) → at < length first → (room == 0) ≡ false
    → count ≡ min (length (take (length first - at) (drop at first))) room → count ≡ 0 → ⊥
given_some first at count room fits some is none =
    let len : length (take (length first - at) (drop at first)) ≡ length first - at =
    ap length (take_all (length first - at) (drop at first) (sym (length-drop at first))) ∙ length-drop at first in
    grind arith

-- ---- the count of faults

equal_is : (a b : ℕ) → a ≡ b → (a == b) ≡ true
equal_is a b e = grind arith

is_equal : (a b : ℕ) → (a == b) ≡ true → a ≡ b
is_equal a b e = grind arith

stood : (trouble : Trouble) (before now : ℕ) → is_over trouble ≡ false → counts_as trouble before now ≡ true → now ≡ before
stood Nothing before now over counts = is_equal now before counts
stood Quiet before now over counts = is_equal now before counts
stood Ended before now over counts = absurd (true≢false over)
stood Failed before now over counts = absurd (true≢false over)
stood Starved before now over counts = absurd (true≢false over)

pub counts_on : (trouble : Trouble) (before now now' : ℕ) → is_over trouble ≡ false → counts_as trouble before now ≡ true → now' ≡ now
    → (now' == before) ≡ true
counts_on trouble before now now' over counts same = equal_is now' before (same ∙ stood trouble before now over counts)

rose_is : (before now : ℕ) → Rose before now → not (nat_lt now (min (before + 1) (2 ^ 64 - 1))) ≡ true
rose_is before now rose = grind arith

pub counts_err : {T : Type 0} (trouble : Trouble) (before now now' : ℕ) (error : IoErr) → is_over trouble ≡ false → counts_as trouble before now ≡ true
    → HasCause {T = T} now now' (Err error) → counts_as (trouble_by error) before now' ≡ true
counts_err trouble before now now' Fault over counts cause =
    rose_is before now' (subst (λ n. Rose n now') (stood trouble before now over counts) (cause.fault refl))
counts_err trouble before now now' NoMemory over counts cause = counts_on trouble before now now' over counts (cause.none refl)

pub fails_by : (error : IoErr) → is_failing (trouble_by error) ≡ true
fails_by Fault = refl
fails_by NoMemory = refl

-- ---- what is held

module _ (one : NewestIsOne) (tells : Bool) (earlier : List Connection) (newest : Connection) (closed : Bool) where
  abbrev pub Held : ℕ → Bool → DoorState → Type 0
  Held put fails door = ∥ (IsTrue tells → IsFurther earlier newest closed put fails door) ∥₁

  pub is_opened : (put : ℕ) (fails : Bool) (door : DoorState) → Held put fails door → IsTrue tells → door.is_open ≡ true
  is_opened put fails door held e = ∥∥₁_elim held (Coded-set coded_bool door.is_open true) (λ far. (far e).is_open)

  loose : (put : ℕ) (fails fails' : Bool) (door : DoorState) → fails ≡ false → IsFurther earlier newest closed put fails door
      → IsFurther earlier newest closed put fails' door
  loose put fails fails' door never far = record {
    connections = far.connections;
    is_open = far.is_open;
    closed = far.closed;
    received = far.received;
    sent = far.sent;
    whole = far.whole;
    front = far.front;
    put_fits = far.put_fits;
    put_all = λ _. far.put_all never;
  }

  pub held_same : (put : ℕ) (fails fails' : Bool) (old new : DoorState) → fails ≡ false → (IsTrue tells → new ≡ old)
      → Held put fails old → Held put fails' new
  held_same put fails fails' old new never same held =
      ∥∥₁_map held (λ far e. subst (IsFurther earlier newest closed put fails') (sym (same e)) (loose put fails fails' old never (far e)))

  pub held_received : (put : ℕ) (fails fails' : Bool) (count : ℕ) (buffer : List ℕ) (old new : DoorState) → fails ≡ false
      → (IsTrue tells → ReceivesFromPeer count buffer old new) → Held put fails old → Held put fails' new
  held_received put fails fails' count buffer old new never received held =
      ∥∥₁_map held (λ far e. loose put fails fails' new never (received_on one earlier newest closed put fails count buffer old new (far e) (received e)).0)

  pub held_sent : (put : ℕ) (fails fails' : Bool) (put' : ℕ) (bytes : List ℕ) (old new : DoorState) → fails ≡ false → put' ≡ put + length bytes
      → (IsTrue tells → SendsToPeer bytes (Ok tt) old new) → Held put fails old → Held put' fails' new
  held_sent put fails fails' put' bytes old new never is sends held =
      ∥∥₁_map held (λ far e.
      let all : put' ≡ length (sent_since newest old ++ (sends e).part) =
      omega (arith, is, (far e).put_all never, ap length (sends e).whole, length-append (sent_since newest old) (sends e).part) in
      (sent_on one earlier newest closed put fails put' fails' bytes (Ok tt) old new (far e) (sends e) (omega (arith, all)) (λ _. all)).0)

  pub held_part : (put : ℕ) (fails : Bool) (bytes : List ℕ) (error : IoErr) (old new : DoorState)
      → (IsTrue tells → SendsToPeer bytes (Err error) old new) → Held put fails old → Held put true new
  held_part put fails bytes error old new sends held =
      ∥∥₁_map held (λ far e.
      (sent_on one earlier newest closed put fails put true bytes (Err error) old new (far e) (sends e)
      (omega (arith, (far e).put_fits, length-append (sent_since newest old) (sends e).part)) (λ never. absurd (true≢false never))).0)

  -- ---- what a call did

  pub consumes : (put : ℕ) (fails : Bool) (first : List ℕ) (at count : ℕ) (buffer : List ℕ) (old new : DoorState) → drop at first ≡ []
      → (IsTrue tells → ReceivesFromPeer count buffer old new) → Held put fails old
      → Consumes (known_if tells (marked_behind (left_of_stream first at newest old) (good_of put newest old)))
      (known_if tells (marked_behind (left_of_stream first at newest new) (good_of put newest new))) (take count buffer)
  consumes put fails first at count buffer old new none received held =
      if_consumes tells _ _ _ (λ e. ∥∥₁_elim held (same_bytes _ _) (λ far.
      let on = received_on one earlier newest closed put fails count buffer old new (far e) (received e) in
      let left = ap (λ xs. xs ++ unread_of newest old) none ∙ on.1 ∙ ap (λ xs. take count buffer ++ (xs ++ unread_of newest new)) (sym none) in
      marked (take count buffer) (left_of_stream first at newest old) (left_of_stream first at newest new) (good_of put newest old)
      (good_of put newest new) left (ap (take put) on.2)))

  pub appends : (put : ℕ) (fails : Bool) (put' : ℕ) (first : List ℕ) (at : ℕ) (bytes : List ℕ) (old new : DoorState) → fails ≡ false
      → put' ≡ put + length bytes → (IsTrue tells → SendsToPeer bytes (Ok tt) old new) → Held put fails old
      → Appends (known_if tells (marked_before (left_of_stream first at newest old) (good_of put newest old)))
      (known_if tells (marked_before (left_of_stream first at newest new) (good_of put' newest new))) (take (length bytes) bytes)
  appends put fails put' first at bytes old new never is sends held =
      if_appends tells _ _ _ (λ e. ∥∥₁_elim held (same_bytes _ _) (λ far.
      let all : put' ≡ length (sent_since newest old ++ (sends e).part) =
      omega (arith, is, (far e).put_all never, ap length (sends e).whole, length-append (sent_since newest old) (sends e).part) in
      let on = sent_on one earlier newest closed put fails put' false bytes (Ok tt) old new (far e) (sends e) (omega (arith, all)) (λ _. all) in
      let good : good_of put' newest new ≡ good_of put newest old ++ bytes =
      ap (take put') on.2 ∙ take_all put' (sent_since newest old ++ (sends e).part) all
      ∙ ap (λ xs. sent_since newest old ++ xs) (sends e).whole
      ∙ ap (λ xs. xs ++ bytes) (sym (take_all put (sent_since newest old) ((far e).put_all never))) in
      grown (left_of_stream first at newest old) (left_of_stream first at newest new) (good_of put newest old) (good_of put' newest new) bytes
      (ap (λ xs. drop at first ++ xs) on.1) good
      ∙ ap (λ xs. marked_before (left_of_stream first at newest old) (good_of put newest old) ++ xs) (sym (take-length bytes))))

  pub keeps_part : (put : ℕ) (fails : Bool) (first : List ℕ) (at : ℕ) (bytes : List ℕ) (error : IoErr) (old new : DoorState)
      → (IsTrue tells → SendsToPeer bytes (Err error) old new) → Held put fails old
      → Keeps (known_if tells (marked_before (left_of_stream first at newest old) (good_of put newest old)))
      (known_if tells (marked_before (left_of_stream first at newest new) (good_of put newest new)))
  keeps_part put fails first at bytes error old new sends held =
      if_keeps tells _ _ (λ e. ∥∥₁_elim held (same_bytes _ _) (λ far.
      let on = sent_on one earlier newest closed put fails put true bytes (Err error) old new (far e) (sends e)
      (omega (arith, (far e).put_fits, length-append (sent_since newest old) (sends e).part)) (λ never. absurd (true≢false never)) in
      let good : good_of put newest new ≡ good_of put newest old =
      ap (take put) on.2 ∙ take_front put (sent_since newest old) (sends e).part (far e).put_fits in
      ap (λ xs. marked_before (drop at first ++ xs) (good_of put newest new)) on.1
      ∙ ap (marked_before (left_of_stream first at newest old)) good))

  pub keeps_left : (put : ℕ) (first : List ℕ) (at : ℕ) (old new : DoorState) → (IsTrue tells → new ≡ old)
      → Keeps (known_if tells (marked_behind (left_of_stream first at newest old) (good_of put newest old)))
      (known_if tells (marked_behind (left_of_stream first at newest new) (good_of put newest new)))
  keeps_left put first at old new same =
      if_keeps tells _ _ (λ e. ap (λ door. marked_behind (left_of_stream first at newest door) (good_of put newest door)) (same e))

  pub keeps_ended : (put : ℕ) (fails : Bool) (first : List ℕ) (at : ℕ) (buffer : List ℕ) (old new : DoorState)
      → drop at first ≡ [] → (IsTrue tells → ReceivesFromPeer 0 buffer old new) → Held put fails old
      → Keeps (known_if tells (marked_behind (left_of_stream first at newest old) (good_of put newest old)))
      (known_if tells (marked_behind (left_of_stream first at newest new) (good_of put newest new)))
  keeps_ended put fails first at buffer old new none received held =
      if_keeps tells _ _ (λ e. ∥∥₁_elim held (same_bytes _ _) (λ far.
      let on = received_on one earlier newest closed put fails 0 buffer old new (far e) (received e) in
      let left : left_of_stream first at newest old ≡ [] ++ left_of_stream first at newest new = ap (λ xs. drop at first ++ xs) on.1 in
      sym (marked [] (left_of_stream first at newest old) (left_of_stream first at newest new) (good_of put newest old)
      (good_of put newest new) left (ap (take put) on.2))))

  -- behind a call that showed the same
  pub consumes_looked : (put : ℕ) (fails : Bool) (first : List ℕ) (at count : ℕ) (buffer : List ℕ) (old looked new : DoorState) → length first ≤ at
      → (IsTrue tells → looked ≡ old) → (IsTrue tells → ReceivesFromPeer count buffer looked new) → Held put fails old
      → Consumes (known_if tells (marked_behind (left_of_stream first at newest old) (good_of put newest old)))
      (known_if tells (marked_behind (left_of_stream first at newest new) (good_of put newest new))) (take count buffer)
  consumes_looked put fails first at count buffer old looked new past same received held =
      consumes put fails first at count buffer old new (drop-past at first past)
      (λ e. subst (λ door. ReceivesFromPeer count buffer door new) (same e) (received e)) held

  pub keeps_looked : (put : ℕ) (fails : Bool) (first : List ℕ) (at count : ℕ) (buffer : List ℕ) (old looked new : DoorState) → length first ≤ at
      → count ≡ 0 → (IsTrue tells → looked ≡ old) → (IsTrue tells → ReceivesFromPeer count buffer looked new) → Held put fails old
      → Keeps (known_if tells (marked_behind (left_of_stream first at newest old) (good_of put newest old)))
      (known_if tells (marked_behind (left_of_stream first at newest new) (good_of put newest new)))
  keeps_looked put fails first at count buffer old looked new past none same received held =
      keeps_ended put fails first at buffer old new (drop-past at first past)
      (λ e. subst (λ door. ReceivesFromPeer 0 buffer door new) (same e) (subst (λ n. ReceivesFromPeer n buffer looked new) none (received e))) held

  -- of the bytes that came before
  pub consumes_first : (put : ℕ) (first : List ℕ) (at count : ℕ) (buffer : List ℕ) (door : DoorState) → at ≤ length first
      → take count buffer ≡ take count (take (length first - at) (drop at first))
      → Consumes (known_if tells (marked_behind (left_of_stream first at newest door) (good_of put newest door)))
      (known_if tells (marked_behind (left_of_stream first (at + count) newest door) (good_of put newest door))) (take count buffer)
  consumes_first put first at count buffer door fits is =
      let whole : take (length first - at) (drop at first) ≡ drop at first = take_all (length first - at) (drop at first) (sym (length-drop at first)) in
      let piece : take count buffer ≡ take count (drop at first) = is ∙ ap (take count) whole in
      let parts : drop at first ≡ take count buffer ++ drop (at + count) first =
      sym (take-append-drop count (drop at first)) ∙ ap (λ xs. xs ++ drop count (drop at first)) (sym piece)
      ∙ ap (λ xs. take count buffer ++ xs) (drop-drop at count first) in
      let left = ap (λ xs. xs ++ unread_of newest door) parts ∙ append_assoc (take count buffer) (drop (at + count) first) (unread_of newest door) in
      if_consumes tells _ _ _ (λ e. marked (take count buffer) (left_of_stream first at newest door) (left_of_stream first (at + count) newest door)
      (good_of put newest door) (good_of put newest door) left refl)

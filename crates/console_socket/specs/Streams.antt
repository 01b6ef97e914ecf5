-- A door's newest connection as a stream.
use Rattle.std.proofs.Common.{rules, refl, sym, ap, ◌∙◌, true≢false, arith, append_assoc}
use Rattle.std.proofs.lemmas.List.{length-append}
use Rattle.std.specs.Prelude.{◌≡◌, ◌≤◌, ℕ, ◌+◌, ◌-◌, ◌^◌, ◌==◌, min, nat_lt, not, Bool, true, false, IsTrue, List, [], ◌∷◌, ◌++◌, length, drop, take, Option, Some, None}
use Rattle.std.specs.Io.KnownBytes.{Appends, Consumes}
use Rattle.dl_kinds.specs.declared.outside.IoErr.{IoErr}
use Rattle.dl_kinds.specs.declared.outside.IoErr.TheVariants.{Fault, NoMemory}
use Rattle.door_source.specs.Doors.{Connection, DoorState, met}
use Rattle.rpc_envelope.specs.Turns.{BeginsWith}
use Rattle.console_socket.specs.declared.stream.Trouble.{Trouble}
use Rattle.console_socket.specs.declared.stream.Trouble.TheVariants.{Nothing, Quiet, Ended, Failed, Starved}

-- ---- the newest connection

abbrev pub last_of : List Connection → Connection
last_of [] = met []
last_of (connection ∷ []) = connection
last_of (connection ∷ other ∷ others) = last_of (other ∷ others)

-- what was received and sent since it was this one, and what its peer has still to send
abbrev pub received_since : Connection → DoorState → List ℕ
received_since newest door = drop (length newest.received) (last_of door.connections).received

abbrev pub sent_since : Connection → DoorState → List ℕ
sent_since newest door = drop (length newest.sent) (last_of door.connections).sent

abbrev pub unread_of : Connection → DoorState → List ℕ
unread_of newest door = drop (length (last_of door.connections).received) newest.whole

-- a call failed, so that what was sent is cut off
abbrev pub is_failing : Trouble → Bool
is_failing Nothing = false
is_failing Quiet = false
is_failing Ended = false
is_failing Failed = true
is_failing Starved = true

abbrev pub is_over : Trouble → Bool
is_over Nothing = false
is_over Quiet = false
is_over Ended = true
is_over Failed = true
is_over Starved = true

abbrev pub trouble_by : IoErr → Trouble
trouble_by Fault = Failed
trouble_by NoMemory = Starved

-- behind these connections the newest one went on from what it was; so many bytes were sent whole, and no others unless a call failed
pub record IsFurther (earlier : List Connection) (newest : Connection) (is_closed : Bool) (put : ℕ) (fails : Bool)
    (door : DoorState) : Type 0 where
  pub connections : door.connections ≡ earlier ++ last_of door.connections ∷ []
  pub is_open : door.is_open ≡ true
  pub closed : door.is_closed ≡ is_closed
  pub received : (last_of door.connections).received ≡ newest.received ++ received_since newest door
  pub sent : (last_of door.connections).sent ≡ newest.sent ++ sent_since newest door
  pub whole : (last_of door.connections).whole ≡ newest.whole
  pub front : BeginsWith newest.whole newest.received → newest.whole ≡ (last_of door.connections).received ++ unread_of newest door
  pub put_fits : put ≤ length (sent_since newest door)
  pub put_all : fails ≡ false → put ≡ length (sent_since newest door)

-- the count of faults rose where a call failed, and else it stands
abbrev pub counts_as : Trouble → ℕ → ℕ → Bool
counts_as Nothing before now = now == before
counts_as Quiet before now = now == before
counts_as Ended before now = now == before
counts_as Failed before now = not (nat_lt now (min (before + 1) (2 ^ 64 - 1)))
counts_as Starved before now = now == before

-- ---- what is left to be read, and what was sent whole

abbrev pub left_of_stream : List ℕ → ℕ → Connection → DoorState → List ℕ
left_of_stream first at newest door = drop at first ++ unread_of newest door

abbrev pub good_of : ℕ → Connection → DoorState → List ℕ
good_of put newest door = take put (sent_since newest door)

abbrev pub known_if : Bool → List ℕ → Option (List ℕ)
known_if true bytes = Some bytes
known_if false bytes = None

-- a list behind another, so that both can be told from the whole
abbrev pub marked_behind : List ℕ → List ℕ → List ℕ
marked_behind left good = left ++ good ++ length good ∷ []

abbrev pub marked_before : List ℕ → List ℕ → List ℕ
marked_before left good = length left ∷ left ++ good

module _ {X : Type 0} (tells : Bool) where
  -- by what a read consumed
  abbrev pub ReadsOn : (X → Option (List ℕ)) → (X → List ℕ) → (X → List ℕ) → Type 0
  ReadsOn remaining left good = (old new : X) (got : List ℕ) → IsTrue tells → Consumes (remaining old) (remaining new) got
      → (left old ≡ got ++ left new) × (good new ≡ good old)

  -- by what a write appended
  abbrev pub WritesOn : (X → Option (List ℕ)) → (X → List ℕ) → (X → List ℕ) → Type 0
  WritesOn contents left good = (old new : X) (sent : List ℕ) → IsTrue tells → Appends (contents old) (contents new) sent
      → (left new ≡ left old) × (good new ≡ good old ++ sent)

-- ---- both can be told

same_length : (xs ys : List ℕ) → length xs ≡ length ys → (us vs : List ℕ) → xs ++ us ≡ ys ++ vs → (xs ≡ ys) × (us ≡ vs)
same_length [] [] len us vs is = (refl, is)
same_length [] (y ∷ ys) len us vs is = search rules
same_length (x ∷ xs) [] len us vs is = search rules
same_length (x ∷ xs) (y ∷ ys) len us vs is =
    let heads : x ≡ y = cc is in
    let tails : xs ++ us ≡ ys ++ vs = cc is in
    let lengths : length xs ≡ length ys = omega (arith, len) in
    let others = same_length xs ys lengths us vs tails in
    (cc (heads, others.0), others.1)

-- ends of the same length
same_end : (xs ys us vs : List ℕ) → length us ≡ length vs → xs ++ us ≡ ys ++ vs → (xs ≡ ys) × (us ≡ vs)
same_end xs ys us vs len is =
    let whole : length (xs ++ us) ≡ length (ys ++ vs) = ap length is in
    same_length xs ys (omega (arith, whole, len, length-append xs us, length-append ys vs)) us vs is

pub reads_on : {X : Type 0} (tells : Bool) (left good : X → List ℕ) → ReadsOn tells (λ x. known_if tells (marked_behind (left x) (good x))) left good
reads_on {X} true left good old new got e consumed =
    let one = consumed ∙ sym (append_assoc got (left new ++ good new) (length (good new) ∷ [])) in
    let ends = same_end (left old ++ good old) (got ++ (left new ++ good new)) (length (good old) ∷ []) (length (good new) ∷ []) refl one in
    let lens : length (good old) ≡ length (good new) = cc ends.1 in
    let two = same_end (left old) (got ++ left new) (good old) (good new) lens (ends.0 ∙ sym (append_assoc got (left new) (good new))) in
    (two.0, sym two.1)
reads_on {X} false left good old new got e consumed = absurd (true≢false (sym e))

pub writes_on : {X : Type 0} (tells : Bool) (left good : X → List ℕ) → WritesOn tells (λ x. known_if tells (marked_before (left x) (good x))) left good
writes_on {X} true left good old new sent e appends =
    let lens : length (left new) ≡ length (left old) = cc appends in
    let rest : left new ++ good new ≡ (left old ++ good old) ++ sent = cc appends in
    same_length (left new) (left old) lens (good new) (good old ++ sent) (rest ∙ append_assoc (left old) (good old) sent)
writes_on {X} false left good old new sent e appends = absurd (true≢false (sym e))

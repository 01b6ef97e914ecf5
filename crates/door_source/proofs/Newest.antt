-- What the calls of a door in memory make of its newest connection.
use Rattle.std.proofs.Common.{◌≡◌, ℕ, ◌<◌, ◌≤◌, ◌+◌, ◌-◌, Bool, true, List, [], ◌∷◌, ◌++◌, length, take, drop, set, get_or, arith, ap, sym, ◌∙◌, refl, subst, append-nil, append_assoc, take-append-drop, Result, Ok, Err}
use Rattle.std.proofs.lemmas.List.{take_more, take_more_set, drop_more, get_or_default}
use Rattle.std.proofs.lemmas.List.Elements.{All-head, All-tail, All-nil, All-cons}
use Rattle.std.specs.Prelude.{All, map}
use Rattle.std.specs.Prelude.{IsErr}
use Rattle.dl_kinds.specs.declared.outside.IoErr.{IoErr}
use Rattle.door_source.specs.Doors.{Connection, DoorState, met, IsUntouched, Meets, Becomes, ReceivesFromPeer, SendsToPeer, left_of}

-- the state of a door at which so many of the clients have come
abbrev pub at_door : List Connection → ℕ → Bool → Bool → DoorState
at_door clients n is_open is_closed = record { connections = take n clients; is_open = is_open; is_closed = is_closed }

before_last : (n : ℕ) → 0 < n → n ≡ n - 1 + 1
before_last n some = omega (arith, some)

pub stood : (clients : List Connection) (n : ℕ) (newest : Connection) → 0 < n → n ≤ length clients → newest ≡ get_or clients (n - 1) newest
    → take n clients ≡ take (n - 1) clients ++ newest ∷ []
stood clients n newest some fits is =
    ap (λ k. take k clients) (before_last n some) ∙ take_more clients (n - 1) newest (omega (arith, some, fits))
    ∙ ap (λ c. take (n - 1) clients ++ c ∷ []) (sym is)

-- the newest client is put anew
pub becomes : (clients : List Connection) (n : ℕ) (before after : Connection) (is_open is_closed : Bool) → 0 < n → n ≤ length clients
    → before ≡ get_or clients (n - 1) before
    → Becomes before after (at_door clients n is_open is_closed) (at_door (set clients (n - 1) after) n is_open is_closed)
becomes clients n before after is_open is_closed some fits is = record {
  earlier = take (n - 1) clients;
  were = stood clients n before some fits is;
  are = ap (λ k. take k (set clients (n - 1) after)) (before_last n some) ∙ take_more_set clients (n - 1) after (omega (arith, some, fits));
  is_open = refl;
  is_closed = refl;
}

-- nothing was sent to it
pub stays : (clients : List Connection) (n : ℕ) (newest : Connection) (is_open is_closed : Bool) → 0 < n → n ≤ length clients
    → newest ≡ get_or clients (n - 1) newest
    → Becomes newest (record newest { sent = newest.sent ++ [] }) (at_door clients n is_open is_closed) (at_door clients n is_open is_closed)
stays clients n newest is_open is_closed some fits is =
    let stand = stood clients n newest some fits is in
    record {
      earlier = take (n - 1) clients;
      were = stand;
      are = stand ∙ ap (λ sent. take (n - 1) clients ++ (record newest { sent = sent }) ∷ []) (sym (append-nil newest.sent));
      is_open = refl;
      is_closed = refl;
    }

pub receives : (clients : List Connection) (n count : ℕ) (buffer : List ℕ) (before : Connection) (is_open is_closed : Bool)
    → 0 < n → n ≤ length clients → before ≡ get_or clients (n - 1) before
    → before.whole ≡ before.received ++ left_of before
    → take count buffer ≡ take count (left_of before) → (count ≡ 0 → left_of before ≡ [])
    → ReceivesFromPeer count buffer (at_door clients n is_open is_closed)
    (at_door (set clients (n - 1) (record before { received = before.received ++ take count buffer })) n is_open is_closed)
receives clients n count buffer before is_open is_closed some fits is front same end = record {
  newest = before;
  becomes = becomes clients n before _ is_open is_closed some fits is;
  rest = drop count (left_of before);
  next = front
      ∙ ap (λ left. before.received ++ left) (sym (take-append-drop count (left_of before)))
      ∙ sym (append_assoc before.received (take count (left_of before)) (drop count (left_of before)))
      ∙ ap (λ part. before.received ++ part ++ drop count (left_of before)) (sym same);
  end = λ none. sym (front ∙ ap (λ left. before.received ++ left) (end none) ∙ append-nil before.received);
}

-- ---- sends

pub sends : (clients : List Connection) (n : ℕ) (bytes : List ℕ) (before : Connection) (is_open is_closed : Bool)
    → 0 < n → n ≤ length clients → before ≡ get_or clients (n - 1) before
    → SendsToPeer bytes (Ok tt) (at_door clients n is_open is_closed)
    (at_door (set clients (n - 1) (record before { sent = before.sent ++ bytes })) n is_open is_closed)
sends clients n bytes before is_open is_closed some fits is = record {
  newest = before;
  part = bytes;
  becomes = becomes clients n before _ is_open is_closed some fits is;
  rest = [];
  front = sym (append-nil bytes);
  whole = refl;
  none = λ wrong. cc;
}

pub sends_none : (clients : List Connection) (n : ℕ) (bytes : List ℕ) (result : Result (Unit {0}) IoErr) (before : Connection) (is_open is_closed : Bool)
    → 0 < n → n ≤ length clients → before ≡ get_or clients (n - 1) before → IsErr result
    → SendsToPeer bytes result (at_door clients n is_open is_closed) (at_door clients n is_open is_closed)
sends_none clients n bytes (Ok done) before is_open is_closed some fits is err = cc
sends_none clients n bytes (Err e) before is_open is_closed some fits is err = record {
  newest = before;
  part = [];
  becomes = stays clients n before is_open is_closed some fits is;
  rest = bytes;
  front = refl;
  whole = tt;
  none = λ _. refl;
}

-- the same where the client is put back as it was
pub sends_unmoved : (clients : List Connection) (n : ℕ) (bytes : List ℕ) (result : Result (Unit {0}) IoErr) (before : Connection) (is_open is_closed : Bool)
    → 0 < n → n ≤ length clients → before ≡ get_or clients (n - 1) before → IsErr result
    → SendsToPeer bytes result (at_door clients n is_open is_closed) (at_door (set clients (n - 1) before) n is_open is_closed)
sends_unmoved clients n bytes result before is_open is_closed some fits is err =
    let same : take n clients ≡ take n (set clients (n - 1) before) =
    stood clients n before some fits is
    ∙ sym (ap (λ k. take k (set clients (n - 1) before)) (before_last n some) ∙ take_more_set clients (n - 1) before (omega (arith, some, fits))) in
    let P : List Connection → Type 0 = λ connections. SendsToPeer bytes result (at_door clients n is_open is_closed)
    (record { connections = connections; is_open = is_open; is_closed = is_closed }) in
    subst P same (sends_none clients n bytes result before is_open is_closed some fits is err)

-- ---- accept

-- whatever stands for no element, the element is found
pub get_or-any : (clients : List Connection) (i : ℕ) (d : Connection) → i < length clients
    → get_or clients i d ≡ get_or clients i (get_or clients i d)
get_or-any clients i d fits = get_or_default clients i d (get_or clients i d) fits

-- the client that comes next
pub next_fresh : (clients : List Connection) (n : ℕ) (d : Connection) → n < length clients → All IsUntouched (drop n clients)
    → IsUntouched (get_or clients n d) × All IsUntouched (drop (n + 1) clients)
next_fresh clients n d fits fresh =
    let all : All IsUntouched (get_or clients n d ∷ drop (n + 1) clients) = subst (All IsUntouched) (drop_more clients n d fits) fresh in
    (All-head IsUntouched (get_or clients n d) (drop (n + 1) clients) all, All-tail IsUntouched (get_or clients n d) (drop (n + 1) clients) all)

pub meets : (clients : List Connection) (n : ℕ) (d : Connection) (was_open is_closed : Bool) → n < length clients
    → All IsUntouched (drop n clients)
    → Meets (get_or clients n d).whole (at_door clients n was_open is_closed) (at_door clients (n + 1) true is_closed)
meets clients n d was_open is_closed fits fresh = record {
  connections = take_more clients n d fits ∙ ap (λ c. take n clients ++ c ∷ []) (next_fresh clients n d fits fresh).0;
  is_open = refl;
  is_closed = refl;
}

-- all that are made so are fresh
pub all_fresh : (wholes : List (List ℕ)) → All IsUntouched (map met wholes)
all_fresh [] = All-nil IsUntouched
all_fresh (whole ∷ wholes) = All-cons IsUntouched (met whole) (map met wholes) refl (all_fresh wholes)

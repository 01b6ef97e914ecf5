-- What the newest connection gets.
use Rattle.std.proofs.Common.{◌≡◌, ℕ, List, [], ◌∷◌, ◌++◌, append_assoc, append-nil, length, length-append, take, true, refl, ap, sym, ◌∙◌, subst, arith}
use Rattle.std.proofs.lemmas.Bool.{eqb-true}
use Rattle.std.specs.Prelude.{◌==◌}
use Rattle.door_source.specs.DoorLaws.{NewestIsOne}
use Rattle.door_source.specs.Doors.{Connection, DoorState, Becomes, ReceivesFromPeer}
use Rattle.range_origin.specs.Talking.{Grows, GrowsTo, with_more}

-- a connection gets nothing
more_none : (c : Connection) → c ≡ with_more c [] []
more_none c = λ i. record {
  received = sym (append-nil c.received) i;
  sent = sym (append-nil c.sent) i;
  whole = c.whole;
}

pub grows_none : (s : DoorState) → Grows ⊥ [] [] s s
grows_none s = record {
  grows = λ earlier c rest stands front. record {
    are = stands ∙ ap (λ c. earlier ++ c ∷ []) (more_none c);
    rest = rest;
    front = front ∙ ap (λ received. received ++ rest) (sym (append-nil c.received));
    none_left = λ no. absurd no;
  };
  is_open = refl;
  is_closed = refl;
}

pub grows_still : (s t : DoorState) → t ≡ s → Grows ⊥ [] [] s t
grows_still s t same = subst (Grows ⊥ [] [] s) (sym same) (grows_none s)

-- .. and then more
pub grows_both : (all : Type 0) (r1 s1 r2 s2 : List ℕ) (s t u : DoorState) → Grows ⊥ r1 s1 s t → Grows all r2 s2 t u
    → Grows all (r1 ++ r2) (s1 ++ s2) s u
grows_both all r1 s1 r2 s2 s t u first then = record {
  grows = λ earlier c rest stands front. both earlier c (first.grows earlier c rest stands front);
  is_open = then.is_open ∙ first.is_open;
  is_closed = then.is_closed ∙ first.is_closed;
}
  where
    both : (earlier : List Connection) (c : Connection) → GrowsTo ⊥ earlier c r1 s1 t
        → GrowsTo all earlier c (r1 ++ r2) (s1 ++ s2) u
    both earlier c one =
        let two = then.grows earlier (with_more c r1 s1) one.rest one.are one.front in
        let received = append_assoc c.received r1 r2 in
        let sent = append_assoc c.sent s1 s2 in
        record {
          are = two.are ∙ (λ i. earlier ++ record { received = received i; sent = sent i; whole = c.whole } ∷ []);
          rest = two.rest;
          front = two.front ∙ ap (λ r. r ++ two.rest) received;
          none_left = two.none_left;
        }

-- it was sent this part
pub grows_sent : NewestIsOne → (newest : Connection) (part : List ℕ) (s t : DoorState)
    → Becomes newest (record newest { sent = newest.sent ++ part }) s t → Grows ⊥ [] part s t
grows_sent one newest part s t becomes = record {
  grows = λ earlier c rest stands front.
      let same = one newest (record newest { sent = newest.sent ++ part }) c earlier s t becomes stands in
      record {
        are = same.1 ∙ (λ i. earlier ++ record { received = sym (append-nil (same.0 i).received) i; sent = (same.0 i).sent ++ part; whole = (same.0 i).whole } ∷ []);
        rest = rest;
        front = front ∙ ap (λ received. received ++ rest) (sym (append-nil c.received));
        none_left = λ no. absurd no;
      };
  is_open = becomes.is_open;
  is_closed = becomes.is_closed;
}

-- less is asked for
pub grows_weaker : (all less : Type 0) (received sent : List ℕ) (s t : DoorState) → (less → all) → Grows all received sent s t
    → Grows less received sent s t
grows_weaker all less received sent s t so grows = record {
  grows = λ earlier c rest stands front.
      let to = grows.grows earlier c rest stands front in
      record { are = to.are; rest = to.rest; front = to.front; none_left = λ asked. to.none_left (so asked) };
  is_open = grows.is_open;
  is_closed = grows.is_closed;
}

-- .. and then a part was sent
pub grows_then_sent : (all : Type 0) (received sent part : List ℕ) (s t u : DoorState) → Grows all received sent s t
    → Grows ⊥ [] part t u → Grows all received (sent ++ part) s u
grows_then_sent all received sent part s t u first then = record {
  grows = λ earlier c rest stands front. both earlier c (first.grows earlier c rest stands front);
  is_open = then.is_open ∙ first.is_open;
  is_closed = then.is_closed ∙ first.is_closed;
}
  where
    both : (earlier : List Connection) (c : Connection) → GrowsTo all earlier c received sent t
        → GrowsTo all earlier c received (sent ++ part) u
    both earlier c one =
        let two = then.grows earlier (with_more c received sent) one.rest one.are one.front in
        let same = append-nil (c.received ++ received) in
        let behind = append_assoc c.sent sent part in
        record {
          are = two.are ∙ (λ i. earlier ++ record { received = same i; sent = behind i; whole = c.whole } ∷ []);
          rest = one.rest;
          front = one.front;
          none_left = one.none_left;
        }

nil_of : (xs : List ℕ) → length xs ≡ 0 → xs ≡ []
nil_of [] none = refl
nil_of (x ∷ xs) some = absurd (omega (arith, some))

none_left : (count : ℕ) (buffer : List ℕ) (s t : DoorState) (receives : ReceivesFromPeer count buffer s t) → (count == 0) ≡ true
    → receives.rest ≡ []
none_left count buffer s t receives over =
    let newest = receives.newest in
    let piece = take count buffer in
    let all = ap length (receives.end (eqb-true count 0 over) ∙ receives.next) in
    let sum = length-append (newest.received ++ piece) receives.rest in
    let both = length-append newest.received piece in
    nil_of receives.rest (omega (arith, all, sum, both))

-- it received the first bytes of the buffer
pub grows_received : NewestIsOne → (count : ℕ) (buffer : List ℕ) (s t : DoorState) → ReceivesFromPeer count buffer s t
    → Grows ((count == 0) ≡ true) (take count buffer) [] s t
grows_received one count buffer s t receives =
    let piece : List ℕ = take count buffer in
    let newest : Connection = receives.newest in
    let after : Connection = record newest { received = newest.received ++ piece } in
    record {
      grows = λ earlier c rest stands front.
          let same = one newest after c earlier s t receives.becomes stands in
          record {
            are = same.1
                ∙ (λ i. earlier ++ record { received = (same.0 i).received ++ piece; sent = sym (append-nil (same.0 i).sent) i; whole = (same.0 i).whole } ∷ []);
            rest = receives.rest;
            front = ap (λ (d : Connection). d.whole) (sym same.0)
                ∙ (receives.next ∙ ap (λ (d : Connection). (d.received ++ piece) ++ receives.rest) same.0);
            none_left = none_left count buffer s t receives;
          };
      is_open = receives.becomes.is_open;
      is_closed = receives.becomes.is_closed;
    }

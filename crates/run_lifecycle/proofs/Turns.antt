-- Lists of turns, the oldest first, and the events that they brought.
use Rattle.std.proofs.Common.{◌≡◌, ⊎_elim, List, [], ◌∷◌, ◌++◌, refl, sym, ap, ◌∙◌, subst, arith, append_assoc}
use Rattle.std.specs.Prelude.{Contains, reverse}
use Rattle.std.proofs.lemmas.List.{reverse-append, reverse-reverse}
use Rattle.std.proofs.lemmas.List.Elements.{Contains-append_cases, Contains-append_left, Contains-append_right, Contains-push_cases}
use Rattle.engine_turns.specs.Told.{AllTurns, RunTurn}
use Rattle.machine_core.specs.declared.events.Event.{Event}
use Rattle.turn_desk.specs.Turns.{IsLater, events_of, last_mark}
use Rattle.turn_desk.specs.declared.turn.Stamp.{Stamp}

-- nothing stands in an empty list
pub none_there : {A P : Type 0} (x : A) → Contains [] x → P
none_there x there = absurd (let within = there.1 in omega (arith, within))

-- a member of a list cuts it
pub record CutAt {A : Type 0} (xs : List A) (x : A) : Type 0 where
  pub front : List A
  pub back : List A
  pub cut : xs ≡ front ++ x ∷ back

pub cut_at : {A : Type 0} (xs : List A) (x : A) → Contains xs x → CutAt xs x
cut_at [] x there = none_there x there
cut_at (y ∷ xs) x there = ⊎_elim
    (λ (here : Contains (y ∷ []) x). ⊎_elim (λ (none : Contains [] x). none_there x none)
    (λ (same : y ≡ x). record { front = []; back = xs; cut = λ i. same i ∷ xs }) (Contains-push_cases [] y x here))
    (λ (later : Contains xs x). let rest = cut_at xs x later in
    record { front = y ∷ rest.front; back = rest.back; cut = λ i. y ∷ rest.cut i })
    (Contains-append_cases (y ∷ []) xs x there)

-- the turn that brought an event
pub record BroughtBy (turns : List RunTurn) (e : Event) : Type 0 where
  pub earlier : List RunTurn
  pub turn : RunTurn
  pub later : List RunTurn
  pub cut : turns ≡ earlier ++ turn ∷ later
  pub there : Contains turn.events e

pub brought_by : (turns : List RunTurn) (e : Event) → Contains (events_of turns) e → BroughtBy turns e
brought_by [] e there = none_there e there
brought_by (t ∷ ts) e there = ⊎_elim
    (λ (here : Contains t.events e). record { earlier = []; turn = t; later = ts; cut = refl; there = here })
    (λ (behind : Contains (events_of ts) e). let rest = brought_by ts e behind in
    record {
      earlier = t ∷ rest.earlier;
      turn = rest.turn;
      later = rest.later;
      cut = λ i. t ∷ rest.cut i;
      there = rest.there;
    })
    (Contains-append_cases t.events (events_of ts) e there)

pub events_on : (xs ys : List RunTurn) → events_of (xs ++ ys) ≡ events_of xs ++ events_of ys
events_on [] ys = refl
events_on (x ∷ xs) ys = ap (λ (es : List Event). x.events ++ es) (events_on xs ys)
    ∙ sym (append_assoc x.events (events_of xs) (events_of ys))

-- what a turn among others brought is among what they brought
pub brought_among : (earlier : List RunTurn) (t : RunTurn) (later : List RunTurn) (e : Event) → Contains t.events e
    → Contains (events_of (earlier ++ t ∷ later)) e
brought_among earlier t later e there =
    subst (λ (es : List Event). Contains es e) (sym (events_on earlier (t ∷ later)))
    (Contains-append_right (events_of earlier) (t.events ++ events_of later) e
    (Contains-append_left t.events (events_of later) e there))

-- ---- the newest first

pub reversed_cut : (earlier : List RunTurn) (t : RunTurn) (later : List RunTurn)
    → reverse (earlier ++ t ∷ later) ≡ reverse later ++ t ∷ reverse earlier
reversed_cut earlier t later = reverse-append earlier (t ∷ later)
    ∙ (ap (λ (l : List RunTurn). l ++ reverse earlier) (reverse-append (t ∷ []) later)
    ∙ append_assoc (reverse later) (t ∷ []) (reverse earlier))

all_newest : (P : List RunTurn → RunTurn → Type 0) (told : List RunTurn)
    → ((newer : List RunTurn) (t : RunTurn) (before : List RunTurn) → told ≡ newer ++ t ∷ before → P before t) → AllTurns P told
all_newest P [] each = tt
all_newest P (t ∷ before) each =
    (each [] t before refl, all_newest P before (λ newer u older cut. each (t ∷ newer) u older (λ i. t ∷ cut i)))

-- what holds of each turn with those before it, as a desk lists them
pub all_reversed : (P : List RunTurn → RunTurn → Type 0) (turns : List RunTurn)
    → ((earlier : List RunTurn) (t : RunTurn) (later : List RunTurn) → turns ≡ earlier ++ t ∷ later → P (reverse earlier) t)
    → AllTurns P (reverse turns)
all_reversed P turns each = all_newest P (reverse turns) (λ newer t before cut.
    let back : turns ≡ reverse before ++ t ∷ reverse newer =
    sym (reverse-reverse turns) ∙ (ap reverse cut ∙ reversed_cut newer t before) in
    subst (λ (l : List RunTurn). P l t) (reverse-reverse before) (each (reverse before) t (reverse newer) back))

pub all_at : (P : List RunTurn → RunTurn → Type 0) (newer : List RunTurn) (t : RunTurn) (before : List RunTurn)
    → AllTurns P (newer ++ t ∷ before) → P before t
all_at P [] t before all = all.0
all_at P (u ∷ newer) t before all = all_at P newer t before all.1

-- ---- marks

pub mark_on : (m : Stamp) (xs ys : List RunTurn) → last_mark m (xs ++ ys) ≡ last_mark (last_mark m xs) ys
mark_on m [] ys = refl
mark_on m (x ∷ xs) ys = mark_on x.after xs ys

-- each turn begins at the mark where the one before it ended, and ends no earlier
pub record FollowsMarks (m : Stamp) (earlier : List RunTurn) (t : RunTurn) : Type 0 where
  pub before : t.before ≡ last_mark m earlier
  pub later : IsLater t.before t.after

abbrev pub AreMarked : Stamp → List RunTurn → Type 0
AreMarked m turns =
    (earlier : List RunTurn) (t : RunTurn) (later : List RunTurn) → turns ≡ earlier ++ t ∷ later
    → FollowsMarks m earlier t

-- so the last mark is no earlier than the first one
pub marks_rise : (m : Stamp) (turns : List RunTurn) → AreMarked m turns → IsLater m (last_mark m turns)
marks_rise m [] are = (omega arith, omega arith)
marks_rise m (t ∷ ts) are =
    let first = are [] t ts refl in
    let rest = marks_rise t.after ts (λ earlier u later cut.
    let u_is = are (t ∷ earlier) u later (λ i. t ∷ cut i) in record { before = u_is.before; later = u_is.later }) in
    let times : t.before.time ≡ m.time = ap (λ (s : Stamp). s.time) first.before in
    let faults : t.before.faults ≡ m.faults = ap (λ (s : Stamp). s.faults) first.before in
    let on = first.later in
    (omega (arith, times, on.0, rest.0), omega (arith, faults, on.1, rest.1))

-- .. nor is any between
pub record MarksBetween (m : Stamp) (turns : List RunTurn) (t : RunTurn) : Type 0 where
  pub from : IsLater m t.before
  pub to : IsLater t.after (last_mark m turns)

pub marks_between : (m : Stamp) (earlier : List RunTurn) (t : RunTurn) (later : List RunTurn)
    → AreMarked m (earlier ++ t ∷ later) → MarksBetween m (earlier ++ t ∷ later) t
marks_between m earlier t later are = record {
  from = subst (IsLater m) (sym (are earlier t later refl).before) (marks_rise m earlier (λ front u back cut.
      are front u (back ++ t ∷ later)
      (ap (λ (l : List RunTurn). l ++ t ∷ later) cut ∙ append_assoc front (u ∷ back) (t ∷ later))));
  to = subst (IsLater t.after) (sym (mark_on m earlier (t ∷ later))) (marks_rise t.after later (λ front u back cut.
      let whole = are (earlier ++ t ∷ front) u back
      (ap (λ (l : List RunTurn). earlier ++ t ∷ l) cut ∙ sym (append_assoc earlier (t ∷ front) (u ∷ back))) in
      record { before = whole.before ∙ mark_on m earlier (t ∷ front); later = whole.later }));
}

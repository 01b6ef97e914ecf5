-- How many doors stand behind turns, by how many of them left.
use Rattle.std.proofs.Common.{◌≡◌, ◌≤◌, ◌<◌, ⊎_elim, ℕ, zero, suc, Bool, true, false, List, [], ◌∷◌, ◌++◌, cond, count_by, refl, sym, ap, ◌∙◌, subst, arith}
use Rattle.std.specs.Prelude.{◌+◌, ◌-◌, Contains, min, reverse}
use Rattle.std.proofs.lemmas.Bool.{false≢true}
use Rattle.std.proofs.lemmas.List.{reverse-append}
use Rattle.std.proofs.lemmas.List.Elements.{Contains-append_cases, Contains-append_left, Contains-append_right}
use Rattle.std.proofs.lemmas.List.Sums.{sum_by-append, sum_by-cons}
use Rattle.engine_turns.specs.CallRows.{LeaveRow, left_events}
use Rattle.engine_turns.specs.RunTurns.{IsAnswered, MayComeAfter, answer_before, turn_start}
use Rattle.engine_turns.specs.Standings.{standing_after}
use Rattle.engine_turns.specs.Told.{AllTurns, RunTurn, history_after, history_of}
use Rattle.engine_turns.specs.declared.operations.Operation.{Operation}
use Rattle.engine_turns.specs.declared.operations.Operation.TheVariants as operation
use Rattle.machine_core.specs.RunLegal.{doors_left, is_left}
use Rattle.machine_core.specs.Starts.{RunStart}
use Rattle.machine_core.specs.declared.events.Event.{Event}
use Rattle.machine_core.specs.declared.events.Event.TheVariants.{Left}
use Rattle.run_lifecycle.proofs.Turns.{cut_at}
use Rattle.served_runs.proofs.TurnLists.{first_or_later}

-- ---- turns by which a door leaves

abbrev pub is_leave : Operation → Bool
is_leave operation.Leave = true
is_leave other = false

leave_is : (op : Operation) → is_leave op ≡ true → op ≡ operation.Leave
leave_is operation.Leave is = refl
leave_is other is = absurd (false≢true is)

abbrev pub leaves : List RunTurn → ℕ
leaves ts = count_by (λ (t : RunTurn). is_leave t.op) ts

leaves_more : (t : RunTurn) (ts : List RunTurn) → leaves (t ∷ ts) ≡ cond (is_leave t.op) 1 0 + leaves ts
leaves_more t ts = sum_by-cons (λ (u : RunTurn). cond (is_leave u.op) 1 0) t ts

leaves_on : (xs ys : List RunTurn) → leaves (xs ++ ys) ≡ leaves xs + leaves ys
leaves_on xs ys = sum_by-append (λ (u : RunTurn). cond (is_leave u.op) 1 0) xs ys

pub leaves_reversed : (ts : List RunTurn) → leaves (reverse ts) ≡ leaves ts
leaves_reversed [] = refl
leaves_reversed (t ∷ ts) =
    let cut = ap leaves (reverse-append (t ∷ []) ts) in
    let both = leaves_on (reverse ts) (t ∷ []) in
    let one = leaves_more t [] in
    let more = leaves_more t ts in
    let rest = leaves_reversed ts in omega (arith, cut, both, one, more, rest)

-- ---- the doors that left

left_more : (e : Event) (past : List Event) → count_by is_left (e ∷ past) ≡ cond (is_left e) 1 0 + count_by is_left past
left_more e past = sum_by-cons (λ (x : Event). cond (is_left x) 1 0) e past

left_stay : (past events : List Event) → count_by is_left past ≤ count_by is_left (history_after past events)
left_stay past [] = omega arith
left_stay past (e ∷ events) =
    let one = left_more e past in
    let more = left_stay (e ∷ past) events in omega (arith, one, more)

-- a turn by which a door leaves takes one off, where any stands
leave_takes : (start : RunStart) (past events : List Event) (doors before : ℕ) → doors_left start past ≡ doors
    → events ≡ left_events doors → min start.doors before ≤ count_by is_left past
    → min start.doors (1 + before) ≤ count_by is_left (history_after past events)
leave_takes start past events zero before none is so =
    let stay = left_stay past events in
    let all : start.doors - count_by is_left past ≡ 0 = none in omega (arith, all, stay, so)
leave_takes start past events (suc n) before some is so =
    let came : count_by is_left (history_after past events) ≡ 1 + count_by is_left past =
    ap (λ (es : List Event). count_by is_left (history_after past es)) is ∙ left_more Left past in omega (arith, came, so)

-- as many left as there are turns by which a door leaves, or all
pub left_so_far : (start : RunStart) (told : List RunTurn) → AllTurns (MayComeAfter start) told
    → min start.doors (leaves told) ≤ count_by is_left (history_of told)
left_so_far start [] ties = omega arith
left_so_far start (t ∷ before) ties = by (is_leave t.op) refl (left_so_far start before ties.1)
  where
    row : t.op ≡ operation.Leave → t.events ≡ left_events (doors_left start (history_of before))
    row is =
        let may = ties.0 in
        let answered = subst (λ (op : Operation). IsAnswered (turn_start start before t) (standing_after start before) op t.events
        t.answer.said (answer_before start (history_of before) op)) is may.answered in
        ⊎_elim (λ starved. absurd (false≢true starved.0))
        (λ (left : LeaveRow (turn_start start before t) (standing_after start before) t.events t.answer.said). left.0) answered

    by : (leaving : Bool) → is_leave t.op ≡ leaving → min start.doors (leaves before) ≤ count_by is_left (history_of before)
        → min start.doors (leaves (t ∷ before)) ≤ count_by is_left (history_of (t ∷ before))
    by true is so =
        let more : leaves (t ∷ before) ≡ 1 + leaves before =
        leaves_more t before ∙ ap (λ (b : Bool). cond b 1 0 + leaves before) is in
        let taken = leave_takes start (history_of before) t.events (doors_left start (history_of before)) (leaves before) refl
        (row (leave_is t.op is)) so in omega (arith, more, taken)
    by false is so =
        let more : leaves (t ∷ before) ≡ 0 + leaves before =
        leaves_more t before ∙ ap (λ (b : Bool). cond b 1 0 + leaves before) is in
        let stay = left_stay (history_of before) t.events in omega (arith, more, stay, so)

-- so behind as many leaves as there are doors none stands
pub none_stands : (start : RunStart) (told : List RunTurn) → AllTurns (MayComeAfter start) told → start.doors ≤ leaves told
    → doors_left start (history_of told) ≡ 0
none_stands start told ties all = let left = left_so_far start told ties in omega (arith, left, all)

-- ---- passes

-- the pass has a turn by which a door leaves
pub record LeavesAt (pass : ℕ) (turns : List RunTurn) : Type 0 where
  pub turn : RunTurn
  pub there : Contains turns turn
  pub pass_is : turn.pass ≡ pass
  pub leaves_is : is_leave turn.op ≡ true

-- it does so too without a turn of another pass
leaves_without : (pass other : ℕ) (front back : List RunTurn) (t : RunTurn) → t.pass ≡ other → (pass ≡ other → ⊥)
    → LeavesAt pass (front ++ t ∷ back) → LeavesAt pass (front ++ back)
leaves_without pass other front back t its apart at = record {
  turn = at.turn;
  there = ⊎_elim (λ (early : Contains front at.turn). Contains-append_left front back at.turn early)
      (λ (late : Contains (t ∷ back) at.turn). ⊎_elim
      (λ (same : t ≡ at.turn). absurd (apart (sym at.pass_is ∙ (sym (ap (λ (u : RunTurn). u.pass) same) ∙ its))))
      (λ (later : Contains back at.turn). Contains-append_right front back at.turn later)
      (first_or_later t back at.turn late))
      (Contains-append_cases front (t ∷ back) at.turn at.there);
  pass_is = at.pass_is;
  leaves_is = at.leaves_is;
}

-- as many leave as there are passes that do
pub all_leave : (base many : ℕ) (turns : List RunTurn) → ((door : ℕ) → door < many → LeavesAt (base + door) turns)
    → many ≤ leaves turns
all_leave base zero turns each = omega arith
all_leave base (suc n) turns each =
    let mine = each n (omega arith) in
    let c = cut_at turns mine.turn mine.there in
    let rest = all_leave base n (c.front ++ c.back) (λ door low.
    leaves_without (base + door) (base + n) c.front c.back mine.turn mine.pass_is (λ same. omega (arith, same, low))
    (subst (LeavesAt (base + door)) c.cut (each door (omega (arith, low))))) in
    let whole = ap leaves c.cut ∙ leaves_on c.front (mine.turn ∷ c.back) in
    let first : leaves (mine.turn ∷ c.back) ≡ 1 + leaves c.back =
    leaves_more mine.turn c.back ∙ ap (λ (b : Bool). cond b 1 0 + leaves c.back) mine.leaves_is in
    let others = leaves_on c.front c.back in omega (arith, rest, whole, first, others)

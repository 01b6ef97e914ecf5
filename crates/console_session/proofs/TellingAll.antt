-- The steps of a session over a WebSocket tell all notices since it joined, and carry its calls out.
use Rattle.std.proofs.Common.{◌≡◌, ◌≢◌, ⊎_elim, ℕ, List, [], ◌∷◌, ◌++◌, Option, Some, None, drop, map, reverse, take, refl, sym, ap, ◌∙◌, subst, append_assoc, arith}
use Rattle.std.specs.Prelude.{All, Contains, IsSome}
use Rattle.std.specs.List.{flat_map}
use Rattle.std.proofs.Math.Seq.{drop-nil}
use Rattle.std.proofs.lemmas.List.{map-append, reverse-append, reverse-reverse}
use Rattle.std.proofs.lemmas.List.Elements.{All-cons, All-head, All-nil, All-tail, Contains-append_left, Contains-append_right}
use Rattle.console_socket.specs.Sessions.{InwardData, SocketStep, joins, says, ticks}
use Rattle.console_socket.specs.Sockets.{AskedRun, IsBehindJoining, SocketEvent, Stepped, turns_of_event}
use Rattle.engine_turns.specs.NoticeRows.{notices_from, notices_said, place_behind}
use Rattle.engine_turns.specs.RunTurns.{IsAnswered, MayComeAfter, answer_before, turn_start}
use Rattle.engine_turns.specs.Standings.{AnswersOnly, standing_after}
use Rattle.engine_turns.specs.Told.{AllTurns, RunTurn, history_after, history_of}
use Rattle.engine_turns.specs.declared.operations.Operation.{Operation}
use Rattle.engine_turns.specs.declared.operations.Operation.TheVariants as operation
use Rattle.engine_turns.specs.declared.operations.Said.{Said}
use Rattle.engine_turns.specs.declared.operations.Said.TheVariants as said
use Rattle.machine_core.specs.Notices.{IsWithin, NoneIsDueAtEnd, NoticesGoOn, UptoIsWithin, WithinStays, due, end_of, first_place, upto}
use Rattle.machine_core.specs.Starts.{RunStart}
use Rattle.machine_core.specs.declared.events.Event.{Event}
use Rattle.machine_core.specs.declared.notices.Cursor.{Cursor}
use Rattle.machine_core.specs.declared.notices.Notice.{Notice}
use Rattle.machine_core.specs.declared.notices.TheConstants.{MOST_NOTICES}
use Rattle.rpc_envelope.specs.Turns.{BeginsWith, invocations_in}
use Rattle.console_session.specs.CallTurns.{CameInOrder, call_turns}
use Rattle.console_session.specs.SocketLaws.{AreTextsOf, CarriesOut, CarriesOutEvent, JoinsAt, SocketStepsTellAll, StandAmong, TellInOrder, TextsOfEvent, notices_since}
use Rattle.console_session.specs.SocketSteps.{GivesTexts, MakeEvents, MakesEvent, asked_from, calls_in}
use Rattle.console_session.proofs.CallTurnLists.{call_turns_on, came_on}
use Rattle.console_session.proofs.Carrying.{pulse_none}
use Rattle.console_session.proofs.Stepping.{step_came}

-- ---- histories

after_front : (past events : List Event) → (front : List Event) × (history_after past events ≡ front ++ past)
after_front past [] = ([], refl)
after_front past (e ∷ events) =
    let rest = after_front (e ∷ past) events in
    (rest.0 ++ e ∷ [], rest.1 ∙ sym (append_assoc rest.0 (e ∷ []) past))

history_on : (later earlier : List RunTurn) → (more : List Event) × (history_of (later ++ earlier) ≡ more ++ history_of earlier)
history_on [] earlier = ([], refl)
history_on (t ∷ later) earlier =
    let rest = history_on later earlier in
    let front = after_front (history_of (later ++ earlier)) t.events in (
      front.0 ++ rest.0,
      front.1 ∙ (ap (λ (p : List Event). front.0 ++ p) rest.1 ∙ sym (append_assoc front.0 rest.0 (history_of earlier))),
    )

-- the history behind turns of which the oldest is the first
abbrev past_at : List RunTurn → List Event
past_at front = history_of (reverse front)

later_past : (front more : List RunTurn) → (events : List Event) × (past_at (front ++ more) ≡ events ++ past_at front)
later_past front more =
    let on = history_on (reverse more) (reverse front) in
    (on.0, ap history_of (reverse-append front more) ∙ on.1)

turn_cut : (told front back : List RunTurn) (t : RunTurn) → reverse told ≡ front ++ t ∷ back
    → told ≡ reverse back ++ t ∷ reverse front
turn_cut told front back t order =
    sym (reverse-reverse told) ∙ (ap (λ (ts : List RunTurn). reverse ts) order
    ∙ (reverse-append front (t ∷ back)
    ∙ (ap (λ (ts : List RunTurn). ts ++ reverse front) (reverse-append (t ∷ []) back)
    ∙ append_assoc (reverse back) (t ∷ []) (reverse front))))

turn_at : (P : List RunTurn → RunTurn → Type 0) (later : List RunTurn) (t : RunTurn) (earlier : List RunTurn)
    → AllTurns P (later ++ t ∷ earlier) → P earlier t
turn_at P [] t earlier all = all.0
turn_at P (x ∷ later) t earlier all = turn_at P later t earlier all.1

-- ---- turns among others

stand_split : (xs ys all : List RunTurn) → StandAmong (xs ++ ys) all
    → (front : List RunTurn) × (back : List RunTurn) × (all ≡ front ++ back) × StandAmong xs front × StandAmong ys back
stand_split [] ys all is = ([], all, refl, tt, is)
stand_split (x ∷ xs) ys all (front, back, cut, rest) =
    let more = stand_split xs ys back rest in (
      front ++ x ∷ more.0,
      more.1,
      cut ∙ (ap (λ (ts : List RunTurn). front ++ x ∷ ts) more.2 ∙ sym (append_assoc front (x ∷ more.0) more.1)),
      (front, more.0, refl, more.3),
      more.4,
    )

-- the last of those that stand among others
last_stands : (xs : List RunTurn) (t : RunTurn) (all : List RunTurn) → StandAmong (xs ++ t ∷ []) all
    → (front : List RunTurn) × (back : List RunTurn) × (all ≡ front ++ t ∷ back)
last_stands xs t all is =
    let split = stand_split xs (t ∷ []) all is in
    let at = split.4 in (
      split.0 ++ at.0,
      at.1,
      split.2 ∙ (ap (λ (ts : List RunTurn). split.0 ++ ts) at.2 ∙ sym (append_assoc split.0 at.0 (t ∷ at.1))),
    )

-- ---- lists

map_cut : {P : Type 0} (f : P → Notice) (all front back : List P) → all ≡ front ++ back
    → map f all ≡ map f front ++ map f back
map_cut f all front back is = ap (λ ps. map f ps) is ∙ map-append f front back

drop_none : {P : Type 0} (f : List P → Cursor) (n : ℕ) (all : List P) (c : Cursor) → f [] ≡ c → all ≡ []
    → f (drop n all) ≡ c
drop_none f n all c none is = ap (λ ps. f (drop n ps)) is ∙ (ap f (drop-nil n) ∙ none)

-- ---- an answer that tells notices

list_in : Said → List Notice
list_in (said.Notices list upto) = list
list_in other = []

upto_in : Cursor → Said → Cursor
upto_in none (said.Notices list upto) = upto
upto_in none other = none

record TellsFrom (start : RunStart) (past : List Event) (from : Option Cursor) (list : List Notice) (behind : Cursor)
    : Type 0 where
  list_is : list ≡ notices_from start past from
  behind_is : behind ≡ place_behind start past from

told_from : (start : RunStart) (earlier : List RunTurn) (t : RunTurn) (from : Option Cursor) (list : List Notice)
    (behind : Cursor) → MayComeAfter start earlier t → t.op ≡ operation.Notices from
    → t.answer.said ≡ said.Notices list behind → TellsFrom start (history_of earlier) from list behind
unfolding list_in upto_in
told_from start earlier t from list behind may op_is said_is =
    let past = history_of earlier in
    let at = turn_start start earlier t in
    let s = standing_after start earlier in
    let answered = subst (λ (op : Operation). IsAnswered at s op t.events t.answer.said (answer_before start past op))
    op_is may.answered in
    ⊎_elim
    (λ (starved : _ × AnswersOnly said.NoMemory t.events t.answer.said).
    absurd (let never : said.Notices list behind ≡ said.NoMemory = sym said_is ∙ starved.1.1 in cc))
    (λ (row : AnswersOnly (notices_said start past from) t.events t.answer.said).
    let same : said.Notices list behind ≡ notices_said start past from = sym said_is ∙ row.1 in
    record { list_is = ap list_in same; behind_is = ap (upto_in behind) same }) answered

asked_same : (inward : InwardData) (from : Option Cursor) → inward ≢ joins → asked_from inward from ≡ from
asked_same joins from behind = absurd (behind refl)
asked_same (says text) from behind = refl
asked_same ticks from behind = refl

-- ---- the notices of the whole history

module _ (start : RunStart) (told : List RunTurn) (all : AllTurns (MayComeAfter start) told) (on : NoticesGoOn)
    (upto_within : UptoIsWithin) (stays : WithinStays) (none_at_end : NoneIsDueAtEnd) where
  abbrev whole : List Event
  whole = history_of told

  abbrev since : Cursor → List Notice
  since c = notices_since start whole c

  within_on : (front more : List RunTurn) (c : Cursor) → IsWithin (past_at front) c → IsWithin (past_at (front ++ more)) c
  within_on front more c within =
      let later = later_past front more in
      subst (λ (p : List Event). IsWithin p c) (sym later.1) (stays (past_at front) later.0 c within)

  -- what is told behind these turns, and then what is due
  goes_from : (front back : List RunTurn) (c : Cursor) → reverse told ≡ front ++ back → IsWithin (past_at front) c
      → since c ≡ notices_from start (past_at front) (Some c) ++ since (upto start (past_at front) c)
  goes_from front back c order within =
      let past = past_at front in
      let later = later_past front back in
      let is : whole ≡ later.0 ++ past =
      ap history_of (sym (reverse-reverse told) ∙ ap (λ (ts : List RunTurn). reverse ts) order) ∙ later.1 in
      let behind = upto start past c in
      ap (λ (p : List Event). notices_since start p c) is
      ∙ (map_cut (λ p. p.notice) (due start (later.0 ++ past) c) (take MOST_NOTICES (due start past c))
      (due start (later.0 ++ past) behind) (on start past later.0 c within)
      ∙ ap (λ (p : List Event). notices_from start past (Some c) ++ notices_since start p behind) (sym is))

  -- ---- a part of the events

  -- By some turns notices were told from a place on, as this says, and the next place is kept. The turns of the run up to
  -- there are these.
  record Goes (P : List Notice → Type 0) (c : Cursor) (to : Option Cursor) (front : List RunTurn) : Type 0 where
    notices : List Notice
    texts : P notices
    behind : Cursor
    to_is : to ≡ Some behind
    within : IsWithin (past_at front) behind
    tells : since c ≡ notices ++ since behind

  goes_nowhere : (P : List Notice → Type 0) → P [] → (c : Cursor) (from to : Option Cursor) (front more : List RunTurn)
      → from ≡ Some c → to ≡ from → IsWithin (past_at front) c → Goes P c to (front ++ more)
  goes_nowhere P none c from to front more from_is same within = record {
    notices = [];
    texts = none;
    behind = c;
    to_is = same ∙ from_is;
    within = within_on front more c within;
    tells = refl;
  }

  -- where a turn stands that told notices
  record Stands (front its : List RunTurn) (t : RunTurn) : Type 0 where
    before : List RunTurn
    after : List RunTurn
    cut : its ≡ before ++ t ∷ after
    may : MayComeAfter start (reverse (front ++ before)) t

  stands_at : (front its back calling : List RunTurn) (t : RunTurn) → reverse told ≡ front ++ (its ++ back)
      → StandAmong (calling ++ t ∷ []) its → Stands front its t
  stands_at front its back calling t order among =
      let at = last_stands calling t its among in
      let cut : front ++ (its ++ back) ≡ (front ++ at.0) ++ t ∷ (at.1 ++ back) =
      ap (λ (ts : List RunTurn). front ++ (ts ++ back)) at.2
      ∙ (ap (λ (ts : List RunTurn). front ++ ts) (append_assoc at.0 (t ∷ at.1) back)
      ∙ sym (append_assoc front at.0 (t ∷ (at.1 ++ back)))) in
      record {
        before = at.0;
        after = at.1;
        cut = at.2;
        may = turn_at (MayComeAfter start) (reverse (at.1 ++ back)) t (reverse (front ++ at.0))
            (subst (AllTurns (MayComeAfter start))
            (turn_cut told (front ++ at.0) (at.1 ++ back) t (order ∙ cut)) all);
      }

  -- up to behind the turn
  within_its : (front its : List RunTurn) (t : RunTurn) (at : Stands front its t) (c : Cursor)
      → IsWithin (past_at (front ++ at.before)) c → IsWithin (past_at (front ++ its)) c
  within_its front its t at c within =
      let is : (front ++ at.before) ++ t ∷ at.after ≡ front ++ its =
      append_assoc front at.before (t ∷ at.after) ∙ ap (λ (ts : List RunTurn). front ++ ts) (sym at.cut) in
      subst (λ (ts : List RunTurn). IsWithin (past_at ts) c) is
      (within_on (front ++ at.before) (t ∷ at.after) c within)

  step_goes : (step : SocketStep) (texts : Option (List (List ℕ))) (turns calling own its front back : List RunTurn)
      (from to : Option Cursor) (c : Cursor) → step.inward ≢ joins → GivesTexts step own from to texts
      → turns ≡ calling ++ own → StandAmong turns its → reverse told ≡ front ++ (its ++ back)
      → from ≡ Some c → IsWithin (past_at front) c → Goes (AreTextsOf step texts) c to (front ++ its)
  step_goes step None turns calling own its front back from to c behind gives are among order from_is within =
      goes_nowhere (AreTextsOf step None) refl c from to front its from_is gives.1 within
  step_goes step (Some texts) turns calling own its front back from to c behind gives are among order from_is within =
      let turn = gives.turn in
      let at = stands_at front its back calling turn order
      (subst (λ (ts : List RunTurn). StandAmong ts its)
      (are ∙ ap (λ (ts : List RunTurn). calling ++ ts) gives.only) among) in
      let past = past_at (front ++ at.before) in
      let op : turn.op ≡ operation.Notices (Some c) =
      gives.op ∙ ap operation.Notices (asked_same step.inward from behind ∙ from_is) in
      let is = told_from start (reverse (front ++ at.before)) turn (Some c) gives.notices gives.upto at.may op gives.told in
      let then = within_on front at.before c within in
      let cut : reverse told ≡ (front ++ at.before) ++ ((turn ∷ at.after) ++ back) =
      order ∙ (ap (λ (ts : List RunTurn). front ++ (ts ++ back)) at.cut
      ∙ (ap (λ (ts : List RunTurn). front ++ ts) (append_assoc at.before (turn ∷ at.after) back)
      ∙ sym (append_assoc front at.before ((turn ∷ at.after) ++ back)))) in
      record {
        notices = gives.notices;
        texts = gives.texts_are;
        behind = gives.upto;
        to_is = gives.kept;
        within = within_its front its turn at gives.upto
            (subst (λ (place : Cursor). IsWithin past place) (sym is.behind_is) (upto_within start past c));
        tells = goes_from (front ++ at.before) ((turn ∷ at.after) ++ back) c cut then
            ∙ (ap (λ (list : List Notice). list ++ since (upto start past c)) (sym is.list_is)
            ∙ ap (λ (place : Cursor). gives.notices ++ since place) (sym is.behind_is));
      }

  -- ---- the first step

  -- the place where it joined
  record Joins (P : List Notice → Type 0) (to : Option Cursor) (its back : List RunTurn) (turns : List RunTurn) : Type 0 where
    joined : Cursor
    at : JoinsAt told turns joined
    goes : Goes P joined to its

  end_within : (past : List Event) → IsWithin past (end_of past)
  end_within past =
      let same : upto start past (end_of past) ≡ end_of past =
      drop_none (first_place (end_of past)) MOST_NOTICES (due start past (end_of past)) (end_of past) refl
      (none_at_end start past) in
      subst (λ (place : Cursor). IsWithin past place) same (upto_within start past (end_of past))

  join_goes : (step : SocketStep) (texts : Option (List (List ℕ))) (turns calling own its back : List RunTurn)
      (from to : Option Cursor) → step.inward ≡ joins → IsSome texts → GivesTexts step own from to texts
      → turns ≡ calling ++ own → StandAmong turns its → reverse told ≡ its ++ back
      → Joins (AreTextsOf step texts) to its back turns
  join_goes step None turns calling own its back from to inward some gives are among order = absurd cc
  join_goes step (Some texts) turns calling own its back from to inward some gives are among order =
      let turn = gives.turn in
      let all_are = are ∙ ap (λ (ts : List RunTurn). calling ++ ts) gives.only in
      let at = stands_at [] its back calling turn order (subst (λ (ts : List RunTurn). StandAmong ts its) all_are among) in
      let past = past_at at.before in
      let op : turn.op ≡ operation.Notices None =
      gives.op ∙ ap (λ (i : InwardData). operation.Notices (asked_from i from)) inward in
      let is = told_from start (reverse at.before) turn None gives.notices gives.upto at.may op gives.told in
      record {
        joined = end_of past;
        at = record {
          front = at.before;
          turn = turn;
          back = at.after ++ back;
          cut = order ∙ (ap (λ (ts : List RunTurn). ts ++ back) at.cut ∙ append_assoc at.before (turn ∷ at.after) back);
          own = subst (λ (ts : List RunTurn). Contains ts turn) (sym all_are)
              (Contains-append_right calling (turn ∷ []) turn (0, omega arith, refl));
          op = op;
          place = refl;
        };
        goes = record {
          notices = gives.notices;
          texts = gives.texts_are;
          behind = gives.upto;
          to_is = gives.kept;
          within = within_its [] its turn at gives.upto
              (subst (λ (place : Cursor). IsWithin past place) (sym is.behind_is) (end_within past));
          tells = sym (ap (λ (list : List Notice). list ++ since gives.upto) is.list_is ∙ ap since is.behind_is);
        };
      }

  -- ---- all events

  module _ (secret : Option (List ℕ)) (session : ℕ) where
    event_goes : (event : SocketEvent) (turns its front back : List RunTurn) (from to : Option Cursor) (c : Cursor)
        → IsBehindJoining event → MakesEvent secret session event turns from to → StandAmong turns its
        → reverse told ≡ front ++ (its ++ back) → from ≡ Some c → IsWithin (past_at front) c
        → Goes (TextsOfEvent event) c to (front ++ its)
    event_goes (AskedRun finished) turns its front back from to c behind made among order from_is within =
        goes_nowhere (TextsOfEvent (AskedRun finished)) refl c from to front its from_is made.kept within
    event_goes (Stepped step) turns its front back from to c behind made among order from_is within =
        step_goes step step.texts turns made.calling made.own its front back from to c behind made.texts made.are among
        order from_is within

    events_go : (events : List SocketEvent) (turns rest front : List RunTurn) (from to : Option Cursor) (c : Cursor)
        → All IsBehindJoining events → MakeEvents secret session events turns from to → StandAmong turns rest
        → reverse told ≡ front ++ rest → from ≡ Some c → IsWithin (past_at front) c
        → (at : List RunTurn) × Goes (TellInOrder events) c to at
    events_go [] turns rest front from to c behind made among order from_is within =
        (front ++ [], goes_nowhere (TellInOrder []) refl c from to front [] from_is made.1 within)
    events_go (event ∷ events) turns rest front from to c behind made among order from_is within =
        let its = made.0 in
        let others = made.1 in
        let mid = made.2 in
        let cut = stand_split its others rest (subst (λ (ts : List RunTurn). StandAmong ts rest) made.3 among) in
        let order_is = order ∙ ap (λ (ts : List RunTurn). front ++ ts) cut.2 in
        let one = event_goes event its cut.0 front cut.1 from mid c (All-head IsBehindJoining event events behind) made.4
        cut.3 order_is from_is within in
        let more = events_go events others cut.1 (front ++ cut.0) mid to one.behind
        (All-tail IsBehindJoining event events behind) made.5 cut.4
        (order_is ∙ sym (append_assoc front cut.0 cut.1)) one.to_is one.within in
        let on = more.1 in (
          more.0,
          record {
            notices = one.notices ++ on.notices;
            texts = (one.notices, on.notices, refl, one.texts, on.texts);
            behind = on.behind;
            to_is = on.to_is;
            within = on.within;
            tells = one.tells ∙ (ap (λ (list : List Notice). one.notices ++ list) on.tells
                ∙ sym (append_assoc one.notices on.notices (since on.behind)));
          },
        )

-- ---- calls

module _ (secret : Option (List ℕ)) (session : ℕ) where
  event_came : (event : SocketEvent) (turns : List RunTurn) (from to : Option Cursor)
      → MakesEvent secret session event turns from to → CameInOrder secret session (call_turns turns) (turns_of_event event)
  event_came (Stepped step) turns from to made = step_came secret session step turns from to made
  event_came (AskedRun finished) turns from to made = ap call_turns made.only ∙ pulse_none made.turn made.op

  events_came : (events : List SocketEvent) (turns : List RunTurn) (from to : Option Cursor)
      → MakeEvents secret session events turns from to
      → CameInOrder secret session (call_turns turns) (flat_map turns_of_event events)
  events_came [] turns from to made = ap call_turns made.0
  events_came (event ∷ events) turns from to made =
      let its = made.0 in
      let others = made.1 in
      let is = ap call_turns made.3 ∙ call_turns_on its others in
      subst (λ (ts : List RunTurn). CameInOrder secret session ts (turns_of_event event ++ flat_map turns_of_event events))
      (sym is)
      (came_on secret session (call_turns its) (call_turns others) (turns_of_event event)
      (flat_map turns_of_event events) (event_came event its from made.2 made.4)
      (events_came events others made.2 to made.5))

  step_carries : (step : SocketStep) (texts : Option (List (List ℕ))) (own : List RunTurn) (from to : Option Cursor)
      → BeginsWith (calls_in step.inward) (invocations_in step.turns) → GivesTexts step own from to texts
      → CarriesOut step texts
  step_carries step (Some texts) own from to front gives = gives.called
  step_carries step None own from to front gives = front

  event_carries : (event : SocketEvent) (turns : List RunTurn) (from to : Option Cursor)
      → MakesEvent secret session event turns from to → CarriesOutEvent event
  event_carries (Stepped step) turns from to made =
      step_carries step step.texts made.own from to made.front made.texts
  event_carries (AskedRun finished) turns from to made = tt

  events_carry : (events : List SocketEvent) (turns : List RunTurn) (from to : Option Cursor)
      → MakeEvents secret session events turns from to → All CarriesOutEvent events
  events_carry [] turns from to made = All-nil CarriesOutEvent
  events_carry (event ∷ events) turns from to made =
      All-cons CarriesOutEvent event events (event_carries event made.0 from made.2 made.4)
      (events_carry events made.1 made.2 to made.5)

-- ---- the law

pub tell_all : NoticesGoOn → UptoIsWithin → WithinStays → NoneIsDueAtEnd → SocketStepsTellAll
tell_all on upto_within stays none_at_end secret session start told step events turns from to all among inward some behind
    made =
    let its = made.0 in
    let others = made.1 in
    let mid = made.2 in
    let first = made.4 in
    let cut = stand_split its others (reverse told) (subst (λ (ts : List RunTurn). StandAmong ts (reverse told)) made.3 among) in
    let joins_at = join_goes start told all on upto_within stays none_at_end step step.texts its first.calling first.own
    cut.0 cut.1 from mid inward some first.texts first.are cut.3 cut.2 in
    let one = joins_at.goes in
    let rest = events_go start told all on upto_within stays none_at_end secret session events others cut.1 cut.0 mid to
    one.behind behind made.5 cut.4 cut.2 one.to_is one.within in
    let more = rest.1 in
    let at = joins_at.at in
    let past = history_of told in record {
      came = events_came secret session (Stepped step ∷ events) turns from to made;
      calls = events_carry secret session (Stepped step ∷ events) turns from to made;
      joined = joins_at.joined;
      joins = record {
        front = at.front;
        turn = at.turn;
        back = at.back;
        cut = at.cut;
        own = subst (λ (ts : List RunTurn). Contains ts at.turn) (sym made.3)
            (Contains-append_left its others at.turn at.own);
        op = at.op;
        place = at.place;
      };
      notices = one.notices ++ more.notices;
      texts = (one.notices, more.notices, refl, one.texts, more.texts);
      upto = more.behind;
      upto_is = more.to_is;
      all = one.tells ∙ (ap (λ (list : List Notice). one.notices ++ list) more.tells
          ∙ sym (append_assoc one.notices more.notices (notices_since start past more.behind)));
    }

-- Turns of a worker, by what its parts do.
use Rattle.std.proofs.Common.{◌≡◌, ◌≤◌, ◌<◌, ◌+◌, ℕ, max, Bool, true, false, List, [], ◌∷◌, ◌++◌, length, Option, Some, None, Result, Ok, Err, refl, sym, ap, subst, ◌∙◌, inl, inr, arith, length-append}
use Rattle.std.specs.Option.{option_or}
use Rattle.dl_clock.specs.declared.clock.Clock.{Ghosts as ClockSays}
use Rattle.dl_clock.specs.declared.clock.TheConstants.{LATEST_MOMENT}
use Rattle.dl_kinds.specs.declared.runs.Moment.{Moment}
use Rattle.engine_core.specs.Beginnings.{ties_run}
use Rattle.engine_turns.specs.Told.{RunTurn}
use Rattle.engine_turns.specs.declared.operations.Answer.{Answer}
use Rattle.engine_turns.specs.declared.operations.Operation.{Operation}
use Rattle.engine_turns.specs.declared.operations.Said.{Said}
use Rattle.link_source.specs.declared.Links.{Ghosts as LinkSays}
use Rattle.turn_desk.specs.Laws.{NoTurnsChangeNothing, TurnsAddUp}
use Rattle.turn_desk.specs.Sights.{Took, Went}
use Rattle.conn_worker.specs.Clocks.{ReadsClockForEach, clock_at}
use Rattle.conn_worker.specs.Ends.{end_of_said, is_finished, moment_behind, pause_of}
use Rattle.conn_worker.specs.Hands.{Hand, LinkAt, WorkerAt, fresh, link_at}
use Rattle.conn_worker.specs.Holding.{HasOutcome, EndsAs, IsInHand, IsInHandOf, IsNewState, IsWaiting, MakesTurn, StandsAs, StaysWaiting}
use Rattle.conn_worker.specs.Sound.{AnswersAreSound, IsSoundAnswer}
use Rattle.conn_worker.specs.Table.{FollowsAnswer, due_op, end_behind}
use Rattle.conn_worker.specs.Works.{ComesOut, Does, EndsRun, RunSight, StandsIn, StopsAt, StopsUnlessFinished, WorkedByClock, WorkedWithin, Workplace, Works, WorksOn, WorksOnWithin, WorksOnce, clock_in, turn_moment, workplace}
use Rattle.conn_worker.specs.declared.ends.Spent.{Spent}
use Rattle.conn_worker.specs.declared.ends.WorkEnd.{WorkEnd}
use Rattle.conn_worker.specs.declared.ends.WorkEnd.TheVariants as end
use Rattle.conn_worker.specs.declared.hands.InHand.{InHand}
use Rattle.conn_worker.specs.declared.hands.Waiting.{Waiting}
use Rattle.conn_worker.specs.declared.state.WorkState.{WorkState}
use Rattle.conn_worker.specs.declared.working.TheConstants.{MAX_TURNS}
use Rattle.conn_worker.proofs.Asked.{asked_more}
use Rattle.conn_worker.proofs.Turns.{one_more}

-- ---- one turn

-- an answer that a desk gave is sound
pub took_sound : {D : Type 0} → (s s' : RunSight D) (op : Operation) (answer : Answer) → AnswersAreSound → Took ties_run s op answer s'
    → IsSoundAnswer answer.said
took_sound s s' op answer law took =
    let turn = took.turn in
    let tied = (took.knows.whole (s.seen ++ took.between) turn [] took.seen).tied in
    let sound : IsSoundAnswer turn.answer.said = law s'.given.start.run _ turn tied in
    let P : Answer → Type 0 = λ a. IsSoundAnswer a.said in subst P took.answer_is sound

-- what is in hand is there between two turns
pub held_is : (tells : Bool) (held : Option InHand) (h : InHand) (hand : Hand) (link : LinkAt) → held ≡ Some h
    → IsInHandOf tells held hand link → IsInHand tells h hand link
held_is tells held h hand link is in_hand = subst (λ (x : Option InHand). IsInHandOf tells x hand link) is in_hand

pub some_held : (tells : Bool) (held : Option InHand) (hand : Hand) (link : LinkAt) → IsInHandOf tells held hand link
    → (h : InHand) × (held ≡ Some h)
some_held tells None hand link is = absurd is
some_held tells (Some h) hand link is = (h, refl)

pub not_some : {A : Type 0} (x : Option A) → ((a : A) → x ≡ Some a → ⊥) → x ≡ None
not_some None none = refl
not_some (Some a) none = absurd (none a refl)

-- what the parts of a turn did, from a worker with this in hand
pub record Parts (worker told : ℕ) (t : RunTurn) (old new : WorkState) (op : Operation) (said : Said) (now : Moment)
    (h h' : InHand) (w w' : Waiting) (later : Option WorkEnd) : Type 0 where
  pub held : old.hand ≡ Some h
  pub told_is : told ≤ LATEST_MOMENT
  pub now_is : now ≡ turn_moment told old.moment.0
  pub due : MakesTurn worker now h op w
  pub stays : StaysWaiting w w'
  pub op_is : t.op ≡ op
  pub said_is : t.answer.said ≡ said
  pub moment : new.moment.0 ≡ moment_behind now.0 (pause_of said)
  pub hand : new.hand ≡ Some h'
  pub ends : EndsAs h' later

pub made_waiting : (tells : Bool) (worker : ℕ) (now : Moment) (h : InHand) (op : Operation) (w w' : Waiting)
    (state : WorkState) (a : WorkerAt) (link : LinkAt) → MakesTurn worker now h op w → StaysWaiting w w'
    → state.hand ≡ Some h → StandsAs tells state link a → IsWaiting tells w' a.hand link
made_waiting tells worker now h op w w' state a link due stays held st =
    stays tells a.hand link (due tells a.hand link (held_is tells state.hand h a.hand link held st.hand_is)).1

pub once : (tells : Bool) (worker told : ℕ) (t : RunTurn) (old new : WorkState) (op : Operation) (said : Said)
    (now : Moment) (h h' : InHand) (w w' : Waiting) (later : Option WorkEnd) (link link' : LinkAt) (a : WorkerAt)
    → Parts worker told t old new op said now h h' w w' later
    → ((hand : Hand) → IsWaiting tells w' hand link → HasOutcome tells (FollowsAnswer tells hand said link) h' link')
    → StandsAs tells old link a
    → (b : WorkerAt) × Does tells worker told t a b × StandsAs tells new link' b
    × (option_or (end_of_said said) later ≡ end_behind t.answer.said b.hand)
once tells worker told t old new op said now h h' w w' later link link' a p follow st =
    let made = p.due tells a.hand link (held_is tells old.hand h a.hand link p.held st.hand_is) in
    let comes = follow a.hand (p.stays tells a.hand link made.1) in
    let b : WorkerAt = record { hand = comes.0; moment = new.moment.0; link = link' } in
    let moment : now ≡ turn_moment told a.moment = p.now_is ∙ ap (λ n. turn_moment told n) (sym st.moment_is) in
    let said_is = p.said_is in (
      b,
      record {
        told_is = p.told_is;
        op = p.op_is ∙ (made.0 ∙ ap (λ (m : Moment). due_op worker a.hand m) moment);
        follows = subst (λ (l : LinkAt). FollowsAnswer tells a.hand t.answer.said l comes.0 link') (sym st.link_is)
            (subst (λ (s : Said). FollowsAnswer tells a.hand s link comes.0 link') (sym said_is) comes.1);
        moment = p.moment ∙ (ap (λ (m : Moment). moment_behind m.0 (pause_of said)) moment
            ∙ ap (λ (s : Said). moment_behind (max told a.moment) (pause_of s)) (sym said_is));
      },
      record {
        link_is = refl;
        moment_is = refl;
        hand_is = subst (λ (x : Option InHand). IsInHandOf tells x comes.0 link') (sym p.hand) comes.2;
      },
      ap (λ (e : Option WorkEnd). option_or (end_of_said said) e) (p.ends tells comes.0 link' comes.2)
          ∙ ap (λ (s : Said). end_behind s comes.0) (sym said_is),
    )

-- ---- turns on and on

module _ {D L K : Type 0} (links : LinkSays L) (clocks : ClockSays K) where
  -- so many turns were taken, and none of them ended the work
  pub record GoesOn (old new : Workplace D L K) (turns : ℕ) : Type 0 where
    pub worked : List RunTurn
    pub count : length worked ≡ turns
    pub went : Went ties_run old.sight worked new.sight
    pub asked : ReadsClockForEach clocks worked (clock_in links clocks old) (clock_in links clocks new)
    pub worker : new.state.worker ≡ old.state.worker
    pub does : (a : WorkerAt) → StandsIn links clocks old a → (b : WorkerAt)
        × Works links.tells old.state.worker worked a b None × StandsIn links clocks new b

  pub none_yet : (p : Workplace D L K) → NoTurnsChangeNothing (ties_run {D = D}) → GoesOn p p 0
  none_yet p none = record {
    worked = [];
    count = refl;
    went = none p.sight;
    asked = refl;
    worker = refl;
    does = λ a st. (a, (refl, refl), st);
  }

  pub stands_on : (old mid : Workplace D L K) (turns : ℕ) → GoesOn old mid turns
      → (a : WorkerAt) × StandsIn links clocks old a → (b : WorkerAt) × StandsIn links clocks mid b
  stands_on old mid turns goes stands = (let d = goes.does stands.0 stands.1 in (d.0, d.2))

  -- .. and one more, which ended it or not
  record Adds (old new : Workplace D L K) (turns : ℕ) (by : Option WorkEnd) : Type 0 where
    worked : List RunTurn
    count : length worked ≡ turns
    went : Went ties_run old.sight worked new.sight
    asked : ReadsClockForEach clocks worked (clock_in links clocks old) (clock_in links clocks new)
    worker : new.state.worker ≡ old.state.worker
    does : (a : WorkerAt) → StandsIn links clocks old a → (b : WorkerAt)
        × Works links.tells old.state.worker worked a b by × StandsIn links clocks new b

  adds : (old mid new : Workplace D L K) (turns : ℕ) (by : Option WorkEnd) → TurnsAddUp (ties_run {D = D}) → GoesOn old mid turns
      → WorksOnce links clocks mid new by → Adds old new (turns + 1) by
  adds old mid new turns by more goes once = record {
    worked = goes.worked ++ once.turn ∷ [];
    count = (let count = goes.count in let len = length-append goes.worked (once.turn ∷ []) in omega (arith, count, len));
    went = more old.sight mid.sight new.sight goes.worked (once.turn ∷ []) goes.went once.went;
    asked = asked_more clocks goes.worked once.turn once.told (clock_in links clocks old) (clock_in links clocks mid)
        (clock_in links clocks new) goes.asked once.asked;
    worker = once.worker ∙ goes.worker;
    does = λ a st.
        let d = goes.does a st in
        let o = once.does d.0 d.2 in (
          o.0,
          one_more links.tells old.state.worker goes.worked a d.0 o.0 once.told once.turn by d.1
              (subst (λ w. Does links.tells w once.told once.turn d.0 o.0) goes.worker o.1) o.3,
          o.2,
        );
  }

  pub goes_further : (old mid new : Workplace D L K) (turns : ℕ) (by : Option WorkEnd) → by ≡ None → TurnsAddUp (ties_run {D = D})
      → GoesOn old mid turns → WorksOnce links clocks mid new by → GoesOn old new (turns + 1)
  goes_further old mid new turns by none more goes once =
      let r = subst (λ (e : Option WorkEnd). Adds old new (turns + 1) e) none (adds old mid new turns by more goes once) in
      record { worked = r.worked; count = r.count; went = r.went; asked = r.asked; worker = r.worker; does = r.does }

  -- the last of so many turns ended the work
  pub ends_so : (old mid new : Workplace D L K) (turns : ℕ) (by : Option WorkEnd) (e : WorkEnd) → by ≡ Some e
      → TurnsAddUp (ties_run {D = D}) → GoesOn old mid turns → WorksOnce links clocks mid new by
      → (its : WorksOn links clocks old new (Ok e)) × (length its.worked ≡ turns + 1)
  ends_so old mid new turns by e some more goes once =
      let r = adds old mid new turns by more goes once in (
        record {
          worked = r.worked;
          went = r.went;
          asked = r.asked;
          worker = r.worker;
          does = λ a st. let d = r.does a st in (d.0, record { end = by; works = d.1; is = some }, d.2);
        },
        r.count,
      )

  pub ends_within : (old mid new : Workplace D L K) (turns : ℕ) (by : Option WorkEnd) (e : WorkEnd) → by ≡ Some e
      → turns < MAX_TURNS → TurnsAddUp (ties_run {D = D}) → GoesOn old mid turns → WorksOnce links clocks mid new by
      → WorksOnWithin links clocks old new (Ok e)
  ends_within old mid new turns by e some few more goes once =
      let ends = ends_so old mid new turns by e some more goes once in
      let count = ends.1 in record { its = ends.0; few = omega (arith, few, count) }

  pub all_spent : (old new : Workplace D L K) (turns : ℕ) (spent : Spent) → turns ≡ MAX_TURNS → GoesOn old new turns
      → WorksOnWithin links clocks old new (Err spent)
  all_spent old new turns spent all goes = record {
    its = record {
      worked = goes.worked;
      went = goes.went;
      asked = goes.asked;
      worker = goes.worker;
      does = λ a st. let d = goes.does a st in (d.0, record { end = None; works = d.1; is = refl }, d.2);
    };
    few = goes.count ∙ all;
  }

-- ---- the end of a run

pub stops : {D : Type 0} → (came : Result WorkEnd Spent) (moment : ℕ) (s s' : RunSight D) → is_finished came ≡ false
    → StopsAt (record { 0 = moment }) s s' → EndsRun came moment s s'
stops (Ok end.Finished) moment s s' not stop = (let no : true ≡ false = not in cc)
stops (Ok end.JournalFull) moment s s' not stop = (stop.0 ∷ [], (stop.0, refl, stop.2), stop.1)
stops (Ok end.NoMemory) moment s s' not stop = (stop.0 ∷ [], (stop.0, refl, stop.2), stop.1)
stops (Err spent) moment s s' not stop = (stop.0 ∷ [], (stop.0, refl, stop.2), stop.1)

pub finished : {D : Type 0} → (came : Result WorkEnd Spent) (moment : ℕ) (s : RunSight D) → is_finished came ≡ true
    → NoTurnsChangeNothing (ties_run {D = D}) → EndsRun came moment s s
finished (Ok end.Finished) moment s is none = ([], refl, none s)
finished (Ok end.JournalFull) moment s is none = (let no : false ≡ true = is in cc)
finished (Ok end.NoMemory) moment s is none = (let no : false ≡ true = is in cc)
finished (Err spent) moment s is none = (let no : false ≡ true = is in cc)

module _ {D L K : Type 0} (links : LinkSays L) (clocks : ClockSays K) where
  module _ (s s' : RunSight D) (state : WorkState) (link : L) (clock : K) (worker : ℕ) (mid : Workplace D L K)
      (result : Result WorkEnd Spent) where
    -- from a new state on
    pub worked : TurnsAddUp (ties_run {D = D}) → IsNewState worker state
        → WorksOn links clocks (workplace s state link clock) mid result
        → EndsRun result mid.state.moment.0 mid.sight s'
        → WorkedByClock links clocks worker s (link, clock) s' (mid.link, mid.clock) result
    worked more new works ends =
        let from = link_at links link in
        let d = works.does (fresh from) (new.stands links.tells from) in record {
          its = record {
            worked = works.worked;
            stop = ends.0;
            b = d.0;
            link_is = d.2.link_is;
            comes_out = inl (subst (λ w. ComesOut links.tells w works.worked (fresh from) d.0 result) new.worker_is d.1);
            stops = subst (λ m. StopsUnlessFinished result m ends.0) (sym d.2.moment_is) ends.1;
            went = more s mid.sight s' works.worked ends.0 works.went ends.2;
          };
          asked = subst (λ (m : ℕ). ReadsClockForEach clocks works.worked (clock_at 0 clock) (clock_at m mid.clock))
              (sym d.2.moment_is)
              (subst (λ (m : Moment). ReadsClockForEach clocks works.worked (clock_at m.0 clock) (clock_in links clocks mid))
              new.moment_is works.asked);
        }

    pub worked_within : TurnsAddUp (ties_run {D = D}) → IsNewState worker state
        → WorksOnWithin links clocks (workplace s state link clock) mid result
        → EndsRun result mid.state.moment.0 mid.sight s'
        → WorkedWithin links clocks worker s (link, clock) s' (mid.link, mid.clock) result
    unfolding worked
    worked_within more new works ends = record { its = worked more new works.its ends; few = works.few }

  pub no_room : (s s' : RunSight D) (link : L) (clock : K) (worker : ℕ) → StopsAt (record { 0 = 0 }) s s'
      → WorkedByClock links clocks worker s (link, clock) s' (link, clock) (Ok end.NoMemory)
  no_room s s' link clock worker stop = record {
    its = record {
      worked = [];
      stop = stop.0 ∷ [];
      b = fresh (link_at links link);
      link_is = refl;
      comes_out = inr (record { none = refl; same = refl; result_is = refl });
      stops = (stop.0, refl, stop.2);
      went = stop.1;
    };
    asked = refl;
  }

  pub no_room_within : (s s' : RunSight D) (link : L) (clock : K) (worker : ℕ) → StopsAt (record { 0 = 0 }) s s'
      → WorkedWithin links clocks worker s (link, clock) s' (link, clock) (Ok end.NoMemory)
  unfolding no_room
  no_room_within s s' link clock worker stop =
      record { its = no_room s s' link clock worker stop; few = omega arith }

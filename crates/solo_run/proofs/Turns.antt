-- All turns of a worker that takes them alone bring orderly events.
use Rattle.std.proofs.Common.{◌≡◌, ◌≢◌, ℕ, suc, ◌+◌, ◌≤◌, Bool, true, false, cond, List, [], ◌∷◌, Option, Some, None, refl, sym, ap, ◌∙◌, subst, ⊎_elim, arith}
use Rattle.std.specs.Prelude.{◌||◌}
use Rattle.std.specs.List.{list_any}
use Rattle.dl_kinds.specs.declared.claims.Claim.{Claim}
use Rattle.dl_kinds.specs.declared.runs.Moment.{Moment}
use Rattle.dl_kinds.specs.declared.runs.Run.{Run}
use Rattle.dl_history.proofs.Members.{Has}
use Rattle.dl_history.specs.OwnEvents.{OwnEvent}
use Rattle.dl_history.specs.PayloadParts.{is_ending}
use Rattle.conn_worker.specs.Ends.{end_of_said}
use Rattle.conn_worker.specs.Facts.{IsGain}
use Rattle.conn_worker.specs.Hands.{Fetching, Hand, Nothing, Fetches, Probes, Seals, LinkAt, Probing, WorkerAt}
use Rattle.conn_worker.specs.Table.{due_op, end_behind, end_of_gain, end_of_hand, end_of_probe, fetch_op, probe_op}
use Rattle.conn_worker.specs.Works.{Does, EndsOrGoesOn, Works, turn_moment}
use Rattle.conn_worker.specs.declared.ends.WorkEnd.{WorkEnd}
use Rattle.conn_worker.specs.declared.ends.WorkEnd.TheVariants as end
use Rattle.conn_worker.specs.declared.hands.Gain.{Gain}
use Rattle.conn_worker.specs.declared.hands.Gain.TheVariants.{Lost, Open, Ready, Starved as StarvedGain}
use Rattle.conn_worker.specs.declared.hands.ProbeEnd.{ProbeEnd}
use Rattle.conn_worker.specs.declared.hands.ProbeEnd.TheVariants.{Told, Missed, Lacking}
use Rattle.engine_turns.specs.Phases.{TurnStart}
use Rattle.engine_turns.specs.RunTurns.{MayComeAfter, OperationRow, asks_for_work, turn_start}
use Rattle.engine_turns.specs.Standings.{IsHomeOf, RunStanding, standing_after}
use Rattle.engine_turns.specs.Told.{RunTurn, history_after, history_of}
use Rattle.engine_turns.specs.declared.operations.Operation.{Operation}
use Rattle.engine_turns.specs.declared.operations.Operation.TheVariants as operation
use Rattle.engine_turns.specs.declared.operations.Said.{Said}
use Rattle.engine_turns.specs.declared.operations.Said.TheVariants as said
use Rattle.machine_core.specs.Claiming.{AreOpenIn}
use Rattle.machine_core.specs.OwnParts.{own_of}
use Rattle.machine_core.specs.Reads.{is_finished_in}
use Rattle.machine_core.specs.Replays.{replay_of}
use Rattle.machine_core.specs.RunLegal.{IsLegal, LengthsStay, is_stop}
use Rattle.machine_core.specs.Starts.{Download, RunStart}
use Rattle.machine_core.specs.declared.events.Event.{Event}
use Rattle.work_bounds.specs.WorkLimits.{is_check}
use Rattle.worker_turns.specs.Alone.{turns_behind}
use Rattle.worker_turns.specs.TurnBounds.{ComeAfter}
use Rattle.worker_turns.proofs.Appending.{answered, ends_starved}
use Rattle.worker_turns.proofs.Counting.{no_end}
use Rattle.worker_turns.proofs.Landings.{has_in}
use Rattle.worker_turns.proofs.Lone.{legal_behind, or_none, stands_none}
use Rattle.worker_turns.proofs.Tracked.{FetchTracks, Tracks, turn_tracks}
use Rattle.worker_turns.proofs.Tracking.{FetchStands, at_home, no_home}
use Rattle.solo_run.proofs.OneDownload.{own_event, tally_events}
use Rattle.solo_run.proofs.Parts.{IsFine}
use Rattle.solo_run.proofs.Rows.{answered_so, deliver_fine, lose_fine, loose_said, next_fine, no_events, seal_fine, sized_fine}
use Rattle.solo_run.proofs.Steps.{IsOrderly, OrderlyRun, each_grown}

-- ---- one turn

middle_false : (a b c : Bool) → (a || b || c) ≡ false → b ≡ false
middle_false a false c is = refl
middle_false true true c is = absurd cc
middle_false false true c is = absurd cc

module _ (tells : Bool) (at : TurnStart) (s : RunStanding) (answer : Said) (events : List Event) (link : LinkAt) where
  -- of the blocks in hand that are ready some run is open
  open_some : (f : Fetching) (run : Run) (bytes : List ℕ) (last : Bool) → f.gain ≡ Ready run bytes last
      → FetchTracks tells at.start s.past f link → (download : Download) (claim : Claim)
      → IsHomeOf at.start s.past f.claim download claim
      → (runs : List Run) → AreOpenIn (own_of at.start s.past download.gid) claim run runs → (r : Run) × Has runs r
  open_some f run bytes last is track download claim home runs those =
      let closed : f.gain ≡ Open → ⊥ = λ opened. let no_way : Ready run bytes last ≡ Open = sym is ∙ opened in cc in
      let gain = subst (λ (g : Gain). IsGain tells f link g) is (track.at closed).gain in
      let ready = gain.0 in
      ⊎_elim (λ none. absurd (no_home at.start s.past f.claim download claim none home))
      (λ (fs : FetchStands at.start s.past f).
      let fetch = at_home at.start s.past f fs.gid fs.claim download claim fs.is home in
      let first = ready.first in let within = ready.within in let some = ready.some in
      let opened = fetch.opens run.first (omega (arith, first)) (omega (arith, first, within, some)) in
      let any = (those.exact run.first).1 (record { from = omega arith; before = omega (arith, some) }, opened) in
      let has = has_in run.first runs any in (has.0, has.1)) track.stands

  module _ (worker : ℕ) (now : Moment) (op : Operation)
      (going : asks_for_work op ≡ true → list_any is_stop s.past ≡ false) (row : OperationRow at s op events answer) where
    abbrev Fine : Type 0
    Fine = IsFine at.start s.past events (loose_said answer)

    row_as : (due : Operation) → op ≡ due → OperationRow at s due events answer
    row_as due is = subst (λ (o : Operation). OperationRow at s o events answer) is row

    fetch_fine : (f : Fetching) (gain : Gain) → f.gain ≡ gain → gain ≢ StarvedGain → op ≡ fetch_op worker f now gain
        → FetchTracks tells at.start s.past f link → Fine
    fetch_fine f (Ready run bytes last) is fed due track =
        ⊎_elim (λ away. no_events at s events answer away.1.0)
        (λ of. deliver_fine at s events run bytes of.0 of.1 answer
        (open_some f run bytes last is track of.0 of.1 of.2) of.3)
        (row_as (operation.Deliver f.claim run bytes now) due)
    fetch_fine f (Lost loss mark) is fed due track =
        ⊎_elim (λ away. no_events at s events answer away.1.0)
        (λ of. lose_fine at s events mark of.0 of.1 answer of.3) (row_as (operation.Lose f.claim mark now) due)
    fetch_fine f Open is fed due track =
        ⊎_elim (λ away. no_events at s events answer away.1.0)
        (λ of. no_events at s events answer of.3.0) (row_as (operation.More f.claim _ now) due)
    fetch_fine f StarvedGain is fed due track = absurd (fed refl)

    probe_fine : (p : Probing) (end : ProbeEnd) → end ≢ Lacking → op ≡ probe_op worker p.claim now end → Fine
    probe_fine p (Told total) fed due =
        ⊎_elim (λ away. no_events at s events answer away.1.0)
        (λ of. sized_fine at s events total of.0 of.1 answer of.3) (row_as (operation.Sized p.claim total now) due)
    probe_fine p (Missed loss mark) fed due =
        ⊎_elim (λ away. no_events at s events answer away.1.0)
        (λ of. lose_fine at s events mark of.0 of.1 answer of.3) (row_as (operation.Lose p.claim mark now) due)
    probe_fine p Lacking fed due = absurd (fed refl)

    hand_fine : (hand : Hand) → end_of_hand hand ≡ None → op ≡ due_op worker hand now
        → Tracks tells at.start s.past hand link → Fine
    hand_fine Nothing fed due tracks =
        next_fine at s events worker answer (stands_none at.start s.past tracks) (going (ap asks_for_work due))
        (row_as (operation.Next worker now) due)
    hand_fine (Fetches f) fed due tracks =
        fetch_fine f f.gain refl
        (λ starved. let no_way : Some end.NoMemory ≡ None = sym (ap end_of_gain starved) ∙ fed in cc) due tracks
    hand_fine (Probes p) fed due tracks =
        probe_fine p p.end
        (λ starved. let no_way : Some end.NoMemory ≡ None = sym (ap end_of_probe starved) ∙ fed in cc) due
    hand_fine (Seals gid sealed) fed due tracks =
        seal_fine at s events gid sealed answer (row_as (operation.Seal gid sealed now) due)

-- ---- histories

pub record Behaves (start : RunStart) (past : List Event) (loose : ℕ) : Type 0 where
  pub orderly : OrderlyRun start past
  pub checks : tally_events is_check past ≤ tally_events is_ending past + loose

after_tally : (test : OwnEvent → Bool) (past events : List Event)
    → tally_events test (history_after past events) ≡ tally_events test past + tally_events test events
after_tally test past [] = omega arith
after_tally test past (e ∷ events) =
    after_tally test (e ∷ past) events ∙ by (test (own_event e)) (tally_events test past) (tally_events test events)
  where
    by : (b : Bool) (n m : ℕ) → cond b (suc n) n + m ≡ n + cond b (suc m) m
    by true n m = omega arith
    by false n m = omega arith

pub behaves_on : (start : RunStart) (past events : List Event) (n m : ℕ) → Behaves start past n
    → IsFine start past events m → Behaves start (history_after past events) (n + m)
behaves_on start past events n m was fine = record {
  orderly = each_grown (IsOrderly start) past events was.orderly fine.steps;
  checks =
      let a = was.checks in
      let b = fine.checks in
      let c = after_tally is_check past events in
      let d = after_tally is_ending past events in
      omega (arith, a, b, c, d);
}

pub behaves_more : (start : RunStart) (past : List Event) (n m : ℕ) → n ≤ m → Behaves start past n
    → Behaves start past m
behaves_more start past n m more was =
    record { orderly = was.orderly; checks = let c = was.checks in omega (arith, c, more) }

at_most_one : (answer : Said) → loose_said answer ≤ 1
at_most_one said.NoMemory = omega arith
at_most_one answer = omega arith

not_loose : (answer : Said) → (answer ≡ said.NoMemory → ⊥) → loose_said answer ≡ 0
not_loose said.NoMemory fed = absurd (fed refl)
not_loose answer fed = refl

-- ---- all turns of a worker

module _ (stay : LengthsStay) (start : RunStart) (worker : ℕ) (tells : Bool) where
  fine_here : (earlier : List RunTurn) (t : RunTurn) (told : ℕ) (a m : WorkerAt) → MayComeAfter start earlier t
      → Does tells worker told t a m → end_of_hand a.hand ≡ None → Tracks tells start (history_of earlier) a.hand a.link
      → IsFine start (history_of earlier) t.events (loose_said t.answer.said)
  fine_here earlier t told a m may does fed tracks =
      let at = turn_start start earlier t in
      let s = standing_after start earlier in
      ⊎_elim (λ none. no_events at s t.events t.answer.said none)
      (λ row. hand_fine tells at s t.answer.said t.events a.link worker (turn_moment told a.moment) t.op
      (λ asks. middle_false (replay_of start (history_of earlier)).shut (list_any is_stop (history_of earlier)) _
      (row.0 asks)) row.1 a.hand fed does.op tracks)
      (answered_so at s t.op t.events t.answer.said (asks_for_work t.op) (is_finished_in start (history_of earlier)) _ _
      may.answered)

  goes_on : (ts earlier : List RunTurn) (t : RunTurn) (told : ℕ) (a m b : WorkerAt) (end by : Option WorkEnd)
      → by ≡ end_behind t.answer.said m.hand → MayComeAfter start earlier t → Does tells worker told t a m
      → IsLegal start (history_of (t ∷ earlier)) → end_of_hand a.hand ≡ None
      → Tracks tells start (history_of earlier) a.hand a.link → Behaves start (history_of earlier) 0
      → (end_of_hand m.hand ≡ None → Tracks tells start (history_of (t ∷ earlier)) m.hand m.link
      → Behaves start (history_of (t ∷ earlier)) 0 → Works tells worker ts m b end
      → Behaves start (history_of (turns_behind ts (t ∷ earlier))) 1)
      → EndsOrGoesOn by ((ts ≡ []) × (b ≡ m) × (end ≡ by)) (Works tells worker ts m b end)
      → Behaves start (history_of (turns_behind ts (t ∷ earlier))) 1
  goes_on ts earlier t told a m b end (Some by) is may does legal fed tracks was goes ended =
      let fine = fine_here earlier t told a m may does fed tracks in
      subst (λ (us : List RunTurn). Behaves start (history_of (turns_behind us (t ∷ earlier))) 1) (sym ended.0)
      (behaves_more start (history_of (t ∷ earlier)) (0 + loose_said t.answer.said) 1
      (let few = at_most_one t.answer.said in omega (arith, few))
      (behaves_on start (history_of earlier) t.events 0 (loose_said t.answer.said) was fine))
  goes_on ts earlier t told a m b end None is may does legal fed tracks was goes works =
      let on = no_end t.answer.said m.hand is in
      let fine = fine_here earlier t told a m may does fed tracks in
      let none = not_loose t.answer.said (λ starved. on (ends_starved t.answer.said starved)) in
      goes (or_none (end_of_said t.answer.said) (end_of_hand m.hand) is)
      (turn_tracks tells (turn_start start earlier t) (standing_after start earlier) t.answer.said t.events m.hand
      m.link on legal stay worker (turn_moment told a.moment) t.op
      (⊎_elim (λ ends. absurd (on ends)) (λ row. row) (answered _ _ t.op t.events t.answer.said _ _ _ may.answered))
      a.link a.hand fed does.op does.follows tracks)
      (behaves_more start (history_of (t ∷ earlier)) (0 + loose_said t.answer.said) 0 (omega (arith, none))
      (behaves_on start (history_of earlier) t.events 0 (loose_said t.answer.said) was fine)) works

  pub works_behave : (ts earlier : List RunTurn) (a b : WorkerAt) (end : Option WorkEnd) → ComeAfter start earlier ts
      → Works tells worker ts a b end → IsLegal start (history_of (turns_behind ts earlier)) → end_of_hand a.hand ≡ None
      → Tracks tells start (history_of earlier) a.hand a.link → Behaves start (history_of earlier) 0
      → Behaves start (history_of (turns_behind ts earlier)) 1
  works_behave [] earlier a b end come works legal fed tracks was =
      behaves_more start (history_of earlier) 0 1 (omega arith) was
  works_behave (t ∷ ts) earlier a b end come works legal fed tracks was =
      goes_on ts earlier t works.0 a works.1 b end (end_behind t.answer.said works.1.hand) refl come.0 works.2
      (legal_behind start ts (t ∷ earlier) legal) fed tracks was
      (λ fed_now now behaves rest. works_behave ts (t ∷ earlier) works.1 b end come.1 rest legal fed_now now behaves)
      works.3

-- The worker of a run over one link takes few turns.
use Rattle.std.proofs.Common.{◌≡◌, ◌⊎◌, ℕ, ◌+◌, ◌-◌, ◌<◌, ◌≤◌, Bool, true, false, IsTrue, List, [], ◌∷◌, ◌++◌, length, Option, Some, None, length-append, refl, sym, ap, ◌∙◌, subst, inl, inr, ⊎_elim, arith}
use Rattle.std.proofs.lemmas.Bool.{ltb-true}
use Rattle.std.proofs.lemmas.List.{length-reverse}
use Rattle.std.proofs.lemmas.List.Elements.{Contains-append_left, Contains-append_right}
use Rattle.engine_turns.specs.declared.limits.TheConstants.{MAX_ENTRIES}
use Rattle.machine_core.specs.declared.journal.TheConstants.{TURN_EVENTS}
use Rattle.std.specs.Prelude.{Err, IfSome, Ok, Result, reverse}
use Rattle.served_runs.proofs.LineOptions.{LineUsual}
use Rattle.served_runs.proofs.ToldRuns.{told_run}
use Rattle.served_runs.proofs.TurnCalls.{work_of_ones}
use Rattle.served_runs.proofs.TurnLists.{behind, here}
use Rattle.served_runs.proofs.WorkEnds.{came_ends, full_by, worked_work}
use Rattle.served_runs.proofs.Workers.{full_for}
use Rattle.served_runs.specs.Ends.{FinishedAreDone}
use Rattle.served_runs.specs.Over.{IsWork}
use Rattle.command_line.specs.Lines.{has_console}
use Rattle.std.specs.Prelude.{Contains}
use Rattle.blameless_mirrors.specs.Blameless.{IsToldRun}
use Rattle.command_line.specs.declared.line.CommandLine.{CommandLine}
use Rattle.command_line.specs.declared.source.Source.{Source}
use Rattle.conn_worker.specs.Hands.{fresh, link_at}
use Rattle.conn_worker.specs.Works.{ComesOut, HasNoRoom, IsWithinTurns, Works}
use Rattle.conn_worker.specs.declared.ends.Spent.{Spent}
use Rattle.conn_worker.specs.declared.ends.WorkEnd.{WorkEnd}
use Rattle.conn_worker.specs.declared.ends.WorkEnd.TheVariants as end
use Rattle.conn_worker.specs.declared.working.TheConstants.{MAX_TURNS}
use Rattle.dl_disk.specs.declared.disk.Disk.{Ghosts as DiskSays}
use Rattle.dl_kinds.specs.declared.outside.Sink.{Ghosts as SinkSays}
use Rattle.dl_kinds.specs.declared.runs.Moment.{Moment}
use Rattle.engine_turns.specs.RunTurns.{MayComeAfter}
use Rattle.engine_turns.specs.TurnLaws.{TurnsAppend}
use Rattle.engine_turns.specs.Told.{AllTurns, RunTurn, history_after, history_of}
use Rattle.command_call.specs.Sources.{IsNamedCall}
use Rattle.link_source.specs.Exchanges.{Exchange}
use Rattle.link_source.specs.declared.Links.{Ghosts as LinkSays}
use Rattle.machine_core.specs.LawfulCalls.{IsLawful}
use Rattle.machine_core.specs.RunLegal.{DownloadsStay, LengthsStay}
use Rattle.machine_core.specs.Starts.{Download, RunStart}
use Rattle.machine_core.specs.declared.calls.Call.{Call}
use Rattle.machine_core.specs.declared.events.Event.{Event}
use Rattle.machine_core.specs.declared.events.Event.TheVariants.{Called}
use Rattle.option_set.specs.Values.{number_value}
use Rattle.option_set.specs.declared.kinds.Num.TheVariants.{MaxConcurrentDownloads}
use Rattle.option_set.specs.declared.setting.Assigned.{Assigned}
use Rattle.machine_core.specs.Replays.{with_settings}
use Rattle.request_chain.specs.Chains.{Gains}
use Rattle.run_lifecycle.proofs.Ran as ran_facts
use Rattle.run_lifecycle.proofs.Turns.{events_on}
use Rattle.run_lifecycle.specs.Begins.{IsOwnCall}
use Rattle.run_lifecycle.specs.Stops.{all_turns}
use Rattle.run_lifecycle.specs.declared.ended.Ended.{Ended}
use Rattle.solo_run.specs.Pieces.{RanOverOne}
use Rattle.stored_run.specs.RunFollows.{RunFollows}
use Rattle.turn_desk.specs.Turns.{events_of}
use Rattle.worker_turns.specs.Alone.{turns_behind}
use Rattle.worker_turns.specs.Leisure.{IsWorkable, MayBeWorked, SoloTurnsAreFew}
use Rattle.worker_turns.specs.Reads.{IsSoloRun}
use Rattle.worker_turns.specs.TurnBounds.{AreBoundedBy, ComeAfter, EachBehind}
use Rattle.worker_turns.proofs.Solo.{behind_append}
use Rattle.solo_run.proofs.LeftUnfinished.{left_unfinished}
use Rattle.solo_run.proofs.OneDownload.{sole_is}
use Rattle.solo_run.proofs.OwnWants.{wants_own}
use Rattle.solo_run.proofs.OneRun.{StopLaws, all_behave, begins, come_of, doors_none, first_turns, its_run, its_start, ties_first, ties_worked, told_are, worked_behaves}
use Rattle.solo_run.proofs.Steps.{EachBefore, OrderlyRun}
use Rattle.solo_run.proofs.Stops.{call_alone}
use Rattle.solo_run.proofs.Workable.{AddFetched, LeavesRoom, fetched_on, line_adds, workable}
use Rattle.solo_run.specs.Bounds.{IsBounded, limits_of}
use Rattle.solo_run.specs.BoundedRuns.{HasFewTurns, most_turns}

-- ---- histories before turns

each_before : (P : List Event → Event → Type 0) (past events : List Event) → EachBefore P (history_after past events)
    → EachBefore P past
each_before P past [] each = each
each_before P past (e ∷ events) each = (each_before P (e ∷ past) events each).0

each_behind : (P : List Event → Event → Type 0) (ts earlier : List RunTurn)
    → EachBefore P (history_of (turns_behind ts earlier)) → EachBefore P (history_of earlier)
each_behind P [] earlier each = each
each_behind P (t ∷ ts) earlier each = each_before P (history_of earlier) t.events (each_behind P ts (t ∷ earlier) each)

-- ---- the first call

first_fetched : (start : RunStart) (its : Source) (settings : List Assigned) (call : Option Call)
    (ts : List RunTurn) (short : Bool) → IsNamedCall its settings call → IfSome call IsLawful
    → LeavesRoom (with_settings start.global settings) → IsOwnCall call ts short
    → AllTurns (MayComeAfter start) (turns_behind ts []) → AddFetched start (history_of (turns_behind ts []))
first_fetched start its settings None ts short named lawful room own all =
    subst (λ (us : List RunTurn). AddFetched start (history_of (turns_behind us []))) (sym own.0) tt
first_fetched start its settings (Some call) ts short named lawful room own all =
    let one = subst (λ (us : List RunTurn). AllTurns (MayComeAfter start) (turns_behind us [])) own.1 all in
    let adds = line_adds start its settings call named lawful room in
    subst (λ (us : List RunTurn). AddFetched start (history_of (turns_behind us []))) (sym own.1)
    (⊎_elim
    (λ (none : own.0.events ≡ []).
    subst (λ (es : List Event). AddFetched start (history_after [] es)) (sym none) tt)
    (λ (alone : (now : Moment) × (own.0.events ≡ Called 0 call now ∷ [])).
    subst (λ (es : List Event). AddFetched start (history_after [] es)) (sym alone.1) (tt, adds))
    (call_alone start own.0 call own.2 one.0))

-- the turns of the worker bring no call
worked_fetched : (start : RunStart) (ts earlier : List RunTurn) → ComeAfter start earlier ts
    → ((t : RunTurn) → Contains ts t → IsWork t.op) → AddFetched start (history_of earlier)
    → AddFetched start (history_of (turns_behind ts earlier))
worked_fetched start [] earlier come work was = was
worked_fetched start (t ∷ ts) earlier come work was =
    worked_fetched start ts (t ∷ earlier) come.1 (λ u there. work u (behind t ts u there))
    (fetched_on start (history_of earlier) t.events was (work_of_ones start earlier t come.0 (work t (here t ts))))

-- so there is work before each of them
each_workable : (start : RunStart) (ts earlier : List RunTurn) → OrderlyRun start (history_of (turns_behind ts earlier))
    → AddFetched start (history_of (turns_behind ts earlier)) → 1 ≤ number_value start.global MaxConcurrentDownloads
    → EachBehind (λ before t. IsWorkable start (history_of before)) earlier ts
each_workable start [] earlier orderly calls some = tt
each_workable start (t ∷ ts) earlier orderly calls some = (
  workable start (history_of earlier) (each_behind _ (t ∷ ts) earlier orderly) (each_behind _ (t ∷ ts) earlier calls)
      some,
  each_workable start ts (t ∷ earlier) orderly calls some,
)

-- ---- the run

-- the laws that this stands on
pub record TurnLaws {D O : Type 0} (says : DiskSays D) (sinks : SinkSays O) : Type 0 where
  pub follows : RunFollows
  pub few : SoloTurnsAreFew says.state
  pub append : TurnsAppend
  pub stay : DownloadsStay
  pub done : FinishedAreDone says sinks

-- a worker none of whose turns ended its work took as many as it may
spent_so : (turns : ℕ) (came : Result WorkEnd Spent) (by : Spent) → IsWithinTurns turns came → came ≡ Err by
    → turns ≡ MAX_TURNS
spent_so turns (Ok how) by limited is = absurd (let never : Ok how ≡ Err by = is in cc)
spent_so turns (Err other) by limited is = limited

limited_few : (turns : ℕ) (came : Result WorkEnd Spent) → IsWithinTurns turns came → turns ≤ MAX_TURNS
limited_few turns (Ok how) limited = limited
limited_few turns (Err other) limited = omega (arith, limited)

module _ {D O L K : Type 0} {says : DiskSays D} {sinks : SinkSays O} {links : LinkSays L} {words : List (List ℕ)}
    {gids : ℕ} {disk : D} {old : L × K} {out : O} {ended : Ended D} {new : L × K} {out' : O}
    (one : RanOverOne says sinks links words gids 0 disk old out ended new out') (stay : LengthsStay) (stops : StopLaws)
    (laws : TurnLaws says sinks) where
  abbrev line : CommandLine
  line = (its_run one).begins.line

  abbrev earlier : List RunTurn
  earlier = first_turns one

  abbrev worked : List RunTurn
  worked = one.its.worked

  abbrev later : List RunTurn
  later = one.its.stop ++ (its_run one).stops.last ∷ []

  come : ComeAfter (its_start one) earlier worked
  come = come_of (MayComeAfter (its_start one)) worked earlier (ties_worked one)

  -- ---- there is work

  module _ (usual : LineUsual line) where
    room : LeavesRoom (with_settings (its_start one).global line.settings)
    room = record { tries = usual.own.tries; per_host = usual.own.per_host; split = usual.own.split }

    module _ (b : Option WorkEnd) (works : Works links.tells 0 worked (fresh (link_at links old.0)) one.its.b b) where
      fetched : AddFetched (its_start one) (history_of (turns_behind worked earlier))
      fetched = worked_fetched (its_start one) worked earlier come
          (worked_work links 0 one.from old.0 one.to new.0 one.came one.its)
          (first_fetched (its_start one) line.source line.settings (its_run one).begins.call (its_run one).begun.desk.own
          (its_run one).begun.is_short (its_run one).begins.named (its_run one).begins.lawful room (its_run one).begins.own
          (ties_first one))

      may_work : MayBeWorked (its_start one) earlier worked
      may_work = record {
        doorless = doors_none _ line.globals refl;
        each = each_workable (its_start one) worked earlier (worked_behaves one stay stops).orderly fetched
            usual.globals.active;
      }

      -- ---- it ran alone

      told_same : reverse (all_turns says (its_run one).stops) ≡ turns_behind (worked ++ later) earlier
      told_same =
          told_are one
          ∙ sym (behind_append worked later earlier
          ∙ behind_append one.its.stop ((its_run one).stops.last ∷ []) (turns_behind worked earlier))

      module _ (tells : IsTrue says.tells) (told_link : IsTrue links.tells) where
        run : IsToldRun (its_start one) (turns_behind (worked ++ later) earlier) (says.state ended.disk)
        run = subst (λ (ts : List RunTurn). IsToldRun (its_start one) ts (says.state ended.disk)) told_same
            (told_run (its_run one) tells)

        orderly : OrderlyRun (its_start one) (history_of (turns_behind (worked ++ later) earlier))
        orderly = subst (λ (ts : List RunTurn). OrderlyRun (its_start one) (history_of ts))
            (sym (told_are one) ∙ told_same) (all_behave one stay stops).orderly

        solo : IsSoloRun says.state (its_start one) earlier 0 worked later (link_at links old.0) (link_at links new.0)
            ended.disk
        solo = record {
          first = (begins one).1;
          over = record {
            tells = links.tells;
            told = told_link;
            b = one.its.b;
            end = b;
            works = works;
            now_is = sym one.its.link_is;
          };
          few = limited_few (length worked) one.came one.few;
          run = run;
          own = wants_own laws.follows (its_start one) (says.state ended.disk) (turns_behind (worked ++ later) earlier) run
              (λ gid d added. sole_is (its_start one) (history_of (turns_behind (worked ++ later) earlier)) gid d orderly
              added);
        }

        bounded : AreBoundedBy worked (link_at links old.0) (link_at links new.0)
        bounded = laws.few (its_start one) earlier 0 worked later (link_at links old.0) (link_at links new.0) ended.disk solo
            may_work

  -- ---- the bound

  -- its turns are some of the run's
  among_turns : (t : RunTurn) → Contains worked t → Contains (all_turns says (its_run one).stops) t
  among_turns t there =
      subst (λ (middle : List RunTurn).
      Contains (((its_run one).begun.desk.own ++ middle) ++ (its_run one).stops.last ∷ []) t) (sym one.order)
      (Contains-append_left ((its_run one).begun.desk.own ++ (worked ++ one.its.stop)) ((its_run one).stops.last ∷ []) t
      (Contains-append_right (its_run one).begun.desk.own (worked ++ one.its.stop) t
      (Contains-append_left worked one.its.stop t there)))

  -- the events of its turns are some of the run's
  events_some : length (events_of worked) ≤ length ended.journal.events.items
  events_some =
      let all : ended.journal.events.items
      ≡ events_of ((its_run one).begun.desk.own ++ ((worked ++ one.its.stop) ++ (its_run one).stops.last ∷ [])) =
      ran_facts.items_are (its_run one)
      ∙ (ap events_of (ran_facts.turns_are (its_run one))
      ∙ ap (λ (ts : List RunTurn). events_of ((its_run one).begun.desk.own ++ (ts ++ (its_run one).stops.last ∷ []))) one.order) in
      let cut = events_on (its_run one).begun.desk.own ((worked ++ one.its.stop) ++ (its_run one).stops.last ∷ []) in
      let behind_own = events_on (worked ++ one.its.stop) ((its_run one).stops.last ∷ []) in
      let behind_worked = events_on worked one.its.stop in
      let total : length ended.journal.events.items
      ≡ length (events_of (its_run one).begun.desk.own)
      + length (events_of ((worked ++ one.its.stop) ++ (its_run one).stops.last ∷ [])) =
      ap length all ∙ (ap length cut ∙ length-append (events_of (its_run one).begun.desk.own)
      (events_of ((worked ++ one.its.stop) ++ (its_run one).stops.last ∷ []))) in
      let mid : length (events_of ((worked ++ one.its.stop) ++ (its_run one).stops.last ∷ []))
      ≡ length (events_of (worked ++ one.its.stop)) + length (events_of ((its_run one).stops.last ∷ [])) =
      ap length behind_own
      ∙ length-append (events_of (worked ++ one.its.stop)) (events_of ((its_run one).stops.last ∷ [])) in
      let first : length (events_of (worked ++ one.its.stop))
      ≡ length (events_of worked) + length (events_of one.its.stop) =
      ap length behind_worked ∙ length-append (events_of worked) (events_of one.its.stop) in
      omega (arith, total, mid, first)

  -- a full journal has that many events
  many_events : one.came ≡ Ok end.JournalFull → MAX_ENTRIES - TURN_EVENTS < length ended.journal.events.items
  many_events full =
      let its = came_ends links 0 one.from old.0 one.to new.0 one.came one.its end.JournalFull full (λ starved. cc) in
      let told = full_by its.turn.answer.said its.said_is in
      ltb-true (MAX_ENTRIES - TURN_EVENTS) (length ended.journal.events.items)
      (full_for true links (its_run one) (old ∷ []) (new ∷ []) its.turn (among_turns its.turn its.there) told.0 told.1)

  pub few_turns : LineUsual line → has_console words ≡ false → IsTrue says.tells → IsTrue links.tells → (download : Download)
      → IsBounded (its_start one) (reverse ended.journal.events.items) download
      → HasFewTurns says sinks links words gids disk old out ended new out'
      (limits_of (its_start one) (reverse ended.journal.events.items) download)
  few_turns usual off tells told_link download few =
      let bound = by one.its.comes_out in record {
        one = one;
        turns = bound;
        spent = λ spent is used gains.
            let all = spent_so (length worked) one.came spent one.few is in
            let least = bound used gains in
            omega (arith, all, least);
        full = λ full.
            let many = many_events full in
            let few_events = few.events in
            let all = length-reverse ended.journal.events.items in
            omega (arith, many, few_events, all);
        unfinished = λ left. left_unfinished one laws.append laws.stay laws.done off usual left;
      }
    where
      by : (comes : ComesOut links.tells 0 worked (fresh (link_at links old.0)) one.its.b one.came
          ⊎ HasNoRoom worked (fresh (link_at links old.0)) one.its.b one.came) → (used : List Exchange)
          → Gains (links.state old.0).exchanges (links.state new.0).exchanges used
          → length worked ≤ most_turns (length ended.journal.events.items) used
      by (inl comes) used gains =
          let least = bounded usual comes.end comes.works tells told_link used gains in
          let some = events_some in
          omega (arith, least, some)
      by (inr none) used gains = let zero_turns : length worked ≡ 0 = ap length none.none in omega (arith, zero_turns)

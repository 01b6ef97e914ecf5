-- A run over links whose line adds one download, and no console is asked for: its turns, its calls and how it may end.
use Rattle.std.proofs.Common.{◌≡◌, ◌⊎◌, inl, inr, ⊎_elim, ℕ, Bool, true, false, List, [], ◌∷◌, ◌++◌, append_assoc, Option, Some, None, length, refl, sym, ap, ◌∙◌, subst, arith}
use Rattle.std.specs.Prelude.{◌&&◌, ◌||◌, ◌==◌, ◌≤◌, Contains, not, reverse}
use Rattle.std.proofs.lemmas.Bool.{false≢true}
use Rattle.std.proofs.lemmas.List.{reverse-append, reverse-reverse}
use Rattle.std.proofs.lemmas.List.Elements.{All-contains, Contains-append_cases, Contains-append_left, Contains-append_right, Contains-push_cases}
use Rattle.blameless_mirrors.specs.Lone.{HaveMemory}
use Rattle.blameless_mirrors.proofs.Marks.{first_or}
use Rattle.served_runs.specs.Ends.{EndsUnfailed, FinishedAreDone, HasNoCall, IsFinishedOnce, OnlyCompletes}
use Rattle.served_runs.proofs.Done.{no_call_reversed}
use Rattle.served_runs.proofs.Endings.{in_reverse}
use Rattle.command_line.specs.declared.line.CommandLine.{CommandLine}
use Rattle.conn_worker.specs.declared.ends.WorkEnd.TheVariants as end
use Rattle.dl_disk.specs.declared.disk.Disk.{Ghosts as DiskSays}
use Rattle.dl_kinds.specs.declared.gid.Gid.{Gid}
use Rattle.dl_kinds.specs.declared.outside.Sink.{Ghosts as SinkSays}
use Rattle.dl_kinds.specs.declared.runs.Moment.{Moment}
use Rattle.dl_kinds.specs.Counts.{Rose}
use Rattle.engine_core.specs.Engines.{past_of, start_of}
use Rattle.engine_turns.specs.Told.{RunTurn, history_of}
use Rattle.engine_turns.specs.TurnLaws.{TurnsAppend}
use Rattle.engine_turns.specs.declared.operations.Operation.TheVariants as operation
use Rattle.engine_turns.specs.declared.operations.Said.TheVariants as said
use Rattle.link_source.specs.declared.Links.{Ghosts as LinkSays}
use Rattle.machine_core.specs.Replays.{queue_in}
use Rattle.machine_core.specs.RunLegal.{DownloadsStay, download_in}
use Rattle.machine_core.specs.Starts.{Download, RunStart, Subject}
use Rattle.machine_core.specs.declared.calls.Call.{Call}
use Rattle.machine_core.specs.declared.ends.End.{End}
use Rattle.machine_core.specs.declared.ends.End.TheVariants.{Complete}
use Rattle.machine_core.specs.declared.events.Event.{Event}
use Rattle.machine_core.specs.declared.events.Event.TheVariants as event
use Rattle.run_lifecycle.specs.Begins.{IsOwnCall, is_no_memory}
use Rattle.run_lifecycle.specs.Endings.{ShowsEnding}
use Rattle.run_lifecycle.specs.Finishes.{EndsBy}
use Rattle.run_lifecycle.specs.FrameLaws.{RunsEndAsShown}
use Rattle.run_lifecycle.specs.Stops.{all_turns}
use Rattle.run_lifecycle.specs.declared.ended.Ended.{Ended}
use Rattle.run_lifecycle.proofs.Ran as ran_facts
use Rattle.run_lifecycle.proofs.Turns.{all_reversed}
use Rattle.run_lifecycle.proofs.Turns as list_facts
use Rattle.run_report.specs.Failures.{ending_by, ending_by_history, has_unfinished, last_failure}
use Rattle.run_report.specs.declared.endings.RunEnding.{RunEnding}
use Rattle.run_report.specs.declared.endings.RunEnding.TheVariants.{Done, NoMemory, SinkFault, Unfinished}
use Rattle.turn_desk.specs.Turns.{events_of}
use Rattle.run_lifecycle.specs.Finishes.{Ran}
use Rattle.served_runs.specs.Completes.{EndsCutShort, IsDone, WasCutShort}
use Rattle.served_runs.specs.LinksCauses.{LinksCauses}
use Rattle.served_runs.specs.Over.{IsWork, RanOverLinks, WorkedOver}
use Rattle.served_runs.proofs.FileCalls.{download_on}
use Rattle.served_runs.proofs.WorkEnds.{CameFinished, EndsWork, finished_by}
use Rattle.served_runs.proofs.FirstAdded.{AddedFirst, first_added}
use Rattle.served_runs.proofs.Histories.{HasEnd, HasNoEnd, brought_there, end_or_none, no_stop, queue_stays, there_brought}
use Rattle.served_runs.proofs.LineOptions.{LineUsual}
use Rattle.served_runs.proofs.TurnCalls.{AreOfOnes, CallFirst, IsOfOne, call_first, no_call_of, stop_no_call, work_of_ones}
use Rattle.served_runs.proofs.TurnLists.{behind, first_or_later, here}
use Rattle.served_runs.proofs.Unbegun.{no_rise, not_risen}
use Rattle.served_runs.proofs.Workers.{all_work, ends_so, one_came, one_fed, work_or_stop}
use Rattle.machine_core.specs.Replays.{with_settings}
use Rattle.machine_core.specs.declared.calls.Call.{Call}
use Rattle.blameless_mirrors.specs.Lone.{IsOnly}
use Rattle.blameless_mirrors.specs.Blameless.{HasFailedLink}
use Rattle.served_runs.specs.Completes.{HadNoFaults}
use Rattle.served_runs.specs.LinksCauses.{ShowsLinks}
use Rattle.served_runs.proofs.FirstAdded.{AddsFirst}
use Rattle.served_runs.proofs.OneCall.{only_one}

-- ---- lists

first_false : (a b : Bool) → (a || b) ≡ false → a ≡ false
first_false false b is = refl
first_false true b is = absurd (false≢true (sym is))

-- ---- ends

not_done : (failure : Option End) → ending_by failure true ≡ Done → ⊥
not_done None is = absurd cc
not_done (Some how) is = absurd cc

-- ---- what is known of such a run

-- what its turns do: work, or the stop
abbrev WorksOrStops : RunTurn → Type 0
WorksOrStops t = IsWork t.op ⊎ ((now : Moment) × (t.op ≡ operation.Stop now))

pub record RanOne {D O L K : Type 0} {says : DiskSays D} {sinks : SinkSays O} {limited : Bool} {links : LinkSays L}
    {words : List (List ℕ)} {gids doors : ℕ} {disk : D} {olds : List (L × K)} {out : O} {ended : Ended D}
    {news : List (L × K)} {out' : O}
    (it : RanOverLinks says sinks limited links words gids doors disk olds out ended news out') (subject : Subject) : Type 0
  where
    pub download : Download
    pub there : download_in (ran_facts.start it.ran) (history_of (reverse (all_turns says it.ran.stops))) download.gid
        ≡ Some download
    pub subject_is : download.subject ≡ subject
    pub options : download.options ≡ with_settings (ran_facts.start it.ran).global it.ran.begins.line.settings
    pub only : IsOnly (ran_facts.start it.ran) (history_of (reverse (all_turns says it.ran.stops))) download.gid
    pub memory : HaveMemory (reverse (all_turns says it.ran.stops))
    pub completed : OnlyCompletes says sinks ended.journal.events.items download.gid → ended.ending ≡ Done
        → (g : Gid) × Contains ended.journal.events.items (event.Ended g Complete)
    pub came : IsFinishedOnce says sinks it.ran ⊎ WasCutShort limited links (ran_facts.start it.ran) olds ended news

module _ {D O L K : Type 0} {says : DiskSays D} {sinks : SinkSays O} {limited : Bool} {links : LinkSays L}
    {words : List (List ℕ)} {gids doors : ℕ} {disk : D} {olds : List (L × K)} {out : O} {ended : Ended D}
    {news : List (L × K)} {out' : O} where
  module _ (append : TurnsAppend) (stay : DownloadsStay)
      (it : RanOverLinks says sinks limited links words gids doors disk olds out ended news out') (its : Call)
      (asked : it.ran.begins.call ≡ Some its) (subject : Subject) (adds : AddsFirst its subject it.ran.begins.line.settings)
      (usual : LineUsual it.ran.begins.line) where
    abbrev ran : Ran says sinks words gids doors disk out ended out'
    ran = it.ran

    abbrev line : CommandLine
    line = ran.begins.line

    abbrev start : RunStart
    start = ran_facts.start ran

    abbrev all : List RunTurn
    all = all_turns says ran.stops

    abbrev told : List RunTurn
    told = reverse all

    abbrev middle : List RunTurn
    middle = ran.stops.middle

    abbrev last : RunTurn
    last = ran.stops.last

    abbrev items : List Event
    items = ended.journal.events.items

    abbrev past : List Event
    past = history_of told

    own : IsOwnCall (Some its) ran.begun.desk.own ran.begun.is_short
    own = subst (λ (c : Option Call). IsOwnCall c ran.begun.desk.own ran.begun.is_short) asked ran.begins.own

    abbrev first : RunTurn
    first = own.0

    all_are : all ≡ first ∷ (middle ++ last ∷ [])
    all_are = ap (λ (ts : List RunTurn). (ts ++ middle) ++ last ∷ []) own.1

    off : ran.begun.console.is_on ≡ false
    off = ap (λ c. c.is_on) ran.begins.console_is ∙ ap (λ (n : ℕ). n == 1) usual.globals.off

    in_past : (e : Event) → Contains items e → Contains past e
    in_past e there = subst (λ (es : List Event). Contains es e) (ran_facts.history_is ran) (in_reverse items e there)

    in_items : (e : Event) → Contains past e → Contains items e
    in_items e there = subst (λ (es : List Event). Contains es e) (reverse-reverse items)
        (in_reverse (reverse items) e
        (subst (λ (es : List Event). Contains es e) (sym (ran_facts.history_is ran)) there))

    -- ---- memory sufficed

    module _ (unshort : (it.ran.begun.is_short || it.ran.short) ≡ false) where
      called : is_no_memory first.answer.said ≡ false
      called = sym own.3 ∙ first_false ran.begun.is_short ran.short unshort

      came_first : CallFirst its first
      came_first = call_first start first its
          (ran_facts.may_come ran [] first (middle ++ last ∷ []) all_are) own.2 called

      abbrev call_event : Event
      call_event = event.Called 0 its came_first.now

      abbrev base : List Event
      base = call_event ∷ []

      abbrev rest : List Event
      rest = came_first.saves ++ events_of (middle ++ last ∷ [])

      items_are : items ≡ call_event ∷ rest
      items_are = ran_facts.items_are ran
          ∙ (ap events_of all_are ∙ ap (λ (es : List Event). es ++ events_of (middle ++ last ∷ [])) came_first.cut)

      past_is : past ≡ reverse rest ++ base
      past_is = sym (ran_facts.history_is ran) ∙ (ap reverse items_are ∙ reverse-append (call_event ∷ []) rest)

      added : AddedFirst start base subject line.settings
      added = first_added start 0 its came_first.now subject line.settings adds usual.globals.active usual.own.unpaused

      abbrev gid : Gid
      gid = added.download.gid

      there : download_in start past gid ≡ Some added.download
      there = subst (λ (p : List Event). download_in start p gid ≡ Some added.download) (sym past_is)
          (download_on stay start (reverse rest) base gid added.download added.added)

      -- how it ended, by its history
      by_history : ended.ending ≡ Done → ending_by_history start past ≡ Done
      by_history is_done =
          let reports = subst (λ (b : Bool). EndsBy sinks b ran.engine out out' ended.ending) unshort
          ran.finishes.ends in
          let same : ending_by_history (start_of ran.engine.state) (past_of ran.engine.state)
          ≡ ending_by_history start past =
          λ i. ending_by_history (ran_facts.start_is ran i)
          ((sym (ran_facts.journal_is ran) ∙ ran_facts.history_is ran) i) in
          ⊎_elim
          (λ (told_by : (ended.ending ≡ ending_by_history (start_of ran.engine.state)
          (past_of ran.engine.state)) × (sinks.faults out' ≡ sinks.faults out)).
          sym same ∙ (sym told_by.0 ∙ is_done))
          (λ more. ⊎_elim
          (λ (starved : (ended.ending ≡ NoMemory) × (sinks.faults out' ≡ sinks.faults out)).
          absurd (let never : NoMemory ≡ Done = sym starved.0 ∙ is_done in cc))
          (λ (sunk : (ended.ending ≡ SinkFault) × Rose (sinks.faults out) (sinks.faults out')).
          absurd (let never : SinkFault ≡ Done = sym sunk.0 ∙ is_done in cc)) more) reports.ends

      -- .. for all that its workers did
      starved_not : (t : RunTurn) → Contains (first ∷ (middle ++ last ∷ [])) t → IsWork t.op → t.answer.said ≡ said.NoMemory
          → ⊥
      starved_not t is_there works = ⊎_elim
          (λ (same : first ≡ t). absurd (subst IsWork (ap (λ (u : RunTurn). u.op) (sym same) ∙ own.2) works))
          (λ (later : Contains (middle ++ last ∷ []) t). ⊎_elim
          (λ (within : Contains middle t). one_fed limited links ran olds news unshort it.over.works t (it.over.works t within works) works)
          (λ (at_last : last ≡ t). absurd (subst IsWork (ap (λ (u : RunTurn). u.op) (sym at_last) ∙ ran.stops.op) works))
          (Contains-push_cases middle last t later))
          (first_or_later first (middle ++ last ∷ []) t is_there)

      memory : HaveMemory told
      memory = all_reversed (λ before t. IsWork t.op → ¬ (t.answer.said ≡ said.NoMemory)) all (λ earlier t later is_cut.
          starved_not t (subst (λ (ts : List RunTurn). Contains ts t) (sym is_cut ∙ all_are)
          (Contains-append_right earlier (t ∷ later) t (here t later))))

      -- ---- its calls

      abbrev CutAt : RunTurn → Type 0
      CutAt t = list_facts.CutAt all t

      behind_first : (t : RunTurn) → Contains (middle ++ last ∷ []) t → CutAt t
      behind_first t is_there = list_facts.cut_at all t
          (subst (λ (ts : List RunTurn). Contains ts t) (sym all_are) (behind first (middle ++ last ∷ []) t is_there))

      kinds : (t : RunTurn) → Contains (middle ++ last ∷ []) t → WorksOrStops t
      kinds t is_there = ⊎_elim
          (λ (within : Contains middle t). work_or_stop limited links ran olds news t (it.over.alone off t within))
          (λ (at_last : last ≡ t). inr (record { 0 = 0 }, ap (λ (u : RunTurn). u.op) (sym at_last) ∙ ran.stops.op))
          (Contains-push_cases middle last t is_there)

      turn_calls_not : (t : RunTurn) → CutAt t → WorksOrStops t → HasNoCall t.events
      turn_calls_not t c kind = ⊎_elim
          (λ (works : IsWork t.op).
          no_call_of t.events (work_of_ones start (reverse c.front) t (ran_facts.may_come ran c.front t c.back c.cut) works))
          (λ (stops : (now : Moment) × (t.op ≡ operation.Stop now)).
          stop_no_call start (reverse c.front) t stops.0 (ran_facts.may_come ran c.front t c.back c.cut) stops.1) kind

      no_call : HasNoCall rest
      no_call session asked now is_there = ⊎_elim
          (λ (saved : Contains came_first.saves (event.Called session asked now)).
          no_call_of came_first.saves came_first.own session asked now saved)
          (λ (brought : Contains (events_of (middle ++ last ∷ [])) (event.Called session asked now)).
          let by = list_facts.brought_by (middle ++ last ∷ []) (event.Called session asked now) brought in
          let at = subst (λ (ts : List RunTurn). Contains ts by.turn) (sym by.cut)
          (Contains-append_right by.earlier (by.turn ∷ by.later) by.turn (here by.turn by.later)) in
          turn_calls_not by.turn (behind_first by.turn at) (kinds by.turn at) session asked now by.there)
          (Contains-append_cases came_first.saves (events_of (middle ++ last ∷ [])) (event.Called session asked now) is_there)

      -- ---- its download

      only : IsOnly start past gid
      only other d is_added =
          let back : reverse (call_event ∷ rest) ≡ past = ap reverse (sym items_are) ∙ ran_facts.history_is ran in
          only_one start 0 came_first.now rest no_call its added.download added.alone other d
          (subst (λ (p : List Event). download_in start p other ≡ Some d) (sym back) is_added)

      completed : OnlyCompletes says sinks items gid → ended.ending ≡ Done → (g : Gid) × Contains items (event.Ended g Complete)
      completed ends is_done = ⊎_elim
          (λ (has : HasEnd (reverse rest)).
          let at : Contains items (event.Ended has.0 has.1) =
          in_items (event.Ended has.0 has.1) (subst (λ (es : List Event). Contains es (event.Ended has.0 has.1)) (sym past_is)
          (Contains-append_left (reverse rest) base (event.Ended has.0 has.1) has.2)) in
          let so = ends has.0 has.1 at in
          (has.0, subst (λ (how : End). Contains items (event.Ended has.0 how)) so.1 at))
          (λ (endless : HasNoEnd (reverse rest)).
          let queue : queue_in start past ≡ queue_in start base = ap (queue_in start) past_is
          ∙ queue_stays start base (reverse rest) (no_call_reversed rest no_call) endless in
          let unfinished : has_unfinished (queue_in start past) ≡ true = ap has_unfinished queue
          ∙ ap (λ (a : List Gid). not (length a == 0 && length (queue_in start base).waiting == 0)) added.active in
          absurd (not_done (last_failure past)
          (sym (ap (ending_by (last_failure past)) unfinished) ∙ by_history is_done)))
          (end_or_none (reverse rest))

      so_far : IsFinishedOnce says sinks ran ⊎ WasCutShort limited links start olds ended news → RanOne it subject
      so_far came = record {
        download = added.download;
        there = there;
        subject_is = added.subject_is;
        options = added.options;
        only = only;
        memory = memory;
        completed = completed;
        came = came;
      }

      -- ---- nothing was left to do for any worker

      module _ (works : (t : RunTurn) → Contains it.ran.stops.middle t → IsWork t.op)
          (finishes : EndsWork it.ran.stops.middle end.Finished) where
        pub finished_once : IsFinishedOnce says sinks it.ran
        finished_once =
            let c = list_facts.cut_at middle finishes.turn finishes.there in
            let earlier = first ∷ c.front in
            let called_there : Contains (events_of earlier) call_event =
            Contains-append_left first.events (events_of c.front) call_event
            (subst (λ (es : List Event). Contains es call_event) (sym came_first.cut) (0, omega arith, refl)) in
            record {
              earlier = earlier;
              turn = finishes.turn;
              later = c.back ++ last ∷ [];
              cut = all_are ∙ (λ i. first ∷ ((ap (λ (ts : List RunTurn). ts ++ last ∷ []) c.cut
                  ∙ append_assoc c.front (finishes.turn ∷ c.back) (last ∷ [])) i));
              said = finished_by finishes.turn.answer.said finishes.said_is;
              unstopped = no_stop (history_of (reverse earlier)) (λ is_there.
                  no_stop_before c.front (finishes.turn ∷ c.back) c.cut
                  (brought_there append earlier event.Stopped is_there));
              session = 0;
              call = its;
              now = came_first.now;
              rest = rest;
              first = items_are;
              alone = no_call;
              begun = there_brought append earlier call_event called_there;
              unshut = added.unshut;
              waits = added.waiting;
            }
          where
            not_of_one : (es : List Event) → AreOfOnes es → Contains es event.Stopped → ⊥
            not_of_one es ones is_there =
                let one = All-contains IsOfOne es event.Stopped ones is_there in
                (let never : None ≡ Some one.0 = one.1 in absurd cc)

            no_stop_before : (front back : List RunTurn) → middle ≡ front ++ back
                → Contains (events_of (first ∷ front)) event.Stopped → ⊥
            no_stop_before front back is_cut is_there = ⊎_elim
                (λ (in_first : Contains first.events event.Stopped). ⊎_elim
                (λ (same : call_event ≡ event.Stopped). absurd cc)
                (λ (saved : Contains came_first.saves event.Stopped). not_of_one came_first.saves came_first.own saved)
                (first_or call_event event.Stopped came_first.saves
                (subst (λ (es : List Event). Contains es event.Stopped) came_first.cut in_first)))
                (λ (in_front : Contains (events_of front) event.Stopped).
                let by = list_facts.brought_by front event.Stopped in_front in
                let within : Contains middle by.turn = subst (λ (ts : List RunTurn). Contains ts by.turn) (sym is_cut)
                (Contains-append_left front back by.turn
                (subst (λ (ts : List RunTurn). Contains ts by.turn) (sym by.cut)
                (Contains-append_right by.earlier (by.turn ∷ by.later) by.turn (here by.turn by.later)))) in
                let c = behind_first by.turn (Contains-append_left middle (last ∷ []) by.turn within) in
                not_of_one by.turn.events
                (work_of_ones start (reverse c.front) by.turn (ran_facts.may_come ran c.front by.turn c.back c.cut)
                (works by.turn within)) by.there)
                (Contains-append_cases first.events (events_of front) event.Stopped is_there)

    abbrev Cut : Type 0
    Cut = WasCutShort limited links start olds ended news

    -- the turn that found nothing left to do is one of the first worker's
    found : (at : WorkedOver limited links ran olds news 0) → CameFinished at.own.its.worked at.own.its.stop
        → EndsWork middle end.Finished
    found at came = record {
      turn = came.finishes.turn;
      there = at.own.among came.finishes.turn came.finishes.there;
      said_is = came.finishes.said_is;
    }

    -- nothing was left to do for any worker, or one was cut short
    came_of : 1 ≤ length olds → (unshort : (ran.begun.is_short || ran.short) ≡ false) → IsFinishedOnce says sinks ran ⊎ Cut
    came_of some unshort =
        let first_at = it.over.each unshort 0 (omega (arith, some)) in ⊎_elim
        (λ (came : CameFinished first_at.own.its.worked first_at.own.its.stop). ⊎_elim
        (λ (works : (t : RunTurn) → Contains middle t → IsWork t.op). inl (finished_once unshort works (found first_at came)))
        (λ (cut : Cut). inr cut) (all_work limited links ran olds news unshort it.over.works middle (it.over.alone off)))
        (λ (cut : Cut). inr cut) (one_came limited links ran olds news unshort it.over.works 0 first_at)

    came_well : 1 ≤ length olds → (short : Bool) → (ran.begun.is_short || ran.short) ≡ short
        → RanOne it subject ⊎ (ended.ending ≡ NoMemory)
    came_well some true at =
        inr (ends_so sinks ran.engine out out' ended.ending (ran.begun.is_short || ran.short) at ran.finishes.ends)
    came_well some false unshort = inl (so_far unshort (came_of some unshort))

    -- so it is, or memory was wanting
    pub ran_one : 1 ≤ length olds → RanOne it subject ⊎ (ended.ending ≡ NoMemory)
    ran_one some = came_well some (ran.begun.is_short || ran.short) refl

  -- ---- faults

  -- no link failed, so no loss of a claim tells a count
  pub no_failed_link : (it : RanOverLinks says sinks limited links words gids doors disk olds out ended news out')
      → ShowsLinks links words gids doors ended.journal.events.items olds news
      → HadNoFaults says links sinks words disk olds out ended news out' → (gid : Gid) (mirror : ℕ)
      → ¬ HasFailedLink (history_of (reverse (all_turns says it.ran.stops))) gid mirror
  no_failed_link it shows well gid mirror (id, piece, mark, there, counted) =
      let items = ended.journal.events.items in
      let lost = event.Lost gid id mirror piece mark in
      let in_items : Contains items lost = subst (λ (es : List Event). Contains es lost) (reverse-reverse items)
      (in_reverse (reverse items) lost
      (subst (λ (es : List Event). Contains es lost) (sym (ran_facts.history_is it.ran)) there)) in ⊎_elim
      (λ (none : items ≡ []).
      let empty : Contains [] lost = subst (λ (es : List Event). Contains es lost) none in_items in
      absurd (let within = empty.1 in omega (arith, within)))
      (λ (causes : LinksCauses links words gids doors items olds news).
      let at = causes.lost gid id mirror piece mark in_items in
      let still = well.of_links at.place at.old at.new at.old_is at.new_is in
      absurd (no_rise (links.faults at.old.0) at.told.since.faults at.told.at.faults (links.faults at.new.0) still.0 still.1
      at.told.meanwhile.from.faults (at.told.count counted).0 at.told.meanwhile.to.faults)) shows

  module _ (it : RanOverLinks says sinks limited links words gids doors disk olds out ended news out')
      (shown : RunsEndAsShown says sinks) (well : HadNoFaults says links sinks words disk olds out ended news out') where
    not_sunk : ended.ending ≡ SinkFault → ⊥
    not_sunk sunk =
        let ends = (shown words gids doors disk out ended out' (inr it.ran)).shown in
        let rose : Rose (sinks.faults out) (sinks.faults out') =
        subst (λ (e : RunEnding). ShowsEnding says sinks words gids doors disk out ended out' e) sunk ends in
        not_risen (sinks.faults out) (sinks.faults out') (sinks.faults out') well.of_output.0 well.of_output.1 rose
        (omega arith)

    -- nor did anything else
    pub comes : (subject : Subject) → FinishedAreDone says sinks → (one : RanOne it subject)
        → OnlyCompletes says sinks ended.journal.events.items one.download.gid → EndsUnfailed ended.ending
        → IsDone ended ⊎ (ended.ending ≡ NoMemory) ⊎ EndsCutShort limited links (ran_facts.start it.ran) olds ended news
    comes subject finished one only ends = ⊎_elim
        (λ (done : ended.ending ≡ Done). let so = one.completed only done in inl (done, so.0, so.1))
        (λ more. ⊎_elim
        (λ (unfinished : ended.ending ≡ Unfinished). ⊎_elim
        (λ (once : IsFinishedOnce says sinks it.ran).
        absurd (finished words gids doors disk out ended out' it.ran once unfinished))
        (λ (cut : WasCutShort limited links (ran_facts.start it.ran) olds ended news). inr (inr (record { cut = cut; unfinished = unfinished })))
        one.came)
        (λ rest_of. ⊎_elim (λ (starved : ended.ending ≡ NoMemory). inr (inl starved))
        (λ (sunk : ended.ending ≡ SinkFault). absurd (not_sunk sunk)) rest_of) more) ends

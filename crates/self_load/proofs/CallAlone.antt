-- A run over links has one call where its line adds a download of a metainfo file and asks for no console. By its
-- history that download is complete just where the run is done.
use Rattle.std.proofs.Common.{◌≡◌, ⊎_elim, ℕ, Bool, true, false, List, [], ◌∷◌, ◌++◌, Option, Some, refl, sym, ap, ◌∙◌, subst}
use Rattle.std.specs.Prelude.{◌||◌, ◌==◌, Contains, reverse}
use Rattle.std.proofs.lemmas.Bool.{false≢true}
use Rattle.std.proofs.lemmas.List.{reverse-append}
use Rattle.std.proofs.lemmas.List.Elements.{Contains-append_cases, Contains-append_right, Contains-push_cases}
use Rattle.blameless_mirrors.specs.Lone.{IsLoneListed, LoneAreAlone, LoneDownloadsEndWell}
use Rattle.served_runs.specs.Ends.{HasNoCall}
use Rattle.served_runs.specs.Over.{RanOverLinks}
use Rattle.served_runs.proofs.Done.{no_call_reversed}
use Rattle.served_runs.proofs.FileCalls.{CallOfFile, download_on}
use Rattle.served_runs.proofs.Finishing.{stop_emptied}
use Rattle.served_runs.proofs.FirstAdded.{AddedFirst, first_added}
use Rattle.served_runs.proofs.LineOptions.{LineUsual}
use Rattle.served_runs.proofs.OneCall.{only_one}
use Rattle.served_runs.proofs.TurnCalls.{CallFirst, call_first, no_call_of, stop_no_call, work_of_ones}
use Rattle.served_runs.proofs.TurnLists.{behind, here}
use Rattle.served_runs.proofs.WorkEnds.{worked_work}
use Rattle.served_runs.proofs.Workers.{is_stopping}
use Rattle.dl_disk.specs.declared.disk.Disk.{Ghosts as DiskSays}
use Rattle.dl_kinds.specs.declared.gid.Gid.{Gid}
use Rattle.dl_kinds.specs.declared.outside.Sink.{Ghosts as SinkSays}
use Rattle.engine_turns.specs.Told.{RunTurn, history_of}
use Rattle.link_source.specs.declared.Links.{Ghosts as LinkSays}
use Rattle.machine_core.specs.Replays.{queue_in, with_settings}
use Rattle.machine_core.specs.RunLegal.{DownloadsAreLegal, DownloadsStay, IsLegal, download_in}
use Rattle.machine_core.specs.Starts.{Download, Listed, RunStart}
use Rattle.machine_core.specs.declared.calls.Call.{Call}
use Rattle.machine_core.specs.declared.ends.End.{End}
use Rattle.machine_core.specs.declared.ends.End.TheVariants.{Complete}
use Rattle.machine_core.specs.declared.events.Event.{Event}
use Rattle.machine_core.specs.declared.events.Event.TheVariants as event
use Rattle.metainfo.specs.declared.meta.Meta.{Meta}
use Rattle.run_lifecycle.specs.Begins.{IsOwnCall, is_no_memory}
use Rattle.run_lifecycle.specs.Finishes.{Ran}
use Rattle.run_lifecycle.specs.Stops.{all_turns}
use Rattle.run_lifecycle.specs.declared.ended.Ended.{Ended}
use Rattle.run_lifecycle.proofs.Ran as ran_facts
use Rattle.run_lifecycle.proofs.Turns as list_facts
use Rattle.run_report.specs.Failures.{ending_by_history}
use Rattle.run_report.specs.declared.endings.RunEnding.TheVariants.{Done}
use Rattle.stored_run.proofs.Doing.{own_grows}
use Rattle.turn_desk.specs.Turns.{events_of}
use Rattle.self_load.proofs.Ends.{EndsOf, IsOneActive, done_has, first_or_later, has_done, none_in}

-- what is known of every run
pub record Laws : Type 0 where
  pub stay : DownloadsStay
  pub parts : DownloadsAreLegal
  pub ends : LoneDownloadsEndWell
  pub alone : LoneAreAlone

first_false : (a b : Bool) → (a || b) ≡ false → a ≡ false
first_false false b is = refl
first_false true b is = absurd (false≢true (sym is))

-- The run has one download, of this metainfo file; it is complete just where the run is done, if it ends as its history
-- tells.
pub record RanOneListed {D O : Type 0} {says : DiskSays D} {sinks : SinkSays O} {words : List (List ℕ)} {gids doors : ℕ}
    {disk : D} {out : O} {ended : Ended D} {out' : O} (ran : Ran says sinks words gids doors disk out ended out')
    (meta : Meta) (uris : List (List ℕ)) : Type 0 where
  pub download : Download
  pub added : download_in (ran_facts.start ran) (history_of (ran_facts.told ran)) download.gid ≡ Some download
  pub subject_is : download.subject ≡ Listed meta uris
  pub options : download.options ≡ with_settings (ran_facts.start ran).global ran.begins.line.settings
  pub lone : IsLoneListed (ran_facts.start ran) (history_of (ran_facts.told ran)) download.gid meta
  pub has : ending_by_history (ran_facts.start ran) (history_of (ran_facts.told ran)) ≡ Done
      → Contains (history_of (ran_facts.told ran)) (event.Ended download.gid Complete)
  pub done : (other : Gid) → Contains (history_of (ran_facts.told ran)) (event.Ended other Complete)
      → ending_by_history (ran_facts.start ran) (history_of (ran_facts.told ran)) ≡ Done

module _ {D O L K : Type 0} {says : DiskSays D} {sinks : SinkSays O} {limited : Bool} {links : LinkSays L}
    {words : List (List ℕ)} {gids doors : ℕ} {disk : D} {olds : List (L × K)} {out : O} {ended : Ended D}
    {news : List (L × K)} {out' : O} where
  module _ (laws : Laws) (it : RanOverLinks says sinks limited links words gids doors disk olds out ended news out')
      (usual : LineUsual it.ran.begins.line) (meta : Meta) (uris : List (List ℕ))
      (asked : CallOfFile it.ran.begins.call meta uris it.ran.begins.line.settings)
      (unshort : (it.ran.begun.is_short || it.ran.short) ≡ false) where
    abbrev ran : Ran says sinks words gids doors disk out ended out'
    ran = it.ran

    abbrev start : RunStart
    start = ran_facts.start ran

    abbrev all : List RunTurn
    all = all_turns says ran.stops

    abbrev middle : List RunTurn
    middle = ran.stops.middle

    abbrev last : RunTurn
    last = ran.stops.last

    abbrev items : List Event
    items = ended.journal.events.items

    abbrev past : List Event
    past = history_of (ran_facts.told ran)

    own : IsOwnCall (Some asked.its) ran.begun.desk.own ran.begun.is_short
    own = subst (λ (c : Option Call). IsOwnCall c ran.begun.desk.own ran.begun.is_short) asked.is ran.begins.own

    abbrev first : RunTurn
    first = own.0

    all_are : all ≡ first ∷ (middle ++ last ∷ [])
    all_are = ap (λ (ts : List RunTurn). (ts ++ middle) ++ last ∷ []) own.1

    off : ran.begun.console.is_on ≡ false
    off = ap (λ c. c.is_on) ran.begins.console_is ∙ ap (λ (n : ℕ). n == 1) usual.globals.off

    -- ---- its first call

    called : is_no_memory first.answer.said ≡ false
    called = sym own.3 ∙ first_false ran.begun.is_short ran.short unshort

    came_first : CallFirst asked.its first
    came_first = call_first start first asked.its
        (ran_facts.may_come ran [] first (middle ++ last ∷ []) all_are) own.2 called

    abbrev call_event : Event
    call_event = event.Called 0 asked.its came_first.now

    abbrev base : List Event
    base = call_event ∷ []

    abbrev rest : List Event
    rest = came_first.saves ++ events_of (middle ++ last ∷ [])

    items_are : items ≡ call_event ∷ rest
    items_are = ran_facts.items_are ran
        ∙ (ap events_of all_are ∙ ap (λ (es : List Event). es ++ events_of (middle ++ last ∷ [])) came_first.cut)

    past_is : past ≡ reverse rest ++ base
    past_is = sym (ran_facts.history_is ran) ∙ (ap reverse items_are ∙ reverse-append (call_event ∷ []) rest)

    added : AddedFirst start base (Listed meta uris) ran.begins.line.settings
    added = first_added start 0 asked.its came_first.now (Listed meta uris) ran.begins.line.settings asked.adds
        usual.globals.active usual.own.unpaused

    abbrev gid : Gid
    gid = added.download.gid

    there : download_in start past gid ≡ Some added.download
    there = subst (λ (p : List Event). download_in start p gid ≡ Some added.download) (sym past_is)
        (download_on laws.stay start (reverse rest) base gid added.download added.added)

    -- ---- no other call

    -- a worker's own turns are work, or a stop
    quiet : (t : RunTurn) → Contains middle t → (c : list_facts.CutAt all t) → HasNoCall t.events
    quiet t is_there c =
        let by = it.over.alone off t is_there in
        let own_turns = by.at.own in
        let its = own_turns.its in
        let may = ran_facts.may_come ran c.front t c.back c.cut in ⊎_elim
        (λ (works : Contains its.worked t).
        no_call_of t.events (work_of_ones start (reverse c.front) t may
        (worked_work links by.place own_turns.from by.at.old.0 own_turns.to by.at.new.0 own_turns.came its t works)))
        (λ (stops : Contains its.stop t).
        stop_no_call start (reverse c.front) t (record { 0 = its.b.moment }) may
        (is_stopping own_turns.came its.b.moment its.stop t its.stops stops))
        (Contains-append_cases its.worked its.stop t by.there)

    brought_none : (t : RunTurn) → Contains (middle ++ last ∷ []) t → HasNoCall t.events
    brought_none t is_there =
        let c = list_facts.cut_at all t (subst (λ (ts : List RunTurn). Contains ts t) (sym all_are)
        (behind first (middle ++ last ∷ []) t is_there)) in ⊎_elim
        (λ (within : Contains middle t). quiet t within c)
        (λ (at_last : last ≡ t).
        stop_no_call start (reverse c.front) t (record { 0 = 0 })
        (ran_facts.may_come ran c.front t c.back c.cut)
        (ap (λ (u : RunTurn). u.op) (sym at_last) ∙ ran.stops.op))
        (Contains-push_cases middle last t is_there)

    no_call : HasNoCall rest
    no_call session its now is_there = ⊎_elim
        (λ (saved : Contains came_first.saves (event.Called session its now)).
        no_call_of came_first.saves came_first.own session its now saved)
        (λ (brought : Contains (events_of (middle ++ last ∷ [])) (event.Called session its now)).
        let by = list_facts.brought_by (middle ++ last ∷ []) (event.Called session its now) brought in
        brought_none by.turn
        (subst (λ (ts : List RunTurn). Contains ts by.turn) (sym by.cut)
        (Contains-append_right by.earlier (by.turn ∷ by.later) by.turn (here by.turn by.later)))
        session its now by.there)
        (Contains-append_cases came_first.saves (events_of (middle ++ last ∷ []))
        (event.Called session its now) is_there)

    -- ---- its download

    lone : IsLoneListed start past gid meta
    lone =
        let back : reverse (call_event ∷ rest) ≡ past = ap reverse (sym items_are) ∙ ran_facts.history_is ran in
        record {
          download = added.download;
          added = there;
          uris = uris;
          subject = added.subject_is;
          only = λ other d is_added.
              only_one start 0 came_first.now rest no_call asked.its added.download added.alone other d
              (subst (λ (p : List Event). download_in start p other ≡ Some d) (sym back) is_added);
        }

    legal : IsLegal start past
    legal = ran_facts.legal_told ran

    its_ends : EndsOf gid (reverse rest ++ base)
    its_ends other how is_there =
        (laws.ends start past gid meta legal lone other how
        (subst (λ (p : List Event). Contains p (event.Ended other how)) (sym past_is) is_there)).0

    no_later_call : HasNoCall (reverse rest)
    no_later_call = no_call_reversed rest no_call

    one_active : IsOneActive gid (queue_in start base)
    one_active = record { active = added.active; waiting = added.waiting }

    none_ended : (other : Gid) (how : End) → ¬ Contains base (event.Ended other how)
    none_ended other how is_there =
        ⊎_elim (λ (same : call_event ≡ event.Ended other how). absurd cc)
        (λ (none : Contains [] (event.Ended other how)). none_in (event.Ended other how) none)
        (first_or_later call_event [] (event.Ended other how) is_there)

    -- ---- how it ended, by its history

    history_has : ending_by_history start past ≡ Done → Contains past (event.Ended gid Complete)
    history_has is =
        subst (λ (p : List Event). Contains p (event.Ended gid Complete)) (sym past_is)
        (done_has stop_emptied start gid base one_active own_grows (reverse rest) no_later_call its_ends none_ended
        (subst (IsLegal start) past_is legal) (ap (ending_by_history start) (sym past_is) ∙ is))

    history_done : (other : Gid) → Contains past (event.Ended other Complete) → ending_by_history start past ≡ Done
    history_done other is_there =
        ap (ending_by_history start) past_is
        ∙ has_done stop_emptied start gid base one_active own_grows (reverse rest) no_later_call its_ends none_ended
        (subst (IsLegal start) past_is legal) other
        (subst (λ (p : List Event). Contains p (event.Ended other Complete)) past_is is_there)

    pub ran_one_listed : RanOneListed ran meta uris
    ran_one_listed = record {
      download = added.download;
      added = there;
      subject_is = added.subject_is;
      options = added.options;
      lone = lone;
      has = history_has;
      done = history_done;
    }

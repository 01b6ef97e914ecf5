-- A run over links that lead to all that is to come of what a metainfo file lists is done, where nothing cuts it short.
use Rattle.std.proofs.Common.{◌≡◌, ◌⊎◌, inl, inr, ⊎_elim, ℕ, Bool, IsTrue, List, Some, length, sym, ap, ◌∙◌, subst, arith}
use Rattle.std.specs.Prelude.{◌≤◌, ◌<◌, reverse}
use Rattle.blameless_mirrors.specs.Blameless.{HasChosenPieces, IsListedAlone}
use Rattle.blameless_mirrors.specs.Lone.{IsLoneListed, LoneAreAlone}
use Rattle.served_runs.specs.Ends.{BroughtRunsEndWell, FinishedAreDone, IsBroughtRun}
use Rattle.command_line.specs.LineLaws.{LinesAreOne}
use Rattle.command_line.specs.declared.line.CommandLine.{CommandLine}
use Rattle.command_line.specs.declared.source.Source.{Source}
use Rattle.control_file.specs.declared.want.Want.{Want}
use Rattle.dl_disk.specs.declared.disk.Disk.{Ghosts as DiskSays}
use Rattle.dl_kinds.specs.declared.gid.Gid.{Gid}
use Rattle.dl_kinds.specs.declared.outside.Sink.{Ghosts as SinkSays}
use Rattle.engine_turns.specs.Told.{RunTurn, history_of}
use Rattle.engine_turns.specs.TurnLaws.{TurnsAppend}
use Rattle.command_call.specs.Sources.{IsCallOf}
use Rattle.link_source.specs.declared.Links.{Ghosts as LinkSays}
use Rattle.machine_core.specs.RunLegal.{DownloadsStay, is_listed, mirrors_by, tries_in}
use Rattle.machine_core.specs.Starts.{Download, Listed, RunStart, Subject}
use Rattle.machine_core.specs.declared.events.Event.{Event}
use Rattle.metainfo.specs.declared.meta.Meta.{Meta}
use Rattle.option_set.specs.Values.{OptionValues, number_value}
use Rattle.option_set.specs.declared.kinds.Num.TheVariants.{MaxTries}
use Rattle.resume_core.specs.Wants.{payload_name}
use Rattle.run_lifecycle.specs.Begins.{start_of_line}
use Rattle.run_lifecycle.specs.FrameLaws.{RunsEndAsShown}
use Rattle.run_lifecycle.specs.Promises.{CompletedAreRight}
use Rattle.run_lifecycle.specs.Stops.{all_turns}
use Rattle.run_lifecycle.specs.declared.ended.Ended.{Ended}
use Rattle.run_lifecycle.proofs.Ran as ran_facts
use Rattle.run_report.specs.declared.endings.RunEnding.TheVariants.{NoMemory}
use Rattle.served_runs.specs.ServedRuns.{RunsAreFaithful}
use Rattle.run_lifecycle.specs.Finishes.{Ran}
use Rattle.served_runs.specs.Completes.{CompletesServed, EndsCutShort, IsDone, IsDoneWhole, IsServedWhole, NamesPayload, own_options}
use Rattle.served_runs.specs.OverLaws.{RunsShowLinks}
use Rattle.served_runs.specs.Over.{IsRunOver, RanOverLinks}
use Rattle.served_runs.specs.Served.{AllServe, IsServed}
use Rattle.served_runs.proofs.FileCalls.{CallOfFile, call_of_file, has_want, want_of}
use Rattle.served_runs.proofs.LineOptions.{LineUsual, line_usual}
use Rattle.served_runs.proofs.Spared.{brings}
use Rattle.served_runs.proofs.Unbegun.{never_began}
use Rattle.served_runs.proofs.OneAdded.{RanOne, comes, no_failed_link, ran_one}
use Rattle.served_runs.proofs.Standing.{done_whole}
use Rattle.stored_run.specs.RunFollows.{RunFollows}

-- ---- the run

-- what is known of every run
pub record Laws {D O L : Type 0} (K : Type 0) (says : DiskSays D) (sinks : SinkSays O) (links : LinkSays L) : Type 0 where
  pub append : TurnsAppend
  pub stay : DownloadsStay
  pub lines : LinesAreOne
  pub faithful : RunsAreFaithful says sinks links
  pub well : BroughtRunsEndWell says sinks
  pub done : FinishedAreDone says sinks
  pub alone : LoneAreAlone
  pub shown : RunsEndAsShown says sinks
  pub shows : RunsShowLinks K says sinks links
  pub right : CompletedAreRight says.state
  pub follows : RunFollows

module _ {D O L K : Type 0} {says : DiskSays D} {sinks : SinkSays O} {limited : Bool} {links : LinkSays L}
    {words : List (List ℕ)} {gids doors : ℕ} {disk : D} {olds : List (L × K)} {out : O} {ended : Ended D}
    {news : List (L × K)} {out' : O} where
  module _ (laws : Laws K says sinks links)
      (it : RanOverLinks says sinks limited links words gids doors disk olds out ended news out')
      (tells : IsTrue says.tells) (link_tells : IsTrue links.tells)
      (named : CommandLine) (meta : Meta) (uris : List (List ℕ)) (mirror : ℕ) (payload : List ℕ)
      (is : IsServedWhole says links sinks words disk olds out ended news out' named meta uris mirror payload) where
    abbrev ran : Ran says sinks words gids doors disk out ended out'
    ran = it.ran

    abbrev line : CommandLine
    line = ran.begins.line

    abbrev start : RunStart
    start = ran_facts.start ran

    abbrev told : List RunTurn
    told = reverse (all_turns says ran.stops)

    abbrev past : List Event
    past = history_of told

    line_is : named ≡ line
    line_is = laws.lines words named line is.names.means ran.begins.means

    names : NamesPayload words (says.state disk).seen line meta uris
    names = subst (λ (l : CommandLine). NamesPayload words (says.state disk).seen l meta uris) line_is is.names

    usual : LineUsual line
    usual = line_usual words line names.means names.off

    asked_call : CallOfFile ran.begins.call meta uris line.settings
    asked_call = call_of_file (says.state disk).seen names.file meta uris line.settings ran.begins.call names.says
        (subst (λ (s : Source). IsCallOf (says.state disk).seen s line.settings ran.begins.call) names.named
        (ran.begins.call_is tells))

    abbrev Comes : Type 0
    Comes = IsDoneWhole says disk ended (own_options named) meta ⊎ (ended.ending ≡ NoMemory)
        ⊎ EndsCutShort limited links (start_of_line gids doors named.globals) olds ended news

    -- ---- its download

    module _ (one : RanOne it (Listed meta uris)) where
      abbrev gid : Gid
      gid = one.download.gid

      lone : IsLoneListed start past gid meta
      lone = record { download = one.download; added = one.there; uris = uris; subject = one.subject_is; only = one.only }

      abbrev want : Want
      want = want_of one.download meta

      listed : IsListedAlone start told gid meta want
      listed = laws.alone start told gid meta want lone (has_want start past gid one.download meta uris one.there one.subject_is)

      download_is : listed.download ≡ one.download
      download_is = let both : Some listed.download ≡ Some one.download = sym listed.added ∙ one.there in cc

      options_are : one.download.options ≡ own_options named
      options_are = one.options ∙ ap own_options (sym line_is)

      serves : IsServed links olds news ended.ending start past gid mirror payload
      serves = record {
        download = one.download;
        added = one.there;
        listed = ap is_listed one.subject_is;
        serve = inl (subst (λ (s : Subject). AllServe links olds s one.download.options mirror payload) (sym one.subject_is)
            (subst (λ (o : OptionValues). AllServe links olds (Listed meta uris) o mirror payload) (sym options_are) is.serve));
      }

      brought : IsBroughtRun says sinks ran gid mirror meta want payload
      brought = record {
        listed = listed;
        only = one.only;
        faithful = brings it laws.faithful link_tells gid mirror payload serves;
        of = subst (λ (o : OptionValues). HasChosenPieces meta o payload)
            (sym (ap (λ (d : Download). d.options) download_is ∙ options_are)) is.of;
        known = subst (λ (n : ℕ). mirror < n)
            (sym (ap (λ (d : Download). mirrors_by d.subject) download_is ∙ ap mirrors_by one.subject_is)) is.known;
        some = subst (λ (n : ℕ). 1 ≤ n)
            (sym (ap tries_in download_is ∙ ap (λ (o : OptionValues). number_value o MaxTries) one.options))
            usual.own.tries;
        links = no_failed_link it (laws.shows limited words gids doors disk olds out ended news out' (inr it)) is.well gid mirror;
        faultless = is.well.of_disk.0;
        counts = is.well.of_disk.1;
        memory = one.memory;
        fresh = is.fresh (payload_name want);
      }

      comes_whole : Comes
      comes_whole =
          let ends = laws.well words gids doors disk out ended out' ran gid mirror meta want payload tells brought in ⊎_elim
          (λ (done : IsDone ended). inl (done_whole laws.right laws.follows ran tells one.download meta uris one.there
          one.subject_is listed.alone (is.fresh (payload_name want)) (own_options named) options_are ends.0 done))
          (λ other. inr other) (subst (λ (s : RunStart). IsDone ended ⊎ (ended.ending ≡ NoMemory)
          ⊎ EndsCutShort limited links s olds ended news)
          (ap (λ (l : CommandLine). start_of_line gids doors l.globals) (sym line_is))
          (comes it laws.shown is.well (Listed meta uris) laws.done one ends.0 ends.1))

    completes_here : 1 ≤ length olds → Comes
    completes_here some = ⊎_elim (λ (one : RanOne it (Listed meta uris)). comes_whole one)
        (λ (starved : ended.ending ≡ NoMemory). inr (inl starved))
        (ran_one laws.append laws.stay it asked_call.its asked_call.is (Listed meta uris) asked_call.adds usual some)

  pub completes_served : Laws K says sinks links
      → IsRunOver says sinks limited links words gids doors disk olds out ended news out'
      → 1 ≤ length olds → IsTrue says.tells → IsTrue links.tells
      → CompletesServed limited says links sinks words gids doors disk olds out ended news out'
  completes_served laws (inl never) links_are tells link_tells named meta uris mirror payload is =
      let known = is.known in
      inr (inl (never_began laws.lines tells never named meta uris is.names (omega (arith, known)) is.well.of_disk))
  completes_served laws (inr it) links_are tells link_tells named meta uris mirror payload is =
      completes_here laws it tells link_tells named meta uris mirror payload is links_are

-- A run over one link, whose mirrors hold the pieces of a payload between them, is done, where nothing cuts it short.
use Rattle.std.proofs.Common.{◌≡◌, ◌⊎◌, inl, inr, ⊎_elim, ℕ, true, false, IsTrue, List, [], ◌∷◌, Some, refl, sym, ap, ◌∙◌, subst, arith}
use Rattle.std.specs.Prelude.{◌++◌, reverse, slice_index_or}
use Rattle.blameless_mirrors.proofs.Wanting.{wanted_chosen}
use Rattle.blameless_mirrors.specs.Blameless.{IsListedAlone}
use Rattle.blameless_mirrors.specs.Chosen.{IsChosenPiece}
use Rattle.blameless_mirrors.specs.Lone.{IsLoneListed, LacksControlFirst, LoneAreAlone}
use Rattle.served_runs.specs.Completes.{EndsCutShort, IsDone, IsDoneWhole, NamesPayload, own_options}
use Rattle.served_runs.specs.Ends.{EndsUnfailed, FinishedAreDone, OnlyCompletes}
use Rattle.served_runs.specs.Over.{RanOverLinks}
use Rattle.served_runs.specs.OverLaws.{RunsShowLinks}
use Rattle.served_runs.proofs.Endings.{ends_here, faultless, some_turns}
use Rattle.served_runs.proofs.FileCalls.{CallOfFile, call_of_file, has_want, want_of}
use Rattle.served_runs.proofs.LineOptions.{LineUsual, line_usual}
use Rattle.served_runs.proofs.OneAdded.{RanOne, comes, no_failed_link, ran_one}
use Rattle.served_runs.proofs.Standing.{done_whole}
use Rattle.served_runs.proofs.ToldRuns.{read_first, told_run}
use Rattle.stored_run.specs.RunFollows.{RunFollows}
use Rattle.command_line.specs.LineLaws.{LinesAreOne}
use Rattle.command_line.specs.declared.line.CommandLine.{CommandLine}
use Rattle.command_line.specs.declared.source.Source.{Source}
use Rattle.conn_worker.specs.Hands.{link_at}
use Rattle.control_file.specs.declared.want.Want.{Want}
use Rattle.dl_disk.specs.declared.disk.Disk.{Ghosts as DiskSays}
use Rattle.dl_kinds.specs.declared.gid.Gid.{Gid}
use Rattle.dl_kinds.specs.declared.outside.Sink.{Ghosts as SinkSays}
use Rattle.engine_turns.specs.Told.{RunTurn, history_of}
use Rattle.engine_turns.specs.TurnLaws.{TurnsAppend}
use Rattle.command_call.specs.Sources.{IsCallOf}
use Rattle.link_source.specs.declared.Links.{Ghosts as LinkSays}
use Rattle.machine_core.specs.RunLegal.{DownloadsStay, tries_in}
use Rattle.machine_core.specs.Starts.{Download, Listed, RunStart, Subject}
use Rattle.machine_core.specs.declared.events.Event.{Event}
use Rattle.metainfo.specs.declared.meta.Meta.{Meta}
use Rattle.machine_core.specs.Wanted.{wanted_pieces}
use Rattle.option_set.specs.Values.{OptionValues, number_value}
use Rattle.option_set.specs.declared.kinds.Num.TheVariants.{MaxTries}
use Rattle.mark_costs.specs.Paid.{IsListedRun, lengths_of_meta}
use Rattle.mark_costs.specs.Served.{IsServedPiece, ServedOnlyComplete}
use Rattle.resume_core.specs.Wants.{control_name, payload_name}
use Rattle.run_lifecycle.specs.Begins.{start_of_line}
use Rattle.run_lifecycle.specs.Finishes.{Ran}
use Rattle.run_lifecycle.specs.FrameLaws.{RunsEndAsShown, RunsShowDisk}
use Rattle.run_lifecycle.specs.Promises.{CompletedAreRight}
use Rattle.run_lifecycle.specs.Stops.{all_turns}
use Rattle.run_lifecycle.specs.declared.ended.Ended.{Ended}
use Rattle.run_lifecycle.proofs.Ran as ran_facts
use Rattle.run_report.specs.declared.endings.RunEnding.TheVariants.{NoMemory}
use Rattle.solo_run.specs.Pieces.{CompletesPieces, IsRunOverOne, IsServedByPieces, RanOverOne}
use Rattle.served_runs.proofs.Unbegun.{never_began}
use Rattle.solo_run.proofs.Worked.{worked_over}

-- what is known of every run
pub record Laws {D O L : Type 0} (K : Type 0) (says : DiskSays D) (sinks : SinkSays O) (links : LinkSays L)
    : Type 0 where
  pub append : TurnsAppend
  pub stay : DownloadsStay
  pub lines : LinesAreOne
  pub complete : ServedOnlyComplete says.state
  pub disk : RunsShowDisk says sinks
  pub done : FinishedAreDone says sinks
  pub alone : LoneAreAlone
  pub shown : RunsEndAsShown says sinks
  pub shows : RunsShowLinks K says sinks links
  pub right : CompletedAreRight says.state
  pub follows : RunFollows

module _ {D O L K : Type 0} {says : DiskSays D} {sinks : SinkSays O} {links : LinkSays L} {words : List (List ℕ)}
    {gids doors : ℕ} {disk : D} {old : L × K} {out : O} {ended : Ended D} {new : L × K} {out' : O} where
  module _ (laws : Laws K says sinks links)
      (run : RanOverOne says sinks links words gids doors disk old out ended new out')
      (tells : IsTrue says.tells) (link_tells : IsTrue links.tells)
      (named : CommandLine) (meta : Meta) (uris : List (List ℕ))
      (is : IsServedByPieces says links sinks words disk (old ∷ []) out ended (new ∷ []) out' named meta uris) where
    abbrev it : RanOverLinks says sinks true links words gids doors disk (old ∷ []) out ended (new ∷ []) out'
    it = run.over

    abbrev ran : Ran says sinks words gids doors disk out ended out'
    ran = it.ran

    abbrev line : CommandLine
    line = ran.begins.line

    abbrev start : RunStart
    start = ran_facts.start ran

    abbrev told : List RunTurn
    told = reverse (all_turns says ran.stops)

    abbrev past : List Event
    past = history_of told

    line_is : named ≡ line
    line_is = laws.lines words named line is.names.means ran.begins.means

    names : NamesPayload words (says.state disk).seen line meta uris
    names = subst (λ (l : CommandLine). NamesPayload words (says.state disk).seen l meta uris) line_is is.names

    usual : LineUsual line
    usual = line_usual words line names.means names.off

    asked_call : CallOfFile ran.begins.call meta uris line.settings
    asked_call = call_of_file (says.state disk).seen names.file meta uris line.settings ran.begins.call names.says
        (subst (λ (s : Source). IsCallOf (says.state disk).seen s line.settings ran.begins.call) names.named
        (ran.begins.call_is tells))

    abbrev Comes : Type 0
    Comes = IsDoneWhole says disk ended (own_options named) meta ⊎ (ended.ending ≡ NoMemory)
        ⊎ EndsCutShort true links (start_of_line gids doors named.globals) (old ∷ []) ended (new ∷ [])

    -- ---- its download

    module _ (one : RanOne it (Listed meta uris)) where
      abbrev gid : Gid
      gid = one.download.gid

      lone : IsLoneListed start past gid meta
      lone = record {
        download = one.download;
        added = one.there;
        uris = uris;
        subject = one.subject_is;
        only = one.only;
      }

      abbrev want : Want
      want = want_of one.download meta

      listed : IsListedAlone start told gid meta want
      listed = laws.alone start told gid meta want lone
          (has_want start past gid one.download meta uris one.there one.subject_is)

      download_is : listed.download ≡ one.download
      download_is = let both : Some listed.download ≡ Some one.download = sym listed.added ∙ one.there in cc

      own_are : one.download.options ≡ own_options named
      own_are = one.options ∙ ap own_options (sym line_is)

      options_are : listed.download.options ≡ own_options named
      options_are = ap (λ (d : Download). d.options) download_is ∙ own_are

      subject_is : listed.download.subject ≡ Listed meta uris
      subject_is = ap (λ (d : Download). d.subject) download_is ∙ one.subject_is

      -- a wanted piece is one that the options choose
      chosen : (piece : ℕ) → slice_index_or (wanted_pieces listed.download (lengths_of_meta meta)) piece false ≡ true
          → IsChosenPiece meta (own_options named) piece
      chosen piece wanted =
          subst (λ (o : OptionValues). IsChosenPiece meta o piece) options_are
          (wanted_chosen listed.download meta uris subject_is piece wanted)

      serves : (piece : ℕ) → slice_index_or (wanted_pieces listed.download (lengths_of_meta meta)) piece false ≡ true
          → IsServedPiece (links.state old.0).content listed.download.subject (tries_in listed.download) meta piece
      serves piece wanted =
          subst (λ (s : Subject). IsServedPiece (links.state old.0).content s (tries_in listed.download) meta piece)
          (sym subject_is)
          (subst (λ (o : OptionValues). IsServedPiece (links.state old.0).content (Listed meta uris)
          (number_value o MaxTries) meta piece) (sym options_are) (is.serve 0 old refl piece (chosen piece wanted)))

      lacks : LacksControlFirst told (says.state ended.disk) want
      lacks =
          let some = some_turns (ran.begun.desk.own ++ ran.stops.middle) ran.stops.last in record {
            absent = read_first ran tells some.0 some.1 some.2 (control_name want) ∙ is.fresh (payload_name want);
          }

      abbrev listed_run : IsListedRun start told (says.state ended.disk) gid meta want
      listed_run = record {
        run = told_run ran tells;
        listed = listed;
        memory = one.memory;
        well = faultless says sinks laws.disk words gids doors disk out ended out' ran gid is.well.of_disk.0
            is.well.of_disk.1;
      }

      ends : OnlyCompletes says sinks ended.journal.events.items gid × EndsUnfailed ended.ending
      ends = ends_here says sinks laws.disk words gids doors disk out ended out' ran gid
          (laws.complete links.tells start told ended.disk gid meta want (link_at links old.0) link_tells listed_run
          (worked_over run asked_call.its asked_call.is) serves
          (no_failed_link it (laws.shows true words gids doors disk (old ∷ []) out ended (new ∷ []) out' (inr it)) is.well
          gid)
          one.only lacks)

      comes_whole : Comes
      comes_whole = ⊎_elim
          (λ (done : IsDone ended). inl (done_whole laws.right laws.follows ran tells one.download meta uris one.there
          one.subject_is listed.alone (is.fresh (payload_name want)) (own_options named) own_are ends.0 done))
          (λ other. inr other) (subst (λ (s : RunStart). IsDone ended ⊎ (ended.ending ≡ NoMemory)
          ⊎ EndsCutShort true links s (old ∷ []) ended (new ∷ []))
          (ap (λ (l : CommandLine). start_of_line gids doors l.globals) (sym line_is))
          (comes it laws.shown is.well (Listed meta uris) laws.done one ends.0 ends.1))

    completes_here : Comes
    completes_here = ⊎_elim (λ (one : RanOne it (Listed meta uris)). comes_whole one)
        (λ (starved : ended.ending ≡ NoMemory). inr (inl starved))
        (ran_one laws.append laws.stay it asked_call.its asked_call.is (Listed meta uris) asked_call.adds usual
        (omega arith))

  pub completes_pieces : Laws K says sinks links
      → IsRunOverOne says sinks links words gids doors disk old out ended new out'
      → IsTrue says.tells → IsTrue links.tells
      → CompletesPieces says links sinks words gids doors disk (old ∷ []) out ended (new ∷ []) out'
  completes_pieces laws (inl never) tells link_tells named meta uris is =
      inr (inl (never_began laws.lines tells never named meta uris is.names is.some is.well.of_disk))
  completes_pieces laws (inr run) tells link_tells named meta uris is =
      completes_here laws run tells link_tells named meta uris is

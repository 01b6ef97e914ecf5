-- A run without a metainfo file, over links whose mirrors lead alike to one resource, is done, where nothing cuts it short.
use Rattle.std.proofs.Common.{◌≡◌, ◌⊎◌, inl, inr, ⊎_elim, ℕ, Bool, IsTrue, List, [], ◌∷◌, ◌++◌, append_assoc, Option, Some, None, cond, length, refl, sym, ap, ◌∙◌, subst, arith}
use Rattle.std.specs.Prelude.{◌≤◌, ◌<◌, codes, Contains, IfSome, map, reverse}
use Rattle.std.specs.Option.{is_some, option_and_then, option_map, unwrap_or}
use Rattle.blameless_mirrors.specs.Lone.{first_time}
use Rattle.blameless_mirrors.specs.LoneUris.{HasFile, IsFreeFirst, IsLoneUnlisted, IsUnlistedBrought, IsUnlistedServed, UnlistedCompleteAreWhole, UnlistedOnlyComplete}
use Rattle.served_runs.specs.Completes.{EndsCutShort, IsDone, own_options}
use Rattle.served_runs.specs.CompletesUris.{CompletesUris, IsDoneWith, IsServedAlike, LacksFiles, NamesMirrors}
use Rattle.served_runs.specs.Ends.{EndsUnfailed, FinishedAreDone, OnlyCompletes}
use Rattle.served_runs.specs.Over.{IsRunOver, IsWork, RanOverLinks}
use Rattle.served_runs.specs.OverLaws.{RunsShowLinks}
use Rattle.served_runs.specs.Served.{AllServe}
use Rattle.served_runs.proofs.Endings.{ends_here, faultless, in_reverse, some_turns}
use Rattle.served_runs.proofs.KnownMirrors.{claimed_known}
use Rattle.served_runs.proofs.LineOptions.{LineUsual, line_usual}
use Rattle.served_runs.proofs.OneAdded.{RanOne, comes, no_failed_link, ran_one}
use Rattle.served_runs.proofs.Spared.{of_link, uses_work}
use Rattle.served_runs.proofs.ToldRuns.{read_first, read_last, told_run}
use Rattle.served_runs.proofs.Unbegun.{never_began_uris}
use Rattle.command_line.specs.LineLaws.{LinesAreOne}
use Rattle.command_line.specs.declared.line.CommandLine.{CommandLine}
use Rattle.command_line.specs.declared.source.Source.{Source}
use Rattle.control_file.specs.declared.want.Want.{Want}
use Rattle.dl_disk.specs.Files.{Files}
use Rattle.dl_disk.specs.declared.disk.Disk.{Ghosts as DiskSays}
use Rattle.dl_kinds.specs.Plan.{IsPlan}
use Rattle.dl_kinds.specs.declared.claims.Claim.{Claim}
use Rattle.dl_kinds.specs.declared.gid.Gid.{Gid}
use Rattle.dl_kinds.specs.declared.outside.Sink.{Ghosts as SinkSays}
use Rattle.dl_history.specs.PayloadParts.{told_total}
use Rattle.engine_turns.specs.Told.{RunTurn, history_of}
use Rattle.engine_turns.specs.TurnLaws.{TurnsAppend}
use Rattle.engine_turns.specs.declared.operations.Operation.{Operation}
use Rattle.engine_turns.specs.declared.operations.Operation.TheVariants as operation
use Rattle.command_call.specs.Sources.{IsNamedCall}
use Rattle.link_source.specs.declared.Links.{Ghosts as LinkSays}
use Rattle.machine_core.specs.DownloadWants.{HasWant, files_of_subject}
use Rattle.machine_core.specs.FileNames.{IsPayloadName, IsUnlistedName, folder_in}
use Rattle.machine_core.specs.LawfulCalls.{IsLawful}
use Rattle.machine_core.specs.OwnParts.{PayloadLengths, lengths_by, own_of, payload_lengths_of, told_lengths}
use Rattle.machine_core.specs.RunLegal.{DownloadsStay, download_in}
use Rattle.machine_core.specs.Starts.{Download, RunStart, Subject, Unlisted}
use Rattle.machine_core.specs.declared.calls.Call.{Call}
use Rattle.machine_core.specs.declared.calls.Call.TheVariants as call
use Rattle.machine_core.specs.declared.events.Event.{Event}
use Rattle.machine_core.specs.declared.events.Event.TheVariants.{Claimed, Ended as EventEnded}
use Rattle.machine_core.specs.declared.ends.End.TheVariants.{Complete}
use Rattle.mirror_payloads.specs.Faithful.{IsFaithful}
use Rattle.option_set.specs.Values.{OptionValues, number_value, text_of_word}
use Rattle.option_set.specs.declared.kinds.Num.TheVariants.{MaxTries, PieceLength}
use Rattle.option_set.specs.declared.kinds.Word.TheVariants.{Checksum, Dir, Out}
use Rattle.payload_files.specs.Names.{name_of, root_of}
use Rattle.resume_core.specs.Lens.{first_len, lens_of}
use Rattle.resume_core.specs.Refusals.{in_the_way, open_refusal, refused_over}
use Rattle.resume_core.specs.Wants.{control_name, files_in}
use Rattle.resume_core.specs.declared.refusing.OpenErr.TheVariants.{Exists}
use Rattle.run_lifecycle.proofs.Ran as ran_facts
use Rattle.run_lifecycle.specs.Begins.{start_of_line}
use Rattle.run_lifecycle.specs.Finishes.{Ran}
use Rattle.run_lifecycle.specs.FrameLaws.{RunsEndAsShown, RunsShowDisk}
use Rattle.run_lifecycle.specs.Stops.{all_turns}
use Rattle.run_lifecycle.specs.declared.ended.Ended.{Ended}
use Rattle.run_report.specs.declared.endings.RunEnding.TheVariants.{NoMemory}
use Rattle.served_runs.specs.ServingLaws.{IsToldRight, TellsSize}
use Rattle.served_runs.specs.ServedRuns.{RunsAreFaithful, RunsTellRight}
use Rattle.span_map.specs.declared.files.FileLen.{FileLen}

sizes_work : (op : Operation) → TellsSize op → IsWork op
sizes_work (operation.Sized claim total now) tells = tt
sizes_work other tells = absurd tells

told_so : (o : Option ℕ) (piece_len : ℕ) (lengths : PayloadLengths) → told_lengths piece_len o ≡ Some lengths
    → lengths.piece_len ≡ piece_len
told_so None piece_len lengths is = absurd cc
told_so (Some total) piece_len lengths is =
    let same : record { total = total; piece_len = piece_len } ≡ lengths = cc in ap (λ (l : PayloadLengths). l.piece_len) (sym same)

-- ---- a want of which nothing stands

unhindered : (o : Option (List ℕ)) → cond (is_some o) None (option_map Exists None) ≡ None
unhindered (Some hash) = refl
unhindered None = refl

no_control : (want : Want) (files : Files) → ((base : List ℕ) → files (name_of want.dir (base ∷ [])) ≡ None)
    → files (control_name want) ≡ None
no_control want files none =
    ap files (append_assoc (root_of want.dir) want.base (codes ".aria2")) ∙ none (want.base ++ codes ".aria2")

none_stands : (want : Want) (files : Files) (len : ℕ) → want.layout ≡ record { path = want.base ∷ []; len = len } ∷ []
    → ((base : List ℕ) → files (name_of want.dir (base ∷ [])) ≡ None) → open_refusal want files ≡ None
none_stands want files len layout none =
    let control : files (control_name want) ≡ None = no_control want files none in
    let contents : files_in want files ≡ None ∷ [] =
    ap (λ (fs : List FileLen). map (λ (file : FileLen). files (name_of want.dir file.path)) fs) layout
    ∙ ap (λ (o : Option (List ℕ)). o ∷ []) (none want.base) in
    ap (λ (o : Option (List ℕ)). refused_over want o (first_len (lens_of (files_in want files)))) control
    ∙ (ap (λ (cs : List (Option (List ℕ))). in_the_way want (first_len (lens_of cs))) contents ∙ unhindered want.info_hash)

-- ---- the run

-- what is known of every run
pub record UriLaws {D O L : Type 0} (K : Type 0) (says : DiskSays D) (sinks : SinkSays O) (links : LinkSays L) : Type 0 where
  pub append : TurnsAppend
  pub stay : DownloadsStay
  pub lines : LinesAreOne
  pub faithful : RunsAreFaithful says sinks links
  pub right : RunsTellRight says sinks links
  pub complete : UnlistedOnlyComplete says.state
  pub whole : UnlistedCompleteAreWhole says.state
  pub disk : RunsShowDisk says sinks
  pub done : FinishedAreDone says sinks
  pub shown : RunsEndAsShown says sinks
  pub shows : RunsShowLinks K says sinks links

module _ {D O L K : Type 0} {says : DiskSays D} {sinks : SinkSays O} {limited : Bool} {links : LinkSays L}
    {words : List (List ℕ)} {gids doors : ℕ} {disk : D} {olds : List (L × K)} {out : O} {ended : Ended D}
    {news : List (L × K)} {out' : O} where
  module _ (laws : UriLaws K says sinks links)
      (it : RanOverLinks says sinks limited links words gids doors disk olds out ended news out')
      (tells : IsTrue says.tells) (link_tells : IsTrue links.tells)
      (named : CommandLine) (uris : List (List ℕ)) (resource : List ℕ)
      (is : IsServedAlike says links sinks words disk olds out ended news out' named uris resource) where
    abbrev ran : Ran says sinks words gids doors disk out ended out'
    ran = it.ran

    abbrev line : CommandLine
    line = ran.begins.line

    abbrev start : RunStart
    start = ran_facts.start ran

    abbrev told : List RunTurn
    told = reverse (all_turns says ran.stops)

    abbrev past : List Event
    past = history_of told

    line_is : named ≡ line
    line_is = laws.lines words named line is.names.means ran.begins.means

    names : NamesMirrors words line uris
    names = subst (λ (l : CommandLine). NamesMirrors words l uris) line_is is.names

    usual : LineUsual line
    usual = line_usual words line names.means names.off

    asked : ran.begins.call ≡ Some (call.AddUri uris line.settings None)
    asked = subst (λ (s : Source). IsNamedCall s line.settings ran.begins.call) names.named ran.begins.named

    lawful : IsLawful (call.AddUri uris line.settings None)
    lawful = subst (λ (c : Option Call). IfSome c IsLawful) asked ran.begins.lawful

    -- ---- its download

    module _ (one : RanOne it (Unlisted uris)) where
      abbrev gid : Gid
      gid = one.download.gid

      abbrev d : Download
      d = one.download

      options_are : d.options ≡ own_options named
      options_are = one.options ∙ ap own_options (sym line_is)

      serve : (mirror : ℕ) → mirror < length uris → AllServe links olds d.subject d.options mirror resource
      serve mirror low =
          subst (λ (s : Subject). AllServe links olds s d.options mirror resource) (sym one.subject_is)
          (subst (λ (o : OptionValues). AllServe links olds (Unlisted uris) o mirror resource) (sym options_are)
          (is.serve mirror low))

      low_claim : (claim : Claim) → Contains past (Claimed gid claim) → claim.mirror < length uris
      low_claim claim there = claimed_known laws.stay start past gid d uris one.subject_is (ran_facts.legal_told ran)
          (λ x its. let both : Some x ≡ Some d = sym its ∙ one.there in cc) claim there

      added : download_in start (reverse ended.journal.events.items) gid ≡ Some d
      added = ap (λ (p : List Event). download_in start p gid) (ran_facts.history_is ran) ∙ one.there

      right : IsToldRight start (reverse ended.journal.events.items) gid resource d.subject
      right = laws.right words gids doors disk out ended out' ran gid d resource link_tells added
          (λ t claim there sized claimed.
          of_link it d.subject d.options claim.mirror resource (inl (serve claim.mirror (low_claim claim
          (subst (λ (p : List Event). Contains p (Claimed gid claim)) (ran_facts.history_is ran) claimed))))
          t there (sizes_work t.op sized))

      total_is : (lengths : PayloadLengths) → payload_lengths_of start past gid ≡ Some lengths → lengths.total ≡ length resource
      total_is = subst (λ (s : Subject). IsToldRight start past gid resource s) one.subject_is
          (subst (λ (p : List Event). IsToldRight start p gid resource d.subject) (ran_facts.history_is ran) right)

      piece_is : (lengths : PayloadLengths) → payload_lengths_of start past gid ≡ Some lengths
          → lengths.piece_len ≡ number_value d.options PieceLength
      piece_is lengths known = told_so (told_total (own_of start past gid)) (number_value d.options PieceLength) lengths
          (sym (ap (option_and_then (λ (x : Download). lengths_by x x.subject (own_of start past gid))) one.there
          ∙ ap (λ (s : Subject). lengths_by d s (own_of start past gid)) one.subject_is) ∙ known)

      planned : (lengths : PayloadLengths) → payload_lengths_of start past gid ≡ Some lengths
          → IsPlan lengths.total lengths.piece_len
      planned lengths known =
          let options : number_value (own_options named) PieceLength ≡ lengths.piece_len =
          ap (λ (l : CommandLine). number_value (own_options l) PieceLength) line_is
          ∙ sym (piece_is lengths known ∙ ap (λ (o : OptionValues). number_value o PieceLength) one.options) in
          subst (λ (n : ℕ). IsPlan n lengths.piece_len) (sym (total_is lengths known))
          (subst (λ (n : ℕ). IsPlan (length resource) n) options is.plan)

      faithful : (mirror : ℕ) → mirror < length uris → IsFaithful start gid mirror resource told
      faithful mirror low = laws.faithful words gids doors disk out ended out' ran gid d mirror resource link_tells added right
          (λ t there uses. of_link it d.subject d.options mirror resource (inl (serve mirror low)) t there (uses_work t.op uses))

      abbrev lone : IsLoneUnlisted start past gid uris
      lone = record {
        download = d;
        added = one.there;
        subject = one.subject_is;
        unchecked = ap (λ (o : OptionValues). text_of_word o Checksum) one.options ∙ names.unchecked;
        planned = planned;
        only = one.only;
      }

      lacks : LacksFiles (says.state disk).seen line
      lacks = subst (λ (l : CommandLine). LacksFiles (says.state disk).seen l) line_is is.fresh

      -- ---- its want

      module _ (want : Want) (has : HasWant start past gid want) where
        its : has.download ≡ d
        its = let both : Some has.download ≡ Some d = sym has.added ∙ one.there in cc

        of : has.download.subject ≡ Unlisted uris
        of = ap (λ (x : Download). x.subject) its ∙ one.subject_is

        folder : want.dir ≡ unwrap_or (text_of_word (own_options line) Dir) []
        folder = has.is.dir ∙ ap folder_in its ∙ ap (λ (o : OptionValues). unwrap_or (text_of_word o Dir) []) one.options

        named_so : IsUnlistedName (text_of_word (own_options line) Out) uris want.base
        named_so = subst (λ (o : OptionValues). IsUnlistedName (text_of_word o Out) uris want.base) one.options
            (subst (λ (x : Download). IsUnlistedName (text_of_word x.options Out) uris want.base) its
            (subst (λ (s : Subject). IsPayloadName has.download s want.base) of has.is.base))

        none_first : (base : List ℕ)
            → (says.state ended.disk).seen_at (first_time told) (name_of want.dir (base ∷ [])) ≡ None
        none_first base =
            let some = some_turns (ran.begun.desk.own ++ ran.stops.middle) ran.stops.last in
            read_first ran tells some.0 some.1 some.2 (name_of want.dir (base ∷ []))
            ∙ (ap (λ (f : List ℕ). (says.state disk).seen (name_of f (base ∷ []))) folder ∙ lacks base)

      free : IsFreeFirst start told (says.state ended.disk) gid
      free want has =
          none_stands want ((says.state ended.disk).seen_at (first_time told)) has.lengths.total
          (has.is.layout ∙ ap (λ (s : Subject). files_of_subject s want.base has.lengths.total) (of want has))
          (none_first want has)

      brought : IsUnlistedBrought start told (says.state ended.disk) gid 0 uris resource
      brought = record {
        run = told_run ran tells;
        lone = lone;
        faithful = faithful 0 (let some = lawful.0.some in omega (arith, some));
        known = (let some = lawful.0.some in omega (arith, some));
        some = subst (λ (n : ℕ). 1 ≤ n) (sym (ap (λ (o : OptionValues). number_value o MaxTries) one.options)) usual.own.tries;
        links = no_failed_link it (laws.shows limited words gids doors disk olds out ended news out' (inr it)) is.well gid 0;
        memory = one.memory;
        free = free;
        faultless = faultless says sinks laws.disk words gids doors disk out ended out' ran gid is.well.of_disk.0 is.well.of_disk.1;
      }

      ends : OnlyCompletes says sinks ended.journal.events.items gid × EndsUnfailed ended.ending
      ends = ends_here says sinks laws.disk words gids doors disk out ended out' ran gid
          (laws.complete start told ended.disk gid 0 uris resource brought)

      done : IsDone ended ⊎ (ended.ending ≡ NoMemory) ⊎ EndsCutShort limited links start olds ended news
      done = comes it laws.shown is.well (Unlisted uris) laws.done one ends.0 ends.1

      -- ---- its file

      served : IsUnlistedServed start told (says.state ended.disk) gid uris resource
      served = record {
        run = told_run ran tells;
        lone = lone;
        faithful = faithful;
        claims = low_claim;
        lengths = total_is;
        memory = one.memory;
        fresh = λ want has. record {
          absent = no_control want ((says.state ended.disk).seen_at (first_time told)) (none_first want has);
        };
      }

      stands : Contains past (EventEnded gid Complete) → HasFile start past gid (says.state ended.disk).seen resource
      stands there =
          let some = some_turns (ran.begun.desk.own ++ ran.stops.middle) ran.stops.last in
          subst (λ (files : Files). HasFile start past gid files resource) (read_last ran tells some.0 some.1 some.2)
          (subst (λ (ts : List RunTurn). HasFile start (history_of ts) gid
          ((says.state ended.disk).seen_at some.0.after.time) resource) (sym some.2)
          (laws.whole start some.0 some.1 ended.disk gid uris resource
          (subst (λ (ts : List RunTurn). IsUnlistedServed start ts (says.state ended.disk) gid uris resource) some.2 served)
          (subst (λ (ts : List RunTurn). Contains (history_of ts) (EventEnded gid Complete)) some.2 there)))

      done_with : IsDone ended → IsDoneWith says ended line uris resource
      done_with is_done =
          let g : is_done.1 ≡ gid = (ends.0 is_done.1 Complete is_done.2).0 in
          let there : Contains past (EventEnded is_done.1 Complete) =
          subst (λ (es : List Event). Contains es (EventEnded is_done.1 Complete)) (ran_facts.history_is ran)
          (in_reverse ended.journal.events.items (EventEnded is_done.1 Complete) is_done.2) in
          let at = stands (subst (λ (x : Gid). Contains past (EventEnded x Complete)) g there) in
          record {
            done = is_done;
            base = at.want.base;
            named = named_so at.want at.has;
            file = ap (λ (f : List ℕ). (says.state ended.disk).seen (name_of f (at.want.base ∷ [])))
                (sym (folder at.want at.has)) ∙ at.file;
          }

    abbrev Comes : CommandLine → Type 0
    Comes l = IsDoneWith says ended l uris resource
        ⊎ (ended.ending ≡ NoMemory) ⊎ EndsCutShort limited links (start_of_line gids doors l.globals) olds ended news

    completes_here : 1 ≤ length olds → Comes named
    completes_here some = subst Comes (sym line_is) (⊎_elim
        (λ (one : RanOne it (Unlisted uris)). ⊎_elim (λ (well : IsDone ended). inl (done_with one well))
        (λ other. inr other) (done one))
        (λ (starved : ended.ending ≡ NoMemory). inr (inl starved))
        (ran_one laws.append laws.stay it (call.AddUri uris line.settings None) asked (Unlisted uris) (refl, refl, refl) usual some))

  pub completes_uris : UriLaws K says sinks links
      → IsRunOver says sinks limited links words gids doors disk olds out ended news out'
      → 1 ≤ length olds → IsTrue says.tells → IsTrue links.tells
      → CompletesUris limited says links sinks words gids doors disk olds out ended news out'
  completes_uris laws (inl never) links_are tells link_tells named uris resource is =
      inr (inl (never_began_uris laws.lines tells never named uris is.names.means is.names.named))
  completes_uris laws (inr it) links_are tells link_tells named uris resource is =
      completes_here laws it tells link_tells named uris resource is links_are

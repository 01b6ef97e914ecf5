-- What a run comes to over links that lead to all that is to come of what a metainfo file lists.
use Rattle.std.specs.Prelude.{◌≡◌, ◌⊎◌, ◌≤◌, ◌<◌, ◌+◌, ◌-◌, ◌^◌, ◌++◌, ℕ, Bool, true, false, IsTrue, codes, Contains, None, Ok, Err, Result, List, [], Some, length, slice_get}
use Rattle.blameless_mirrors.specs.Blameless.{HasChosenPieces}
use Rattle.blameless_mirrors.specs.Chosen.{IsChosenPiece}
use Rattle.command_line.specs.Lines.{IsLine, has_console}
use Rattle.command_line.specs.declared.line.CommandLine.{CommandLine}
use Rattle.command_line.specs.declared.source.Source.TheVariants as source
use Rattle.conn_worker.specs.Works.{IsWithinTurns, RunSight, Worked}
use Rattle.conn_worker.specs.declared.ends.Spent.{Spent}
use Rattle.conn_worker.specs.declared.ends.WorkEnd.{WorkEnd}
use Rattle.conn_worker.specs.declared.ends.WorkEnd.TheVariants.{JournalFull}
use Rattle.control_file.specs.declared.want.Want.{Want}
use Rattle.dl_disk.specs.Files.{Files, IsSame}
use Rattle.dl_disk.specs.State.{DiskState}
use Rattle.dl_disk.specs.declared.disk.Disk.{Ghosts as DiskSays}
use Rattle.dl_kinds.specs.declared.claims.TheConstants.{MAX_MIRRORS}
use Rattle.dl_kinds.specs.declared.gid.Gid.{Gid}
use Rattle.dl_kinds.specs.declared.outside.Sink.{Ghosts as SinkSays}
use Rattle.engine_turns.specs.RunTurns.{is_nearly_full}
use Rattle.engine_turns.specs.Told.{RunTurn}
use Rattle.command_call.specs.Files.{Says}
use Rattle.link_source.specs.declared.Links.{Ghosts as LinkSays}
use Rattle.machine_core.specs.Replays.{with_settings}
use Rattle.machine_core.specs.Starts.{Listed, RunStart}
use Rattle.machine_core.specs.declared.ends.End.TheVariants.{Complete}
use Rattle.machine_core.specs.declared.events.Event.{Event}
use Rattle.machine_core.specs.declared.events.Event.TheVariants as event
use Rattle.metainfo.specs.Info.{info_of}
use Rattle.metainfo.specs.declared.meta.Meta.{Meta}
use Rattle.option_set.specs.Values.{OptionValues, text_of_word}
use Rattle.option_set.specs.declared.kinds.Word.TheVariants.{Dir}
use Rattle.run_lifecycle.specs.Begins.{start_of_line}
use Rattle.run_lifecycle.specs.Promises.{IsRightPiece}
use Rattle.run_lifecycle.specs.TurnsOf.{AreTurnsOf}
use Rattle.run_lifecycle.specs.declared.ended.Ended.{Ended}
use Rattle.run_report.specs.declared.endings.RunEnding.TheVariants.{Done, NoMemory, Unfinished}
use Rattle.served_runs.specs.Served.{AllServe}
use Rattle.std.specs.Option.{unwrap_or}

-- ---- what is given

-- the options of the download that the line adds
abbrev pub own_options : CommandLine → OptionValues
own_options line = with_settings line.globals line.settings

-- what the store of a metainfo file's download with these options is to keep
abbrev pub want_by : OptionValues → Meta → Want
want_by options meta = record {
  base = meta.name;
  dir = unwrap_or (text_of_word options Dir) [];
  layout = meta.layout;
  plan = meta.plan;
  digests = meta.digests;
  info_hash = Some meta.info_hash;
}

-- no change of the disk is pending: a crash leaves its files as they read
abbrev pub IsStill : DiskState → Type 0
IsStill disk = (image : Files) → disk.may_leave image → IsSame disk.seen image

-- a count of faults that didn't rise, though it could
abbrev pub HadNoFault : ℕ → ℕ → Type 0
HadNoFault before after = (after ≡ before) × (before < 2 ^ 64 - 1)

-- The words ask for no console, and name a metainfo file that says this, with these URIs.
pub record NamesPayload (words : List (List ℕ)) (seen : Files) (line : CommandLine) (meta : Meta) (uris : List (List ℕ))
    : Type 0 where
  pub off : has_console words ≡ false
  pub means : IsLine words line
  pub file : List ℕ
  pub named : line.source ≡ source.Metainfo file uris
  pub says : Says (seen file) (info_of meta)
  pub few : length meta.seeds + length uris ≤ MAX_MIRRORS

module _ {D L K O : Type 0} (says : DiskSays D) (links : LinkSays L) (sinks : SinkSays O) (words : List (List ℕ)) (disk : D)
    (olds : List (L × K)) (out : O) (ended : Ended D) (news : List (L × K)) (out' : O) where
  -- no call of the disk, of a link or of the output failed
  pub record HadNoFaults : Type 0 where
    pub of_disk : HadNoFault (says.faults disk) (says.faults ended.disk)
    pub of_output : HadNoFault (sinks.faults out) (sinks.faults out')
    pub of_links : (place : ℕ) (old new : L × K) → slice_get olds place ≡ Some old
        → slice_get news place ≡ Some new → HadNoFault (links.faults old.0) (links.faults new.0)

  -- The line names a metainfo file, and these bytes have its digests in each piece that the line's options choose. One of its
  -- mirrors serves each file of which such a piece has bytes rightly over each link, as it was given. No control file stands, and
  -- nothing fails.
  pub record IsServedWhole (line : CommandLine) (meta : Meta) (uris : List (List ℕ)) (mirror : ℕ) (payload : List ℕ)
      : Type 0 where
    pub names : NamesPayload words (says.state disk).seen line meta uris
    pub of : HasChosenPieces meta (own_options line) payload
    pub known : mirror < length meta.seeds + length uris
    pub serve : AllServe links olds (Listed meta uris) (own_options line) mirror payload
    pub fresh : (name : List ℕ) → (says.state disk).seen (name ++ codes ".aria2") ≡ None
    pub well : HadNoFaults

-- ---- what comes

-- Work ended by a journal that has fewer free entries than the events of a turn may take; or, where the number of turns is
-- limited, after as many as a worker takes.
abbrev pub IsCutShort : Bool → List Event → Result WorkEnd Spent → Type 0
IsCutShort limited events (Ok JournalFull) = is_nearly_full events ≡ true
IsCutShort limited events (Err spent) = IsTrue limited
IsCutShort limited events other = ⊥

-- The work over a link did, by turns of this run.
pub record WasCutShort {D L K : Type 0} (limited : Bool) (links : LinkSays L) (start : RunStart) (olds : List (L × K))
    (ended : Ended D) (news : List (L × K)) : Type 0 where
  pub place : ℕ
  pub old : L × K
  pub new : L × K
  pub old_is : slice_get olds place ≡ Some old
  pub new_is : slice_get news place ≡ Some new
  pub from : RunSight D
  pub to : RunSight D
  pub came : Result WorkEnd Spent
  pub its : Worked links place from old.0 to new.0 came
  pub why : IsCutShort limited ended.journal.events.items came
  pub few : IsTrue limited → IsWithinTurns (length its.worked) came
  pub told : List RunTurn
  pub turns : AreTurnsOf ended start told
  pub among : (t : RunTurn) → Contains its.worked t → Contains told t

-- .. and the run is unfinished
pub record EndsCutShort {D L K : Type 0} (limited : Bool) (links : LinkSays L) (start : RunStart) (olds : List (L × K))
    (ended : Ended D) (news : List (L × K)) : Type 0 where
  pub cut : WasCutShort limited links start olds ended news
  pub unfinished : ended.ending ≡ Unfinished

-- the run is done, and its download complete
abbrev pub IsDone : {D : Type 0} → Ended D → Type 0
IsDone {D} ended = (ended.ending ≡ Done) × (gid : Gid) × Contains ended.journal.events.items (event.Ended gid Complete)

-- It is done; and where nothing was pending on the disk that was given, each piece that these options choose is whole, with its
-- digest, in the files that the disk reads in the end.
pub record IsDoneWhole {D : Type 0} (says : DiskSays D) (disk : D) (ended : Ended D) (options : OptionValues) (meta : Meta)
    : Type 0 where
  pub done : IsDone ended
  pub stands : IsStill (says.state disk) → (piece : ℕ) → IsChosenPiece meta options piece
      → IsRightPiece (want_by options meta) (says.state ended.disk).seen piece

module _ {D L K O : Type 0} (limited : Bool) (says : DiskSays D) (links : LinkSays L) (sinks : SinkSays O)
    (words : List (List ℕ)) (gids doors : ℕ) (disk : D) (olds : List (L × K)) (out : O) (ended : Ended D) (news : List (L × K))
    (out' : O) where
  abbrev pub CompletesServed : Type 0
  CompletesServed =
      (line : CommandLine) (meta : Meta) (uris : List (List ℕ)) (mirror : ℕ) (payload : List ℕ)
      → IsServedWhole says links sinks words disk olds out ended news out' line meta uris mirror payload
      → IsDoneWhole says disk ended (own_options line) meta ⊎ (ended.ending ≡ NoMemory)
      ⊎ EndsCutShort limited links (start_of_line gids doors line.globals) olds ended news

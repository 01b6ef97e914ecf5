-- What a run over one link comes to, where each piece of a payload has a mirror in memory.
use Rattle.std.specs.Prelude.{◌≡◌, ◌⊎◌, ◌≤◌, ◌+◌, ◌||◌, ◌++◌, ℕ, true, IsTrue, codes, None, Some, List, [], ◌∷◌, Result, length, slice_get}
use Rattle.blameless_mirrors.specs.Chosen.{IsChosenPiece}
use Rattle.served_runs.specs.Completes.{EndsCutShort, HadNoFaults, IsDoneWhole, NamesPayload, own_options}
use Rattle.served_runs.specs.Over.{RanOverLinks}
use Rattle.command_line.specs.declared.line.CommandLine.{CommandLine}
use Rattle.conn_worker.specs.Works.{IsWithinTurns, RunSight, Worked}
use Rattle.conn_worker.specs.declared.ends.Spent.{Spent}
use Rattle.conn_worker.specs.declared.ends.WorkEnd.{WorkEnd}
use Rattle.dl_disk.specs.declared.disk.Disk.{Ghosts as DiskSays}
use Rattle.dl_kinds.specs.declared.outside.Sink.{Ghosts as SinkSays}
use Rattle.link_source.specs.declared.Links.{Ghosts as LinkSays}
use Rattle.machine_core.specs.Starts.{Listed}
use Rattle.metainfo.specs.declared.meta.Meta.{Meta}
use Rattle.option_set.specs.Values.{OptionValues, number_value}
use Rattle.option_set.specs.declared.kinds.Num.TheVariants.{MaxTries}
use Rattle.mark_costs.specs.Served.{IsServedPiece}
use Rattle.run_lifecycle.specs.Begins.{start_of_line}
use Rattle.run_lifecycle.specs.Finishes.{NeverBegan}
use Rattle.run_lifecycle.specs.Stops.{ends_short}
use Rattle.run_lifecycle.specs.declared.ended.Ended.{Ended}
use Rattle.run_report.specs.declared.endings.RunEnding.TheVariants.{NoMemory}

-- ---- what is given

-- Over each link, as it was given, each piece that the options choose has a mirror that holds it,
-- with fewer bad answers left than tries.
abbrev pub AllServePieces : {L K : Type 0} → LinkSays L → List (L × K) → Meta → List (List ℕ)
    → OptionValues → Type 0
AllServePieces {L} {K} links olds meta uris options =
    (place : ℕ) (old : L × K) → slice_get olds place ≡ Some old → (piece : ℕ)
    → IsChosenPiece meta options piece
    → IsServedPiece (links.state old.0).content (Listed meta uris) (number_value options MaxTries)
    meta piece

module _ {D L K O : Type 0} (says : DiskSays D) (links : LinkSays L) (sinks : SinkSays O)
    (words : List (List ℕ)) (disk : D) (olds : List (L × K)) (out : O) (ended : Ended D)
    (news : List (L × K)) (out' : O) where
  -- The line names a metainfo file, and there is a mirror. Each piece that its options choose is
  -- served so, with their tries. No control file stands, and nothing fails.
  pub record IsServedByPieces (line : CommandLine) (meta : Meta) (uris : List (List ℕ)) : Type 0
    where
      pub names : NamesPayload words (says.state disk).seen line meta uris
      pub some : 1 ≤ length meta.seeds + length uris
      pub serve : AllServePieces links olds meta uris (own_options line)
      pub fresh : (name : List ℕ) → (says.state disk).seen (name ++ codes ".aria2") ≡ None
      pub well : HadNoFaults says links sinks words disk olds out ended news out'

-- ---- what comes

module _ {D L K O : Type 0} (says : DiskSays D) (links : LinkSays L) (sinks : SinkSays O)
    (words : List (List ℕ)) (gids doors : ℕ) (disk : D) (olds : List (L × K)) (out : O)
    (ended : Ended D) (news : List (L × K)) (out' : O) where
  -- the run is done, its download complete, and what its options choose of it stands on the disk,
  -- unless memory was wanting, or it is unfinished since its worker was cut short
  abbrev pub CompletesPieces : Type 0
  CompletesPieces =
      (line : CommandLine) (meta : Meta) (uris : List (List ℕ))
      → IsServedByPieces says links sinks words disk olds out ended news out' line meta uris
      → IsDoneWhole says disk ended (own_options line) meta ⊎ (ended.ending ≡ NoMemory)
      ⊎ EndsCutShort true links (start_of_line gids doors line.globals) olds ended news

-- ---- runs over one link

module _ {D O L K : Type 0} (says : DiskSays D) (sinks : SinkSays O) (links : LinkSays L) where
  -- A run in which all between the line's own call and the last stop are the turns of one worker
  -- over this link, in order, no more than a limited one takes. Where memory was wanting for it, the
  -- run tells so.
  pub record RanOverOne (words : List (List ℕ)) (gids doors : ℕ) (disk : D) (old : L × K) (out : O)
      (ended : Ended D) (new : L × K) (out' : O) : Type 0 where
    pub over : RanOverLinks says sinks true links words gids doors disk (old ∷ []) out ended
        (new ∷ []) out'
    pub from : RunSight D
    pub to : RunSight D
    pub came : Result WorkEnd Spent
    pub its : Worked links 0 from old.0 to new.0 came
    pub order : over.ran.stops.middle ≡ its.worked ++ its.stop
    pub few : IsWithinTurns (length its.worked) came
    pub short : ends_short came ≡ true → (over.ran.begun.is_short || over.ran.short) ≡ true

  -- it ended before it began, or ran so
  abbrev pub IsRunOverOne : List (List ℕ) → (gids doors : ℕ) → D → L × K → O → Ended D → L × K → O
      → Type 0
  IsRunOverOne words gids doors disk old out ended new out' =
      NeverBegan says sinks words disk out ended out'
      ⊎ RanOverOne words gids doors disk old out ended new out'

module _ {D O L : Type 0} (K : Type 0) (says : DiskSays D) (sinks : SinkSays O)
    (links : LinkSays L) where
  -- what is served piece by piece comes
  abbrev pub RunsCompletePieces : Type 0
  RunsCompletePieces =
      (words : List (List ℕ)) (gids doors : ℕ) (disk : D) (old : L × K) (out : O) (ended : Ended D)
      (new : L × K) (out' : O)
      → IsRunOverOne says sinks links words gids doors disk old out ended new out'
      → IsTrue says.tells → IsTrue links.tells
      → CompletesPieces says links sinks words gids doors disk (old ∷ []) out ended (new ∷ []) out'

-- What a run comes to without a metainfo file, over links whose mirrors lead alike to one resource.
use Rattle.std.specs.Prelude.{◌≡◌, ◌⊎◌, ◌<◌, ℕ, Bool, false, None, Some, List, [], ◌∷◌, length}
use Rattle.served_runs.specs.Completes.{EndsCutShort, HadNoFaults, IsDone, own_options}
use Rattle.served_runs.specs.Served.{AllServe}
use Rattle.command_line.specs.Lines.{IsLine, has_console}
use Rattle.command_line.specs.declared.line.CommandLine.{CommandLine}
use Rattle.command_line.specs.declared.source.Source.TheVariants as source
use Rattle.dl_disk.specs.Files.{Files}
use Rattle.dl_disk.specs.declared.disk.Disk.{Ghosts as DiskSays}
use Rattle.dl_kinds.specs.Plan.{IsPlan}
use Rattle.dl_kinds.specs.declared.outside.Sink.{Ghosts as SinkSays}
use Rattle.link_source.specs.declared.Links.{Ghosts as LinkSays}
use Rattle.machine_core.specs.FileNames.{IsUnlistedName}
use Rattle.machine_core.specs.Starts.{Unlisted}
use Rattle.option_set.specs.Values.{number_value, text_of_word}
use Rattle.option_set.specs.declared.kinds.Num.TheVariants.{PieceLength}
use Rattle.option_set.specs.declared.kinds.Word.TheVariants.{Checksum, Dir, Out}
use Rattle.payload_files.specs.Names.{name_of}
use Rattle.run_lifecycle.specs.Begins.{start_of_line}
use Rattle.run_lifecycle.specs.declared.ended.Ended.{Ended}
use Rattle.run_report.specs.declared.endings.RunEnding.TheVariants.{NoMemory}
use Rattle.std.specs.Option.{unwrap_or}

-- ---- what is given

-- a file of this name in its folder
abbrev pub name_in_folder : CommandLine → List ℕ → List ℕ
name_in_folder line base = name_of (unwrap_or (text_of_word (own_options line) Dir) []) (base ∷ [])

-- The words ask for no console, and name these URIs, and no checksum.
pub record NamesMirrors (words : List (List ℕ)) (line : CommandLine) (uris : List (List ℕ)) : Type 0 where
  pub off : has_console words ≡ false
  pub means : IsLine words line
  pub named : line.source ≡ source.Mirrors uris
  pub unchecked : text_of_word (own_options line) Checksum ≡ None

-- no file stands in the folder of the download
abbrev pub LacksFiles : Files → CommandLine → Type 0
LacksFiles seen line = (base : List ℕ) → seen (name_in_folder line base) ≡ None

module _ {D L K O : Type 0} (says : DiskSays D) (links : LinkSays L) (sinks : SinkSays O) (words : List (List ℕ)) (disk : D)
    (olds : List (L × K)) (out : O) (ended : Ended D) (news : List (L × K)) (out' : O) where
  -- The line names URIs. Over each link, as it was given, each of them leads to the one resource, in a manner that tells its
  -- length, and no bad answer is left on the way. A plan has pieces of the download's length for it. Nothing fails.
  pub record IsServedAlike (line : CommandLine) (uris : List (List ℕ)) (resource : List ℕ) : Type 0 where
    pub names : NamesMirrors words line uris
    pub plan : IsPlan (length resource) (number_value (own_options line) PieceLength)
    pub serve : (mirror : ℕ) → mirror < length uris → AllServe links olds (Unlisted uris) (own_options line) mirror resource
    pub fresh : LacksFiles (says.state disk).seen line
    pub well : HadNoFaults says links sinks words disk olds out ended news out'

-- ---- what comes

-- The run is done and its download complete; and as the disk reads in the end, the file of the name that the line says, or else
-- the first URI, has just the resource's bytes.
pub record IsDoneWith {D : Type 0} (says : DiskSays D) (ended : Ended D) (line : CommandLine) (uris : List (List ℕ))
    (resource : List ℕ) : Type 0 where
  pub done : IsDone ended
  pub base : List ℕ
  pub named : IsUnlistedName (text_of_word (own_options line) Out) uris base
  pub file : (says.state ended.disk).seen (name_in_folder line base) ≡ Some resource

module _ {D L K O : Type 0} (limited : Bool) (says : DiskSays D) (links : LinkSays L) (sinks : SinkSays O)
    (words : List (List ℕ)) (gids doors : ℕ) (disk : D) (olds : List (L × K)) (out : O) (ended : Ended D) (news : List (L × K))
    (out' : O) where
  -- the run is done with the resource, unless memory was wanting, or it is unfinished since a worker was cut short
  abbrev pub CompletesUris : Type 0
  CompletesUris =
      (line : CommandLine) (uris : List (List ℕ)) (resource : List ℕ)
      → IsServedAlike says links sinks words disk olds out ended news out' line uris resource
      → IsDoneWith says ended line uris resource ⊎ (ended.ending ≡ NoMemory)
      ⊎ EndsCutShort limited links (start_of_line gids doors line.globals) olds ended news

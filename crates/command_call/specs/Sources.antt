-- The call that adds what a command line names, and why there is none.
use Rattle.std.specs.Prelude.{◌≡◌, ◌≢◌, ◌⊎◌, ◌+◌, ◌<◌, ℕ, List, [], length, box_value, Option, Some, None}
use Rattle.command_line.specs.Lines.{IsLine}
use Rattle.command_line.specs.Sources.{AreUris}
use Rattle.command_line.specs.declared.line.CommandLine.{CommandLine}
use Rattle.command_line.specs.declared.source.Source.{Source}
use Rattle.command_line.specs.declared.source.Source.TheVariants as source
use Rattle.dl_disk.specs.Files.{Files}
use Rattle.dl_kinds.specs.declared.claims.TheConstants.{MAX_MIRRORS}
use Rattle.machine_core.specs.LawfulCalls.{AreOfDownloads}
use Rattle.machine_core.specs.declared.calls.Call.{Call}
use Rattle.machine_core.specs.declared.calls.Call.TheVariants.{AddTorrent, AddUri}
use Rattle.metainfo.specs.Info.{Info, info_of}
use Rattle.option_set.specs.declared.setting.Assigned.{Assigned}
use Rattle.command_call.specs.Files.{RefusesFile, Says}
use Rattle.command_call.specs.declared.refusals.SourceErr.{SourceErr}
use Rattle.command_call.specs.declared.refusals.SourceErr.TheVariants.{Mirrors, NoMemory}

-- ---- what a command line may name

-- each URI can be asked, and there aren't too many; of mirrors there is one at least
abbrev pub AreNamed : Source → Type 0
AreNamed (source.Metainfo file uris) = AreUris uris
AreNamed (source.Mirrors uris) = (uris ≢ []) × AreUris uris
AreNamed source.Console = Unit {0}

-- so it is of each command line that has a meaning, and its settings are of downloads
abbrev pub LinesAreLawful : Type 0
LinesAreLawful =
    (words : List (List ℕ)) (line : CommandLine) → IsLine words line
    → AreNamed line.source × AreOfDownloads line.settings

-- ---- the call

abbrev pub AddsTorrent : Info → List (List ℕ) → List Assigned → Call → Type 0
AddsTorrent info uris options (AddTorrent meta its_uris its_options position) =
    (info_of (box_value meta) ≡ info) × (its_uris ≡ uris) × (its_options ≡ options) × (position ≡ None)
AddsTorrent info uris options other = ⊥

-- .. and this is what the file says
abbrev pub AddsSaid : Option (List ℕ) → List (List ℕ) → List Assigned → Call → Type 0
AddsSaid file uris options call = (info : Info) × Says file info × AddsTorrent info uris options call

-- .. whatever the file says
abbrev pub AddsNamed : List (List ℕ) → List Assigned → Call → Type 0
AddsNamed uris options (AddTorrent meta its_uris its_options position) =
    (its_uris ≡ uris) × (its_options ≡ options) × (position ≡ None)
AddsNamed uris options other = ⊥

-- the call adds what the source names, with these options; of a metainfo file, whatever it says
abbrev pub IsNamedCall : Source → List Assigned → Option Call → Type 0
IsNamedCall (source.Metainfo file uris) options None = ⊥
IsNamedCall (source.Metainfo file uris) options (Some call) = AddsNamed uris options call
IsNamedCall (source.Mirrors uris) options call = call ≡ Some (AddUri uris options None)
IsNamedCall source.Console options call = call ≡ None

-- .. and of a metainfo file, what it says
abbrev pub IsCallOf : Files → Source → List Assigned → Option Call → Type 0
IsCallOf seen (source.Metainfo file uris) options None = ⊥
IsCallOf seen (source.Metainfo file uris) options (Some call) = AddsSaid (seen file) uris options call
IsCallOf seen (source.Mirrors uris) options call = call ≡ Some (AddUri uris options None)
IsCallOf seen source.Console options call = call ≡ None

-- ---- refusals

-- there are so many mirrors, which are none or too many
pub record HasWrongMirrors (file : Option (List ℕ)) (uris : List (List ℕ)) (count : ℕ) : Type 0 where
  pub info : Info
  pub says : Says file info
  pub count_is : count ≡ length info.seeds + length uris
  pub wrong : (count ≡ 0) ⊎ (MAX_MIRRORS < count)

abbrev pub RefusesMetainfo : Option (List ℕ) → List (List ℕ) → SourceErr → Type 0
RefusesMetainfo file uris (Mirrors count) = HasWrongMirrors file uris count
RefusesMetainfo file uris other = RefusesFile file other

-- why there is no call; without memory alone, where no metainfo file is named
abbrev pub RefusesSource : Files → Source → SourceErr → Type 0
RefusesSource seen (source.Metainfo file uris) error = RefusesMetainfo (seen file) uris error
RefusesSource seen other error = error ≡ NoMemory

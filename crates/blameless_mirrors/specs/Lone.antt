-- How the only download of a run ends, where it has a metainfo file. The newest turn is the first.
use Rattle.std.specs.Prelude.{◌≡◌, ◌<◌, ◌≤◌, ℕ, None, Some, Contains, List, [], ◌∷◌}
use Rattle.control_file.specs.declared.want.Want.{Want}
use Rattle.dl_disk.specs.State.{DiskState}
use Rattle.dl_kinds.specs.declared.gid.Gid.{Gid}
use Rattle.engine_turns.specs.Told.{AllTurns, RunTurn, history_of}
use Rattle.engine_turns.specs.declared.operations.Operation.{Operation}
use Rattle.engine_turns.specs.declared.operations.Operation.TheVariants as operation
use Rattle.engine_turns.specs.declared.operations.Said.TheVariants.{NoMemory}
use Rattle.machine_core.specs.DownloadWants.{HasWant}
use Rattle.machine_core.specs.RunLegal.{IsLegal, download_in, mirrors_by, tries_in}
use Rattle.machine_core.specs.Starts.{Download, Listed, RunStart}
use Rattle.machine_core.specs.declared.ends.End.{End}
use Rattle.machine_core.specs.declared.ends.End.TheVariants as end
use Rattle.machine_core.specs.declared.events.Event.{Event}
use Rattle.machine_core.specs.declared.events.Event.TheVariants.{Ended}
use Rattle.metainfo.specs.declared.meta.Meta.{Meta}
use Rattle.resume_core.specs.Wants.{control_name}
use Rattle.stored_run.specs.Refused.{IsRefusalEnd}
use Rattle.blameless_mirrors.specs.Blameless.{HasChosenPieces, HasFailedLink, IsBroughtBy, IsListedAlone, IsToldRun}

-- ---- one download

-- no other was added
abbrev pub IsOnly : RunStart → List Event → Gid → Type 0
IsOnly start past gid = (other : Gid) (d : Download) → download_in start past other ≡ Some d → other ≡ gid

-- the only one is of this metainfo file
pub record IsLoneListed (start : RunStart) (past : List Event) (gid : Gid) (meta : Meta) : Type 0 where
  pub download : Download
  pub added : download_in start past gid ≡ Some download
  pub uris : List (List ℕ)
  pub subject : download.subject ≡ Listed meta uris
  pub only : IsOnly start past gid

-- It is complete, or dead, or the disk failed, or its store refused what stands of it.
abbrev pub IsLoneEnd : End → Type 0
IsLoneEnd end.Complete = Unit {0}
IsLoneEnd (end.Dead piece mark) = Unit {0}
IsLoneEnd (end.Disk count) = Unit {0}
IsLoneEnd (end.PieceLength have want) = Unit {0}
IsLoneEnd (end.Length have want) = Unit {0}
IsLoneEnd end.InfoHash = Unit {0}
IsLoneEnd (end.Unreadable at) = Unit {0}
IsLoneEnd how = ⊥

abbrev pub LoneDownloadsEndWell : Type 0
LoneDownloadsEndWell =
    (start : RunStart) (past : List Event) (gid : Gid) (meta : Meta) → IsLegal start past
    → IsLoneListed start past gid meta → (other : Gid) (how : End) → Contains past (Ended other how)
    → (other ≡ gid) × IsLoneEnd how

-- a want of it is its alone
abbrev pub LoneAreAlone : Type 0
LoneAreAlone =
    (start : RunStart) (told : List RunTurn) (gid : Gid) (meta : Meta) (want : Want)
    → IsLoneListed start (history_of told) gid meta → HasWant start (history_of told) gid want
    → IsListedAlone start told gid meta want

-- ---- its store

-- when the oldest of the turns began
abbrev pub first_time : List RunTurn → ℕ
first_time [] = 0
first_time (t ∷ []) = t.before.time
first_time (t ∷ u ∷ older) = first_time (u ∷ older)

-- what the turns of a worker's work do
abbrev pub IsWork : Operation → Type 0
IsWork (operation.Call session call now) = ⊥
IsWork operation.Pulse = ⊥
IsWork (operation.Notices from) = ⊥
IsWork operation.Leave = ⊥
IsWork (operation.Stop now) = ⊥
IsWork op = Unit {0}

-- none of those turns was answered for want of memory
abbrev pub HaveMemory : List RunTurn → Type 0
HaveMemory told = AllTurns (λ before t. IsWork t.op → ¬ (t.answer.said ≡ NoMemory)) told

-- As the run began no control file of the download stood.
pub record LacksControlFirst (told : List RunTurn) (disk : DiskState) (want : Want) : Type 0 where
  pub absent : disk.seen_at (first_time told) (control_name want) ≡ None

-- the disk failed at no download
abbrev pub HasNoDiskFault : List Event → Type 0
HasNoDiskFault past = (gid : Gid) (count : ℕ) → ¬ Contains past (Ended gid (end.Disk count))

module _ {D : Type 0} (state : D → DiskState) where
  -- then it isn't refused
  abbrev pub FreshAreNeverRefused : Type 0
  FreshAreNeverRefused =
      (start : RunStart) (told : List RunTurn) (disk : D) (gid : Gid) (meta : Meta) (want : Want)
      → IsToldRun start told (state disk) → IsLoneListed start (history_of told) gid meta
      → HasWant start (history_of told) gid want → HaveMemory told
      → LacksControlFirst told (state disk) want
      → (other : Gid) (how : End) → Contains (history_of told) (Ended other how) → ¬ IsRefusalEnd how

  -- .. and where a mirror brings the payload, no link of it fails and the disk doesn't, it ends by being complete alone
  abbrev pub BroughtOnlyComplete : Type 0
  BroughtOnlyComplete =
      (start : RunStart) (told : List RunTurn) (disk : D) (gid : Gid) (mirror : ℕ) (meta : Meta) (want : Want)
      (payload : List ℕ) → (brought : IsBroughtBy start told (state disk) gid mirror meta want payload)
      → HasChosenPieces meta brought.listed.download.options payload → ¬ HasFailedLink (history_of told) gid mirror
      → mirror < mirrors_by brought.listed.download.subject → 1 ≤ tries_in brought.listed.download
      → IsOnly start (history_of told) gid → HaveMemory told → LacksControlFirst told (state disk) want
      → HasNoDiskFault (history_of told)
      → (other : Gid) (how : End) → Contains (history_of told) (Ended other how) → (other ≡ gid) × (how ≡ end.Complete)
